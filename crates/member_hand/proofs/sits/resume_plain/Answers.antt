use Rattle.std.proofs.Common.{sym, subst, arith}
use Rattle.mas_complex.specs.Parts.{parts_of}
use Rattle.step_turns.specs.declared.states.Aside.TheVariants.{SpoolDeck}
use Rattle.step_turns.specs.declared.states.Found.{Found}
use Rattle.member_sittings.specs.Sat.{HasSat, resumes}
use Rattle.member_hand.proofs.Leaving.{both, resume_right, resume_works, told_leaves, work_all}
use Rattle.member_hand.proofs.sits.resume_plain.Goals as goal

-- A DECK

pub sit_spooled-requires-clause-text : goal.sit_spooled-requires-clause-text
sit_spooled-requires-clause-text g c = let right = rw c.in-SpoolDeck.is at c.requires.may.right in right.0

pub sit_spooled-requires-clause-spooled : goal.sit_spooled-requires-clause-spooled
sit_spooled-requires-clause-spooled g c = let right = rw c.in-SpoolDeck.is at c.requires.may.right in right.2

pub returns-in-SpoolDeck-clause-sat : goal.returns-in-SpoolDeck-clause-sat
returns-in-SpoolDeck-clause-sat g c =
    let right = rw c.in-SpoolDeck.is at c.requires.may.right in
    rw c.in-SpoolDeck.is (subst (λ (f : Found). HasSat (resumes c.args.holder (SpoolDeck c.in-SpoolDeck.job c.in-SpoolDeck.text) f) c.args.complex.now c.sit_spooled.new.complex c.sit_spooled.result) (sym right.1) c.sit_spooled.ensures.sat)

pub returns-in-SpoolDeck-clause-again : goal.returns-in-SpoolDeck-clause-again
returns-in-SpoolDeck-clause-again g c =
    let x = parts_of c.args.complex.now in
    let y = parts_of c.sit_spooled.new.complex in
    rw c.in-SpoolDeck.is (both c.sit_spooled.result _ _ _
    (λ e on told. told_leaves g.P.Plant g.C.Copying x y c.args.member.now c.sit_spooled.new.member (resumes c.args.holder (SpoolDeck c.in-SpoolDeck.job c.in-SpoolDeck.text) c.args.found) e (omega arith) on told)
    c.sit_spooled.ensures.again c.sit_spooled.ensures.goes)

-- WORK

pub resume_work-requires-clause-may : goal.resume_work-requires-clause-may
resume_work-requires-clause-may g c =
    resume_right g.P.Plant g.C.Copying (parts_of c.args.complex.now) c.args.member.now.id c.args.aside c.args.found c.in_default.not-SpoolDeck c.requires.off c.requires.may.right

pub returns-in_default-clause-again : goal.returns-in_default-clause-again
returns-in_default-clause-again g c =
    let x = parts_of c.args.complex.now in
    let y = parts_of c.resume_work.new.complex in
    let e = c.resume_work.ensures in
    let may = resume_right g.P.Plant g.C.Copying x c.args.member.now.id c.args.aside c.args.found c.in_default.not-SpoolDeck c.requires.off c.requires.may.right in
    work_all g.P.Plant g.C.Copying x y c.args.member.now c.resume_work.new.member (resumes c.args.holder c.args.aside c.args.found) c.resume_work.result (resume_works g.P.Plant g.C.Copying x c.args.member.now.id c.args.aside c.args.found may) e.leaves

use Rattle.std.proofs.Common.{IfOk, sym, subst, arith}
use Rattle.mas_complex.specs.Parts.{parts_of}
use Rattle.step_turns.specs.declared.states.State.TheVariants.{Rested}
use Rattle.member_sittings.specs.Sat.{HasSat, Start, begins as rests}
use Rattle.member_hand.specs.Sits.{MaySitFrom, SitsOnFrom}
use Rattle.member_hand.proofs.Leaving.{start_fresh, start_in, start_rested, work_all}
use Rattle.member_hand.proofs.sits.sit.Goals as goal

pub unreachable-requires : goal.unreachable-requires
unreachable-requires g c = rw c.in-Told.is at c.requires.right

-- ITS BEGINNING

pub begin-requires : goal.begin-requires
begin-requires g c =
    let at = c.args.stand in
    let right = rw c.in-Fresh.is at c.requires.right in
    subst (λ (s : Start). MaySitFrom c.args.complex.now c.args.member.now s) (start_fresh at.holder at.state at.found c.in-Fresh.task c.in-Fresh.is right.1) c.requires

pub returns-in-Fresh-clause-sat : goal.returns-in-Fresh-clause-sat
returns-in-Fresh-clause-sat g c =
    let at = c.args.stand in
    let right = rw c.in-Fresh.is at c.requires.right in
    subst (λ (s : Start). HasSat s c.args.complex.now c.begin.new.complex c.begin.result) (sym (start_fresh at.holder at.state at.found c.in-Fresh.task c.in-Fresh.is right.1)) c.begin.ensures.sat

pub returns-in-Fresh-clause-again : goal.returns-in-Fresh-clause-again
returns-in-Fresh-clause-again g c =
    let at = c.args.stand in
    let right = rw c.in-Fresh.is at c.requires.right in
    subst (λ (s : Start). IfOk c.begin.result (λ e. SitsOnFrom c.args.complex.now c.begin.new.complex c.begin.new.member s e)) (sym (start_fresh at.holder at.state at.found c.in-Fresh.task c.in-Fresh.is right.1)) c.begin.ensures.again

-- AFTER ACTS ASIDE

pub resume-requires : goal.resume-requires
resume-requires g c =
    let at = c.args.stand in
    subst (λ (s : Start). MaySitFrom c.args.complex.now c.args.member.now s) (start_in at.holder at.found at.state _ c.in-Away.is) c.requires

pub returns-in-Away-clause-sat : goal.returns-in-Away-clause-sat
returns-in-Away-clause-sat g c =
    let at = c.args.stand in
    subst (λ (s : Start). HasSat s c.args.complex.now c.resume.new.complex c.resume.result) (sym (start_in at.holder at.found at.state _ c.in-Away.is)) c.resume.ensures.sat

pub returns-in-Away-clause-again : goal.returns-in-Away-clause-again
returns-in-Away-clause-again g c =
    let at = c.args.stand in
    subst (λ (s : Start). IfOk c.resume.result (λ e. SitsOnFrom c.args.complex.now c.resume.new.complex c.resume.new.member s e)) (sym (start_in at.holder at.found at.state _ c.in-Away.is)) c.resume.ensures.again

-- AFTER A REST

pub sit_work-requires-clause-level : goal.sit_work-requires-clause-level
sit_work-requires-clause-level g c = let level = rw c.in-Rested.is at c.requires.level in omega (arith, level)

pub sit_work-requires-clause-units : goal.sit_work-requires-clause-units
sit_work-requires-clause-units g c = let few = rw c.in-Rested.is at c.requires.few in omega (arith, few)

pub returns-in-Rested-clause-sat : goal.returns-in-Rested-clause-sat
returns-in-Rested-clause-sat g c =
    let at = c.args.stand in
    let right = rw c.in-Rested.is at c.requires.right in
    subst (λ (s : Start). HasSat s c.args.complex.now c.sit_work.new.complex c.sit_work.result) (sym (start_rested at.holder at.state at.found c.in-Rested.progress c.in-Rested.is right)) c.sit_work.ensures.sat

pub returns-in-Rested-clause-again : goal.returns-in-Rested-clause-again
returns-in-Rested-clause-again g c =
    let at = c.args.stand in
    let right = rw c.in-Rested.is at c.requires.right in
    let x = parts_of c.args.complex.now in
    let y = parts_of c.sit_work.new.complex in
    let e = c.sit_work.ensures in
    subst (λ (s : Start). IfOk c.sit_work.result (λ e. SitsOnFrom c.args.complex.now c.sit_work.new.complex c.sit_work.new.member s e))
    (sym (start_rested at.holder at.state at.found c.in-Rested.progress c.in-Rested.is right))
    (work_all g.P.Plant g.C.Copying x y c.args.member.now c.sit_work.new.member (rests at.holder (Rested c.in-Rested.progress)) c.sit_work.result tt e.leaves)

use Rattle.std.proofs.Common.{◌∙◌, ℕ, Bool, true, List, [], None, Some, Ok, refl, sym, ap, subst}
use Rattle.std.proofs.lemmas.Result.{err_from_is_err_and}
use Rattle.mas_complex.specs.Parts.{parts_of}
use Rattle.job_outcome.specs.declared.outcomes.Read.{Read}
use Rattle.job_outcome.specs.declared.outcomes.Read.TheVariants as read
use Rattle.step_turns.specs.declared.states.Found.{Found}
use Rattle.member_wires.specs.Acts.{GivesBytes}
use Rattle.member_wires.specs.Asides.{Exchanged, IsFoundHeard, end_of, job_bytes}
use Rattle.member_wires.proofs.OnLine.{frame_on, up_after}
use Rattle.member_wires.proofs.Exchanging.{frame_err, frame_given, frame_lost, given_none, heard_ends, offered_there, text_cut, text_err}
use Rattle.member_wires.proofs.asides.exchange.Goals as goal
use Rattle.member_acts.specs.Asides.{wire_found}

-- NO JOB IS OFFERED

pub returns-in_default-clause-exchanges : goal.returns-in_default-clause-exchanges
returns-in_default-clause-exchanges g c =
    let P = g.P.Plant in
    let x = c.args.complex.now in
    let y = c.take_from.new.complex in
    let m = c.args.member.now in
    let l = c.args.line in
    let was = c.args.reader.now in
    let is = c.take_from.new.reader in
    let hears = subst (λ (t : Read). IsFoundHeard P.tells (end_of m l) (P.view x.plant) (P.view y.plant) was is t c.take_from.result) c.no_text-read.ensures c.take_from.ensures.hears in
    rw c.in_default.is (heard_ends P (parts_of x) (parts_of y) m l was is None [] (P.view x.plant) (given_none P.tells (end_of m l) (P.view x.plant)) refl refl c.take_from.result hears)

-- THE TEXT COULDN'T BE READ

pub read_job_text-requires : goal.read_job_text-requires
read_job_text-requires g c = rw c.in-Some.is at c.requires.offer

pub returns-in_err-read-clause-exchanges : goal.returns-in_err-read-clause-exchanges
returns-in_err-read-clause-exchanges g c =
    let P = g.P.Plant in
    let x = c.args.complex.now in
    let z = c.read_job_text.new.complex in
    let was = c.args.reader.now in
    let p = err_from_is_err_and c.from_residual.result c.from_residual.ensures.1 in
    rw (p.1, p.2, c.in-Some.is) (text_err P (parts_of x) (parts_of z) c.args.member.now c.args.line was was c.in-Some.offer _ c.in_err-read.ensures)

pub returns-in_default-read-clause-exchanges : goal.returns-in_default-read-clause-exchanges
returns-in_default-read-clause-exchanges g c =
    let P = g.P.Plant in
    let x = c.args.complex.now in
    let z = c.read_job_text.new.complex in
    let m = c.args.member.now in
    let l = c.args.line in
    let was = c.args.reader.now in
    rw c.in-Some.is (subst (λ (f : Found). Exchanged P (parts_of x) (parts_of z) m l (Some c.in-Some.offer) was was (Ok f)) (sym c.found_on.ensures)
    (text_cut P (parts_of x) (parts_of z) m l was was c.in-Some.offer _ c.in_ok-read.ensures c.in_default-read.not-Lines refl))

-- THE FRAME

pub give_job-requires : goal.give_job-requires
give_job-requires g c = record { up = up_after (parts_of c.args.complex.now) (parts_of c.read_job_text.new.complex) c.read_job_text.new.complex.plant c.args.member.now.id c.read_job_text.ensures.frame c.requires.up }

pub returns-in_err-text-clause-frame : goal.returns-in_err-text-clause-frame
returns-in_err-text-clause-frame g c =
    let z = c.read_job_text.new.complex in
    let w = c.give_job.new.complex in
    frame_on (parts_of c.args.complex.now) (parts_of z) (parts_of w) z.plant w.plant c.read_job_text.ensures.frame c.give_job.ensures.frame

pub returns-in_err-text-clause-exchanges : goal.returns-in_err-text-clause-exchanges
returns-in_err-text-clause-exchanges g c =
    let P = g.P.Plant in
    let x = c.args.complex.now in
    let z = c.read_job_text.new.complex in
    let w = c.give_job.new.complex in
    let was = c.args.reader.now in
    let p = err_from_is_err_and c.from_residual-in_err-text.result c.from_residual-in_err-text.ensures.1 in
    rw (p.1, p.2, c.in-Some.is)
    (frame_err P (parts_of x) (parts_of w) c.args.member.now c.args.line was was (parts_of z) c.in-Some.offer _ c.in-Lines.text c.in_ok-read.ensures c.in-Lines.is _ c.in_err-text.ensures.gives)

pub returns-then-lost-clause-frame : goal.returns-then-lost-clause-frame
returns-then-lost-clause-frame g c =
    let z = c.read_job_text.new.complex in
    let w = c.give_job.new.complex in
    frame_on (parts_of c.args.complex.now) (parts_of z) (parts_of w) z.plant w.plant c.read_job_text.ensures.frame c.give_job.ensures.frame

pub returns-then-lost-clause-exchanges : goal.returns-then-lost-clause-exchanges
returns-then-lost-clause-exchanges g c =
    let P = g.P.Plant in
    let x = c.args.complex.now in
    let z = c.read_job_text.new.complex in
    let w = c.give_job.new.complex in
    let m = c.args.member.now in
    let l = c.args.line in
    let was = c.args.reader.now in
    let o = c.in-Some.offer in
    let text = c.in-Lines.text in
    let gives = subst (λ (b : Bool). GivesBytes P.tells (end_of m l) (job_bytes o text) (P.view z.plant) (P.view w.plant) (Ok b)) c.if-lost.true c.in_ok-text.ensures.gives in
    let is = c.found_on-then-lost.ensures ∙ ap (λ (t : List (List ℕ)). wire_found (read.Lines t) true []) c.in_ok-text.ensures.text in
    rw c.in-Some.is (subst (λ (f : Found). Exchanged P (parts_of x) (parts_of w) m l (Some o) was was (Ok f)) (sym is)
    (frame_lost P (parts_of x) (parts_of w) m l was was (parts_of z) o _ text c.in_ok-read.ensures c.in-Lines.is gives refl))

-- TAKING

pub take_from-requires-2 : goal.take_from-requires-2
take_from-requires-2 g c =
    let x = c.args.complex.now in
    let z = c.read_job_text.new.complex in
    let w = c.give_job.new.complex in
    let m = c.args.member.now.id in
    record { up = up_after (parts_of z) (parts_of w) w.plant m c.give_job.ensures.frame (up_after (parts_of x) (parts_of z) z.plant m c.read_job_text.ensures.frame c.requires.up) }

pub returns-clause-frame : goal.returns-clause-frame
returns-clause-frame g c =
    let x = c.args.complex.now in
    let z = c.read_job_text.new.complex in
    let w = c.give_job.new.complex in
    let y = c.take_from-2.new.complex in
    frame_on (parts_of x) (parts_of w) (parts_of y) w.plant y.plant (frame_on (parts_of x) (parts_of z) (parts_of w) z.plant w.plant c.read_job_text.ensures.frame c.give_job.ensures.frame) c.take_from-2.ensures.frame

pub returns-clause-exchanges : goal.returns-clause-exchanges
returns-clause-exchanges g c =
    let P = g.P.Plant in
    let x = c.args.complex.now in
    let z = c.read_job_text.new.complex in
    let w = c.give_job.new.complex in
    let y = c.take_from-2.new.complex in
    let m = c.args.member.now in
    let l = c.args.line in
    let was = c.args.reader.now in
    let is = c.take_from-2.new.reader in
    let o = c.in-Some.offer in
    let text = c.in-Lines.text in
    let r = c.take_from-2.result in
    let gives = subst (λ (b : Bool). GivesBytes P.tells (end_of m l) (job_bytes o text) (P.view z.plant) (P.view w.plant) (Ok b)) c.if-lost.false c.in_ok-text.ensures.gives in
    let hears = subst (λ (t : List (List ℕ)). IsFoundHeard P.tells (end_of m l) (P.view w.plant) (P.view y.plant) was is (read.Lines t) r) c.in_ok-text.ensures.text c.take_from-2.ensures.hears in
    rw c.in-Some.is (heard_ends P (parts_of x) (parts_of y) m l was is (Some o) text (P.view w.plant)
    (frame_given P (parts_of x) (parts_of y) m l was is (parts_of z) o _ text c.in_ok-read.ensures c.in-Lines.is (P.view w.plant) gives)
    (offered_there P (parts_of x) (parts_of y) m l was is (parts_of z) o _ text c.in_ok-read.ensures c.in-Lines.is) refl r hears)

use Rattle.std.proofs.Common.{List, ◌∙◌, ◌++◌, ◌≤◌, ℕ, ap, inl, subst, sym}
use Rattle.mas_types.specs.declared.ids.MemberId.{MemberId}
use Rattle.mas_types.specs.declared.journals.Batch.{Batch}
use Rattle.mas_types.specs.declared.queues.Queue.{Queue}
use Rattle.ckpt_tables.specs.Shape.{page_count}
use Rattle.lock_cycle.specs.Books.{Book, IsMember}
use Rattle.mas_complex.specs.Journals.{in_flight}
use Rattle.mas_complex.specs.Parts.{parts_of}
use Rattle.member_steps.specs.Steps.{AreKeptFrom}
use Rattle.member_steps.proofs.FateLemmas.{kept_from_later}
use Rattle.member_lines.specs.Replaces.{HasGoneOn, IsTestedAs}
use Rattle.member_lines.proofs.Renewing.{at_holds, at_unreserved, stopped_keeps, then_replaced, unseated_in}
use Rattle.member_lines.proofs.Seating.{seats, unseated}
use Rattle.member_lines.proofs.replacing.replace_line.Goals as goal

pub replace_and_close-requires-clause-may : goal.replace_and_close-requires-clause-may
replace_and_close-requires-clause-may g c =
    let x = c.args.complex.now in
    let mid = c.sit_down.new.complex in
    let goes = c.in-Ok.ensures.acts.on.course.goes in
    let base = ap (λ p. p.base) c.sit_down.ensures.frame in
    record {
      ckpt = c.requires.may.ckpt;
      seat = c.in-Ok.ensures.seat.seat;
      size = subst (λ (n : ℕ). g.C.Copying.needs (page_count mid.base.config) ≤ n) (sym (goes.size c.args.dev))
          (subst (λ (q : Queue). g.C.Copying.needs (page_count q.config) ≤ (g.P.Plant.view x.plant).size c.args.dev) (sym base) c.requires.may.size);
    }

pub replace_and_close-requires-clause-kept : goal.replace_and_close-requires-clause-kept
replace_and_close-requires-clause-kept g c told =
    let x = c.args.complex.now in
    let mid = c.sit_down.new.complex in
    let at = c.args.holder.step in
    let now = (g.P.Plant.view x.plant).now in
    let then_at = (g.P.Plant.view mid.plant).now in
    let all : AreKeptFrom c.args.member.now.id at (mid.journal.batches ++ in_flight mid.current) then_at =
    subst (λ (bs : List Batch). AreKeptFrom c.args.member.now.id at bs then_at) (sym (ap (λ p. p.batches ++ in_flight p.current) c.sit_down.ensures.frame))
    (kept_from_later c.args.member.now.id at (x.journal.batches ++ in_flight x.current) now then_at c.in-Ok.ensures.acts.on.course.goes.later (c.requires.kept told)) in
    subst (λ (i : MemberId). AreKeptFrom i at (mid.journal.batches ++ in_flight mid.current) then_at) (sym c.sit_down.ensures.id) all

pub returns-in-Ok-clause-frame : goal.returns-in-Ok-clause-frame
returns-in-Ok-clause-frame g c =
    then_replaced (parts_of c.args.complex.now) (parts_of c.sit_down.new.complex) (parts_of c.replace_and_close.new.complex) c.sit_down.ensures.frame c.replace_and_close.ensures.frame

pub returns-in-Ok-clause-replaces : goal.returns-in-Ok-clause-replaces
returns-in-Ok-clause-replaces g c S tested =
    let x = c.args.complex.now in
    let m = c.args.member.now in
    let n = c.sit_down.new.member in
    let mid = c.sit_down.new.complex in
    let y = c.replace_and_close.new.complex in
    let h = c.args.holder in
    let dev = c.args.dev in
    let here : IsTestedAs S n.id h dev mid.book =
    subst (λ (i : MemberId). IsTestedAs S i h dev mid.book) (sym c.sit_down.ensures.id) (subst (λ (b : Book). IsTestedAs S m.id h dev b) (sym (ap (λ p. p.book) c.sit_down.ensures.frame)) tested) in
    seats g.P.Plant g.C.Copying (HasGoneOn g.P.Plant g.C.Copying S n h dev) m n (parts_of x) (parts_of mid) (parts_of y) c.sit_down.ensures.frame c.in-Ok.ensures.acts c.in-Ok.ensures.seat c.replace_and_close.result
    (c.replace_and_close.ensures.renews S here)

pub stop_halted-requires : goal.stop_halted-requires
stop_halted-requires g c =
    let x = c.args.complex.now in
    let m = c.args.member.now in
    subst (λ (b : Book). IsMember b m.id) (sym (ap (λ p. p.book) c.sit_down.ensures.frame)) (at_holds g.P.Plant g.C.Copying c.args.holder.grant (parts_of x) m c.requires.may.at).seated

pub returns-in-Err-clause-frame : goal.returns-in-Err-clause-frame
returns-in-Err-clause-frame g c =
    let x = parts_of c.args.complex.now in
    let m = c.args.member.now in
    let mid = parts_of c.sit_down.new.complex in
    let y = parts_of c.stop_halted.new.complex in
    unseated_in x mid y c.sit_down.ensures.frame
    (stopped_keeps c.in-Err.why m.id mid y (ap (λ p. p.reserved) c.sit_down.ensures.frame ∙ at_unreserved g.P.Plant g.C.Copying c.args.holder.grant x m c.requires.may.at) c.stop_halted.ensures)

pub returns-in-Err-clause-replaces : goal.returns-in-Err-clause-replaces
returns-in-Err-clause-replaces g c S tested =
    inl (unseated c.args.member.now.id (parts_of c.args.complex.now) (parts_of c.sit_down.new.complex) (parts_of c.stop_halted.new.complex) g.P.Plant g.C.Copying c.in-Err.why c.sit_down.ensures.frame c.stop_halted.ensures c.in-Err.ensures.acts)

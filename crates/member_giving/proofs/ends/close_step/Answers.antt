use Rattle.mas_types.specs.Closings.{closing_line}
use Rattle.member_giving.proofs.Cuts.{of_batch, starts_cut}
use Rattle.member_giving.proofs.Going.{apart_then, played_close, played_error}
use Rattle.member_giving.proofs.Seated.{closes_said, said_apart, seat_said}
use Rattle.member_giving.proofs.Working.{own_batch, same_run}
use Rattle.member_giving.proofs.ends.close_step.Goals as goal
use Rattle.member_giving.proofs.Names.{◌≡◌, says, TellKept, AreKeptFrom, ◌∙◌, ◌<◌, ◌^◌, ℕ, List, [], ◌∷◌, Ok, Err, ap, refl, subst, sym, arith, err_from_is_err_and, closing_tells, wrote_of, outside, place_of, batch_of, MemberId}

-- OUT OF MEMORY FOR THE LINE

pub returns-in_default : goal.returns-in_default
returns-in_default g c =
    let x = c.args.complex.now in
    let y = c.give_up.new.complex in
    let m = c.args.member.now in
    let h = c.args.holder in
    let up = c.give_up.ensures.gives_up in
    let w = wrote_of m.batch (says (closing_line h.by h.step c.args.end.now ∷ [])) in
    let played = played_error g.P.Plant.tells h (λ x. x ≡ wrote_of m.batch (says (closing_line h.by h.step c.args.end.now ∷ []))) c.args.given {S = Unit {0}} c.give_up.result w w (batch_of m.batch) (place_of x m) (outside y) (λ t. refl) (of_batch h.by h.step m.batch (own_batch x m h c.requires.works)) refl (starts_cut m.batch []) up.spares up.keeps up.counts in
    assumption (c.give_up.ensures.run, played)

-- THE BATCH COULDN'T BE KEPT

pub returns-in_err-keep : goal.returns-in_err-keep
returns-in_err-keep g c =
    let x = c.args.complex.now in
    let m = c.args.member.now in
    let h = c.args.holder in
    let w = wrote_of m.batch (says (closing_line h.by h.step c.args.end.now ∷ [])) in
    let q = err_from_is_err_and c.from_residual.result c.from_residual.ensures.1 in
    let played = played_error g.P.Plant.tells h (λ x. x ≡ wrote_of m.batch (says (closing_line h.by h.step c.args.end.now ∷ []))) c.args.given {S = Unit {0}} _ w w (batch_of m.batch) (place_of x m) (outside c.keep.new.complex) (λ t. refl) (of_batch h.by h.step m.batch (own_batch x m h c.requires.works)) refl (starts_cut m.batch []) c.keep.ensures.spares c.in_err-keep.ensures.keeps c.in_err-keep.ensures.counts in
    rw (q.1, q.2) (assumption (c.keep.ensures.run, played))

-- THE LINE

pub tell_lines-requires-clause-up : goal.tell_lines-requires-clause-up
tell_lines-requires-clause-up g c = c.in_ok-keep.ensures.works.still.holds.may.up

pub tell_lines-requires-clause-none : goal.tell_lines-requires-clause-none
tell_lines-requires-clause-none g c = c.in_ok-keep.ensures.works.still.none

pub tell_lines-requires-clause-kept : goal.tell_lines-requires-clause-kept
tell_lines-requires-clause-kept g c told =
    let y = c.keep.new.complex in
    let h = c.args.holder in
    let w = c.in_ok-keep.ensures.works in
    let now = (g.P.Plant.view y.plant).now in
    let small : c.args.holder.step < 2 ^ 64 = omega arith in
    let kept : AreKeptFrom h.by h.step y.journal.batches now = subst (λ (i : MemberId). AreKeptFrom i h.step y.journal.batches now) (sym w.own) w.step in
    subst (λ (ls : List (List ℕ)). TellKept ls y.journal.batches now) (sym c.in-Ok.ensures) (closing_tells h.by h.step small y.journal.batches now kept c.args.end.now)

pub returns-in_err-tell_lines : goal.returns-in_err-tell_lines
returns-in_err-tell_lines g c =
    let P = g.P.Plant in
    let x = c.args.complex.now in
    let y = c.keep.new.complex in
    let z = c.tell_lines.new.complex in
    let m = c.args.member.now in
    let n = c.keep.new.member in
    let h = c.args.holder in
    let t = c.tell_lines.ensures in
    let o = c.in_ok-keep.ensures in
    let lines = closing_line h.by h.step c.args.end.now ∷ [] in
    let q = err_from_is_err_and c.from_residual-in_err-tell_lines.result c.from_residual-in_err-tell_lines.ensures.1 in
    let said = closes_said y z n h o.works t.pair t.journal t.current t.placed lines (Err _) (rw c.in-Ok.ensures at c.in_err-tell_lines.ensures.said) in
    let run = same_run y z n n h t.base t.since t.renewals t.book refl ∙ c.keep.ensures.run in
    let played = played_close P.tells h (λ x. x ≡ wrote_of m.batch (says (closing_line h.by h.step c.args.end.now ∷ []))) c.args.given {S = Unit {0}} _ (Err _) lines (place_of x m) (outside y) (outside z) tt (own_batch x m h c.requires.works) refl
    (apart_then P.tells h.by (outside x) (outside y) (outside z) o.keeps.closes.course.goes.later said.course.goes c.keep.ensures.spares (said_apart y z h.by t.said.acts (ap (λ p. p.had) t.frame))) o.keeps o.counts said t.printed in
    rw (q.1, q.2) (assumption (run, played))

pub returns : goal.returns
returns g c =
    let P = g.P.Plant in
    let x = c.args.complex.now in
    let y = c.keep.new.complex in
    let z = c.tell_lines.new.complex in
    let m = c.args.member.now in
    let n = c.keep.new.member in
    let h = c.args.holder in
    let t = c.tell_lines.ensures in
    let o = c.in_ok-keep.ensures in
    let lines = closing_line h.by h.step c.args.end.now ∷ [] in
    let said = closes_said y z n h o.works t.pair t.journal t.current t.placed lines (Ok _) (rw c.in-Ok.ensures at c.in_ok-tell_lines.ensures.said) in
    record {
      run = same_run y z n n h t.base t.since t.renewals t.book refl ∙ c.keep.ensures.run;
      played = played_close P.tells h (λ x. x ≡ wrote_of m.batch (says (closing_line h.by h.step c.args.end.now ∷ []))) c.args.given {S = Unit {0}} _ (Ok _) lines (place_of x m) (outside y) (outside z) (refl, refl, c.release_of-release.ensures) (own_batch x m h c.requires.works) refl
          (apart_then P.tells h.by (outside x) (outside y) (outside z) o.keeps.closes.course.goes.later said.course.goes c.keep.ensures.spares (said_apart y z h.by t.said.acts (ap (λ p. p.had) t.frame))) o.keeps o.counts said t.printed;
      told = refl;
      seat = seat_said y z n h o.works t.pair t.journal t.current t.placed o.left t.base t.since t.book t.reserved t.first t.second t.level (ap (λ p. p.had) t.frame) t.said.acts;
      reached = rw t.level o.reached;
    }

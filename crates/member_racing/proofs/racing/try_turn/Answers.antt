use Rattle.std.proofs.Common.{◌≡◌, ◌∙◌, ◌<◌, false, ap, inl, inr, Result, Ok, refl, subst, sym, arith}
use Rattle.mas_race.specs.Between.{is_held}
use Rattle.member_racing.specs.Bounds.{level_most}
use Rattle.member_node.specs.declared.member.NodeNo.{NodeNo}
use Rattle.member_racing.specs.Opened.{Tries}
use Rattle.member_racing.specs.Turning.{raced_at}
use Rattle.member_racing.specs.Waits.{Waits}
use Rattle.member_racing.specs.declared.stages.Stage.{Stage as Stands}
use Rattle.member_racing.specs.declared.stages.Stage.TheVariants as line
use Rattle.member_racing.proofs.Beside.{opened_acting}
use Rattle.member_racing.proofs.Trying.{none_alive, one_alive, quiet_now}
use Rattle.member_racing.proofs.racing.try_turn.Goals as goal

pub returns-then-both_lost-clause-tries : goal.returns-then-both_lost-clause-tries
returns-then-both_lost-clause-tries g c =
    let x = c.args.complex.now in
    inl (record {
      frame = refl;
      member = refl;
      answer = inl (refl, none_alive x.pair.first.alive x.pair.second.alive (sym c.both_lost.ensures ∙ c.if-both_lost.true));
    })

pub returns-then-complex-ge-LEVEL_MOST-clause-tries : goal.returns-then-complex-ge-LEVEL_MOST-clause-tries
returns-then-complex-ge-LEVEL_MOST-clause-tries g c =
    let x = c.args.complex.now in
    inl (record {
      frame = refl;
      member = refl;
      answer = inr (refl, one_alive x.pair.first.alive x.pair.second.alive (sym c.both_lost.ensures ∙ c.if-both_lost.false));
    })

pub held_up-requires : goal.held_up-requires
held_up-requires g c = c.requires.rest.seated

pub returns-then-held_up-clause-tries : goal.returns-then-held_up-clause-tries
returns-then-held_up-clause-tries g c =
    let x = c.args.complex.now in
    inl (record {
      frame = refl;
      member = refl;
      answer = inr (refl, one_alive x.pair.first.alive x.pair.second.alive (sym c.both_lost.ensures ∙ c.if-both_lost.false));
    })

pub open_turn-requires : goal.open_turn-requires
open_turn-requires g c =
    let x = c.args.complex.now in
    let some = one_alive x.pair.first.alive x.pair.second.alive (sym c.both_lost.ensures ∙ c.if-both_lost.false) in
    let below : x.level < level_most = omega (arith, c.if-complex-ge-LEVEL_MOST.false) in
    let unheld : is_held x.book ≡ false = sym c.held_up.ensures ∙ c.if-held_up.false in
    let waits : Waits x c.args.member.now c.args.step c.args.asked.now line.Opens = subst (λ (s : Stands). Waits x c.args.member.now c.args.step c.args.asked.now s) c.in-Opens.is c.requires.waits in
    record { rest = c.requires.rest; waits = waits; some = some; level = below; unheld = unheld; quiet = quiet_now x c.requires.rest some waits.sound g.met.C.Copying.rests_now c.kept_pages.ensures.kept }

pub returns-in-Opens-clause-tries : goal.returns-in-Opens-clause-tries
returns-in-Opens-clause-tries g c =
    let x = c.args.complex.now in
    let m = c.args.member.now in
    subst (λ (s : Stands). Tries (raced_at m.id c.args.step c.args.asked.now s) x c.open_turn.new.complex m c.open_turn.new.member c.open_turn.result) (sym c.in-Opens.is) c.open_turn.ensures.tries

pub returns-in-Closed-clause-tries : goal.returns-in-Closed-clause-tries
returns-in-Closed-clause-tries g c =
    let x = c.args.complex.now in
    let some = one_alive x.pair.first.alive x.pair.second.alive (sym c.both_lost.ensures ∙ c.if-both_lost.false) in
    let unheld : is_held x.book ≡ false = sym c.held_up.ensures ∙ c.if-held_up.false in
    let done : Result Stands NodeNo = Ok line.Closed in
    let stood : Result Stands NodeNo = Ok c.args.stage in
    let same : done ≡ stood = ap (λ (s : Stands). let r : Result Stands NodeNo = Ok s in r) (sym c.in-Closed.is) in
    rw c.in-Closed.is (inr (some, unheld, record { frame = refl; answer = same }))

pub next_turn-requires-clause-may : goal.next_turn-requires-clause-may
next_turn-requires-clause-may g c =
    let x = c.args.complex.now in
    let some = one_alive x.pair.first.alive x.pair.second.alive (sym c.both_lost.ensures ∙ c.if-both_lost.false) in
    let below : x.level < level_most = omega (arith, c.if-complex-ge-LEVEL_MOST.false) in
    let unheld : is_held x.book ≡ false = sym c.held_up.ensures ∙ c.if-held_up.false in
    record { rest = c.requires.rest; waits = c.requires.waits; some = some; level = below; unheld = unheld; quiet = quiet_now x c.requires.rest some c.requires.waits.sound g.met.C.Copying.rests_now c.kept_pages.ensures.kept }

-- a line that opens, or has closed, doesn't wait for acts
pub returns-in-Opens-clause-acting : goal.returns-in-Opens-clause-acting
returns-in-Opens-clause-acting g c = rw c.in-Opens.is (opened_acting c.args.member.now c.open_turn.new.member c.open_turn.result)

pub returns-in-Closed-clause-acting : goal.returns-in-Closed-clause-acting
returns-in-Closed-clause-acting g c = rw c.in-Closed.is tt

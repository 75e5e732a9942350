-- A turn in which a member sits: what it did, whole, and how its line goes on.
use Rattle.std.proofs.Common.{◌≡◌, ℕ, List, Option, Result, sym, ap, ◌∙◌, subst}
use Rattle.spool_plant.specs.declared.plant.Plant.{Ghosts as PlantGhosts}
use Rattle.ckpt_copy.specs.declared.copying.Copying.{Ghosts as CopyGhosts}
use Rattle.mas_complex.specs.Parts.{Parts}
use Rattle.step_turns.specs.States.{nothing_found}
use Rattle.step_turns.specs.declared.states.Found.{Found}
use Rattle.step_turns.specs.declared.states.Holder.{Holder}
use Rattle.step_turns.specs.declared.states.State.{State}
use Rattle.member_node.specs.declared.member.NodeNo.{NodeNo}
use Rattle.race_turns.specs.Turns.{stage_after}
use Rattle.member_node.specs.declared.member.Member.{Member}
use Rattle.member_sittings.specs.declared.ends.SittingEnd.{SittingEnd}
use Rattle.member_sittings.specs.Sat.{Start}
use Rattle.member_resets.specs.Asides.{ActsAfter}
use Rattle.member_resets.specs.Locks.{left_book, next_holder}
use Rattle.member_resets.specs.Plays.{played_in}
use Rattle.member_resets.specs.Sits.{LeavesStep}
use Rattle.member_resets.specs.Turns.{HasTurned}
use Rattle.member_resets.specs.Stand.{Stand}
use Rattle.member_resets.proofs.Acting.{changed_only, only_these}
use Rattle.member_resets.proofs.Going.{seat_of}
use Rattle.member_resets.proofs.PieceLemmas.{played_frame}
use Rattle.member_racing.specs.Kinds.{SitsOut}
use Rattle.member_racing.specs.Stages.{IsStageOf, stage_of}
use Rattle.member_racing.specs.declared.stages.Stage.{Stage as Stands}

module _ {P C : Type 0} (plants : PlantGhosts P) (copies : CopyGhosts C) (s : Start) (x y : Parts P C) (end : SittingEnd) (turn : HasTurned plants s x y end) (n : Member) (leaves : LeavesStep plants copies x y n s end) where
  -- a whole hold is the configuration's, as the member's tables have it
  pub hold_is : n.checkpoint.tables.config.hold ≡ x.base.config.hold
  hold_is =
      ap (λ c. c.hold) (sym (seat_of plants copies end.next y n s.holder.step leaves.sits).still.config)
      ∙ ap (λ (q : Parts P C). q.base.config.hold) turn.frame ∙ ap (λ (q : Parts P C). q.base.config.hold) turn.locked

  pub sits_out : (h : Holder) → h ≡ next_holder s.holder n.checkpoint.tables.config.hold end.given → (at : Stand) → at ≡ record { holder = h; state = end.next; found = nothing_found }
      → (z : Parts P C) → z ≡ record y { book = left_book y.book s.holder.by end.given end.release } → (next : Stands) → stage_of next ≡ stage_after at.state → IsStageOf at next → SitsOut plants copies s x z n next
  sits_out h holder at is z left next stands stage =
      let same : h ≡ next_holder s.holder x.base.config.hold end.given = holder ∙ ap (λ (k : ℕ). next_holder s.holder k end.given) hold_is in
      let here : at ≡ record { holder = next_holder s.holder x.base.config.hold end.given; state = end.next; found = nothing_found } =
      is ∙ ap (λ (k : Holder). let q : Stand = record { holder = k; state = end.next; found = nothing_found } in q) same in
      record {
        end = end;
        there = y;
        turn = turn;
        frame = left;
        on = leaves;
        stands = stands ∙ ap (λ (q : Stand). stage_after q.state) is;
        stage = subst (λ (q : Stand). IsStageOf q next) here stage;
      }

-- ACTS ASIDE leave the base, the first moment, and when copies were replaced
pub acted_frame : {P C : Type 0} (plants : PlantGhosts P) (copies : CopyGhosts C) (x y : Parts P C) (m : Member) (state : State) (was is : Option (List ℕ)) (r : Result Found NodeNo) → ActsAfter plants x y m state was is r → y ≡ played_in y x
acted_frame plants copies x y m state was is r acts =
    let changed = only_these r m.id x y (changed_only plants copies x y m state was is r acts) in
    played_frame x y (ap (λ (q : Parts _ _). q.base) changed) (ap (λ (q : Parts _ _). q.since) changed) (ap (λ (q : Parts _ _). q.renewals) changed)

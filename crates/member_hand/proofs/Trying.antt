-- A piece of a step, by its member's turn and the acts that follow: what is said of it whole, and where it is cut.
use Rattle.std.proofs.Common.{◌≡◌, ◌≢◌, ⊎_elim, ℕ, List, length, Option, Result, Ok, Err, sym, ap, ◌∙◌}
use Rattle.mas_types.specs.declared.ids.MemberId.{MemberId}
use Rattle.lock_cycle.specs.Books.{Book}
use Rattle.spool_plant.specs.declared.plant.Plant.{Ghosts as PlantGhosts}
use Rattle.ckpt_copy.specs.declared.copying.Copying.{Ghosts as CopyGhosts}
use Rattle.mas_complex.specs.Parts.{Parts}
use Rattle.member_node.specs.declared.member.Member.{Member}
use Rattle.member_node.specs.declared.member.NodeNo.{NodeNo}
use Rattle.member_node.specs.declared.member.NodeNo.TheVariants.{BothLost, Halted, ConsoleFault, NoMemory}
use Rattle.step_turns.specs.declared.states.Found.{Found}
use Rattle.step_turns.specs.declared.states.State.TheVariants.{Told}
use Rattle.run_turns.specs.Pieces.{entered}
use Rattle.member_sittings.specs.declared.ends.SittingEnd.{SittingEnd}
use Rattle.member_sittings.specs.Sat.{Start}
use Rattle.member_frames.specs.Asides.{HasOnlyPrinted}
use Rattle.member_hand.specs.Asides.{ActsAfter}
use Rattle.member_hand.specs.Hears.{ReaderStaysIn}
use Rattle.member_hand.specs.Locks.{left_book, next_holder}
use Rattle.member_hand.specs.Plays.{HasPieced, HasPlayed, played_in, stopped_by}
use Rattle.member_hand.specs.Quiet.{MayGoOn}
use Rattle.member_hand.specs.Sits.{LeavesStep}
use Rattle.member_hand.specs.Turns.{HasTurned}
use Rattle.member_hand.proofs.Acting.{changed_only, only_these}
use Rattle.member_hand.proofs.Entering.{entered_members}
use Rattle.member_hand.proofs.Going.{may, room_same, seat}
use Rattle.member_hand.proofs.Locking.{left_members, stopped_members}
use Rattle.member_hand.proofs.PieceLemmas.{played_frame}
use Rattle.member_hand.proofs.Piecing.{cut_piece, whole_piece}

module _ {P C : Type 0} (plants : PlantGhosts P) (copies : CopyGhosts C) (s : Start) (x y : Parts P C) (end : SittingEnd) (turn : HasTurned plants s x y end) (m : Member) (go : MayGoOn plants copies x m s.holder s.state)
    (n : Member) (same : n.id ≡ m.id) (book : y.book ≡ entered x.book s.holder.by) (leaves : LeavesStep plants copies x y n s end) where
  abbrev me : MemberId
  me = s.holder.by

  abbrev left : Parts P C
  left = record y { book = left_book y.book me end.given end.release }

  mine : me ≡ n.id
  mine = go.holder ∙ sym same

  hold_is : n.checkpoint.tables.config.hold ≡ x.base.config.hold
  hold_is =
      ap (λ c. c.hold) (sym (seat plants copies s x y end turn m go n same book leaves).still.config)
      ∙ ap (λ (q : Parts P C). q.base.config.hold) turn.frame ∙ ap (λ (q : Parts P C). q.base.config.hold) turn.locked

  pub pieced : s.state ≢ Told → (u : Parts P C) (was is : Option (List ℕ)) (found : Found) → ActsAfter plants left u n end.next was is (Ok found) → ReaderStaysIn end.next was is
      → HasPieced plants copies s x u (record { holder = next_holder s.holder n.checkpoint.tables.config.hold end.given; state = end.next; found = found }) was is
  pieced ne u was is found acts stays =
      whole_piece plants copies s x y end turn (may plants copies s x y end turn m go n same book leaves) go.aside.quiet.none go.aside.quiet.unplaced ne n mine (seat plants copies s x y end turn m go n same book leaves) leaves.goes.comes
      u was is found acts stays n.checkpoint.tables.config.hold hold_is leaves.waits

  pub piece_cut : s.state ≢ Told → (u : Parts P C) (was is : Option (List ℕ)) (e : NodeNo) → ActsAfter plants left u n end.next was is (Err e) → ReaderStaysIn end.next was is → HasPlayed plants copies s x (stopped_by e me u) (length m.room) was is (Err e)
  piece_cut ne u was is e acts stays =
      cut_piece plants copies s x y end turn (may plants copies s x y end turn m go n same book leaves) go.aside.quiet.none go.aside.quiet.unplaced ne n mine (seat plants copies s x y end turn m go n same book leaves) leaves.goes.comes
      u was is e acts stays leaves.waits (length m.room) (room_same plants copies s x y end turn m go n same book leaves)

  -- as many members are in the book
  members_by : (r : Result Found NodeNo) (u : Parts P C) → HasOnlyPrinted r n.id left u → length u.book.members ≡ length left.book.members
  members_by (Ok found) u frame = ap (λ (q : Parts P C). length q.book.members) frame
  members_by (Err NoMemory) u frame = ap (λ (q : Parts P C). length q.book.members) frame
  members_by (Err BothLost) u frame = ap (λ (q : Parts P C). length q.book.members) frame
  members_by (Err ConsoleFault) u frame = ap (λ (q : Parts P C). length q.book.members) frame
  members_by (Err Halted) u frame =
      ⊎_elim (λ f. ap (λ (q : Parts P C). length q.book.members) f) (λ f. ap (λ (q : Parts P C). length q.book.members) f ∙ stopped_members left.book n.id 0) frame

  pub members_then : (was is : Option (List ℕ)) (r : Result Found NodeNo) (u : Parts P C) → ActsAfter plants left u n end.next was is r → length u.book.members ≡ length x.book.members
  members_then was is r u acts =
      members_by r u (changed_only plants copies left u n end.next was is r acts) ∙ left_members y.book me end.given end.release ∙ ap (λ (b : Book). length b.members) book ∙ entered_members x.book me

  -- and the base, the first moment, and when copies were replaced, are as they were
  pub frame_then : (was is : Option (List ℕ)) (r : Result Found NodeNo) (u : Parts P C) → ActsAfter plants left u n end.next was is r → u ≡ played_in u x
  frame_then was is r u acts =
      let changed = only_these r n.id left u (changed_only plants copies left u n end.next was is r acts) in
      played_frame x u (ap (λ (q : Parts P C). q.base) changed ∙ ap (λ (q : Parts P C). q.base) turn.frame ∙ ap (λ (q : Parts P C). q.base) turn.locked)
      (ap (λ (q : Parts P C). q.since) changed ∙ ap (λ (q : Parts P C). q.since) turn.frame ∙ ap (λ (q : Parts P C). q.since) turn.locked)
      (ap (λ (q : Parts P C). q.renewals) changed ∙ ap (λ (q : Parts P C). q.renewals) turn.frame ∙ ap (λ (q : Parts P C). q.renewals) turn.locked)

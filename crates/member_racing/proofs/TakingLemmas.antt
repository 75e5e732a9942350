-- The lock of a stopped member, taken over in another's line, and that member reset.
use Rattle.std.proofs.Common.{◌≡◌, ◌∙◌, ℕ, ◌≤◌, List, [], length, ap, refl, subst, sym, arith}
use Rattle.std.proofs.lemmas.List.Elements.{All-nil}
use Rattle.mas_types.specs.declared.ids.MemberId.{MemberId}
use Rattle.mas_types.specs.declared.journals.Batch.{Batch}
use Rattle.mas_types.specs.declared.queues.Queue.{Queue}
use Rattle.mas_types.specs.Ids.{nobody}
use Rattle.lock_cycle.specs.Books.{IsMember}
use Rattle.spool_plant.specs.View.{View}
use Rattle.spool_plant.specs.declared.plant.Plant.{Ghosts as PlantGhosts}
use Rattle.ckpt_copy.specs.declared.copying.Copying.{Ghosts as CopyGhosts}
use Rattle.ckpt_tables.specs.Shape.{page_count}
use Rattle.mas_complex.specs.Locking.{MayAct}
use Rattle.mas_complex.specs.Journals.{StepIsKept}
use Rattle.mas_complex.specs.Meaning.{Closes}
use Rattle.mas_complex.specs.Parts.{Parts}
use Rattle.member_node.specs.declared.member.Member.{Member}
use Rattle.member_steps.specs.Saying.{TellKept}
use Rattle.member_steps.proofs.ReadLemmas.{pages_of_run}
use Rattle.member_work.proofs.PrintedLemmas.{beside_none}
use Rattle.member_work.specs.Printing.{IsBeside}
use Rattle.member_sittings.specs.Whole.{IsSeat}
use Rattle.member_resets.specs.Locks.{IsToLeave, left_book}
use Rattle.member_resets.specs.Quiet.{IsAside}
use Rattle.member_resets.proofs.Acting.{aside_then, asided}
use Rattle.member_resets.proofs.Locking.{within_unlocked}
use Rattle.step_turns.specs.declared.states.Grant.TheVariants.{ForStep}
use Rattle.step_turns.specs.declared.states.Release.TheVariants.{Inner}

module _ {P C : Type 0} (plants : PlantGhosts P) (copies : CopyGhosts C) (w : Parts P C) (by : MemberId) (n : Member) (id : n.id ≡ by) (seat : IsSeat plants copies w n) where
  abbrev v : Parts P C → View
  v q = plants.view q.plant

  acts_w : MayAct w.book by
  acts_w = subst (λ (i : MemberId). MayAct w.book i) id seat.still.holds.may

  seated_w : IsMember w.book by
  seated_w = subst (λ (i : MemberId). IsMember w.book i) id seat.still.holds.seated

  some_w : 1 ≤ by.0
  some_w = subst (λ (i : MemberId). 1 ≤ i.0) id seat.still.holds.some

  -- a member at its seat may leave the lock
  pub may_leave_seat : IsToLeave w by
  may_leave_seat = record { may = acts_w; some = some_w; seated = seated_w; none = seat.still.none; unreserved = seat.still.unreserved }

  module _ (y : Parts P C) (given : ℕ) (left : y ≡ record w { book = left_book w.book by given Inner }) where
    plant_same : v y ≡ v w
    plant_same = ap (λ (q : Parts P C). v q) left

    -- and once it has left it, it is aside
    pub aside_left : IsAside plants copies y n
    aside_left =
        aside_then plants copies w y n seat (subst (λ (q : Parts P C). q ≡ asided q w) (sym left) refl) (subst (λ (q : View). IsBeside plants.tells (v w) q) (sym plant_same) (beside_none plants.tells (v w)))
        (ap (λ (q : Parts P C). q.reserved) left ∙ seat.still.unreserved)

    -- nobody holds it
    pub unheld : y.book.holder ≡ nobody
    unheld = ap (λ (q : Parts P C). q.book.holder) left ∙ within_unlocked w.book by given acts_w seated_w ForStep

    pub seat_never : y.book.holder ≡ by → IsSeat plants copies y n
    seat_never mine =
        absurd (let some = some_w in let zero : by.0 ≡ 0 = ap (λ (i : MemberId). i.0) (sym mine ∙ unheld) in omega (arith, some, zero))

  -- its room is that of the configuration
  pub room_seat : (base : Queue) → w.base ≡ base → length n.room ≡ page_count base.config
  room_seat base same = sym (pages_of_run w.base [] n.checkpoint n.room seat.still.config seat.between.drawn seat.still.many) ∙ ap (λ (Q : Queue). page_count Q.config) same

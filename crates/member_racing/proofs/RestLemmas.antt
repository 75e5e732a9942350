-- A value at which nothing goes on: it is one between two turns.
use Rattle.std.proofs.Common.{◌≡◌, ◌∙◌, ⊎_elim, ◌≤◌, ◌<◌, ℕ, true, false, List, ◌++◌, append-nil, length, All, Option, Some, None, ap, subst, sym, arith}
use Rattle.mas_types.specs.declared.ids.MemberId.{MemberId}
use Rattle.mas_types.specs.declared.journals.Batch.{Batch}
use Rattle.mas_types.specs.declared.queues.Config.{Config}
use Rattle.mas_types.specs.Ids.{is_somebody}
use Rattle.mas_types.specs.Journal.{is_kept}
use Rattle.lock_cycle.specs.Books.{Book, is_stopped}
use Rattle.spool_plant.specs.declared.plant.Plant.{Ghosts as PlantGhosts}
use Rattle.ckpt_copy.specs.declared.copying.Copying.{Ghosts as CopyGhosts}
use Rattle.ckpt_tables.specs.Shape.{page_count}
use Rattle.gate_turns.specs.Actors.{ResetsStopped}
use Rattle.mas_complex.specs.Journals.{in_flight}
use Rattle.mas_complex.specs.Parts.{Parts}
use Rattle.mas_race.specs.Between.{IsBetweenTurns, IsFree, IsLowHalf}
use Rattle.member_resets.specs.Quiet.{IsQuiet}
use Rattle.member_sittings.specs.Gates.{IsOpen}
use Rattle.member_sittings.specs.Whole.{Half, first_half, second_half}
use Rattle.member_racing.proofs.Books.{OnlyBy}

-- a copy that a member may read once it has the lock is low
pub low_half : (told : Type 0) (h : Half) (config : Config) (n : ℕ) → IsOpen told h config n (page_count config) → IsLowHalf told h config n
low_half told h config n gate = record {
  before = gate.calm.before;
  as_many = gate.calm.as_many;
  low = λ t on pages u sized reads spelled. let low = gate.low t on pages u sized reads spelled in (low.same, low.order);
}

-- the book after calls of a member: who holds is one of the members
pub seated_only : (by : MemberId) (b c : Book) → OnlyBy by b c → by.0 ≤ length b.members → b.holder.0 ≤ length b.members → c.holder.0 ≤ length c.members
seated_only by b c only few seated =
    subst (λ (k : ℕ). c.holder.0 ≤ k) (sym only.many)
    (⊎_elim (λ same. subst (λ (m : MemberId). m.0 ≤ length b.members) (sym same) seated)
    (λ else. ⊎_elim (λ mine. subst (λ (m : MemberId). m.0 ≤ length b.members) (sym mine) few) (λ free. subst (λ (m : MemberId). m.0 ≤ length b.members) (sym free) (omega arith)) else) only.holder)

module _ {P C : Type 0} (plants : PlantGhosts P) (copies : CopyGhosts C) (y : Parts P C) (quiet : IsQuiet plants copies y (page_count y.base.config)) where
  pub free_quiet : IsFree plants copies y
  free_quiet = record {
    none = quiet.none;
    kept = quiet.kept;
    first = low_half plants.tells (first_half plants copies y) y.base.config (length y.batches) quiet.first;
    second = low_half plants.tells (second_half plants copies y) y.base.config (length y.batches) quiet.second;
  }

  flown : (R : Batch → Type 0) → All R y.batches → All R (y.batches ++ in_flight y.current)
  flown R all = subst (λ (bs : List Batch). All R bs) (sym (ap (λ (o : Option Batch). y.batches ++ in_flight o) quiet.none ∙ append-nil y.batches)) all

  -- by its book and its batches
  pub rest_quiet : length y.book.members ≡ y.base.config.members → y.book.holder.0 ≤ length y.book.members → y.book.hold ≡ y.base.config.hold → All (λ (b : Batch). All (λ e. e.by ≡ b.by) b.entries) y.batches
      → All (λ (b : Batch). is_kept b.fate ≡ false → 0 < length b.entries → is_stopped y.book b.by ≡ true) y.batches
      → (plants.tells → All (λ (b : Batch). All (λ e. is_somebody e.by ≡ true → ResetsStopped y.book e.command) b.entries) y.batches) → IsBetweenTurns plants copies y
  rest_quiet members seated hold own fated resets = record {
    away = λ free. (quiet.unreserved, quiet.none);
    members = members;
    seated = seated;
    hold = hold;
    begun = quiet.begun;
    roomy = quiet.roomy;
    own = flown (λ (b : Batch). All (λ e. e.by ≡ b.by) b.entries) own;
    fated = fated;
    resets = λ t. flown (λ (b : Batch). All (λ e. is_somebody e.by ≡ true → ResetsStopped y.book e.command) b.entries) (resets t);
    flying = λ some c is. absurd (let bad : Some c ≡ None = sym is ∙ quiet.none in cc);
    unreserved = λ some. quiet.unreserved;
    unplaced = λ some none. quiet.unplaced;
    free = λ some free. free_quiet;
  }

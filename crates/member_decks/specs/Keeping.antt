-- A step that is out of memory, by its answer.
use Rattle.member_decks.specs.Names.{Batch, NodeNo, BothLost, Halted, ConsoleFault, NoMemory}
use Rattle.std.specs.Prelude.{◌≡◌, ◌⊎◌, ℕ, ◌≤◌, List, length}
use Rattle.member_steps.specs.Writes.{HasKept, HasFlying}
pub use Rattle.member_steps.specs.Keeping.{CopyCauses, IsOnCopies, KeepLeaves}

-- What was done before memory was out, if anything, is kept, or in flight where both copies were lost or the member was
-- stopped; out of memory for it too, it isn't begun.
abbrev pub GivesUpLeaves : NodeNo → List Batch → List Batch → Batch → ℕ → Type 0
GivesUpLeaves NoMemory front batches b now = (batches ≡ front) ⊎ ((1 ≤ length b.entries) × HasKept front batches b now)
GivesUpLeaves BothLost front batches b now = (1 ≤ length b.entries) × HasFlying front batches b
GivesUpLeaves Halted front batches b now = (1 ≤ length b.entries) × HasFlying front batches b
GivesUpLeaves ConsoleFault front batches b now = ⊥

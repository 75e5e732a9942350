-- A batch of a step that is kept, with nothing said, by its answer.
use Rattle.std.specs.Prelude.{◌≡◌, ℕ, List, Result, Ok, Err}
use Rattle.mas_types.specs.declared.ids.Dev.{Dev}
use Rattle.mas_types.specs.declared.journals.Batch.{Batch}
use Rattle.spool_plant.specs.Acts.{Rose}
use Rattle.duplex_pair.specs.Halves.{IsBothLost}
use Rattle.mas_complex.specs.CallCounts.{PairState}
use Rattle.member_node.specs.Calls.{Apart, Course, IsLeft}
use Rattle.member_node.specs.Spares.{Spares, stopped_in}
use Rattle.member_node.specs.Writes.{HasFlying, HasKept}
use Rattle.member_node.specs.declared.member.NodeNo.{NodeNo}
use Rattle.member_node.specs.declared.member.NodeNo.TheVariants.{BothLost, ConsoleFault, Halted, NoMemory}

-- the cause of an answer to acts on the copies, and which of them count as alive after it
abbrev pub CopyCauses : {T : Type 0} → Result T NodeNo → ℕ → PairState → PairState → Type 0
CopyCauses (Ok done) by old new = IsLeft old.first new.first old.second new.second
CopyCauses (Err NoMemory) by old new = IsLeft old.first new.first old.second new.second
CopyCauses (Err BothLost) by old new = IsBothLost new.first new.second
CopyCauses (Err Halted) by old new = IsLeft old.first new.first old.second new.second
    × Rose (old.view.stops by) (new.view.stops by)
CopyCauses (Err ConsoleFault) by old new = ⊥

-- Acts on the copies: where content is told the volumes, the console, the printers and the lines to other nodes are as
-- they were, and no copy is lost by a call.
pub record IsOnCopies {T : Type 0} (told : Type 0) (by : ℕ) (old new : PairState) (result : Result T NodeNo) : Type 0
  where
    pub course : Course old new
    pub loses : told → (d : Dev) → new.view.loses d ≡ old.view.loses d
    pub cause : CopyCauses result by old new
    pub spares : Spares by (stopped_in result) old.view new.view
    pub apart : told → Apart old.view new.view

-- the batch is kept, or in flight where both copies were lost or the member was stopped; out of memory, it
-- isn't begun
abbrev pub KeepLeaves : {T : Type 0} → Result T NodeNo → List Batch → List Batch → Batch → ℕ → Type 0
KeepLeaves (Ok done) front batches b now = HasKept front batches b now
KeepLeaves (Err NoMemory) front batches b now = batches ≡ front
KeepLeaves (Err BothLost) front batches b now = HasFlying front batches b
KeepLeaves (Err Halted) front batches b now = HasFlying front batches b
KeepLeaves (Err ConsoleFault) front batches b now = ⊥

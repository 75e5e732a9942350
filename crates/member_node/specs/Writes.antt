-- What a write leaves, by its answer.
use Rattle.std.specs.Prelude.{◌≡◌, ℕ, ◌≤◌, Bool, List, [], ◌∷◌, ◌++◌, Result, Ok, Err}
use Rattle.mas_types.specs.declared.ids.Dev.{Dev}
use Rattle.mas_types.specs.declared.journals.Batch.{Batch}
use Rattle.mas_types.specs.declared.journals.Fate.TheVariants.{Kept}
use Rattle.spool_plant.specs.View.{View}
use Rattle.spool_plant.specs.Acts.{Rose}
use Rattle.duplex_pair.specs.Halves.{IsBothLost}
use Rattle.mas_complex.specs.Journals.{fated}
use Rattle.mas_complex.specs.CallCounts.{PairState}
use Rattle.member_node.specs.declared.member.NodeNo.{NodeNo}
use Rattle.member_node.specs.declared.member.NodeNo.TheVariants.{BothLost, Halted, ConsoleFault, NoMemory}
use Rattle.member_node.specs.Calls.{Apart, Course, IsLeft}
use Rattle.member_node.specs.Spares.{Spares, stopped_in}

-- after these batches the journal has one more, kept since it began and by now
abbrev pub HasKept : List Batch → List Batch → Batch → ℕ → Type 0
HasKept front batches b now = (last : ℕ) × (b.first ≤ last) × (last ≤ now) × (batches ≡ front ++ fated Kept last b ∷ [])

-- after these batches the journal has one more, which is in flight
abbrev pub HasFlying : List Batch → List Batch → Batch → Type 0
HasFlying front batches b = batches ≡ front ++ b ∷ []

-- the batch is kept, or in flight where both copies were lost or the member was stopped
abbrev pub WriteLeaves : {T : Type 0} → Result T NodeNo → List Batch → List Batch → Batch → ℕ → Type 0
WriteLeaves (Ok done) front batches b now = HasKept front batches b now
WriteLeaves (Err BothLost) front batches b now = HasFlying front batches b
WriteLeaves (Err Halted) front batches b now = HasFlying front batches b
WriteLeaves (Err ConsoleFault) front batches b now = ⊥
WriteLeaves (Err NoMemory) front batches b now = ⊥

-- the cause of an answer, and which copies count as alive after it
abbrev pub WriteCauses : {T : Type 0} → Result T NodeNo → ℕ → PairState → PairState → Type 0
WriteCauses (Ok done) by old new = IsLeft old.first new.first old.second new.second
WriteCauses (Err BothLost) by old new = IsBothLost new.first new.second
WriteCauses (Err Halted) by old new = IsLeft old.first new.first old.second new.second
    × Rose (old.view.stops by) (new.view.stops by)
WriteCauses (Err ConsoleFault) by old new = ⊥
WriteCauses (Err NoMemory) by old new = ⊥

-- the batches of a journal, which copies count as alive, and what the plant shows
pub record JournalState : Type 0 where
  pub batches : List Batch
  pub pair : PairState

abbrev pub journal_at : List Batch → PairState → JournalState
journal_at batches pair = record { batches = batches; pair = pair }

-- A member's batch is written, after the batches of a journal.
pub record IsWrite {T : Type 0} (told : Type 0) (by : ℕ) (b : Batch) (old new : JournalState)
    (result : Result T NodeNo) : Type 0 where
  pub course : Course old.pair new.pair
  pub loses : (d : Dev) → new.pair.view.loses d ≡ old.pair.view.loses d
  pub cause : WriteCauses result by old.pair new.pair
  pub spares : Spares by (stopped_in result) old.pair.view new.pair.view
  pub journal : WriteLeaves result old.batches new.batches b new.pair.view.now
  pub apart : told → Apart old.pair.view new.pair.view

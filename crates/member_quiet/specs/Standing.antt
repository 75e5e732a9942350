-- What stands in a journal while no member's step is under way.
use Rattle.std.specs.Prelude.{◌≡◌, ℕ, ◌<◌, Bool, true, false, List, All, Option, Some, None}
use Rattle.mas_types.specs.declared.journals.Batch.{Batch}
use Rattle.mas_types.specs.declared.journals.Fate.TheVariants.{Flying}
use Rattle.lock_cycle.specs.Books.{Book, is_stopped}
use Rattle.mas_complex.specs.Journals.{EndsInPlace}

-- A batch in flight has the last place of the journal, and its member was stopped. Without one nothing has a place.
abbrev pub StandsIn : List Batch → Bool → Book → Option Batch → Type 0
StandsIn batches placed b None = placed ≡ false
StandsIn batches placed b (Some c) = EndsInPlace batches × (c.fate ≡ Flying) × (is_stopped b c.by ≡ true)

-- the entries of a batch are of earlier lines
abbrev pub IsOfEarlier : ℕ → Batch → Type 0
IsOfEarlier at b = All (λ e. e.step < at) b.entries

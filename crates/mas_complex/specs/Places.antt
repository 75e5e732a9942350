-- How far the batch in flight has come on a copy after a call.
use Rattle.mas_complex.specs.Names.{PairNo, BothLost, Halted, Place, Before, Put, Opened, Unsure}
use Rattle.std.specs.Prelude.{◌≡◌, ◌≢◌, ◌⊎◌, ℕ, List, Option, Some, Result, Ok, Err}
pub use Rattle.ckpt_places.specs.Kept.{is_opened, all_open}

abbrev pub IsPlaceAfter : {T : Type 0} → Result T PairNo → Place → Place → Type 0
IsPlaceAfter (Ok x) ok place = place ≡ ok
IsPlaceAfter (Err BothLost) ok place = Unit {0}
IsPlaceAfter (Err Halted) ok place = place ≡ Unsure

-- pages of the level reached don't have the batch in flight; others do
abbrev pub IsAtLevel : ℕ → ℕ → Place → Type 0
IsAtLevel l reached place = ((place ≡ Before) × (l ≡ reached)) ⊎ ((place ≡ Opened) × (l ≢ reached))

-- The copy has no other pages of the batch in flight than these: what waits behind its gate, or what it reads.
abbrev pub HasNoOther : Place → List ℕ → Option (List ℕ) → List ℕ → Type 0
HasNoOther Before waiting reads pages = Unit {0}
HasNoOther Put waiting reads pages = waiting ≡ pages
HasNoOther Opened waiting reads pages = reads ≡ Some pages
HasNoOther Unsure waiting reads pages = ⊥

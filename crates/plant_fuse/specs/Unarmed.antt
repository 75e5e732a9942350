-- Members of which no stop was armed.
use Rattle.std.specs.Prelude.{◌≡◌, ℕ, ◌+◌, List, slice_index}
use Rattle.std.proofs.Common.{arith}
use Rattle.spool_disk.specs.Fuses.{Armed}

-- none is to come of a member, and it wasn't stopped
pub record IsUnarmed (a : Armed) (stops : List ℕ) (m : ℕ) : Type 0 where
  pub acts : slice_index a.acts m ≡ 0
  pub prints : slice_index a.prints m ≡ 0
  pub unstopped : slice_index stops m ≡ 0

-- so is each member whose count of calls that armed one is 0
abbrev pub AreUnarmed : Armed → List ℕ → List ℕ → Type 0
AreUnarmed a stops arms = (m : ℕ) → slice_index arms m ≡ 0 → IsUnarmed a stops m

-- the stops that were counted and those of the inner plant
pub none_stopped : (inner own : ℕ) → inner ≡ 0 → own ≡ 0 → inner + own ≡ 0
none_stopped inner own none too = omega (arith, none, too)

-- Block 0 of a copy, whatever its form: its gates, and the number of pages.
use Rattle.std.specs.Prelude.{◌≡◌, ℕ, ◌+◌, ◌*◌, ◌==◌, Bool, false, List, [], ◌∷◌, slice_index}
use Rattle.spool_plant.specs.View.{Disk}
use Rattle.ckpt_copy.specs.declared.layout.TheConstants.{GATE_OPEN}
use Rattle.ckpt_copy.specs.Has.{Has}

-- the gate that stands there is open
abbrev pub is_open : ℕ → List ℕ → Bool
is_open at image = slice_index image at == GATE_OPEN

-- the number of pages that block 0 gives
abbrev pub pages_in : List ℕ → ℕ
pages_in image = 256 * slice_index image 2 + slice_index image 3

-- the gate that stands there is closed, and no crash opens it
pub record IsClosed (at : ℕ) (disk : Disk) : Type 0 where
  pub byte : ℕ
  pub closed : (byte == GATE_OPEN) ≡ false
  pub has : Has at 1 (byte ∷ []) disk

-- What stands at each slot.
use Rattle.std.specs.Prelude.{ℕ, List, [], ◌∷◌, Vec, suc, zero}
use Rattle.std.specs.declared.alloc.Global.{Global}

-- the bytes that stand at a slot now
abbrev pub bytes_at : List (Vec ℕ Global) → ℕ → List ℕ
bytes_at [] slot = []
bytes_at (v ∷ vs) zero = v.items
bytes_at (v ∷ vs) (suc slot) = bytes_at vs slot

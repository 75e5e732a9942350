-- The keys of classes.
use Rattle.std.specs.Prelude.{ℕ, suc, ◌==◌, Bool, if◌then◌else◌, List, [], ◌∷◌, length}
use Rattle.mas_types.specs.declared.ids.Class.{Class}
use Rattle.mas_types.specs.Ids.{same_class}

-- how many classes there are from the first one on that has a letter, 0 where none has it
abbrev pub class_key : List Class → ℕ → ℕ
class_key [] c = 0
class_key (k ∷ ks) c = if c == k.0 then suc (length ks) else class_key ks c

-- the record has the class
abbrev pub is_of : {X : Type 0} → (X → Class) → Class → X → Bool
is_of class k x = same_class (class x) k

-- What reading a group adds to lines.
use Rattle.std.specs.Prelude.{◌≡◌, ℕ, List, ◌++◌, take}
use Rattle.mas_types.specs.Records.{HoldsRecords}

-- the records of the group are added
pub record AddsRecords (group : List ℕ) (old new : List (List ℕ)) : Type 0 where
  pub lines : List (List ℕ)
  pub holds : HoldsRecords group lines
  pub is : new ≡ old ++ lines

-- the group holds records, and so many of them, from the first on, are added
pub record AddsFirst (group : List ℕ) (old new : List (List ℕ)) : Type 0 where
  pub lines : List (List ℕ)
  pub holds : HoldsRecords group lines
  pub count : ℕ
  pub is : new ≡ old ++ take count lines

-- What is read of a directory.
use Rattle.std.specs.Prelude.{◌≡◌, ℕ, true, false, Option, Some, None, List, take}
use Rattle.change_log.specs.declared.directory.Listed.{Listed}
use Rattle.change_log.specs.Directories.{numbers_in, count_in, is_directory}

-- a block that is a directory, and the pages that it lists
pub record Lists (listed : Listed) (n : ℕ) (block : List ℕ) : Type 0 where
  pub spelled : is_directory n block ≡ true
  pub count : listed.count ≡ count_in block
  pub numbers : take listed.count listed.numbers ≡ numbers_in block

-- the block is no directory, or it was read so
abbrev pub IsListing : Option Listed → ℕ → List ℕ → Type 0
IsListing None n block = is_directory n block ≡ false
IsListing (Some listed) n block = Lists listed n block

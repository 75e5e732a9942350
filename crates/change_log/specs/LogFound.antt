-- What is learnt of a copy in the log form from its bytes.
use Rattle.std.specs.Prelude.{◌≡◌, ℕ, ◌<◌, true, false, Option, Some, None, List, slice_index}
use Rattle.ckpt_copy.specs.Heads.{pages_in}
use Rattle.change_log.specs.declared.finding.Head.{Head}
use Rattle.change_log.specs.Logs.{is_valid, are_listed, slot_lists, gates_in, place, slots}

-- block 0, as it was read
pub record IsHeadOf (head : Head) (block : List ℕ) (size : ℕ) : Type 0 where
  pub valid : is_valid block size ≡ true
  pub pages : head.pages ≡ pages_in block
  pub gates : head.gates ≡ gates_in block

-- block 0 is valid and has this head, or it isn't valid
abbrev pub IsHeadIn : Option Head → List ℕ → ℕ → Type 0
IsHeadIn None block size = is_valid block size ≡ false
IsHeadIn (Some head) block size = IsHeadOf head block size

-- the pages stand where the slots of these bytes put them
pub record ArePlacesOf (n : ℕ) (places bytes : List ℕ) : Type 0 where
  pub listed : are_listed n bytes slots ≡ true
  pub placed : (p : ℕ) → p < n → slice_index places p ≡ place n p (slot_lists n bytes) slots

-- the directory of an open slot isn't valid, or the pages stand at these places
abbrev pub ArePlacesIn : ℕ → Option (List ℕ) → List ℕ → Type 0
ArePlacesIn n None bytes = are_listed n bytes slots ≡ false
ArePlacesIn n (Some places) bytes = ArePlacesOf n places bytes

-- the first slots were read: each open one begins with a directory, and the pages stand where they put them
pub record ArePlacedUp (n s : ℕ) (places bytes : List ℕ) : Type 0 where
  pub listed : are_listed n bytes s ≡ true
  pub placed : (p : ℕ) → p < n → slice_index places p ≡ place n p (slot_lists n bytes) s

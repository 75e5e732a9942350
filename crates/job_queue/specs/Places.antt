-- The places of jobs by their numbers.
use Rattle.std.specs.Prelude.{◌≡◌, ◌≢◌, ◌<◌, ◌%◌, ◌+◌, ℕ, suc, ◌==◌, nat_lt, ◌&&◌, if◌then◌else◌, List, Option, Some, None, slice_get, slice_index}
use Rattle.mas_types.specs.declared.ids.JobNo.{JobNo}
use Rattle.mas_types.specs.Ids.{same_number}
use Rattle.lay_bytes.specs.declared.records.JobRec.{JobRec}

-- how many places there are
abbrev pub many : ℕ
many = 4096

-- the number at a place that several jobs share
abbrev pub several : ℕ
several = 65535

-- a place of the first k slots
pub record IsPlace (slots : List (Option JobRec)) (k b place : ℕ) : Type 0 where
  pub free : place ≡ 0 → (j : ℕ) (y : JobRec) → j < k → slice_get slots j ≡ Some (Some y) → y.number.0 % many ≢ b
  pub only : (i : ℕ) → place ≡ suc i → place ≢ several → (j : ℕ) (y : JobRec) → j < k
      → slice_get slots j ≡ Some (Some y) → y.number.0 % many ≡ b → j ≡ i

abbrev pub ArePlaces : List (Option JobRec) → ℕ → List ℕ → Type 0
ArePlaces slots k places = (b : ℕ) → b < many → IsPlace slots k b (slice_index places b)

-- a place where a job in a slot comes to it
abbrev pub taken : ℕ → ℕ → ℕ
taken place at = if (place == 0) && nat_lt at 65534 then at + 1 else several

-- what stands in a slot, where it has the number
abbrev pub numbered : JobNo → Option (Option JobRec) → Option JobRec
numbered n None = None
numbered n (Some None) = None
numbered n (Some (Some x)) = if same_number x.number n then Some x else None

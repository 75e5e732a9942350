-- The pages of a copy as bytes, one page after another.
use Rattle.std.specs.Prelude.{◌≡◌, ◌⊎◌, ℕ, ◌*◌, ◌<◌, Some, List, [], ◌∷◌, ◌++◌, slice_get, All, Contains}
use Rattle.std.specs.List.Sorted.{IsStrictlyIncreasing}
use Rattle.std.specs.Int.{from_be_bytes, w64}
use Rattle.mas_types.specs.declared.ids.Page.{Page}
use Rattle.spool_plant.specs.View.{slice}
use Rattle.mas_types.specs.Limits.{page_bytes}

abbrev pub bytes_of : List Page → List ℕ
bytes_of [] = []
bytes_of (page ∷ pages) = page.0 ++ bytes_of pages

-- page p of them
abbrev pub page_in : ℕ → List ℕ → List ℕ
page_in p pages = slice (page_bytes * p) page_bytes pages

-- the level, which stands in the first page
unfoldable pub level : List ℕ → ℕ
level pages = from_be_bytes w64 (slice 8 8 pages)

-- numbers of pages out of n, ascending from 0
pub record ArePages (n : ℕ) (numbers : List ℕ) : Type 0 where
  pub first : slice_get numbers 0 ≡ Some 0
  pub ascending : IsStrictlyIncreasing numbers
  pub pages : All (λ p. p < n) numbers

-- each of n pages that isn't as it was is among these numbers
abbrev pub Covers : ℕ → List ℕ → List ℕ → List ℕ → Type 0
Covers n numbers was pages = (p : ℕ) → p < n → Contains numbers p ⊎ (page_in p pages ≡ page_in p was)

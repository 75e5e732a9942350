-- Which pages a batch changes.
use Rattle.mas_complex.specs.Names.{page_in}
use Rattle.std.specs.Prelude.{◌≡◌, ◌≢◌, ◌⊎◌, ℕ, List, All}

-- each of the numbers is 0 or that of a page that isn't as it was
abbrev pub NamesOnly : List ℕ → List ℕ → List ℕ → Type 0
NamesOnly numbers was pages = All (λ p. (p ≡ 0) ⊎ (page_in p pages ≢ page_in p was)) numbers

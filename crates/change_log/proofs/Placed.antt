-- The table of places, written page by page.
use Rattle.std.proofs.Common.{◌≡◌, ⊎_elim, ℕ, ◌+◌, ◌<◌, List, length, get_or, set, sym, ◌∙◌, ap, arith}
use Rattle.std.proofs.lemmas.Bool.{cases_eq}
use Rattle.std.proofs.lemmas.List.{get_or-set_same, get_or-set_other}

-- one page more is at home
pub home_more : (places : List ℕ) (page : ℕ) → page < length places → ((p : ℕ) → p < page → get_or places p 0 ≡ 1 + p)
    → (p : ℕ) → p < page + 1 → get_or (set places page (1 + page)) p 0 ≡ 1 + p
home_more places page inside before p lt = ⊎_elim
    (λ e. ap (λ (m : ℕ). get_or (set places page (1 + page)) m 0) e ∙ get_or-set_same places page (1 + page) 0 inside ∙ ap (λ (m : ℕ). 1 + m) (sym e))
    (λ ne. get_or-set_other places page p (1 + page) 0 ne ∙ before p (omega (arith, lt, ne)))
    (cases_eq p page)

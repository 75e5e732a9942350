-- Values that are spelled by fields, one after another: laws, which the impls of `Entry` cite.
use Rattle.std.proofs.Common.{◌≡◌, ℕ, List, length, None, sym, ap, ◌∙◌}
use Rattle.std.specs.List.{concat}
use Rattle.lay_bytes.specs.declared.fields.Field.{Field}
use Rattle.lay_bytes.specs.Fields.{widths, first_bad, pieces}
use Rattle.lay_bytes.proofs.Pieces.{AreSpelled, spelled_again}
use Rattle.lay_bytes.proofs.SlotLemmas.{spelled_length}

module _ {X : Type 0} (fields : List Field) (spelled_by : X → List (List ℕ)) (said_by : List (List ℕ) → X)
    (Fits : X → Type 0)
    (spelled : (x : X) → Fits x → AreSpelled fields (spelled_by x))
    (again : (x : X) → Fits x → said_by (spelled_by x) ≡ x) where
  pub good_of : (x : X) → Fits x → first_bad 0 fields (concat (spelled_by x)) ≡ None
  good_of x h = (spelled_again fields (spelled_by x) (spelled x h)).good

  pub said_of : (x : X) → Fits x → said_by (pieces 0 fields (concat (spelled_by x))) ≡ x
  said_of x h = ap said_by (spelled_again fields (spelled_by x) (spelled x h)).cut ∙ again x h

  pub size_of : (x : X) → Fits x → length (concat (spelled_by x)) ≡ widths fields
  size_of x h = spelled_length fields (spelled_by x) (spelled x h)

  pub apart_of : (x y : X) → Fits x → Fits y → concat (spelled_by x) ≡ concat (spelled_by y) → x ≡ y
  apart_of x y hx hy e = sym (said_of x hx) ∙ ap (λ (b : List ℕ). said_by (pieces 0 fields b)) e ∙ said_of y hy

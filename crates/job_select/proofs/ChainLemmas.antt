-- What chains have where a slot is added, taken out or moved.
use Rattle.std.proofs.Common.{◌≡◌, ℕ, Bool, true, false, ◌&&◌, ◌||◌, ◌==◌, List, [], ◌∷◌, ◌++◌, refl, sym, ap, ◌∙◌, not}
use Rattle.std.specs.Prelude.{filter}
use Rattle.std.proofs.lemmas.Bool.{eqb-true, eq-eqb}
use Rattle.queue_slots.proofs.Cases.{test_cases}
use Rattle.job_select.specs.Chains.{has_slot}

-- a slot stands in a chain with one more slot if it stood there, or is that slot
pub has_slot-push : (xs : List ℕ) (y i : ℕ) → has_slot i (xs ++ y ∷ []) ≡ (has_slot i xs || (y == i))
has_slot-push [] y i = test_cases (y == i) (has_slot i (y ∷ []) ≡ (y == i)) (λ e. rw e refl) (λ e. rw e refl)
has_slot-push (x ∷ xs) y i =
    test_cases (x == i) (has_slot i (x ∷ (xs ++ y ∷ [])) ≡ (has_slot i (x ∷ xs) || (y == i)))
    (λ e. rw e refl) (λ e. rw e (has_slot-push xs y i))

-- a slot stands in a chain without one of its slots if it stood there, and isn't that slot
pub has_slot-without : (xs : List ℕ) (s i : ℕ) → has_slot i (filter (λ x. not (x == s)) xs) ≡ (has_slot i xs && not (i == s))
has_slot-without [] s i = refl
has_slot-without (x ∷ xs) s i =
    test_cases (x == s) (has_slot i (filter (λ z. not (z == s)) (x ∷ xs)) ≡ (has_slot i (x ∷ xs) && not (i == s)))
    (λ e. test_cases (x == i) (has_slot i (filter (λ z. not (z == s)) (x ∷ xs)) ≡ (has_slot i (x ∷ xs) && not (i == s)))
    (λ f. let same : (i == s) ≡ true = eq-eqb i s (sym (eqb-true x i f) ∙ eqb-true x s e) in rw (e, f, same) (has_slot-without xs s i ∙ last (has_slot i xs) same))
    (λ f. rw (e, f) (has_slot-without xs s i)))
    (λ e. test_cases (x == i) (has_slot i (filter (λ z. not (z == s)) (x ∷ xs)) ≡ (has_slot i (x ∷ xs) && not (i == s)))
    (λ f. let other : (i == s) ≡ false = sym (ap (λ (z : ℕ). z == s) (eqb-true x i f)) ∙ e in rw (e, f, other) refl)
    (λ f. rw (e, f) (has_slot-without xs s i)))
  where
    last : (b : Bool) → (i == s) ≡ true → (b && not (i == s)) ≡ false
    last true e = ap not e
    last false e = refl

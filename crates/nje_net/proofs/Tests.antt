-- Tests, and lists of which each item has a property.
use Rattle.std.proofs.Common.{◌≡◌, ℕ, zero, suc, ◌⊎◌, inl, inr, Bool, true, false, ◌&&◌, ◌||◌, ◌==◌, List, [], ◌∷◌, ◌++◌, Some, slice_get, refl, sym, subst, arith}
pub use Rattle.std.proofs.lemmas.Bool.{and_from as and_both, eqb-false as other_number, eqb-true as same_number, not-true as not_true, or_parts as neither}
use Rattle.std.specs.List.{AllByRecursion}
use Rattle.std.proofs.lemmas.Bool.Decides.{nat_tests}

pub test_cases : (b : Bool) (P : Type 0) → (b ≡ true → P) → (b ≡ false → P) → P
test_cases true P at_true at_false = at_true refl
test_cases false P at_true at_false = at_false refl

pub and_left : (p q : Bool) → (p && q) ≡ true → p ≡ true
and_left true q h = refl
and_left false q h = absurd (cc)

pub and_right : (p q : Bool) → (p && q) ≡ true → q ≡ true
and_right true q h = h
and_right false q h = absurd (cc)

pub or_cases : (p q : Bool) → (p || q) ≡ true → (p ≡ true) ⊎ (q ≡ true)
or_cases true q h = inl refl
or_cases false q h = inr h

pub both_ways : (p : Bool) {P : Type 0} → p ≡ true → p ≡ false → P
both_ways true h k = absurd (cc)
both_ways false h k = absurd (cc)

pub true_or_false : (b : Bool) → (b ≡ false) ⊎ (b ≡ true)
true_or_false true = inr refl
true_or_false false = inl refl

pub is_itself : (n : ℕ) → (n == n) ≡ true
is_itself n = grind (arith, nat_tests)

pub is_other : (m n : ℕ) → (m ≡ n → ⊥) → (m == n) ≡ false
is_other m n apart = test_cases (m == n) ((m == n) ≡ false) (λ e. absurd (apart (same_number m n e))) (λ e. e)

pub turned_round : (m n : ℕ) → (m == n) ≡ false → (n == m) ≡ false
turned_round m n h = is_other n m (λ e. other_number m n h (sym e))

module _ {A : Type 0} where
  pub all_weaker : (P Q : A → Type 0) → ((x : A) → P x → Q x) → (xs : List A) → AllByRecursion P xs → AllByRecursion Q xs
  all_weaker P Q f [] h = tt
  all_weaker P Q f (x ∷ xs) h = (f x h.0, all_weaker P Q f xs h.1)

  pub all_append : (P : A → Type 0) (xs ys : List A) → AllByRecursion P xs → AllByRecursion P ys → AllByRecursion P (xs ++ ys)
  all_append P [] ys h k = k
  all_append P (x ∷ xs) ys h k = (h.0, all_append P xs ys h.1 k)

  pub all_push : (P : A → Type 0) (xs : List A) (y : A) → AllByRecursion P xs → P y → AllByRecursion P (xs ++ y ∷ [])
  all_push P xs y h k = all_append P xs (y ∷ []) h (k, tt)

  pub all_get : (P : A → Type 0) (i : ℕ) (xs : List A) (x : A) → AllByRecursion P xs → slice_get xs i ≡ Some x → P x
  all_get P i [] x all found = absurd (cc)
  all_get P zero (y ∷ xs) x all found = let same : y ≡ x = cc in subst P same all.0
  all_get P (suc i) (y ∷ xs) x all found = all_get P i xs x all.1 found

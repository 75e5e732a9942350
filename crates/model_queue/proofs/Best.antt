-- The greatest rank of those that are picked, and the first class that any of them has, as loops find them.
use Rattle.std.proofs.Common.{◌≡◌, ℕ, ◌+◌, ◌<◌, max, Bool, true, false, ◌&&◌, ◌==◌, List, [], ◌∷◌, length, get_or, drop, Option, None, refl, ap, sym, ◌∙◌, subst, arith}
use Rattle.std.specs.Prelude.{if◌then◌else◌, IfSome, IfNone}
use Rattle.std.specs.List.{find, filter, list_any}
use Rattle.mas_types.specs.Lists.{greatest, is_greatest_of, has_first_key_of}
use Rattle.model_queue.specs.Places.{StandsAt}
use Rattle.queue_laws.proofs.Finds.{test_cases}
use Rattle.model_queue.proofs.Writes.{drop_here}

module _ {A : Type 0} (rank : A → ℕ) (p : A → Bool) where
  -- one item further
  pub greatest_more : (xs : List A) (i : ℕ) (x : A) (most : ℕ) (all : ℕ) → i < length xs → x ≡ get_or xs i x
      → max most (greatest rank (filter p (drop i xs))) ≡ all
      → max (if p x then max most (rank x) else most) (greatest rank (filter p (drop (i + 1) xs))) ≡ all
  greatest_more xs i x most all inside is so_far =
      let here : drop i xs ≡ x ∷ drop (i + 1) xs = drop_here xs i inside x ∙ ap (λ (y : A). y ∷ drop (i + 1) xs) (sym is) in
      let so = rw here at so_far in
      test_cases (p x) (max (if p x then max most (rank x) else most) (greatest rank (filter p (drop (i + 1) xs))) ≡ all)
      (λ e. let v = rw e at so in rw e (omega (arith, v)))
      (λ e. let v = rw e at so in rw e v)

module _ {A K : Type 0} (has : K → A → Bool) (t : A → Bool) (xs : List A) where
  -- a key that some have
  key_some : (k : K) (ks : List K) → list_any (λ y. t y && has k y) xs ≡ true → (λ (x : A). t x && has k x) ≡ has_first_key_of has (k ∷ ks) t xs
  key_some k ks e = ap (λ (b : Bool). λ (x : A). if b then t x && has k x else has_first_key_of has ks t xs x) (sym e)

  -- a key that none has
  key_none : (k : K) (ks : List K) → list_any (λ y. t y && has k y) xs ≡ false → has_first_key_of has (k ∷ ks) t xs ≡ has_first_key_of has ks t xs
  key_none k ks e = ap (λ (b : Bool). λ (x : A). if b then t x && has k x else has_first_key_of has ks t xs x) e

  module _ (ks : List K) (i : ℕ) (d : K) (inside : i < length ks) where
    pub keys_more : list_any (λ y. t y && has (get_or ks i d) y) xs ≡ false → has_first_key_of has ks t xs ≡ has_first_key_of has (drop i ks) t xs
        → has_first_key_of has ks t xs ≡ has_first_key_of has (drop (i + 1) ks) t xs
    keys_more none so_far = so_far ∙ ap (λ (ys : List K). has_first_key_of has ys t xs) (drop_here ks i inside d) ∙ key_none (get_or ks i d) (drop (i + 1) ks) none

    pub key_found : list_any (λ y. t y && has (get_or ks i d) y) xs ≡ true → has_first_key_of has ks t xs ≡ has_first_key_of has (drop i ks) t xs
        → (λ (y : A). t y && has (get_or ks i d) y) ≡ has_first_key_of has ks t xs
    key_found some so_far = key_some (get_or ks i d) (drop (i + 1) ks) some ∙ ap (λ (ys : List K). has_first_key_of has ys t xs) (sym (drop_here ks i inside d)) ∙ sym so_far

  no_key_left : (rank : A → ℕ) (ys : List A) → find (is_greatest_of rank (λ x. false) xs) ys ≡ None
  no_key_left rank [] = refl
  no_key_left rank (y ∷ ys) = no_key_left rank ys

  -- no item that is picked has one of the keys
  pub keys_over : (rank : A → ℕ) (ks : List K) (i : ℕ) → drop i ks ≡ [] → has_first_key_of has ks t xs ≡ has_first_key_of has (drop i ks) t xs → find (is_greatest_of rank (has_first_key_of has ks t xs) xs) xs ≡ None
  keys_over rank ks i over so_far =
      let none : (λ (x : A). false) ≡ has_first_key_of has ks t xs = sym (so_far ∙ ap (λ (ys : List K). has_first_key_of has ys t xs) over) in
      subst (λ (test : A → Bool). find (is_greatest_of rank test xs) xs ≡ None) none (no_key_left rank xs)

  -- without keys nothing is selected
  pub no_key : (rank : A → ℕ) → find (is_greatest_of rank (has_first_key_of has [] t xs) xs) xs ≡ None
  no_key rank = no_key_left rank xs

-- what is found by one test is found by the same one
module _ {A : Type 0} (rank : A → ℕ) (xs : List A) (t u : A → Bool) (same : t ≡ u) where
  pub some_by : (o : Option ℕ) → IfSome o (λ at. StandsAt (is_greatest_of rank t xs) xs at) → IfSome o (λ at. StandsAt (is_greatest_of rank u xs) xs at)
  some_by o h = subst (λ (test : A → Bool). IfSome o (λ at. StandsAt (is_greatest_of rank test xs) xs at)) same h

  pub none_by : (o : Option ℕ) → IfNone o (find (is_greatest_of rank t xs) xs ≡ None) → IfNone o (find (is_greatest_of rank u xs) xs ≡ None)
  none_by o h = subst (λ (test : A → Bool). IfNone o (find (is_greatest_of rank test xs) xs ≡ None)) same h

-- the first of the greatest rank is the one that goes first
pub best_some : {A : Type 0} (rank : A → ℕ) (p : A → Bool) (xs : List A) (o : Option ℕ) (n : ℕ) → n ≡ greatest rank (filter p xs)
    → IfSome o (λ at. StandsAt (λ x. p x && (rank x == n)) xs at) → IfSome o (λ at. StandsAt (is_greatest_of rank p xs) xs at)
best_some rank p xs o n is h = subst (λ (k : ℕ). IfSome o (λ at. StandsAt (λ x. p x && (rank x == k)) xs at)) is h

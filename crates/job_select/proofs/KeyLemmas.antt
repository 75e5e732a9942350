-- The first key that any record has, where a loop over the keys looks for the best of each.
use Rattle.std.proofs.Common.{◌≡◌, ℕ, ◌+◌, ◌<◌, Bool, true, false, ◌&&◌, List, [], ◌∷◌, length, drop, get_or, Option, Some, None, refl, sym, ap, ◌∙◌, subst, add-one, drop-cons}
use Rattle.std.specs.Prelude.{find, if◌then◌else◌, is_some, IfSome, IfNone}
use Rattle.std.specs.List.{list_any}
use Rattle.mas_types.specs.Lists.{is_greatest_of, has_first_key_of}
use Rattle.queue_slots.specs.declared.slots.Found.{Found}
use Rattle.queue_slots.specs.Listed.{listed, StandsFirst}
use Rattle.queue_slots.proofs.Cases.{test_cases}
use Rattle.queue_slots.proofs.Keys.{any-none}

module _ {X : Type 0} where
  any-both : (t q : X → Bool) (xs : List X) (x : X) → find (λ z. t z && q z) xs ≡ Some x → list_any t xs ≡ true
  any-both t q [] x some = absurd (cc)
  any-both t q (y ∷ xs) x some =
      test_cases (t y) (list_any t (y ∷ xs) ≡ true) (λ e. rw e refl) (λ e. rw e (any-both t q xs x (rw e at some)))

  module _ {K : Type 0} (has : K → X → Bool) (t : X → Bool) (xs : List X) where
    -- a key that some have
    key_some : (k : K) (ks : List K) → list_any (λ y. t y && has k y) xs ≡ true → (λ (x : X). t x && has k x) ≡ has_first_key_of has (k ∷ ks) t xs
    key_some k ks e = ap (λ (b : Bool). λ (x : X). if b then t x && has k x else has_first_key_of has ks t xs x) (sym e)

    -- a key that none has
    key_none : (k : K) (ks : List K) → list_any (λ y. t y && has k y) xs ≡ false → has_first_key_of has (k ∷ ks) t xs ≡ has_first_key_of has ks t xs
    key_none k ks e = ap (λ (b : Bool). λ (x : X). if b then t x && has k x else has_first_key_of has ks t xs x) e

    module _ (ks : List K) (i : ℕ) (d : K) (inside : i < length ks) where
      left : drop i ks ≡ get_or ks i d ∷ drop (i + 1) ks
      left = rw (drop-cons ks i d inside, add-one) refl

      pub keys_more : find (λ y. t y && has (get_or ks i d) y) xs ≡ None → has_first_key_of has ks t xs ≡ has_first_key_of has (drop i ks) t xs → has_first_key_of has ks t xs ≡ has_first_key_of has (drop (i + 1) ks) t xs
      keys_more none so_far = so_far ∙ ap (λ (ys : List K). has_first_key_of has ys t xs) left ∙ key_none (get_or ks i d) (drop (i + 1) ks) (any-none (λ y. t y && has (get_or ks i d) y) xs none)

      pub key_found : (number rank : X → ℕ) (slots : List (Option X)) (at : ℕ) (x : X) → has_first_key_of has ks t xs ≡ has_first_key_of has (drop i ks) t xs
          → find (is_greatest_of rank (λ y. t y && has (get_or ks i d) y) xs) xs ≡ Some x
          → StandsFirst number (is_greatest_of rank (λ y. t y && has (get_or ks i d) y) xs) slots at x → StandsFirst number (is_greatest_of rank (has_first_key_of has ks t xs) xs) slots at x
      key_found number rank slots at x so_far found stands =
          let some = any-both (λ y. t y && has (get_or ks i d) y) _ xs x found in
          let same : (λ (y : X). t y && has (get_or ks i d) y) ≡ has_first_key_of has ks t xs = key_some (get_or ks i d) (drop (i + 1) ks) some ∙ ap (λ (ys : List K). has_first_key_of has ys t xs) (sym left) ∙ sym so_far in
          subst (λ (test : X → Bool). StandsFirst number (is_greatest_of rank test xs) slots at x) same stands

    no_key_left : (rank : X → ℕ) (ys : List X) → find (is_greatest_of rank (λ x. false) xs) ys ≡ None
    no_key_left rank [] = refl
    no_key_left rank (y ∷ ys) = no_key_left rank ys

    pub keys_over : (rank : X → ℕ) (ks : List K) (i : ℕ) → drop i ks ≡ [] → has_first_key_of has ks t xs ≡ has_first_key_of has (drop i ks) t xs → find (is_greatest_of rank (has_first_key_of has ks t xs) xs) xs ≡ None
    keys_over rank ks i over so_far =
        let none : (λ (x : X). false) ≡ has_first_key_of has ks t xs = sym (so_far ∙ ap (λ (ys : List K). has_first_key_of has ys t xs) over) in
        subst (λ (test : X → Bool). find (is_greatest_of rank test xs) xs ≡ None) none (no_key_left rank xs)

-- WHAT A LOOP OVER KEYS FINDS

pub not_found : {Y : Type 0} {P : Type 0} (o : Option Y) → is_some o ≡ false → IfNone o P → P
not_found None none h = h
not_found (Some y) none h = absurd (cc)

module _ {X K : Type 0} (has : K → X → Bool) (t : X → Bool) (xs : List X) (ks : List K) (i : ℕ) (d : K) (inside : i < length ks) where
  pub found_by_key : (number rank : X → ℕ) (slots : List (Option X)) → listed number slots ≡ xs → has_first_key_of has ks t xs ≡ has_first_key_of has (drop i ks) t xs → (o : Option (Found X))
      → IfSome o (λ f. StandsFirst number (is_greatest_of rank (λ y. t y && has (get_or ks i d) y) (listed number slots)) slots f.at f.item)
      → IfSome o (λ f. StandsFirst number (is_greatest_of rank (has_first_key_of has ks t xs) xs) slots f.at f.item)
  found_by_key number rank slots is so_far None h = tt
  found_by_key number rank slots is so_far (Some f) h =
      let stands = rw is at h in
      key_found has t xs ks i d inside number rank slots f.at f.item so_far (let w = stands.first in rw is at w) stands

  -- one that goes first of those with this key goes first of those with the first key that any has
  pub any_by_key : (rank : X → ℕ) → has_first_key_of has ks t xs ≡ has_first_key_of has (drop i ks) t xs
      → is_some (find (is_greatest_of rank (λ y. t y && has (get_or ks i d) y) xs) xs) ≡ true → is_some (find (is_greatest_of rank (has_first_key_of has ks t xs) xs) xs) ≡ true
  any_by_key rank so_far h = go (find (is_greatest_of rank (λ y. t y && has (get_or ks i d) y) xs) xs) refl h
    where
      go : (o : Option X) → find (is_greatest_of rank (λ y. t y && has (get_or ks i d) y) xs) xs ≡ o → is_some o ≡ true → is_some (find (is_greatest_of rank (has_first_key_of has ks t xs) xs) xs) ≡ true
      go None is sure = absurd cc
      go (Some x) is sure =
          let same : (λ (y : X). t y && has (get_or ks i d) y) ≡ has_first_key_of has ks t xs =
          key_some has t xs (get_or ks i d) (drop (i + 1) ks) (any-both (λ y. t y && has (get_or ks i d) y) _ xs x is) ∙ ap (λ (ys : List K). has_first_key_of has ys t xs) (sym (left has t xs ks i d inside)) ∙ sym so_far in
          subst (λ (test : X → Bool). is_some (find (is_greatest_of rank test xs) xs) ≡ true) same h

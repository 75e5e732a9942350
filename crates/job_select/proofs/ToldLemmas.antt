-- Whether any is selected, by slots and by the list of which they tell.
use Rattle.std.proofs.Common.{◌≡◌, ℕ, Bool, List, map, Option, Some, None, refl, sym, ap, ◌∙◌}
use Rattle.std.specs.Prelude.{find, is_some, option_map}
use Rattle.mas_types.specs.Lists.{is_greatest_of, has_first_key_of}
use Rattle.queue_slots.specs.Listed.{listed}
use Rattle.queue_slots.specs.Telling.{Tell}
use Rattle.queue_slots.proofs.Alike.{find-alike, is_greatest-map, first_key-map}

pub is_some-map : {A B : Type 0} (f : A → B) (o : Option A) → is_some (option_map f o) ≡ is_some o
is_some-map f None = refl
is_some-map f (Some a) = refl

module _ {A B C : Type 0} (number : A → ℕ) (u : A → C) (v : B → C) (slots : List (Option A)) (items : List B) (tell : Tell number u v slots items) where
  any_first : (p : C → Bool) → is_some (find (λ a. p (u a)) (listed number slots)) ≡ is_some (find (λ b. p (v b)) items)
  any_first p =
      sym (is_some-map u (find (λ a. p (u a)) (listed number slots)))
      ∙ ap is_some (find-alike u v p (listed number slots) items tell)
      ∙ is_some-map v (find (λ b. p (v b)) items)

  module _ (n : C → ℕ) where
    pub any_best : (t : C → Bool) → is_some (find (is_greatest_of (λ a. n (u a)) (λ a. t (u a)) (listed number slots)) (listed number slots))
        ≡ is_some (find (is_greatest_of (λ b. n (v b)) (λ b. t (v b)) items) items)
    any_best t =
        ap (λ (test : A → Bool). is_some (find test (listed number slots))) (sym (is_greatest-map u n t (listed number slots)))
        ∙ any_first (is_greatest_of n t (map u (listed number slots)))
        ∙ ap (λ (test : B → Bool). is_some (find test items))
        (ap (λ (zs : List C). λ (b : B). is_greatest_of n t zs (v b)) tell ∙ is_greatest-map v n t items)

    module _ {K : Type 0} (has : K → C → Bool) (ks : List K) (t : C → Bool) where
      pub any_keyed : is_some (find (is_greatest_of (λ a. n (u a)) (has_first_key_of (λ k a. has k (u a)) ks (λ a. t (u a)) (listed number slots)) (listed number slots)) (listed number slots))
          ≡ is_some (find (is_greatest_of (λ b. n (v b)) (has_first_key_of (λ k b. has k (v b)) ks (λ b. t (v b)) items) items) items)
      any_keyed =
          ap (λ (test : A → Bool). is_some (find (is_greatest_of (λ a. n (u a)) test (listed number slots)) (listed number slots)))
          (sym (first_key-map u has ks t (listed number slots)))
          ∙ any_best (has_first_key_of has ks t (map u (listed number slots)))
          ∙ ap (λ (test : B → Bool). is_some (find (is_greatest_of (λ b. n (v b)) test items) items))
          (ap (λ (zs : List C). λ (b : B). has_first_key_of has ks t zs (v b)) tell ∙ first_key-map v has ks t items)

-- What is found in a list that was changed.
use Rattle.std.proofs.Common.{◌≡◌, Bool, true, false, List, [], ◌∷◌, ◌++◌, map, Some, None, refl}
use Rattle.std.specs.Prelude.{option_map}
use Rattle.std.specs.List.{find, list_any, All}
use Rattle.std.proofs.lemmas.List.Elements.{All-cons, All-head, All-tail, All-nil}
use Rattle.mas_types.specs.Lists.{change_first, without_first, without}

-- cases on a test, with what it gave
pub test_cases : (b : Bool) (P : Type 0) → (b ≡ true → P) → (b ≡ false → P) → P
test_cases true P at_true at_false = at_true refl
test_cases false P at_true at_false = at_false refl

module _ {A : Type 0} where
  -- an item that is found is in the list, and passes the test
  pub find-All : (P : A → Type 0) (p : A → Bool) (xs : List A) (x : A) → All P xs → find p xs ≡ Some x → P x × (p x ≡ true)
  find-All P p [] x all h = absurd (cc)
  find-All P p (y ∷ ys) x all h =
      test_cases (p y) (P x × (p x ≡ true))
      (λ e. let same : y ≡ x = (let w = rw e at h in cc) in rw (← same) (All-head P y ys all, e))
      (λ e. find-All P p ys x (All-tail P y ys all) (rw e at h))

  -- where no item is found, none passes the test
  pub find_none : (p : A → Bool) (xs : List A) → find p xs ≡ None → All (λ x. p x ≡ false) xs
  find_none p [] h = All-nil (λ x. p x ≡ false)
  find_none p (y ∷ ys) h =
      test_cases (p y) (All (λ x. p x ≡ false) (y ∷ ys))
      (λ e. absurd (let w = rw e at h in cc))
      (λ e. All-cons (λ x. p x ≡ false) y ys e (find_none p ys (rw e at h)))

  -- where no item passes the test, each fails it
  pub any_none : (p : A → Bool) (xs : List A) → list_any p xs ≡ false → All (λ x. p x ≡ false) xs
  any_none p [] h = All-nil (λ x. p x ≡ false)
  any_none p (y ∷ ys) h =
      test_cases (p y) (All (λ x. p x ≡ false) (y ∷ ys))
      (λ e. absurd (let w = rw e at h in cc))
      (λ e. All-cons (λ x. p x ≡ false) y ys e (any_none p ys (rw e at h)))

  module _ (p q : A → Bool) where
    -- the item that is sought is the one that is changed
    pub find-change_same : (f : A → A) (xs : List A) → ((x : A) → q x ≡ p x) → ((x : A) → p (f x) ≡ p x) → find p (change_first q f xs) ≡ option_map f (find p xs)
    find-change_same f [] same keeps = refl
    find-change_same f (y ∷ ys) same keeps =
        test_cases (p y) (find p (change_first q f (y ∷ ys)) ≡ option_map f (find p (y ∷ ys)))
        (λ e. rw (same y, e, keeps y, e) refl)
        (λ e. rw (same y, e, e) (find-change_same f ys same keeps))

    -- the item that is changed is another than the one that is sought
    pub find-change_apart : (f : A → A) (xs : List A) → ((x : A) → p x ≡ true → q x ≡ false) → ((x : A) → p (f x) ≡ p x) → find p (change_first q f xs) ≡ find p xs
    find-change_apart f [] apart keeps = refl
    find-change_apart f (y ∷ ys) apart keeps =
        test_cases (p y) (find p (change_first q f (y ∷ ys)) ≡ find p (y ∷ ys))
        (λ e. rw (apart y e, e) refl)
        (λ e. test_cases (q y) (find p (change_first q f (y ∷ ys)) ≡ find p (y ∷ ys))
        (λ d. rw (d, keeps y, e) refl)
        (λ d. rw (d, e) (find-change_apart f ys apart keeps)))

    -- an item other than the one that is sought is taken away
    pub find-without_first : (xs : List A) → ((x : A) → p x ≡ true → q x ≡ false) → find p (without_first q xs) ≡ find p xs
    find-without_first [] apart = refl
    find-without_first (y ∷ ys) apart =
        test_cases (p y) (find p (without_first q (y ∷ ys)) ≡ find p (y ∷ ys))
        (λ e. rw (apart y e, e) refl)
        (λ e. test_cases (q y) (find p (without_first q (y ∷ ys)) ≡ find p (y ∷ ys))
        (λ d. rw (d, e) refl)
        (λ d. rw (d, e) (find-without_first ys apart)))

    -- items other than the one that is sought are taken away
    pub find-without : (xs : List A) → ((x : A) → p x ≡ true → q x ≡ false) → find p (without q xs) ≡ find p xs
    find-without [] apart = refl
    find-without (y ∷ ys) apart =
        test_cases (p y) (find p (without q (y ∷ ys)) ≡ find p (y ∷ ys))
        (λ e. rw (apart y e, e) refl)
        (λ e. test_cases (q y) (find p (without q (y ∷ ys)) ≡ find p (y ∷ ys))
        (λ d. rw (d, e) (find-without ys apart))
        (λ d. rw (d, e) (find-without ys apart)))

  module _ (p : A → Bool) where
    -- all are changed
    pub find-map : (f : A → A) (xs : List A) → ((x : A) → p (f x) ≡ p x) → find p (map f xs) ≡ option_map f (find p xs)
    find-map f [] keeps = refl
    find-map f (y ∷ ys) keeps =
        test_cases (p y) (find p (map f (y ∷ ys)) ≡ option_map f (find p (y ∷ ys)))
        (λ e. rw (keeps y, e) refl)
        (λ e. rw (keeps y, e) (find-map f ys keeps))

    -- what is found in a list is found in the list with more at its end
    pub find-append : (xs ys : List A) (x : A) → find p xs ≡ Some x → find p (xs ++ ys) ≡ Some x
    find-append [] ys x h = absurd (cc)
    find-append (y ∷ zs) ys x h =
        test_cases (p y) (find p ((y ∷ zs) ++ ys) ≡ Some x)
        (λ e. rw e (rw e at h))
        (λ e. rw e (find-append zs ys x (rw e at h)))

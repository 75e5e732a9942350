-- Items by their numbers, and what stands at each after one is changed.
use Rattle.std.proofs.Common.{◌≡◌, ℕ, zero, suc, ◌+◌, ◌<◌, ◌≤◌, Bool, true, false, ◌==◌, List, [], ◌∷◌, ◌++◌, length, Some, None, slice_get, slice_set, refl, ap, sym, subst, arith}
use Rattle.std.specs.List.{AllByRecursion, list_all, enumerate_from}
use Rattle.std.proofs.lemmas.Bool.Decides.{nat_tests}
use Rattle.mas_types.specs.Lists.{change_at}
use Rattle.nje_net.specs.Numbered.{at_or, item, numbered, change_item, all_numbered}
use Rattle.nje_net.proofs.Tests.{and_left, and_right, both_ways}

module _ {A : Type 0} where
  pub change_length : (f : A → A) (i : ℕ) (xs : List A) → length (change_at i f xs) ≡ length xs
  change_length f i [] = refl
  change_length f zero (x ∷ xs) = refl
  change_length f (suc i) (x ∷ xs) = ap suc (change_length f i xs)

  pub item_length : (f : A → A) (n : ℕ) (xs : List A) → length (change_item n f xs) ≡ length xs
  item_length f zero xs = refl
  item_length f (suc i) xs = change_length f i xs

  pub change_past : (f : A → A) (i : ℕ) (xs : List A) → length xs ≤ i → change_at i f xs ≡ xs
  change_past f i [] h = refl
  change_past f zero (x ∷ xs) h = let no : ⊥ = omega arith in absurd no
  change_past f (suc i) (x ∷ xs) h = let past : length xs ≤ i = omega arith in ap (λ ys. x ∷ ys) (change_past f i xs past)

  pub change_found : (f : A → A) (i : ℕ) (xs : List A) (x : A) → slice_get xs i ≡ Some x → change_at i f xs ≡ slice_set xs i (f x)
  change_found f i [] x h = absurd (cc)
  change_found f zero (y ∷ xs) x h = let same : y ≡ x = cc in rw same refl
  change_found f (suc i) (y ∷ xs) x h = ap (λ ys. y ∷ ys) (change_found f i xs x h)

  -- the item of a number, as the code reads and writes it
  pub item_past : (f : A → A) (n : ℕ) (xs : List A) → length xs < n → change_item n f xs ≡ xs
  item_past f zero xs h = let no : ⊥ = omega arith in absurd no
  item_past f (suc i) xs h = let past : length xs ≤ i = omega arith in change_past f i xs past

  pub item_none : (f : A → A) (n : ℕ) (xs : List A) → n ≡ 0 → change_item n f xs ≡ xs
  item_none f n xs h = rw h refl

  pub item_found : (f : A → A) (n i : ℕ) (xs : List A) (x : A) → n ≡ i + 1 → slice_get xs i ≡ Some x → change_item n f xs ≡ slice_set xs i (f x)
  item_found f n i xs x is h = let next : n ≡ suc i = omega arith in rw next (change_found f i xs x h)

  pub set_same : (i : ℕ) (xs : List A) (x : A) → slice_get xs i ≡ Some x → slice_set xs i x ≡ xs
  set_same i [] x h = absurd (cc)
  set_same zero (y ∷ xs) x h = let same : y ≡ x = cc in rw same refl
  set_same (suc i) (y ∷ xs) x h = ap (λ ys. y ∷ ys) (set_same i xs x h)

  pub numbered_none : (n : ℕ) (xs : List A) → n ≡ 0 → numbered n xs ≡ None
  numbered_none n xs h = rw h refl

  pub get_past : (i : ℕ) (xs : List A) → length xs ≤ i → slice_get xs i ≡ None
  get_past i [] h = refl
  get_past zero (x ∷ xs) h = let no : ⊥ = omega arith in absurd no
  get_past (suc i) (x ∷ xs) h = let past : length xs ≤ i = omega arith in get_past i xs past

  pub numbered_past : (n : ℕ) (xs : List A) → length xs < n → numbered n xs ≡ None
  numbered_past zero xs h = refl
  numbered_past (suc i) xs h = let past : length xs ≤ i = omega arith in get_past i xs past

  pub numbered_found : (n i : ℕ) (xs : List A) (x : A) → n ≡ i + 1 → slice_get xs i ≡ Some x → numbered n xs ≡ Some x
  numbered_found n i xs x is h = let next : n ≡ suc i = omega arith in rw next h

  -- one more item at the end changes none before it
  get_push : (i : ℕ) (xs ys : List A) (x : A) → slice_get xs i ≡ Some x → slice_get (xs ++ ys) i ≡ Some x
  get_push i [] ys x h = absurd (cc)
  get_push zero (y ∷ xs) ys x h = h
  get_push (suc i) (y ∷ xs) ys x h = get_push i xs ys x h

  pub numbered_push : (n : ℕ) (xs ys : List A) (x : A) → numbered n xs ≡ Some x → numbered n (xs ++ ys) ≡ Some x
  numbered_push zero xs ys x h = absurd (cc)
  numbered_push (suc i) xs ys x h = get_push i xs ys x h

  get_end : (xs : List A) (x : A) → slice_get (xs ++ x ∷ []) (length xs) ≡ Some x
  get_end [] x = refl
  get_end (y ∷ xs) x = get_end xs x

  pub numbered_end : (n : ℕ) (xs : List A) (x : A) → n ≡ length xs + 1 → numbered n (xs ++ x ∷ []) ≡ Some x
  numbered_end n xs x is = let next : n ≡ suc (length xs) = omega arith in rw next (get_end xs x)

  -- a job has a number
  pub numbered_some : (n : ℕ) (xs : List A) (x : A) → numbered n xs ≡ Some x → n ≡ 0 → ⊥
  numbered_some zero xs x h none = cc
  numbered_some (suc i) xs x h none = cc

  module _ (d : A) where
    pub at_none : (i : ℕ) (xs : List A) → slice_get xs i ≡ None → at_or d i xs ≡ d
    at_none i [] h = refl
    at_none zero (x ∷ xs) h = absurd (cc)
    at_none (suc i) (x ∷ xs) h = at_none i xs h

    pub at_found : (i : ℕ) (xs : List A) (x : A) → slice_get xs i ≡ Some x → at_or d i xs ≡ x
    at_found i [] x h = absurd (cc)
    at_found zero (y ∷ xs) x h = cc
    at_found (suc i) (y ∷ xs) x h = at_found i xs x h

    -- the item of a number, as the code reads it
    pub item_read : (n i : ℕ) (xs : List A) (x : A) → n ≡ i + 1 → slice_get xs i ≡ Some x → item d n xs ≡ x
    item_read n i xs x is h = let next : n ≡ suc i = omega arith in rw next (at_found i xs x h)

    pub item_zero : (n : ℕ) (xs : List A) → n ≡ 0 → item d n xs ≡ d
    item_zero n xs h = rw h refl

    pub item_over : (n : ℕ) (xs : List A) → length xs < n → item d n xs ≡ d
    item_over zero xs h = refl
    item_over (suc i) xs h = let past : length xs ≤ i = omega arith in at_none i xs (get_past i xs past)

    pub item_of_none : (n : ℕ) (xs : List A) → numbered n xs ≡ None → item d n xs ≡ d
    item_of_none zero xs h = refl
    item_of_none (suc i) xs h = at_none i xs h

    pub item_of_some : (n : ℕ) (xs : List A) (x : A) → numbered n xs ≡ Some x → item d n xs ≡ x
    item_of_some zero xs x h = absurd (cc)
    item_of_some (suc i) xs x h = at_found i xs x h

    pub numbered_within : (n : ℕ) (xs : List A) (x : A) → numbered n xs ≡ Some x → (1 ≤ n) × (n ≤ length xs)
    numbered_within zero xs x h = absurd (cc)
    numbered_within (suc i) xs x h = let inside : i < length xs = within i xs x h in (omega arith, omega arith)
      where
        within : (i : ℕ) (xs : List A) (x : A) → slice_get xs i ≡ Some x → i < length xs
        within i [] x h = absurd (cc)
        within zero (y ∷ xs) x h = omega arith
        within (suc i) (y ∷ xs) x h = let inside : i < length xs = within i xs x h in omega arith

    change_kept : (f : A → A) (i : ℕ) (xs : List A) → f d ≡ d → at_or d i (change_at i f xs) ≡ f (at_or d i xs)
    change_kept f i [] h = sym h
    change_kept f zero (x ∷ xs) h = refl
    change_kept f (suc i) (x ∷ xs) h = change_kept f i xs h

    change_other : (f : A → A) (i j : ℕ) (xs : List A) → (j == i) ≡ false → at_or d j (change_at i f xs) ≡ at_or d j xs
    change_other f i j [] h = refl
    change_other f zero zero (x ∷ xs) h = absurd (cc)
    change_other f zero (suc j) (x ∷ xs) h = refl
    change_other f (suc i) zero (x ∷ xs) h = refl
    change_other f (suc i) (suc j) (x ∷ xs) h = let apart : (j == i) ≡ false = grind (arith, nat_tests) in change_other f i j xs apart

    change_same : (f : A → A) (i : ℕ) (xs : List A) → i < length xs → at_or d i (change_at i f xs) ≡ f (at_or d i xs)
    change_same f i [] h = let no : ⊥ = omega arith in absurd no
    change_same f zero (x ∷ xs) h = refl
    change_same f (suc i) (x ∷ xs) h = let inside : i < length xs = omega arith in change_same f i xs inside

    -- a change that leaves what stands for an item that isn't there
    pub item_kept : (f : A → A) (n : ℕ) (xs : List A) → f d ≡ d → item d n (change_item n f xs) ≡ f (item d n xs)
    item_kept f zero xs h = sym h
    item_kept f (suc i) xs h = change_kept f i xs h

    pub item_other : (f : A → A) (n m : ℕ) (xs : List A) → (m == n) ≡ false → item d m (change_item n f xs) ≡ item d m xs
    item_other f zero m xs h = refl
    item_other f (suc i) zero xs h = refl
    item_other f (suc i) (suc j) xs h = let apart : (j == i) ≡ false = grind (arith, nat_tests) in change_other f i j xs apart

    pub item_same : (f : A → A) (n : ℕ) (xs : List A) → 1 ≤ n → n ≤ length xs → item d n (change_item n f xs) ≡ f (item d n xs)
    item_same f zero xs some inside = let no : ⊥ = omega arith in absurd no
    item_same f (suc i) xs some inside = let within : i < length xs = omega arith in change_same f i xs within

    -- an item that passes a test that what stands for none doesn't
    pub item_within : (test : A → Bool) → test d ≡ true → (n : ℕ) (xs : List A) → test (item d n xs) ≡ false → (1 ≤ n) × (n ≤ length xs)
    item_within test none zero xs h = both_ways (test d) none h
    item_within test none (suc i) xs h = let inside : i < length xs = within i xs h in (omega arith, omega arith)
      where
        within : (i : ℕ) (xs : List A) → test (at_or d i xs) ≡ false → i < length xs
        within i [] h = both_ways (test d) none h
        within zero (x ∷ xs) h = omega arith
        within (suc i) (x ∷ xs) h = let inside : i < length xs = within i xs h in omega arith

    all_at_or : (P : A → Type 0) → P d → (i : ℕ) (xs : List A) → AllByRecursion P xs → P (at_or d i xs)
    all_at_or P none i [] all = none
    all_at_or P none zero (x ∷ xs) all = all.0
    all_at_or P none (suc i) (x ∷ xs) all = all_at_or P none i xs all.1

    -- what holds of each item, and of what stands for none
    pub all_item : (P : A → Type 0) → P d → (n : ℕ) (xs : List A) → AllByRecursion P xs → P (item d n xs)
    all_item P none zero xs all = none
    all_item P none (suc i) xs all = all_at_or P none i xs all

    all_from : (test : ℕ → A → Bool) (k i : ℕ) (xs : List A) → i < length xs → list_all (λ p. test (p.0 + 1) p.1) (enumerate_from k xs) ≡ true
        → test (k + i + 1) (at_or d i xs) ≡ true
    all_from test k i [] inside h = let no : ⊥ = omega arith in absurd no
    all_from test k zero (x ∷ xs) inside h =
        let here : k + 1 ≡ k + zero + 1 = omega arith in
        subst (λ (m : ℕ). test m x ≡ true) here (and_left (test (k + 1) x) _ h)
    all_from test k (suc i) (x ∷ xs) inside h =
        let later : (k + 1) + i + 1 ≡ k + suc i + 1 = omega arith in
        let within : i < length xs = omega arith in
        subst (λ (m : ℕ). test m (at_or d i xs) ≡ true) later (all_from test (k + 1) i xs within (and_right (test (k + 1) x) _ h))

    pub all_numbered_at : (test : ℕ → A → Bool) (n : ℕ) (xs : List A) → all_numbered test xs ≡ true → 1 ≤ n → n ≤ length xs → test n (item d n xs) ≡ true
    all_numbered_at test zero xs h some inside = let no : ⊥ = omega arith in absurd no
    all_numbered_at test (suc i) xs h some inside =
        let within : i < length xs = omega arith in
        let here : 0 + i + 1 ≡ suc i = omega arith in
        subst (λ (m : ℕ). test m (at_or d i xs) ≡ true) here (all_from test 0 i xs within h)

  -- a change of one item keeps what holds of each
  pub all_change : (P : A → Type 0) (f : A → A) → ((x : A) → P x → P (f x)) → (i : ℕ) (xs : List A) → AllByRecursion P xs → AllByRecursion P (change_at i f xs)
  all_change P f keeps i [] all = tt
  all_change P f keeps zero (x ∷ xs) all = (keeps x all.0, all.1)
  all_change P f keeps (suc i) (x ∷ xs) all = (all.0, all_change P f keeps i xs all.1)

  pub all_change_item : (P : A → Type 0) (f : A → A) → ((x : A) → P x → P (f x)) → (n : ℕ) (xs : List A) → AllByRecursion P xs → AllByRecursion P (change_item n f xs)
  all_change_item P f keeps zero xs all = all
  all_change_item P f keeps (suc i) xs all = all_change P f keeps i xs all

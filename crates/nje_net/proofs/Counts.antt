-- How many items of a list a test picks, and how many jobs of all nodes.
use Rattle.std.proofs.Common.{◌≡◌, ℕ, zero, suc, ◌+◌, ◌<◌, ◌≤◌, Bool, true, false, ◌==◌, List, [], ◌∷◌, ◌++◌, length, refl, ap, arith}
use Rattle.std.specs.List.{list_any, filter}
use Rattle.mas_types.specs.Fit.{AreDistinct}
use Rattle.mas_types.specs.Lists.{change_first, without_first}
use Rattle.nje_net.specs.Numbered.{at_or}
use Rattle.std.proofs.lemmas.Bool.Decides.{nat_tests}
use Rattle.nje_net.proofs.Tests.{test_cases, neither, is_itself}

abbrev pub one_if : Bool → ℕ
one_if true = 1
one_if false = 0

module _ {A : Type 0} where
  abbrev pub count : (A → Bool) → List A → ℕ
  count p [] = 0
  count p (x ∷ xs) = one_if (p x) + count p xs

  pub count_same : (p q : A → Bool) → ((x : A) → p x ≡ q x) → (xs : List A) → count p xs ≡ count q xs
  count_same p q same [] = refl
  count_same p q same (x ∷ xs) = rw (same x) (ap (λ (n : ℕ). one_if (q x) + n) (count_same p q same xs))

  pub count_push : (p : A → Bool) (xs : List A) (y : A) → count p (xs ++ y ∷ []) ≡ count p xs + one_if (p y)
  count_push p [] y = omega arith
  count_push p (x ∷ xs) y = let more = count_push p xs y in omega arith

  -- two tests that never pick the same item pick together as many as a third
  pub count_sum : (p q r : A → Bool) → ((x : A) → one_if (p x) + one_if (q x) ≡ one_if (r x)) → (xs : List A) → count p xs + count q xs ≡ count r xs
  count_sum p q r each [] = refl
  count_sum p q r each (x ∷ xs) = let here = each x in let rest = count_sum p q r each xs in omega arith

  -- an item that the test picks is changed into one that counts as before
  pub count_changed : (p test : A → Bool) (f : A → A) → ((x : A) → test x ≡ true → p (f x) ≡ p x) → (xs : List A)
      → count p (change_first test f xs) ≡ count p xs
  count_changed p test f same [] = refl
  count_changed p test f same (x ∷ xs) =
      test_cases (test x) (count p (change_first test f (x ∷ xs)) ≡ count p (x ∷ xs))
      (λ e. rw e (ap (λ (b : Bool). one_if b + count p xs) (same x e)))
      (λ e. rw e (ap (λ (n : ℕ). one_if (p x) + n) (count_changed p test f same xs)))

  -- where nothing is picked, nothing counts
  pub count_none : (p : A → Bool) (xs : List A) → list_any p xs ≡ false → count p xs ≡ 0
  count_none p [] h = refl
  count_none p (x ∷ xs) h = let parts = neither (p x) (list_any p xs) h in let rest = count_none p xs parts.1 in rw parts.0 (omega arith)

  pub count_weaker : (p q : A → Bool) → ((x : A) → q x ≡ false → p x ≡ false) → (xs : List A) → list_any q xs ≡ false → count p xs ≡ 0
  count_weaker p q weaker [] h = refl
  count_weaker p q weaker (x ∷ xs) h =
      let parts = neither (q x) (list_any q xs) h in
      let rest = count_weaker p q weaker xs parts.1 in
      rw (weaker x parts.0) (omega arith)

  -- the first that the test picks goes, which didn't count, where the others count as before
  pub count_without : (p q test : A → Bool) → ((x : A) → test x ≡ true → p x ≡ false) → ((x : A) → test x ≡ false → q x ≡ p x) → (xs : List A)
      → length (filter test xs) ≤ 1 → count q (without_first test xs) ≡ count p xs
  count_without p q test gone others [] one = refl
  count_without p q test gone others (x ∷ xs) one =
      test_cases (test x) (count q (without_first test (x ∷ xs)) ≡ count p (x ∷ xs))
      (λ e.
      let few = rw e at one in
      let rest = no_more p q test others xs (omega arith) in
      rw (e, gone x e) (omega arith))
      (λ e.
      let few = rw e at one in
      rw (e, others x e) (ap (λ (n : ℕ). one_if (p x) + n) (count_without p q test gone others xs few)))
    where
      no_more : (p q test : A → Bool) → ((x : A) → test x ≡ false → q x ≡ p x) → (xs : List A) → length (filter test xs) ≤ 0 → count q xs ≡ count p xs
      no_more p q test others [] none = refl
      no_more p q test others (x ∷ xs) none =
          test_cases (test x) (count q (x ∷ xs) ≡ count p (x ∷ xs))
          (λ e. let few = rw e at none in let no : ⊥ = omega arith in absurd no)
          (λ e.
          let few = rw e at none in
          rw (others x e) (ap (λ (n : ℕ). one_if (p x) + n) (no_more p q test others xs few)))

  pub filter_changed : (p test : A → Bool) (f : A → A) → ((x : A) → test x ≡ true → (p x ≡ false) × (p (f x) ≡ false)) → (xs : List A)
      → filter p (change_first test f xs) ≡ filter p xs
  filter_changed p test f none [] = refl
  filter_changed p test f none (x ∷ xs) =
      test_cases (test x) (filter p (change_first test f (x ∷ xs)) ≡ filter p (x ∷ xs))
      (λ e. rw (e, (none x e).0, (none x e).1) refl)
      (λ e.
      test_cases (p x) (filter p (change_first test f (x ∷ xs)) ≡ filter p (x ∷ xs))
      (λ k. rw (e, k) (ap (λ (ys : List A). x ∷ ys) (filter_changed p test f none xs)))
      (λ k. rw (e, k) (filter_changed p test f none xs)))

  pub filter_without : (p test : A → Bool) → ((x : A) → test x ≡ true → p x ≡ false) → (xs : List A) → filter p (without_first test xs) ≡ filter p xs
  filter_without p test none [] = refl
  filter_without p test none (x ∷ xs) =
      test_cases (test x) (filter p (without_first test (x ∷ xs)) ≡ filter p (x ∷ xs))
      (λ e. rw (e, none x e) refl)
      (λ e.
      test_cases (p x) (filter p (without_first test (x ∷ xs)) ≡ filter p (x ∷ xs))
      (λ k. rw (e, k) (ap (λ (ys : List A). x ∷ ys) (filter_without p test none xs)))
      (λ k. rw (e, k) (filter_without p test none xs)))

  -- the only one that the test picks is the one that goes
  pub filter_gone : (test : A → Bool) (xs : List A) → length (filter test xs) ≤ 1 → filter test (without_first test xs) ≡ []
  filter_gone test [] one = refl
  filter_gone test (x ∷ xs) one =
      test_cases (test x) (filter test (without_first test (x ∷ xs)) ≡ [])
      (λ e. let few = rw e at one in rw e (empty (filter test xs) (omega arith)))
      (λ e. let few = rw e at one in rw (e, e) (filter_gone test xs few))
    where
      empty : (ys : List A) → length ys ≤ 0 → ys ≡ []
      empty [] h = refl
      empty (y ∷ ys) h = let no : ⊥ = omega arith in absurd no

  pub filter_push : (p : A → Bool) (xs : List A) (y : A) → p y ≡ false → filter p (xs ++ y ∷ []) ≡ filter p xs
  filter_push p [] y h = rw h refl
  filter_push p (x ∷ xs) y h =
      test_cases (p x) (filter p ((x ∷ xs) ++ y ∷ []) ≡ filter p (x ∷ xs))
      (λ e. rw e (ap (λ (ys : List A). x ∷ ys) (filter_push p xs y h)))
      (λ e. rw e (filter_push p xs y h))

  -- items of which none counts twice are distinct
  pub distinct : (name : A → ℕ) (xs : List A) → ((n : ℕ) → count (λ x. name x == n) xs ≤ 1) → AreDistinct (λ x y. name y == name x) xs
  distinct name [] once = tt
  distinct name (x ∷ xs) once = (
    test_cases (list_any (λ y. name y == name x) xs) (list_any (λ y. name y == name x) xs ≡ false)
        (λ e.
        let some = counted (λ y. name y == name x) xs e in
        let here : one_if (name x == name x) ≡ 1 = rw (is_itself (name x)) refl in
        let all = once (name x) in
        let no : ⊥ = omega arith in
        absurd no)
        (λ e. e),
    distinct name xs (λ n. let all = once n in omega arith),
  )
    where
      counted : (p : A → Bool) (xs : List A) → list_any p xs ≡ true → 1 ≤ count p xs
      counted p [] h = absurd (cc)
      counted p (x ∷ xs) h =
          test_cases (p x) (1 ≤ count p (x ∷ xs))
          (λ e. rw e (omega arith))
          (λ e. let rest = rw e at h in let some = counted p xs rest in omega arith)

-- OVER ALL NODES

later : (j : ℕ) → (suc j == zero) ≡ false
later j = grind (arith, nat_tests)

earlier : (k : ℕ) → (zero == suc k) ≡ false
earlier k = grind (arith, nat_tests)

module _ {A : Type 0} where
  -- how many items of all lists their tests pick
  abbrev pub total : (ℕ → A → Bool) → List (List A) → ℕ
  total p [] = 0
  total p (xs ∷ rest) = count (p zero) xs + total (λ (j : ℕ). p (suc j)) rest

  pub total_same : (p q : ℕ → A → Bool) (xs ys : List (List A)) → length xs ≡ length ys
      → ((j : ℕ) → count (q j) (at_or [] j ys) ≡ count (p j) (at_or [] j xs)) → total q ys ≡ total p xs
  total_same p q [] [] long each = refl
  total_same p q [] (y ∷ ys) long each = let no : ⊥ = omega arith in absurd no
  total_same p q (x ∷ xs) [] long each = let no : ⊥ = omega arith in absurd no
  total_same p q (x ∷ xs) (y ∷ ys) long each =
      let here : count (q zero) y ≡ count (p zero) x = each zero in
      let same_length : length xs ≡ length ys = omega arith in
      let rest = total_same (λ (j : ℕ). p (suc j)) (λ (j : ℕ). q (suc j)) xs ys same_length (λ j. each (suc j)) in
      omega arith

  -- one list counts for more or less than before
  pub total_changed : (k a b : ℕ) (p q : ℕ → A → Bool) (xs ys : List (List A)) → length xs ≡ length ys → k < length xs
      → ((j : ℕ) → (j == k) ≡ false → count (q j) (at_or [] j ys) ≡ count (p j) (at_or [] j xs))
      → a + count (q k) (at_or [] k ys) ≡ b + count (p k) (at_or [] k xs)
      → a + total q ys ≡ b + total p xs
  total_changed k a b p q [] ys long inside others here = let no : ⊥ = omega arith in absurd no
  total_changed k a b p q (x ∷ xs) [] long inside others here = let no : ⊥ = omega arith in absurd no
  total_changed zero a b p q (x ∷ xs) (y ∷ ys) long inside others here =
      let same_length : length xs ≡ length ys = omega arith in
      let rest = total_same (λ (j : ℕ). p (suc j)) (λ (j : ℕ). q (suc j)) xs ys same_length (λ j. others (suc j) (later j)) in
      let first : a + count (q zero) y ≡ b + count (p zero) x = here in
      omega arith
  total_changed (suc k) a b p q (x ∷ xs) (y ∷ ys) long inside others here =
      let first : count (q zero) y ≡ count (p zero) x = others zero (earlier k) in
      let same_length : length xs ≡ length ys = omega arith in
      let within : k < length xs = omega arith in
      let rest = total_changed k a b (λ (j : ℕ). p (suc j)) (λ (j : ℕ). q (suc j)) xs ys same_length within
      (λ j apart. others (suc j) (apart_too j k apart)) here in
      omega arith
    where
      apart_too : (j k : ℕ) → (j == k) ≡ false → (suc j == suc k) ≡ false
      apart_too j k h = grind (arith, nat_tests)

  -- where no list has an item that the test picks, none counts
  pub total_none : (p : ℕ → A → Bool) (test : A → Bool) → ((j : ℕ) (x : A) → test x ≡ false → p j x ≡ false) → (xs : List (List A))
      → list_any (list_any test) xs ≡ false → total p xs ≡ 0
  total_none p test weaker [] h = refl
  total_none p test weaker (x ∷ xs) h =
      let parts = neither (list_any test x) (list_any (list_any test) xs) h in
      let here = count_weaker (p zero) test (weaker zero) x parts.0 in
      let rest = total_none (λ (j : ℕ). p (suc j)) test (λ j. weaker (suc j)) xs parts.1 in
      omega arith

-- A stable sort by a number gives the items in ascending number, those of one number in their order.
use Rattle.std.proofs.Common.{◌≡◌, ℕ, suc, ◌<◌, ◌≤◌, Bool, true, false, List, [], ◌∷◌, refl, sym, ap, ◌∙◌, arith}
use Rattle.std.specs.Prelude.{nat_le, filter, ◌==◌}
use Rattle.std.specs.List.{All}
use Rattle.std.specs.Ordering.{nat_cmp, is_lt}
use Rattle.std.specs.List.Sorted.{ties, IsSortedByKey, IsStableByKey, IsSortedByKeyClosure, IsStableByKeyClosure, IsNonDecreasingBy}
use Rattle.std.specs.Fn.{Called}
use Rattle.std.proofs.lemmas.Fn.{always_returns_same}
use denote.Ref.{Bor}
use denote.Param.Members.{Mut}
use Rattle.std.proofs.lemmas.List.Sorted.{IsNonDecreasingBy-from_sort}
use Rattle.std.proofs.lemmas.List.Elements.{All-cons, All-head, All-tail, All-nil, All-weaker, All-filter, filter_agree}
use Rattle.std.proofs.lemmas.Bool.{le-leb, lt-leb}
use Rattle.std.proofs.lemmas.Bool.Decides.{nat_tests}
use Rattle.mas_types.specs.Sorted.{insert_by, in_order}

test_cases : (b : Bool) (P : Type 0) → (b ≡ true → P) → (b ≡ false → P) → P
test_cases true P at_true at_false = at_true refl
test_cases false P at_true at_false = at_false refl

module _ {X : Type 0} (key : X → ℕ) where
  -- the keys don't fall
  abbrev pub Rises : List X → Type 0
  Rises [] = Unit {0}
  Rises (x ∷ xs) = All (λ y. key x ≤ key y) xs × Rises xs

  abbrev tied : X → X → Bool
  tied x y = key x == key y

  pub insert_by-before : (x y : X) (ys : List X) → key x ≤ key y → insert_by key x (y ∷ ys) ≡ x ∷ y ∷ ys
  insert_by-before x y ys h = rw (le-leb (key x) (key y) h) refl

  pub insert_by-after : (x y : X) (ys : List X) → key y < key x → insert_by key x (y ∷ ys) ≡ y ∷ insert_by key x ys
  insert_by-after x y ys h = rw (lt-leb (key x) (key y) h) refl

  pub All-insert_by : (P : X → Type 0) (x : X) (ys : List X) → P x → All P ys → All P (insert_by key x ys)
  All-insert_by P x [] here all = All-cons P x [] here all
  All-insert_by P x (y ∷ ys) here all =
      test_cases (nat_le (key x) (key y)) (All P (insert_by key x (y ∷ ys)))
      (λ e. rw e (All-cons P x (y ∷ ys) here all))
      (λ e. rw e (All-cons P y (insert_by key x ys) (All-head P y ys all) (All-insert_by P x ys here (All-tail P y ys all))))

  Rises-insert_by : (x : X) (ys : List X) → Rises ys → Rises (insert_by key x ys)
  Rises-insert_by x [] up = (All-nil (λ y. key x ≤ key y), tt)
  Rises-insert_by x (y ∷ ys) up =
      test_cases (nat_le (key x) (key y)) (Rises (insert_by key x (y ∷ ys)))
      (λ e. let low : key x ≤ key y = grind (arith, nat_tests) in
      rw e (All-cons (λ z. key x ≤ key z) y ys low (All-weaker (λ z. key y ≤ key z) (λ z. key x ≤ key z) (λ z h. omega arith) ys up.0), up))
      (λ e. let high : key y ≤ key x = grind (arith, nat_tests) in
      rw e (All-insert_by (λ z. key y ≤ key z) x ys high up.0, Rises-insert_by x ys up.1))

  pub Rises-in_order : (xs : List X) → Rises (in_order key xs)
  Rises-in_order [] = tt
  Rises-in_order (x ∷ xs) = Rises-insert_by x (in_order key xs) (Rises-in_order xs)

  filter-cons : (p : X → Bool) (x : X) (xs ys : List X) → filter p xs ≡ filter p ys → filter p (x ∷ xs) ≡ filter p (x ∷ ys)
  filter-cons p x xs ys h =
      test_cases (p x) (filter p (x ∷ xs) ≡ filter p (x ∷ ys)) (λ e. rw e (ap (λ zs. x ∷ zs) h)) (λ e. rw e h)

  filter-swap : (t x y : X) (zs ys : List X) → key y < key x → filter (tied t) zs ≡ filter (tied t) (x ∷ ys) → filter (tied t) (y ∷ zs) ≡ filter (tied t) (x ∷ y ∷ ys)
  filter-swap t x y zs ys below same =
      test_cases (tied t y) (filter (tied t) (y ∷ zs) ≡ filter (tied t) (x ∷ y ∷ ys))
      (λ e. let other : tied t x ≡ false = grind (arith, nat_tests) in rw (e, other) (ap (λ us. y ∷ us) (rw other at same)))
      (λ e. rw e same)

  -- an item goes in front of those of its key
  filter-insert_by : (t x : X) (ys : List X) → filter (tied t) (insert_by key x ys) ≡ filter (tied t) (x ∷ ys)
  filter-insert_by t x [] = refl
  filter-insert_by t x (y ∷ ys) =
      test_cases (nat_le (key x) (key y)) (filter (tied t) (insert_by key x (y ∷ ys)) ≡ filter (tied t) (x ∷ y ∷ ys))
      (λ e. rw e refl)
      (λ e. rw e (filter-swap t x y (insert_by key x ys) ys (grind (arith, nat_tests)) (filter-insert_by t x ys)))

  filter-in_order : (t : X) (xs : List X) → filter (tied t) (in_order key xs) ≡ filter (tied t) xs
  filter-in_order t [] = refl
  filter-in_order t (x ∷ xs) =
      filter-insert_by t x (in_order key xs) ∙ filter-cons (tied t) x (in_order key xs) xs (filter-in_order t xs)

  tied-self : (x : X) → tied x x ≡ true
  tied-self x = grind (arith, nat_tests)

  -- a list that has an item begins with no greater one
  first_le : (x y : X) (xs ys : List X) → Rises (y ∷ ys) → filter (tied x) (x ∷ xs) ≡ filter (tied x) (y ∷ ys) → key y ≤ key x
  first_le x y xs ys up same =
      let P = λ (z : X). key y ≤ key z in
      let all : All P (y ∷ ys) = All-cons P y ys (omega arith) up.0 in
      let picked : All P (filter (tied x) (y ∷ ys)) = All-filter (tied x) P (y ∷ ys) all in
      let here = rw (← same, tied-self x) at picked in
      All-head P x (filter (tied x) xs) here

  -- lists that rise are equal where those of each key are
  same_order : (xs ys : List X) → Rises xs → Rises ys → ((t : X) → filter (tied t) xs ≡ filter (tied t) ys) → xs ≡ ys
  same_order [] [] up down same = refl
  same_order [] (y ∷ ys) up down same = absurd (let w = rw (tied-self y) at (same y) in cc)
  same_order (x ∷ xs) [] up down same = absurd (let w = rw (tied-self x) at (same x) in cc)
  same_order (x ∷ xs) (y ∷ ys) up down same =
      let low : key y ≤ key x = first_le x y xs ys down (same x) in
      let high : key x ≤ key y = first_le y x ys xs up (sym (same y)) in
      let both : tied x y ≡ true = grind (arith, nat_tests) in
      let w = rw (tied-self x, both) at (same x) in
      let first : x ≡ y = cc in
      let rest : (t : X) → filter (tied t) xs ≡ filter (tied t) ys = λ t. tails t low high (same t) in
      let after : xs ≡ ys = same_order xs ys up.1 down.1 rest in
      cc
    where
      tails : (t : X) → key y ≤ key x → key x ≤ key y → filter (tied t) (x ∷ xs) ≡ filter (tied t) (y ∷ ys) → filter (tied t) xs ≡ filter (tied t) ys
      tails t low high h =
          test_cases (tied t x) (filter (tied t) xs ≡ filter (tied t) ys)
          (λ e. let other : tied t y ≡ true = grind (arith, nat_tests) in let w = rw (e, other) at h in cc)
          (λ e. let other : tied t y ≡ false = grind (arith, nat_tests) in rw (e, other) at h)

  -- a list that rises stays as it is
  pub in_order-Rises : (xs : List X) → Rises xs → in_order key xs ≡ xs
  in_order-Rises xs up = same_order (in_order key xs) xs (Rises-in_order xs) up (λ t. filter-in_order t xs)

  Rises-from : (xs : List X) → IsNonDecreasingBy key xs → Rises xs
  Rises-from [] up = tt
  Rises-from (x ∷ xs) up = (λ k d h. up 0 (suc k) d (omega arith) (omega arith), Rises-from xs (λ i j d h w. up (suc i) (suc j) d (omega arith) (omega arith)))

  -- what a stable sort by the number leaves
  pub in_order_from_sort : (xs ys : List X) → IsSortedByKey key nat_cmp ys → IsStableByKey key nat_cmp xs ys → ys ≡ in_order key xs
  in_order_from_sort xs ys sorted stable =
      same_order ys (in_order key xs) (Rises-from ys (IsNonDecreasingBy-from_sort key ys sorted)) (Rises-in_order xs)
      (λ t. same_ties t ys ∙ stable t ∙ sym (same_ties t xs) ∙ sym (filter-in_order t xs))
    where
      same_ties : (t : X) (zs : List X) → filter (tied t) zs ≡ filter (ties (λ x y. is_lt (nat_cmp (key x) (key y))) t) zs
      same_ties t zs = filter_agree (tied t) (ties (λ x y. is_lt (nat_cmp (key x) (key y))) t) (λ x. grind (arith, nat_tests)) zs

  -- the clauses of `sort_by_key` give the list in order, where each call gives the number of the item
  pub in_order_from_sort_by_key : {F : Type 0} {g : Mut F (Bor X × Unit {0}) ℕ} {f : F} (xs ys : List X)
      → IsSortedByKeyClosure g nat_cmp f ys → IsStableByKeyClosure g nat_cmp f xs ys
      → ((a : Bor X × Unit {0}) (r : ℕ) (f' : F) → Called g f a r f' → (r ≡ key a.0.now) × (f' ≡ f)) → ys ≡ in_order key xs
  in_order_from_sort_by_key {g = g} {f = f} xs ys sorted stable gives =
      let computes = always_returns_same g (λ a r. r ≡ key a.0.now) f gives in
      in_order_from_sort xs ys (sorted key computes) (stable key computes)

-- Loops that go over a list and write its items: what is done so far, and what is left.
use Rattle.std.proofs.Common.{◌≡◌, ℕ, ◌+◌, ◌<◌, Bool, true, false, List, [], ◌∷◌, ◌++◌, length, get_or, set, map, take, drop, refl, arith, add-one, append_assoc, drop-cons}
use Rattle.std.specs.Prelude.{count_by}
use Rattle.std.proofs.lemmas.List.{take_more_set, drop-set-lt}
use Rattle.std.proofs.lemmas.List.Sums.{sum_by-cons, sum_by-append}
use Rattle.std.specs.Prelude.{if◌then◌else◌}

-- cases on a test, with what it gave
pub test_cases : (b : Bool) (P : Type 0) → (b ≡ true → P) → (b ≡ false → P) → P
test_cases true P at_true at_false = at_true refl
test_cases false P at_true at_false = at_false refl

module _ {A : Type 0} (p : A → Bool) (x : A) (xs : List A) where
  pub count_by-cons_yes : p x ≡ true → count_by p (x ∷ xs) ≡ 1 + count_by p xs
  count_by-cons_yes h = rw (sum_by-cons (λ y. if p y then 1 else 0) x xs, h) refl

  pub count_by-cons_no : p x ≡ false → count_by p (x ∷ xs) ≡ count_by p xs
  count_by-cons_no h = rw (sum_by-cons (λ y. if p y then 1 else 0) x xs, h) (omega arith)

  -- the item stands before or behind
  pub count_by-either : (ys : List A) → count_by p (ys ++ x ∷ []) + count_by p xs ≡ count_by p ys + count_by p (x ∷ xs)
  count_by-either ys = rw (sum_by-append (λ y. if p y then 1 else 0) ys (x ∷ []), sum_by-cons (λ y. if p y then 1 else 0) x xs, sum_by-cons (λ y. if p y then 1 else 0) x []) (omega arith)

  pub count_by-push_no : p x ≡ false → count_by p (xs ++ x ∷ []) ≡ count_by p xs
  count_by-push_no h = rw (sum_by-append (λ y. if p y then 1 else 0) xs (x ∷ []), h) (omega arith)

module _ {A : Type 0} (zs : List A) (i : ℕ) (inside : i < length zs) where
  -- what is left begins with the item
  pub drop_here : (d : A) → drop i zs ≡ get_or zs i d ∷ drop (i + 1) zs
  drop_here d = rw (drop-cons zs i d inside, add-one) refl

  -- an item that is written
  pub write_more : (v : A) (ys : List A) → take (i + 1) (set zs i v) ++ ys ≡ take i zs ++ (v ∷ ys)
  write_more v ys = rw (take_more_set zs i v inside) (append_assoc (take i zs) (v ∷ []) ys)

  -- what is left after an item that is written
  pub drop_more : (v : A) → drop (i + 1) (set zs i v) ≡ drop (i + 1) zs
  drop_more v = drop-set-lt (i + 1) zs i v (omega arith)

  -- each item is changed, and those before i are so already
  pub map_here : (f : A → A) (all : List A) (v d : A) → take i zs ++ map f (drop i zs) ≡ all → v ≡ f (get_or zs i d) → take (i + 1) (set zs i v) ++ map f (drop (i + 1) (set zs i v)) ≡ all
  map_here f all v d so_far is =
      let so = rw (drop_here d) at so_far in
      rw (drop_more v, write_more v (map f (drop (i + 1) zs)), is) so

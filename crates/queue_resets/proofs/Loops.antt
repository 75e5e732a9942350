-- Loops that go over a list and write its items.
use Rattle.std.proofs.Common.{◌≡◌, ℕ, ◌+◌, ◌<◌, List, [], ◌∷◌, ◌++◌, length, get_or, set, map, take, drop, refl, arith, add-one, append_assoc, drop-cons}
use Rattle.std.proofs.lemmas.List.{take_more_set, drop-set-lt}

module _ {A : Type 0} (zs : List A) (i : ℕ) (inside : i < length zs) where
  -- what is left begins with the item
  pub drop_here : (d : A) → drop i zs ≡ get_or zs i d ∷ drop (i + 1) zs
  drop_here d = rw (drop-cons zs i d inside, add-one) refl

  -- an item that is written
  pub write_more : (v : A) (ys : List A) → take (i + 1) (set zs i v) ++ ys ≡ take i zs ++ (v ∷ ys)
  write_more v ys = rw (take_more_set zs i v inside) (append_assoc (take i zs) (v ∷ []) ys)

  -- what is left after an item that is written
  pub drop_more : (v : A) → drop (i + 1) (set zs i v) ≡ drop (i + 1) zs
  drop_more v = drop-set-lt (i + 1) zs i v (omega arith)

  -- each item is changed, and those before i are so already
  pub map_here : (f : A → A) (all : List A) (v d : A) → take i zs ++ map f (drop i zs) ≡ all → v ≡ f (get_or zs i d) → take (i + 1) (set zs i v) ++ map f (drop (i + 1) (set zs i v)) ≡ all
  map_here f all v d so_far is =
      let so = rw (drop_here d) at so_far in
      rw (drop_more v, write_more v (map f (drop (i + 1) zs)), is) so

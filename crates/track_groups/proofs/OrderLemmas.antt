-- The groups of a text are its own, and their places ascend.
use Rattle.std.proofs.Common.{◌≡◌, ℕ, zero, suc, ◌+◌, ◌≤◌, List, [], ◌∷◌, map, drop, drop-drop, refl, ap, arith, Some, slice_get}
use Rattle.std.specs.Prelude.{nat_le}
use Rattle.std.specs.List.{All}
use Rattle.std.specs.List.Sorted.{IsPermutation, IsNonDecreasingBy}
use Rattle.std.proofs.lemmas.List.Sorted.{IsPermutation-refl, IsPermutation-cons, IsPermutation-trans, IsPermutation-sym, IsPermutation-middle, IsPermutation-map, All-permutation}
use Rattle.std.proofs.lemmas.List.Elements.{All-cons, All-head, All-tail, All-nil, All-map}
use Rattle.mas_types.specs.declared.queues.Owner.{Owner}
use Rattle.mas_types.specs.declared.queues.Thing.{Thing}
use Rattle.track_groups.specs.declared.places.Placed.{Placed}
use Rattle.track_groups.specs.Groups.{is_things, groups_where}
use Rattle.track_groups.specs.Places.{place_of, place_in, placed_from, groups_of}
use Rattle.mas_types.specs.Sorted.{insert_by, in_order}
use Rattle.track_groups.proofs.Walks.{test_cases}
use Rattle.mas_types.proofs.Sorting.{Rises, Rises-in_order}

module _ {X : Type 0} (key : X → ℕ) where
  -- an item put in by its key gives the same items in another order
  insert_by-permutes : (x : X) (ys : List X) → IsPermutation (x ∷ ys) (insert_by key x ys)
  insert_by-permutes x [] = IsPermutation-refl (x ∷ [])
  insert_by-permutes x (y ∷ ys) =
      test_cases (nat_le (key x) (key y)) (IsPermutation (x ∷ y ∷ ys) (insert_by key x (y ∷ ys)))
      (λ e. rw e (IsPermutation-refl (x ∷ y ∷ ys)))
      (λ e. rw e (IsPermutation-trans (x ∷ y ∷ ys) (y ∷ x ∷ ys) (y ∷ insert_by key x ys)
      (IsPermutation-sym (y ∷ x ∷ ys) (x ∷ y ∷ ys) (IsPermutation-middle (y ∷ []) x ys))
      (IsPermutation-cons y (x ∷ ys) (insert_by key x ys) (insert_by-permutes x ys))))

  in_order-permutes : (xs : List X) → IsPermutation xs (in_order key xs)
  in_order-permutes [] = IsPermutation-refl []
  in_order-permutes (x ∷ xs) =
      IsPermutation-trans (x ∷ xs) (x ∷ in_order key xs) (in_order key (x ∷ xs))
      (IsPermutation-cons x xs (in_order key xs) (in_order-permutes xs)) (insert_by-permutes x (in_order key xs))

  -- what rises doesn't fall
  non_decreasing-Rises : (xs : List X) → Rises key xs → IsNonDecreasingBy key xs
  non_decreasing-Rises [] up i j d h w = absurd (omega arith)
  non_decreasing-Rises (x ∷ xs) up zero zero d h w = omega arith
  non_decreasing-Rises (x ∷ xs) up zero (suc j) d h w = up.0 j d (omega arith)
  non_decreasing-Rises (x ∷ xs) up (suc i) zero d h w = absurd (omega arith)
  non_decreasing-Rises (x ∷ xs) up (suc i) (suc j) d h w = non_decreasing-Rises xs up.1 i j d (omega arith) (omega arith)

-- the groups with their places are the text's groups
groups-placed_from : (t : Thing) (at : ℕ) (gs : List Owner) → map (λ p. p.group) (placed_from t at gs) ≡ groups_where (is_things t) at gs
groups-placed_from t at [] = refl
groups-placed_from t at (g ∷ gs) =
    test_cases (is_things t g) (map (λ p. p.group) (placed_from t at (g ∷ gs)) ≡ groups_where (is_things t) at (g ∷ gs))
    (λ e. rw e (ap (λ ns. record { 0 = at } ∷ ns) (groups-placed_from t (at + 1) gs)))
    (λ e. rw e (groups-placed_from t (at + 1) gs))

pub own_groups : (t : Thing) (gs : List Owner) → IsPermutation (groups_where (is_things t) 0 gs) (groups_of t gs)
own_groups t gs =
    let moved = IsPermutation-map (λ (p : Placed). p.group) (placed_from t 0 gs) (in_order (λ p. p.place) (placed_from t 0 gs)) (in_order-permutes (λ p. p.place) (placed_from t 0 gs)) in
    rw (groups-placed_from t 0 gs) at moved

-- the place that is kept with a group is the group's
abbrev IsKept : List Owner → Placed → Type 0
IsKept gs p = place_in gs p.group ≡ p.place

slice_get-drop : (gs : List Owner) (at : ℕ) (g : Owner) (rest : List Owner) → drop at gs ≡ g ∷ rest → slice_get gs at ≡ Some g
slice_get-drop [] zero g rest h = absurd (cc)
slice_get-drop [] (suc at) g rest h = absurd (cc)
slice_get-drop (x ∷ gs) zero g rest h = cc
slice_get-drop (x ∷ gs) (suc at) g rest h = slice_get-drop gs at g rest h

drop-further : (gs : List Owner) (at : ℕ) (g : Owner) (rest : List Owner) → drop at gs ≡ g ∷ rest → drop (at + 1) gs ≡ rest
drop-further gs at g rest h = rw (← drop-drop, h) refl

kept_from : (t : Thing) (all : List Owner) (at : ℕ) (gs : List Owner) → drop at all ≡ gs → All (IsKept all) (placed_from t at gs)
kept_from t all at [] h = All-nil (IsKept all)
kept_from t all at (g ∷ gs) h =
    let here : place_in all (record { 0 = at }) ≡ place_of g = rw (slice_get-drop all at g gs h) refl in
    let rest = kept_from t all (at + 1) gs (drop-further all at g gs h) in
    test_cases (is_things t g) (All (IsKept all) (placed_from t at (g ∷ gs)))
    (λ e. rw e (All-cons (IsKept all) (record { place = place_of g; group = record { 0 = at } }) (placed_from t (at + 1) gs) here rest))
    (λ e. rw e rest)

-- what rises by the kept places rises by the groups' own
rises-groups : (all : List Owner) (ps : List Placed) → All (IsKept all) ps → Rises (λ p. p.place) ps → Rises (place_in all) (map (λ p. p.group) ps)
rises-groups all [] kept up = tt
rises-groups all (p ∷ ps) kept up =
    let here : place_in all p.group ≡ p.place = All-head (IsKept all) p ps kept in
    let rest : All (IsKept all) ps = All-tail (IsKept all) p ps kept in
    let each : All (λ (q : Placed). place_in all p.group ≤ place_in all q.group) ps = λ k d h. rw (here, rest k d h) (up.0 k d h) in
    (All-map (λ g. place_in all p.group ≤ place_in all g) (λ (q : Placed). q.group) ps each, rises-groups all ps rest up.1)

pub places_ascend : (t : Thing) (gs : List Owner) → IsNonDecreasingBy (place_in gs) (groups_of t gs)
places_ascend t gs =
    let placed = placed_from t 0 gs in
    let kept = All-permutation (IsKept gs) (placed_from t 0 gs) (in_order (λ p. p.place) (placed_from t 0 gs)) (in_order-permutes (λ p. p.place) (placed_from t 0 gs)) (kept_from t gs 0 gs refl) in
    non_decreasing-Rises (place_in gs) (groups_of t gs) (rises-groups gs (in_order (λ p. p.place) (placed_from t 0 gs)) kept (Rises-in_order (λ p. p.place) (placed_from t 0 gs)))

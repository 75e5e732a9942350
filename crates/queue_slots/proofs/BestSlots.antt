-- The best of the slots, as a walk over them finds it.
use Rattle.std.proofs.Common.{◌≡◌, ℕ, ◌+◌, ◌<◌, ◌≤◌, Bool, true, false, ◌&&◌, ◌||◌, ◌==◌, List, [], ◌∷◌, length, Option, Some, None, slice_get, refl, sym, subst, ◌∙◌, arith}
pub use Rattle.std.proofs.lemmas.Bool.{and_from as and_true, and_parts as both_true}
use Rattle.std.specs.Prelude.{nat_lt, find, filter, IfSome, IfNone}
use Rattle.std.specs.List.{All}
use Rattle.std.proofs.lemmas.Bool.{eq-eqb, or_parts as either_false}
use Rattle.std.proofs.lemmas.Bool.Decides.{nat_tests}
use Rattle.std.proofs.lemmas.Option.{slice_get_within}
use Rattle.std.proofs.lemmas.List.Elements.{All-head, All-tail}
use Rattle.mas_types.specs.Lists.{greatest, is_greatest_of}
use Rattle.lay_bytes.specs.Used.{used}
use Rattle.queue_slots.specs.declared.slots.Found.{Found}
use Rattle.queue_slots.specs.declared.walking.Best.{Best}
use Rattle.queue_slots.specs.Listed.{listed, StandsFirst}
use Rattle.queue_slots.specs.Best.{goes_before, better, better_slot, found_in, found_of, IsBestOf, NonePicked, IsWalked}
use Rattle.queue_slots.proofs.Cases.{test_cases}
use Rattle.queue_slots.proofs.Rising.{All-in_order}
use Rattle.queue_slots.proofs.FirstSlots.{All-used, stands_first}

-- where the test picks nothing of the list
pub find-All_false : {X : Type 0} (p : X → Bool) (xs : List X) → All (λ x. p x ≡ false) xs → find p xs ≡ None
find-All_false p [] all = refl
find-All_false p (x ∷ xs) all = rw (All-head (λ y. p y ≡ false) x xs all) (find-All_false p xs (All-tail (λ y. p y ≡ false) x xs all))

-- ONE BEFORE ANOTHER

record Wins (a b : Best) : Type 0 where
  up : b.key ≤ a.key
  level : b.key ≡ a.key → b.rank ≤ a.rank
  sooner : b.key ≡ a.key → b.rank ≡ a.rank → a.order < b.order

wins : (a b : Best) → goes_before a b ≡ true → Wins a b
wins a b h =
    test_cases (nat_lt b.key a.key) (Wins a b)
    (λ e. let above : b.key < a.key = grind (arith, nat_tests) in
    record { up = omega arith; level = λ same. absurd (omega arith); sooner = λ same again. absurd (omega arith) })
    (λ e. let parts = both_true (a.key == b.key) (nat_lt b.rank a.rank || ((a.rank == b.rank) && nat_lt a.order b.order)) (rw e at h) in
    let one_key : a.key ≡ b.key = grind (arith, nat_tests, parts.0) in
    test_cases (nat_lt b.rank a.rank) (Wins a b)
    (λ t. let above : b.rank < a.rank = grind (arith, nat_tests) in
    record { up = omega arith; level = λ same. omega arith; sooner = λ same again. absurd (omega arith) })
    (λ t. let rest = both_true (a.rank == b.rank) (nat_lt a.order b.order) (rw t at parts.1) in
    let one_rank : a.rank ≡ b.rank = grind (arith, nat_tests, rest.0) in
    let less : a.order < b.order = grind (arith, nat_tests, rest.1) in
    record { up = omega arith; level = λ same. omega arith; sooner = λ same again. less }))

record Stays (a b : Best) : Type 0 where
  up : a.key ≤ b.key
  level : a.key ≡ b.key → a.rank ≤ b.rank
  sooner : a.key ≡ b.key → a.rank ≡ b.rank → b.order ≤ a.order

stays : (a b : Best) → goes_before a b ≡ false → Stays a b
stays a b h =
    let keys = either_false (nat_lt b.key a.key) ((a.key == b.key) && (nat_lt b.rank a.rank || ((a.rank == b.rank) && nat_lt a.order b.order))) h in
    record {
      up = grind (arith, nat_tests, keys.0);
      level = λ same. (ranks keys.1 same).0;
      sooner = λ same again. (ranks keys.1 same).1 again;
    }
  where
    ranks : ((a.key == b.key) && (nat_lt b.rank a.rank || ((a.rank == b.rank) && nat_lt a.order b.order))) ≡ false → a.key ≡ b.key → (a.rank ≤ b.rank) × (a.rank ≡ b.rank → b.order ≤ a.order)
    ranks w same =
        let both = either_false (nat_lt b.rank a.rank) ((a.rank == b.rank) && nat_lt a.order b.order) (rw (eq-eqb a.key b.key same) at w) in
        (grind (arith, nat_tests, both.0), λ again. let v = rw (eq-eqb a.rank b.rank again) at both.1 in grind (arith, nat_tests, v))

-- ONE MORE SLOT

module _ {X : Type 0} (number key rank : X → ℕ) (weighs : X → Bool) where
  abbrev BestOf : List (Option X) → ℕ → Found X → Type 0
  BestOf slots k f = IsBestOf number key rank weighs slots k f

  abbrev Nothing : List (Option X) → ℕ → Type 0
  Nothing slots k = NonePicked number key rank weighs slots k

  -- a slot up to the last one is the last or one before it
  at_last : (slots : List (Option X)) (k : ℕ) (s : Option X) → slice_get slots k ≡ Some s → (j : ℕ) (y : X) → j < k + 1 → slice_get slots j ≡ Some (Some y) → (P : Type 0) → (j < k → P) → (s ≡ Some y → P) → P
  at_last slots k s is j y within e P early late =
      test_cases (nat_lt j k) P (λ t. early (grind (arith, nat_tests))) (λ t. let same : j ≡ k = grind (arith, nat_tests) in late (cc))

  none_more : (slots : List (Option X)) (k : ℕ) (s : Option X) → slice_get slots k ≡ Some s → Nothing slots k → ((y : X) → s ≡ Some y → weighs y ≡ false) → Nothing slots (k + 1)
  none_more slots k s is none last j y within e = at_last slots k s is j y within e (weighs y ≡ false) (λ early. none j y early e) (λ late. last y late)

  -- the item is no better than the best so far
  record IsNoBetter (f : Found X) (y : X) : Type 0 where
    up : key y ≤ key f.item
    level : key y ≡ key f.item → rank y ≤ rank f.item
    sooner : key y ≡ key f.item → rank y ≡ rank f.item → number f.item ≤ number y

  best_stays : (slots : List (Option X)) (k : ℕ) (s : Option X) (f : Found X) → slice_get slots k ≡ Some s → BestOf slots k f
      → ((y : X) → s ≡ Some y → weighs y ≡ true → IsNoBetter f y) → BestOf slots (k + 1) f
  best_stays slots k s f is best last = record {
    here = best.here;
    below = let low = best.below in omega arith;
    picked = best.picked;
    keys = λ j y within e picked. at_last slots k s is j y within e (key y ≤ key f.item) (λ early. best.keys j y early e picked) (λ late. (last y late picked).up);
    ranks = λ j y within e picked same. at_last slots k s is j y within e (rank y ≤ rank f.item) (λ early. best.ranks j y early e picked same) (λ late. (last y late picked).level same);
    before = best.before;
    least = λ j y within e picked same again. at_last slots k s is j y within e (number f.item ≤ number y) (λ early. best.least j y early e picked same again) (λ late. (last y late picked).sooner same again);
  }

  first_found : (slots : List (Option X)) (k : ℕ) (x : X) → slice_get slots k ≡ Some (Some x) → Nothing slots k → weighs x ≡ true → BestOf slots (k + 1) (record { at = k; item = x })
  first_found slots k x is none picked = record {
    here = is;
    below = omega arith;
    picked = picked;
    keys = λ j y within e sure. at_last slots k (Some x) is j y within e (key y ≤ key x) (λ early. absurd (let no' = none j y early e in cc)) (λ late. let same : x ≡ y = cc in rw same (omega arith));
    ranks = λ j y within e sure one. at_last slots k (Some x) is j y within e (rank y ≤ rank x) (λ early. absurd (let no' = none j y early e in cc)) (λ late. let same : x ≡ y = cc in rw same (omega arith));
    before = λ j y within e sure one same. absurd (let no' = none j y within e in cc);
    least = λ j y within e sure one same. at_last slots k (Some x) is j y within e (number x ≤ number y) (λ early. absurd (let no' = none j y early e in cc)) (λ late. let is' : x ≡ y = cc in rw is' (omega arith));
  }

  -- the item is better than the best so far
  record IsBetter (x : X) (f : Found X) : Type 0 where
    up : key f.item ≤ key x
    level : key f.item ≡ key x → rank f.item ≤ rank x
    sooner : key f.item ≡ key x → rank f.item ≡ rank x → number x < number f.item

  best_gives_way : (slots : List (Option X)) (k : ℕ) (x : X) (f : Found X) → slice_get slots k ≡ Some (Some x) → BestOf slots k f → weighs x ≡ true → IsBetter x f
      → BestOf slots (k + 1) (record { at = k; item = x })
  best_gives_way slots k x f is best picked wins' = record {
    here = is;
    below = omega arith;
    picked = picked;
    keys = λ j y within e sure. at_last slots k (Some x) is j y within e (key y ≤ key x)
        (λ early. let low = best.keys j y early e sure in let up = wins'.up in omega arith)
        (λ late. let same : x ≡ y = cc in rw same (omega arith));
    ranks = λ j y within e sure one. at_last slots k (Some x) is j y within e (rank y ≤ rank x)
        (λ early. let ties = tied j y early e sure one in let low = best.ranks j y early e sure ties.0 in let up = wins'.level ties.1 in omega arith)
        (λ late. let same : x ≡ y = cc in rw same (omega arith));
    before = λ j y within e sure one again. far j y within e sure one again;
    least = λ j y within e sure one again. at_last slots k (Some x) is j y within e (number x ≤ number y)
        (λ early. let less = far j y early e sure one again in omega arith)
        (λ late. let is' : x ≡ y = cc in rw is' (omega arith));
  }
    where
      tied : (j : ℕ) (y : X) → j < k → slice_get slots j ≡ Some (Some y) → weighs y ≡ true → key y ≡ key x → (key y ≡ key f.item) × (key f.item ≡ key x)
      tied j y early e sure one = let low = best.keys j y early e sure in let up = wins'.up in (omega arith, omega arith)

      far : (j : ℕ) (y : X) → j < k → slice_get slots j ≡ Some (Some y) → weighs y ≡ true → key y ≡ key x → rank y ≡ rank x → number x < number y
      far j y early e sure one again =
          let ties = tied j y early e sure one in
          let low = best.ranks j y early e sure ties.0 in
          let up = wins'.level ties.1 in
          let less = wins'.sooner ties.1 (omega arith) in
          let most = best.least j y early e sure ties.0 (omega arith) in
          omega arith

  -- what is kept of one
  abbrev kept : ℕ → X → Best
  kept k x = record { at = k; key = key x; rank = rank x; order = number x }

  next_slot : (slots : List (Option X)) (k : ℕ) (x : X) (best : Option Best) → slice_get slots k ≡ Some (Some x) → weighs x ≡ true → IsWalked number key rank weighs slots k best → IsWalked number key rank weighs slots (k + 1) (better best (kept k x))
  next_slot slots k x None is picked none = record { item = x; has_key = refl; has_rank = refl; has_order = refl; best = first_found slots k x is none picked }
  next_slot slots k x (Some b) is picked so_far =
      let f : Found X = record { at = b.at; item = so_far.item } in
      test_cases (goes_before (kept k x) b) (IsWalked number key rank weighs slots (k + 1) (better (Some b) (kept k x)))
      (λ e. let w = wins (kept k x) b e in
      rw e (record {
        item = x;
        has_key = refl;
        has_rank = refl;
        has_order = refl;
        best = best_gives_way slots k x f is so_far.best picked record {
          up = let has = so_far.has_key in let up = w.up in omega arith;
          level = λ one. let has = so_far.has_rank in let up = w.level (so_far.has_key ∙ one) in omega arith;
          sooner = λ one again. let has = so_far.has_order in let up = w.sooner (so_far.has_key ∙ one) (so_far.has_rank ∙ again) in omega arith;
        };
      }))
      (λ e. let s = stays (kept k x) b e in
      rw e (record {
        item = so_far.item;
        has_key = so_far.has_key;
        has_rank = so_far.has_rank;
        has_order = so_far.has_order;
        best = best_stays slots k (Some x) f is so_far.best (λ y same sure. let is' : x ≡ y = cc in rw (← is') (record {
          up = let has = so_far.has_key in let up = s.up in omega arith;
          level = λ one. let has = so_far.has_rank in let up = s.level (one ∙ sym so_far.has_key) in omega arith;
          sooner = λ one again. let has = so_far.has_order in let up = s.sooner (one ∙ sym so_far.has_key) (again ∙ sym so_far.has_rank) in omega arith;
        }));
      }))

  same_best : (slots : List (Option X)) (k : ℕ) (s : Option X) (best : Option Best) → slice_get slots k ≡ Some s → ((y : X) → s ≡ Some y → weighs y ≡ false) → IsWalked number key rank weighs slots k best → IsWalked number key rank weighs slots (k + 1) best
  same_best slots k s None is passed none = none_more slots k s is none passed
  same_best slots k s (Some b) is passed so_far = record {
    item = so_far.item;
    has_key = so_far.has_key;
    has_rank = so_far.has_rank;
    has_order = so_far.has_order;
    best = best_stays slots k s (record { at = b.at; item = so_far.item }) is so_far.best (λ y same sure. absurd (let no' = passed y same in cc));
  }

  -- the best of the slots, where one more slot is seen
  pub best_more : (slots : List (Option X)) (k : ℕ) (s : Option X) (best : Option Best) → slice_get slots k ≡ Some s → IsWalked number key rank weighs slots k best
      → IsWalked number key rank weighs slots (k + 1) (better_slot number key rank weighs best k s)
  best_more slots k None best is so_far = same_best slots k None best is (λ y same. absurd (cc)) so_far
  best_more slots k (Some x) best is so_far =
      test_cases (weighs x) (IsWalked number key rank weighs slots (k + 1) (better_slot number key rank weighs best k (Some x)))
      (λ e. rw e (next_slot slots k x best is e so_far))
      (λ e. rw e (same_best slots k (Some x) best is (λ y same. let is' : x ≡ y = cc in rw (← is') e) so_far))

  -- WHAT IS LEFT OF A WALK OVER ALL SLOTS

  module _ (slots : List (Option X)) where
    pub walked_some : (o : Option Best) → IsWalked number key rank weighs slots (length slots) o → (P : Found X → Type 0) → ((f : Found X) → BestOf slots (length slots) f → P f) → IfSome (found_of slots o) P
    walked_some None so_far P each = tt
    walked_some (Some b) so_far P each =
        subst (λ (s : Option (Option X)). IfSome (found_in b.at s) P) (sym so_far.best.here) (each (record { at = b.at; item = so_far.item }) so_far.best)

    pub walked_none : (o : Option Best) → IsWalked number key rank weighs slots (length slots) o → (P : Type 0) → (Nothing slots (length slots) → P) → IfNone (found_of slots o) P
    walked_none None so_far P each = each so_far
    walked_none (Some b) so_far P each = subst (λ (s : Option (Option X)). IfNone (found_in b.at s) P) (sym so_far.best.here) tt

    pub nothing_listed : Nothing slots (length slots) → All (λ z. weighs z ≡ false) (listed number slots)
    nothing_listed none = All-in_order number (λ z. weighs z ≡ false) (used slots) (All-used (λ z. weighs z ≡ false) slots (λ j y e. none j y (slice_get_within slots j (Some y) e) e))

-- BY RANK ALONE

module _ {X : Type 0} (number rank : X → ℕ) (picks : X → Bool) where
  abbrev is_best : X → X → Bool
  is_best x z = picks z && (rank z == rank x)

  -- the greatest rank of the picked items is at most this one, if none of them has a greater rank
  greatest_low : (r : ℕ) (xs : List X) → All (λ z. picks z ≡ true → rank z ≤ r) xs → greatest rank (filter picks xs) ≤ r
  greatest_low r [] all = omega arith
  greatest_low r (z ∷ zs) all =
      let rest = greatest_low r zs (All-tail (λ y. picks y ≡ true → rank y ≤ r) z zs all) in
      test_cases (picks z) (greatest rank (filter picks (z ∷ zs)) ≤ r)
      (λ e. let here : rank z ≤ r = All-head (λ y. picks y ≡ true → rank y ≤ r) z zs all e in rw e (omega arith))
      (λ e. rw e rest)

  greatest_found : (x : X) (xs : List X) → All (λ z. picks z ≡ true → rank z ≤ rank x) xs → find (is_best x) xs ≡ Some x → rank x ≡ greatest rank (filter picks xs)
  greatest_found x [] all found = absurd (cc)
  greatest_found x (z ∷ zs) all found =
      let rest_all : All (λ y. picks y ≡ true → rank y ≤ rank x) zs = All-tail (λ y. picks y ≡ true → rank y ≤ rank x) z zs all in
      test_cases (picks z) (rank x ≡ greatest rank (filter picks (z ∷ zs)))
      (λ e. let here : rank z ≤ rank x = All-head (λ y. picks y ≡ true → rank y ≤ rank x) z zs all e in
      test_cases (rank z == rank x) (rank x ≡ greatest rank (filter picks (z ∷ zs)))
      (λ t. let same : rank z ≡ rank x = grind (arith, nat_tests) in let low = greatest_low (rank x) zs rest_all in rw e (omega arith))
      (λ t. let later = greatest_found x zs rest_all (rw (e, t) at found) in rw e (omega arith)))
      (λ e. let later = greatest_found x zs rest_all (rw e at found) in rw e later)

  module _ (slots : List (Option X)) (f : Found X) (best : IsBestOf number (λ x. 0) rank picks slots (length slots) f) where
    best_first : StandsFirst number (is_best f.item) slots f.at f.item
    best_first = stands_first number (is_best f.item) slots f.at f.item record {
      here = best.here;
      picked = rw best.picked (eq-eqb (rank f.item) (rank f.item) refl);
      before = λ j y below e picked. let parts = both_true (picks y) (rank y == rank f.item) picked in best.before j y below e parts.0 refl (grind (arith, nat_tests, parts.1));
      least = λ j y e picked. let parts = both_true (picks y) (rank y == rank f.item) picked in best.least j y (slice_get_within slots j (Some y) e) e parts.0 refl (grind (arith, nat_tests, parts.1));
    }

    -- the best of all slots goes first
    pub best_of_all : StandsFirst number (is_greatest_of rank picks (listed number slots)) slots f.at f.item
    best_of_all =
        let low = All-in_order number (λ z. picks z ≡ true → rank z ≤ rank f.item) (used slots) (All-used (λ z. picks z ≡ true → rank z ≤ rank f.item) slots (λ j y e picked. best.ranks j y (slice_get_within slots j (Some y) e) e picked refl)) in
        let top = greatest_found f.item (listed number slots) low best_first.first in
        subst (λ (g : ℕ). StandsFirst number (λ z. picks z && (rank z == g)) slots f.at f.item) top best_first

  -- where none is picked, none goes first
  pub not_greatest : (ys xs : List X) → All (λ z. picks z ≡ false) xs → find (is_greatest_of rank picks ys) xs ≡ None
  not_greatest ys [] all = refl
  not_greatest ys (x ∷ xs) all = rw (All-head (λ z. picks z ≡ false) x xs all) (not_greatest ys xs (All-tail (λ z. picks z ≡ false) x xs all))

-- where all have one key and one rank, the best is the first of those that are picked
pub first_of_all : {X : Type 0} (number : X → ℕ) (picks : X → Bool) (slots : List (Option X)) (f : Found X) → IsBestOf number (λ x. 0) (λ x. 0) picks slots (length slots) f → StandsFirst number picks slots f.at f.item
first_of_all number picks slots f best = stands_first number picks slots f.at f.item record {
  here = best.here;
  picked = best.picked;
  before = λ j y below e picked. best.before j y below e picked refl refl;
  least = λ j y e picked. best.least j y (slice_get_within slots j (Some y) e) e picked refl refl;
}

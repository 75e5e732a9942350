-- The best of the slots in a chain is the best of all slots, where all that are picked stand in the chain.
use Rattle.std.proofs.Common.{◌≡◌, ℕ, ◌<◌, ◌≤◌, Bool, true, false, ◌||◌, ◌==◌, List, [], ◌∷◌, ◌++◌, length, Option, Some, None, slice_get, refl, sym, ap, subst, ◌∙◌, append_assoc, append-nil, arith}
use Rattle.std.specs.Prelude.{nat_lt, find, is_some, IfSome, IfNone}
use Rattle.std.specs.List.{All}
use Rattle.lay_bytes.specs.Used.{used}
use Rattle.std.proofs.lemmas.Bool.{eq-eqb, eqb-true, ltb-true, ltb-false}
use Rattle.std.proofs.lemmas.Option.{slice_get_within}
use Rattle.mas_types.specs.Lists.{is_greatest_of}
use Rattle.queue_slots.specs.declared.slots.Found.{Found}
use Rattle.queue_slots.specs.Listed.{listed, StandsFirst}
use Rattle.queue_slots.specs.Best.{IsBestOf}
use Rattle.queue_slots.proofs.BestSlots.{best_of_all, not_greatest, find-All_false}
use Rattle.queue_slots.proofs.Rising.{All-in_order}
use Rattle.queue_slots.proofs.Cases.{test_cases}
use Rattle.queue_slots.proofs.FirstSlots.{All-used, stands_first}
use Rattle.job_select.specs.Chains.{has_slot}
use Rattle.job_select.specs.Best.{is_before, better, better_slot, picks_slot, Leads, IsBest, NonePicked, IsBestIn}
use Rattle.job_select.proofs.ChainLemmas.{has_slot-push}

or_true : (a b : Bool) (P : Type 0) → (a || b) ≡ true → (a ≡ true → P) → (b ≡ true → P) → P
or_true true b P h one other = one refl
or_true false b P h one other = other h

module _ {X : Type 0} (number rank : X → ℕ) (picks : X → Bool) where
  -- a slot of a chain with one more is one of the chain's, or the last one
  of_more : (chain : List ℕ) (at j : ℕ) (P : Type 0) → has_slot j (chain ++ at ∷ []) ≡ true → (has_slot j chain ≡ true → P) → (at ≡ j → P) → P
  of_more chain at j P h early late = or_true (has_slot j chain) (at == j) P (sym (has_slot-push chain at j) ∙ h) early (λ e. late (eqb-true at j e))

  none_more : (slots : List (Option X)) (chain : List ℕ) (at : ℕ) → NonePicked number rank picks slots chain
      → ((y : X) → slice_get slots at ≡ Some (Some y) → picks y ≡ false) → NonePicked number rank picks slots (chain ++ at ∷ [])
  none_more slots chain at none last j y in_chain e =
      of_more chain at j (picks y ≡ false) in_chain (λ early. none j y early e) (λ late. last y (ap (slice_get slots) late ∙ e))

  best_stays : (slots : List (Option X)) (chain : List ℕ) (at : ℕ) (f : Found X) → IsBest number rank picks slots chain f
      → ((y : X) → slice_get slots at ≡ Some (Some y) → picks y ≡ true → Leads number rank picks f at y) → IsBest number rank picks slots (chain ++ at ∷ []) f
  best_stays slots chain at f best last = record {
    here = best.here;
    picked = best.picked;
    leads = λ j y in_chain e picked. of_more chain at j (Leads number rank picks f j y) in_chain
        (λ early. best.leads j y early e picked)
        (λ late. subst (λ (k : ℕ). Leads number rank picks f k y) late (last y (ap (slice_get slots) late ∙ e) picked));
  }

  itself : (at : ℕ) (x : X) → Leads number rank picks (record { at = at; item = x }) at x
  itself at x = record { by_rank = omega arith; by_number = λ e. omega arith; by_slot = λ e f. omega arith }

  -- the last one is the best
  last_is : (slots : List (Option X)) (chain : List ℕ) (at : ℕ) (x : X) → slice_get slots at ≡ Some (Some x) → picks x ≡ true
      → ((j : ℕ) (y : X) → has_slot j chain ≡ true → slice_get slots j ≡ Some (Some y) → picks y ≡ true → Leads number rank picks (record { at = at; item = x }) j y)
      → IsBest number rank picks slots (chain ++ at ∷ []) (record { at = at; item = x })
  last_is slots chain at x is picked others = record {
    here = is;
    picked = picked;
    leads = λ j y in_chain e yes. of_more chain at j (Leads number rank picks (record { at = at; item = x }) j y) in_chain
        (λ early. others j y early e yes)
        (λ late. let same : x ≡ y = cc in subst (λ (k : ℕ). Leads number rank picks (record { at = at; item = x }) k y) late (subst (λ (z : X). Leads number rank picks (record { at = at; item = x }) at z) same (itself at x)));
  }

  -- what goes before another, and what doesn't
  pub record GoesBefore (a b : Found X) : Type 0 where
    by_rank : rank b.item ≤ rank a.item
    by_number : rank b.item ≡ rank a.item → number a.item ≤ number b.item
    by_slot : rank b.item ≡ rank a.item → number b.item ≡ number a.item → a.at < b.at

  goes : (a b : Found X) → is_before number rank a b ≡ true → GoesBefore a b
  goes a b h = or_true (nat_lt (rank b.item) (rank a.item)) _ (GoesBefore a b) h
      (λ e. let lt = ltb-true (rank b.item) (rank a.item) e in record { by_rank = omega (arith, lt); by_number = λ s. absurd (omega (arith, lt)); by_slot = λ s t. absurd (omega (arith, lt)) })
      (λ e. test_cases (rank a.item == rank b.item) (GoesBefore a b)
      (λ r. let same = eqb-true (rank a.item) (rank b.item) r in
      or_true (nat_lt (number a.item) (number b.item)) _ (GoesBefore a b) (rw r at e)
      (λ n. let lt = ltb-true (number a.item) (number b.item) n in record { by_rank = omega (arith, same); by_number = λ s. omega (arith, lt); by_slot = λ s t. absurd (omega (arith, lt)) })
      (λ n. test_cases (number a.item == number b.item) (GoesBefore a b)
      (λ t. let level = eqb-true (number a.item) (number b.item) t in let lt = ltb-true a.at b.at (rw t at n) in record { by_rank = omega (arith, same); by_number = λ s. omega (arith, level); by_slot = λ s u. lt })
      (λ t. absurd (let w = rw t at n in cc))))
      (λ r. absurd (let w = rw r at e in cc)))

  stays : (a b : Found X) → is_before number rank a b ≡ false → Leads number rank picks b a.at a.item
  stays a b h = test_cases (nat_lt (rank b.item) (rank a.item)) (Leads number rank picks b a.at a.item)
      (λ e. absurd (let w = rw e at h in cc))
      (λ e. let le = ltb-false (rank b.item) (rank a.item) e in
      test_cases (rank a.item == rank b.item) (Leads number rank picks b a.at a.item)
      (λ r. let h1 = rw (e, r) at h in
      test_cases (nat_lt (number a.item) (number b.item)) (Leads number rank picks b a.at a.item)
      (λ n. absurd (let w = rw n at h1 in cc))
      (λ n. let no_less = ltb-false (number a.item) (number b.item) n in
      test_cases (number a.item == number b.item) (Leads number rank picks b a.at a.item)
      (λ t. let w = rw (n, t) at h1 in let low = ltb-false a.at b.at w in record { by_rank = le; by_number = λ s. no_less; by_slot = λ s u. low })
      (λ t. record { by_rank = le; by_number = λ s. no_less; by_slot = λ s u. absurd (let w = eq-eqb (number a.item) (number b.item) u in cc) })))
      (λ r. record { by_rank = le; by_number = λ s. absurd (let w = eq-eqb (rank a.item) (rank b.item) s in cc); by_slot = λ s u. absurd (let w = eq-eqb (rank a.item) (rank b.item) s in cc) }))

  -- one that leads what the other leads
  over : (a b : Found X) (j : ℕ) (y : X) → GoesBefore a b → Leads number rank picks b j y → Leads number rank picks a j y
  over a b j y before led = record {
    by_rank = omega (arith, before.by_rank, led.by_rank);
    by_number = λ s. let level : rank b.item ≡ rank a.item = omega (arith, s, before.by_rank, led.by_rank) in
        let one = before.by_number level in let other = led.by_number (s ∙ sym level) in omega (arith, one, other);
    by_slot = λ s t. let level : rank b.item ≡ rank a.item = omega (arith, s, before.by_rank, led.by_rank) in
        let one = before.by_number level in let other = led.by_number (s ∙ sym level) in
        let same : number b.item ≡ number a.item = omega (arith, one, other, t) in
        let low = before.by_slot level same in let far = led.by_slot (s ∙ sym level) (t ∙ sym same) in omega (arith, low, far);
  }

  -- the best of a chain with one more slot
  pub best_more : (slots : List (Option X)) (chain : List ℕ) (at : ℕ) (best : Option (Found X)) → IsBestIn number rank picks slots chain best
      → IsBestIn number rank picks slots (chain ++ at ∷ []) (better_slot number rank picks best at (slice_get slots at))
  best_more slots chain at best so_far = by (slice_get slots at) refl best so_far
    where
      seen : (x : X) → slice_get slots at ≡ Some (Some x) → (o : Option (Found X)) → IsBestIn number rank picks slots chain o
          → IsBestIn number rank picks slots (chain ++ at ∷ []) (better number rank picks o (record { at = at; item = x }))
      seen x is None none = test_cases (picks x) (IsBestIn number rank picks slots (chain ++ at ∷ []) (better number rank picks None (record { at = at; item = x })))
          (λ e. rw e (last_is slots chain at x is e (λ j y in_chain there yes. absurd (let w = none j y in_chain there in cc))))
          (λ e. rw e (none_more slots chain at none (λ y there. let same : x ≡ y = cc in ap picks (sym same) ∙ e)))
      seen x is (Some f) best = test_cases (picks x) (IsBestIn number rank picks slots (chain ++ at ∷ []) (better number rank picks (Some f) (record { at = at; item = x })))
          (λ e. test_cases (is_before number rank (record { at = at; item = x }) f) (IsBestIn number rank picks slots (chain ++ at ∷ []) (better number rank picks (Some f) (record { at = at; item = x })))
          (λ b. rw (e, b) (last_is slots chain at x is e (λ j y in_chain there yes. over (record { at = at; item = x }) f j y (goes (record { at = at; item = x }) f b) (best.leads j y in_chain there yes))))
          (λ b. rw (e, b) (best_stays slots chain at f best (λ y there yes. let same : x ≡ y = cc in subst (λ (z : X). Leads number rank picks f at z) same (stays (record { at = at; item = x }) f b)))))
          (λ e. rw e (best_stays slots chain at f best (λ y there yes. absurd (let same : x ≡ y = cc in let w : picks y ≡ false = ap picks (sym same) ∙ e in cc))))

      by : (s : Option (Option X)) → slice_get slots at ≡ s → (o : Option (Found X)) → IsBestIn number rank picks slots chain o → IsBestIn number rank picks slots (chain ++ at ∷ []) (better_slot number rank picks o at s)
      by None is None none = none_more slots chain at none (λ y there. absurd cc)
      by None is (Some f) best = best_stays slots chain at f best (λ y there yes. absurd cc)
      by (Some None) is None none = none_more slots chain at none (λ y there. absurd cc)
      by (Some None) is (Some f) best = best_stays slots chain at f best (λ y there yes. absurd cc)
      by (Some (Some x)) is o so_far = seen x is o so_far

  -- none of a chain is picked, with one more slot that isn't picked
  pub none_picked_more : (slots : List (Option X)) (chain : List ℕ) (at : ℕ) → NonePicked number rank picks slots chain
      → picks_slot number rank picks (slice_get slots at) ≡ false → NonePicked number rank picks slots (chain ++ at ∷ [])
  none_picked_more slots chain at none not = none_more slots chain at none (λ y there. sym (ap (picks_slot number rank picks) there) ∙ not)

  -- each chain has a best
  record Walked (slots : List (Option X)) (chain : List ℕ) : Type 0 where
    best : Option (Found X)
    is : IsBestIn number rank picks slots chain best

  walked_on : (slots : List (Option X)) (done rest : List ℕ) → Walked slots done → Walked slots (done ++ rest)
  walked_on slots done [] w = subst (λ (xs : List ℕ). Walked slots xs) (sym (append-nil done)) w
  walked_on slots done (at ∷ rest) w =
      subst (λ (xs : List ℕ). Walked slots xs) (append_assoc done (at ∷ []) rest)
      (walked_on slots (done ++ at ∷ []) rest (record { best = better_slot number rank picks w.best at (slice_get slots at); is = best_more slots done at w.best w.is }))

  walked : (slots : List (Option X)) (chain : List ℕ) → Walked slots chain
  walked slots chain = walked_on slots [] chain (record { best = None; is = λ j y there e. absurd cc })

  module _ (slots : List (Option X)) (chain : List ℕ) (all : (j : ℕ) (y : X) → slice_get slots j ≡ Some (Some y) → picks y ≡ true → has_slot j chain ≡ true) where
    before_all : (f : Found X) → IsBest number rank picks slots chain f → (j : ℕ) (y : X) → j < f.at → slice_get slots j ≡ Some (Some y) → picks y ≡ true → rank y ≡ rank f.item → number f.item < number y
    before_all f best j y below e sure level =
        let led = best.leads j y (all j y e sure) e sure in
        let low = led.by_number level in
        test_cases (number y == number f.item) (number f.item < number y)
        (λ t. absurd (let far = led.by_slot level (eqb-true (number y) (number f.item) t) in omega (arith, far, below)))
        (λ t. test_cases (nat_lt (number f.item) (number y)) (number f.item < number y)
        (λ l. ltb-true (number f.item) (number y) l)
        (λ l. absurd (let up = ltb-false (number f.item) (number y) l in let same : number y ≡ number f.item = omega (arith, low, up) in let w = eq-eqb (number y) (number f.item) same in cc)))

    of_all : (f : Found X) → IsBest number rank picks slots chain f → IsBestOf number (λ x. 0) rank picks slots (length slots) f
    of_all f best = record {
      here = best.here;
      below = slice_get_within slots f.at (Some f.item) best.here;
      picked = best.picked;
      keys = λ j y within e sure. omega arith;
      ranks = λ j y within e sure key. (best.leads j y (all j y e sure) e sure).by_rank;
      before = λ j y below e sure key level. before_all f best j y below e sure level;
      least = λ j y within e sure key level. (best.leads j y (all j y e sure) e sure).by_number level;
    }

    none_listed : NonePicked number rank picks slots chain → All (λ z. picks z ≡ false) (listed number slots)
    none_listed none = All-in_order number (λ z. picks z ≡ false) (used slots) (All-used (λ z. picks z ≡ false) slots (λ j y e. test_cases (picks y) (picks y ≡ false) (λ sure. none j y (all j y e sure) e) (λ e'. e')))

    pub best_some : (o : Option (Found X)) → IsBestIn number rank picks slots chain o → IfSome o (λ f. StandsFirst number (is_greatest_of rank picks (listed number slots)) slots f.at f.item)
    best_some None none = tt
    best_some (Some f) best = best_of_all number rank picks slots f (of_all f best)

    pub best_none : (o : Option (Found X)) → IsBestIn number rank picks slots chain o → IfNone o (find (is_greatest_of rank picks (listed number slots)) (listed number slots) ≡ None)
    best_none None none = not_greatest number rank picks (listed number slots) (listed number slots) (none_listed none)
    best_none (Some f) best = tt

    pub best_not_picked : (o : Option (Found X)) → IsBestIn number rank picks slots chain o → IfNone o (find picks (listed number slots) ≡ None)
    best_not_picked None none = find-All_false picks (listed number slots) (none_listed none)
    best_not_picked (Some f) best = tt

    pub any_best : (o : Option (Found X)) → IsBestIn number rank picks slots chain o → (at : ℕ) → picks_slot number rank picks (slice_get slots at) ≡ true
        → is_some (find (is_greatest_of rank picks (listed number slots)) (listed number slots)) ≡ true
    any_best (Some f) best at sure = ap is_some (best_of_all number rank picks slots f (of_all f best)).first
    any_best None none at sure = absurd (picked_slot at (slice_get slots at) refl sure)
      where
        picked_slot : (i : ℕ) (s : Option (Option X)) → slice_get slots i ≡ s → picks_slot number rank picks s ≡ true → ⊥
        picked_slot i None is h = cc
        picked_slot i (Some None) is h = cc
        picked_slot i (Some (Some y)) is h = let w = none i y (all i y is h) is in cc

    -- where one is picked, one goes first
    pub any_picked : (at : ℕ) → picks_slot number rank picks (slice_get slots at) ≡ true
        → is_some (find (is_greatest_of rank picks (listed number slots)) (listed number slots)) ≡ true
    any_picked at sure = let w = walked slots chain in any_best w.best w.is at sure

    pub none_picked : NonePicked number rank picks slots chain → is_some (find (is_greatest_of rank picks (listed number slots)) (listed number slots)) ≡ false
    none_picked none = ap is_some (best_none None none)

    pub none_found : NonePicked number rank picks slots chain → find picks (listed number slots) ≡ None
    none_found none = best_not_picked None none

    pub first_some : ((y : X) → rank y ≡ 0) → (o : Option (Found X)) → IsBestIn number rank picks slots chain o → IfSome o (λ f. StandsFirst number picks slots f.at f.item)
    first_some zero None none = tt
    first_some zero (Some f) best = stands_first number picks slots f.at f.item record {
      here = best.here;
      picked = best.picked;
      before = λ j y below e yes. before_all f best j y below e yes (zero y ∙ sym (zero f.item));
      least = λ j y e yes. (best.leads j y (all j y e yes) e yes).by_number (zero y ∙ sym (zero f.item));
    }

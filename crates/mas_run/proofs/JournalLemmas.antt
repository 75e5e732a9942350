-- The journal before and after a line, and what follows of it for the queue and for what is in flight.
use Rattle.mas_run.proofs.Names.{arith, ◌≡◌, ℕ, Bool, false, if◌then◌else◌, List, [], ◌∷◌, ◌++◌, append-nil, Option, Some, None, refl, sym, ◌∙◌, ap, subst, map-append, Batch, Entry, Fate, Dropped, Flying, Kept, MemberId, Queue, is_flying, is_kept, run, Book, with_last-append, kept_all_append, placed_all, unplaced_settled, AreSettled, end_of, in_flight, kept_all, with_last, Batched, AreBatched, IsBatched as StandsAs, flies_as, flight_found, flying_in, kept_in, queue_found, kept_of, fate_then, flight_then, with_fate, AreHistory, as_history, settled, settle, with_found, IsFlight, IsBetween, IsShown, StandsIn, PlantGhosts, Ghosts as CopyGhosts, Parts, Member, Scene, journal_of, queue_of, settle_both, settle_still, run_append, flown_of, no}

-- THE HISTORY

abbrev seen : Batch → Batched
seen b = with_fate b.fate b.entries

-- with what was found of a batch in flight
history_settled : (f : Fate) (at : ℕ) (bs : List Batch) → as_history (settle f at bs) ≡ settled f (as_history bs)
history_settled f at [] = refl
history_settled f at (b ∷ bs) = ap (λ (x : Batched). x ∷ as_history (settle f at bs)) (by_fate b.fate refl) ∙ ap (λ (xs : List Batched). with_fate (fate_then f b.fate) b.entries ∷ xs) (history_settled f at bs) where
  found : (g : Fate) → b.fate ≡ Flying → seen (with_found g at b) ≡ with_fate g b.entries
  found g flies = grind arith

  by_fate : (k : Fate) → b.fate ≡ k → seen (if is_flying k then with_found f at b else b) ≡ with_fate (fate_then f k) b.entries
  by_fate k is = grind (arith, found f)

-- and of a line's own batches
pub history_own : (by : MemberId) (from now : ℕ) (xs : List Batched) (bs : List Batch) → AreBatched by from now xs bs → AreHistory xs bs
history_own by from now [] [] are = refl
history_own by from now (x ∷ xs) (b ∷ bs) are = ap (λ (k : Batched). k ∷ as_history bs) (stands_as x.fate refl are.0) ∙ ap (λ (ks : List Batched). x ∷ ks) (history_own by b.last now xs bs are.1) where
  same : b.entries ≡ x.entries → b.fate ≡ x.fate → seen b ≡ x
  same entries fate = ap (λ (k : Fate). with_fate k b.entries) fate ∙ ap (λ (es : List Entry). with_fate x.fate es) entries

  stands_as : (f : Fate) → x.fate ≡ f → StandsAs f by x from now b → seen b ≡ x
  stands_as q0 e is = grind arith
history_own by from now _ _ are = absurd are

pub history_more : (f : Fate) (at : ℕ) (xs ys : List Batched) (bs own : List Batch) → AreHistory xs bs → AreHistory ys own → AreHistory (settled f xs ++ ys) (settle f at bs ++ own)
history_more f at xs ys bs own are more =
    map-append seen (settle f at bs) own ∙ ap (λ (hs : List Batched). hs ++ as_history own) (history_settled f at bs ∙ ap (settled f) are) ∙ ap (λ (hs : List Batched). settled f xs ++ hs) more

-- what is kept of it
kept_history : (bs : List Batch) → kept_all bs ≡ kept_in (as_history bs)
kept_history [] = refl
kept_history (b ∷ bs) = ap (λ (es : List Entry). es ++ kept_all bs) (by_fate b.fate) ∙ ap (λ (es : List Entry). kept_of b.fate b.entries ++ es) (kept_history bs) where
  by_fate : (f : Fate) → (if is_kept f then b.entries else []) ≡ kept_of f b.entries
  by_fate f = grind arith

-- WHAT IS IN FLIGHT

flying_settled : (f : Fate) (xs : List Batched) → flying_in (settled f xs) ≡ flight_found f (flying_in xs)
flying_settled Kept [] = refl
flying_settled _ [] = refl
flying_settled f (x ∷ xs) = by_fates f x.fate (flying_settled f xs) where
  by_fates : (f k : Fate) → flying_in (settled f xs) ≡ flight_found f (flying_in xs) → flies_as (fate_then f k) x.entries (flying_in (settled f xs)) ≡ flight_found f (flies_as k x.entries (flying_in xs))
  by_fates f k more = grind arith

-- no batch flies after one that does
abbrev AreAlone : List Batched → Type 0
AreAlone [] = Unit {0}
AreAlone (x ∷ xs) = (x.fate ≡ Flying → flying_in xs ≡ None) × AreAlone xs

-- so of two parts only one has one
flying_both : (xs ys : List Batched) → AreAlone (xs ++ ys) → flying_in (xs ++ ys) ≡ flight_then (flying_in ys) (flying_in xs)
flying_both [] ys alone = none_before (flying_in ys) where
  none_before : (o : Option (List Entry)) → o ≡ flight_then o None
  none_before o = grind arith
flying_both (x ∷ xs) ys alone = by_fate x.fate alone.0 (flying_both xs ys alone.1) where
  first : (o p : Option (List Entry)) → flight_then o p ≡ None → Some x.entries ≡ flight_then o (Some x.entries)
  first o p none = grind arith

  by_fate : (f : Fate) → (f ≡ Flying → flying_in (xs ++ ys) ≡ None) → flying_in (xs ++ ys) ≡ flight_then (flying_in ys) (flying_in xs)
      → flies_as f x.entries (flying_in (xs ++ ys)) ≡ flight_then (flying_in ys) (flies_as f x.entries (flying_in xs))
  by_fate f none more = grind (arith, first)

-- THE JOURNAL without what is in flight

pub record Front (batches : List Batch) (placed : Bool) (current : Option Batch) : Type 0 where
  pub before : List Batch
  pub journal : end_of placed current batches ≡ before ++ in_flight current
  pub kept : kept_all batches ≡ kept_all before
  pub settled : (now : ℕ) → AreSettled batches now → AreSettled before now

front_of : (batches : List Batch) (placed : Bool) (b : Book) (current : Option Batch) → StandsIn batches placed b current → Front batches placed current
front_of batches placed b None stands = record {
  before = batches;
  journal = ap (λ (p : Bool). end_of p None batches) stands ∙ sym (append-nil batches);
  kept = refl;
  settled = λ now are. are;
}
front_of batches placed b (Some c) stands =
    let e = stands.0 in
    record {
      before = e.before;
      journal = ap (with_last c) e.is ∙ with_last-append c e.before e.place;
      kept = ap kept_all e.is ∙ placed_all e.place e.free e.before;
      settled = λ now are. unplaced_settled e.before e.place now (subst (λ (bs : List Batch). AreSettled bs now) e.is are);
    }

pub flown_is : (b : Book) (flight : Option (List Entry)) (current : Option Batch) → IsFlight b flight current → flown_of current ≡ flight
flown_is b None current none = ap flown_of none
flown_is b (Some es) current flies = ap flown_of flies.is ∙ ap (λ (xs : List Entry). Some xs) flies.entries

pub flies_so : (batches : List Batch) (placed : Bool) (b : Book) (current : Option Batch) → StandsIn batches placed b current → IsFlight b (flown_of current) current
flies_so batches placed b None stands = refl
flies_so batches placed b (Some c) stands = record { batch = c; is = refl; entries = refl; flies = stands.1; stopped = stands.2 }

module _ (batches : List Batch) (placed : Bool) (b : Book) (current : Option Batch) (now : ℕ) (stands : StandsIn batches placed b current) (are : AreSettled batches now) where
  abbrev front : Front batches placed current
  front = front_of batches placed b current stands

  -- one batch flies at most, and it is the one in flight
  flying_alone : AreAlone (as_history (end_of placed current batches)) × (flying_in (as_history (end_of placed current batches)) ≡ flown_of current)
  flying_alone =
      subst (λ (bs : List Batch). AreAlone (as_history bs) × (flying_in (as_history bs) ≡ flown_of current)) (sym front.journal) (after front.before (front.settled now are)) where
        last : (c : Option Batch) → StandsIn batches placed b c → AreAlone (as_history (in_flight c)) × (flying_in (as_history (in_flight c)) ≡ flown_of c)
        last None so = (tt, refl)
        last (Some c) so = ((λ flies. refl, tt), ap (λ (f : Fate). flies_as f c.entries None) so.1)

        unflown : (f : Fate) (es : List Entry) (rest : Option (List Entry)) → is_flying f ≡ false → flies_as f es rest ≡ rest
        unflown f es rest not = grind arith

        after : (bs : List Batch) → AreSettled bs now → AreAlone (as_history (bs ++ in_flight current)) × (flying_in (as_history (bs ++ in_flight current)) ≡ flown_of current)
        after [] settled = last current stands
        after (c ∷ bs) settled =
            let more = after bs settled.3 in
            ((λ flies. absurd (no (is_flying c.fate) (ap is_flying flies) settled.0), more.0), unflown c.fate c.entries _ settled.0 ∙ more.1)

  -- what is in flight isn't kept
  kept_journal : kept_all batches ≡ kept_all (end_of placed current batches)
  kept_journal = front.kept ∙ sym (kept_all_append front.before (in_flight current) ∙ ap (λ (es : List Entry). kept_all front.before ++ es) (none current stands) ∙ append-nil (kept_all front.before)) ∙ ap kept_all (sym front.journal) where
    none : (c : Option Batch) → StandsIn batches placed b c → kept_all (in_flight c) ≡ []
    none None so = refl
    none (Some c) so = ap (λ (f : Fate). (if is_kept f then c.entries else []) ++ []) so.1

  -- THE QUEUE that a line finds: a batch in flight is found out, or is in flight still
  pub queue_met : (base : Queue) (at : ℕ) (flight : Option (List Entry)) → IsFlight b flight current → (found : Fate)
      → run base (kept_all (settle found at (end_of placed current batches))) ≡ queue_found found flight (run base (kept_all batches))
  queue_met base at flight flies found =
      let more = settle found at (in_flight current) in
      ap (λ (bs : List Batch). run base (kept_all bs)) (ap (settle found at) front.journal ∙ settle_both found at front.before (in_flight current)
      ∙ ap (λ (bs : List Batch). bs ++ more) (settle_still found at front.before now (front.settled now are)))
      ∙ ap (run base) (kept_all_append front.before more) ∙ run_append base (kept_all front.before) (kept_all more)
      ∙ ap (λ (es : List Entry). run (run base es) (kept_all more)) (sym front.kept)
      ∙ taken current stands (run base (kept_all batches)) found
      ∙ ap (λ (o : Option (List Entry)). queue_found found o (run base (kept_all batches))) (flown_is b flight current flies) where
        taken : (c : Option Batch) → StandsIn batches placed b c → (Q : Queue) (f : Fate) → run Q (kept_all (settle f at (in_flight c))) ≡ queue_found f (flown_of c) Q
        taken None so Q Kept = refl
        taken None so Q _ = refl
        taken (Some c) so Q f = ap (λ (k : Fate). run Q (kept_all ((if is_flying k then with_found f at c else c) ∷ []))) so.1 ∙ by_fate f where
          by_fate : (g : Fate) → run Q (kept_all (with_found g at c ∷ [])) ≡ queue_found g (Some c.entries) Q
          by_fate Kept = ap (run Q) (append-nil c.entries)
          by_fate Dropped = refl
          by_fate Flying = ap (λ (k : Fate). run Q ((if is_kept k then c.entries else []) ++ [])) so.1

-- FROM ONE LINE TO THE NEXT

module _ {P C : Type 0} (plants : PlantGhosts P) (copies : CopyGhosts C) (x y : Parts P C) {ms ns : List Member} {n m : ℕ} (was : IsBetween plants copies x ms n) (now : IsBetween plants copies y ns m) (base : y.base ≡ x.base)
    {told : Type 0} {S : Scene} (shown : IsShown plants copies told S x) (found : Fate) (at : ℕ) (xs : List Batched) (own : List Batch) (are : AreHistory xs own) (journal : journal_of y ≡ settle found at (journal_of x) ++ own) where
  flown : IsFlight x.book S.flight x.current
  flown = subst (λ (b : Book). IsFlight b S.flight x.current) (sym shown.book) shown.flight

  pub queue_then : queue_of y ≡ run (queue_found found S.flight S.queue) (kept_in xs)
  queue_then =
      let met = settle found at (journal_of x) in
      ap (λ (Q : Queue). run Q (kept_all y.batches)) base
      ∙ ap (run x.base) (kept_journal y.batches y.placed y.book y.current (plants.view y.plant).now now.stands now.settled ∙ ap kept_all journal ∙ kept_all_append met own)
      ∙ run_append x.base (kept_all met) (kept_all own)
      ∙ ap (λ (Q : Queue). run Q (kept_all own)) (queue_met x.batches x.placed x.book x.current (plants.view x.plant).now was.stands was.settled x.base at S.flight flown found ∙ ap (queue_found found S.flight) shown.queue)
      ∙ ap (run (queue_found found S.flight S.queue)) (kept_history own ∙ ap kept_in are)

  pub flight_next : IsFlight y.book (flight_then (flying_in xs) (flight_found found S.flight)) y.current
  flight_next =
      let here = flying_alone x.batches x.placed x.book x.current (plants.view x.plant).now was.stands was.settled in
      let there = flying_alone y.batches y.placed y.book y.current (plants.view y.plant).now now.stands now.settled in
      let is : as_history (journal_of y) ≡ settled found (as_history (journal_of x)) ++ xs = ap as_history journal ∙ history_more found at (as_history (journal_of x)) xs (journal_of x) own refl are in
      subst (λ (o : Option (List Entry)). IsFlight y.book o y.current)
      (sym there.1 ∙ ap flying_in is ∙ flying_both (settled found (as_history (journal_of x))) xs (subst AreAlone is there.0)
      ∙ ap (flight_then (flying_in xs)) (flying_settled found (as_history (journal_of x)) ∙ ap (flight_found found) (here.1 ∙ flown_is x.book S.flight x.current flown)))
      (flies_so y.batches y.placed y.book y.current now.stands)

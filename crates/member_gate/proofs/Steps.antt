-- Each step of the table keeps the rule.
use Rattle.std.proofs.Common.{◌≡◌, ◌≢◌, ℕ, zero, suc, ◌+◌, ◌<◌, ◌≤◌, Bool, true, false, eqb, List, [], ◌∷◌, ◌++◌, length, set, refl, sym, ap, subst, ◌∙◌, ⊎_elim, arith, ne_eqb}
use Rattle.std.specs.Prelude.{Option, Some, None, map, slice_index}
use mathlib.Core.Option.{some, none}
use mathlib.Core.Option as maybe
use lib.ListN.{get_elem?}
use prog.Atomic.{either}
use Rattle.atomic_table.specs.Table.{Me, step, Act, keeps, takes, gives, Valid, Allows, Splits, Joins, homes_after, carried_after, rest, opening}
use Rattle.gate_facts.specs.declared.facts.Facts.{Facts}
use Rattle.mas_types.specs.declared.journals.Entry.{Entry}
use Rattle.member_gate.specs.declared.view.View.{View}
use Rattle.member_gate.specs.declared.view.Sight.{Sight}
use Rattle.member_gate.specs.Marking.{marked, grown}
use Rattle.gate_facts.specs.Values.{marked_at}
use Rattle.gate_facts.specs.Ways.{EachWay}
use Rattle.member_gate.specs.Views.{sight, mine, AllBegin, HasHeard, Meets, HasAll, MayEnd, Finds, MayLeave, MineGrows, MayBegin, refused, taking, counting, ending, opened, opener, giving, given_to, joined, spent}
use Rattle.member_gate.specs.Rules.{OneWay, one_way, Has, Fits, Shape, Place, Ruled, tried, counted, ended, began}
use Rattle.atomic_table.proofs.Lists.{at_set, set_here, set_else, at_snoc, at_longer}
use Rattle.gate_facts.specs.Memory.{seats}
use Rattle.gate_facts.proofs.Lists.{true_false, not_true, at_within}
use Rattle.member_gate.proofs.Places.{mine_grows}
use Rattle.member_gate.proofs.Ways.{SameSeen, map_set, map_snoc, has_map, counting_one, spent_one, counting_way, given_way, opener_way, spent_way, joined_way, taking_seen, taking_out, counting_sees, opener_out}
use Rattle.member_gate.proofs.Shapes.{has_all, meets_same, quiet, counts_shape, split_shape, join_shape, open_shape}

-- a slot that was taken is the only one
pub held_first : {S : Type 0} (c : List (ℕ × S)) (x : S) → c ≡ (0, x) ∷ [] → c ≡ (0, x) ∷ rest c
held_first {S} c x e = e ∙ ap (λ (r : List (ℕ × S)). (0, x) ∷ r) (sym (ap rest e))

-- the slot after an exchange
pub exchanged_to : {V : Type 0} (m m' : Me (Option V) View) (v : View) (old new : Option V) → m ≡ (v, (0, old) ∷ []) → m' ≡ (m.0, (0, new) ∷ rest m.1) → m' ≡ (v, (0, new) ∷ [])
exchanged_to {V} m m' v old new holds is = is ∙ ap (λ (c : Me (Option V) View). (c.0, (0, new) ∷ rest c.1)) holds

-- a seat is its view and its slots
pub seat_is : {V : Type 0} (m : Me (Option V) View) (v : View) (c : List (ℕ × Option V)) → m.0 ≡ v → m.1 ≡ c → m ≡ (v, c)
seat_is m v c d e = λ i. (d i, e i)

set_only : {A : Type 0} (l : List A) (x : A) → length l ≡ 1 → set l 0 x ≡ x ∷ []
set_only [] x e = absurd (omega arith)
set_only (y ∷ []) x e = refl
set_only (y ∷ (z ∷ l)) x e = absurd (omega arith)

only_one : (v w : View) (j : ℕ) → Has (v ∷ []) j w → j ≡ 0
only_one v w zero e = refl
only_one v w (suc j) e = absurd (maybe.some-ne-none w (sym e))

-- two views at one place are one
one_at : (vs : List View) (i j : ℕ) (v w : View) → Has vs i v → Has vs j w → i ≡ j → v ≡ w
one_at vs i j v w ati atj e = maybe.some-injective v w (sym ati ∙ (ap (λ (k : ℕ). get_elem? vs k) e ∙ atj))

set_has : (vs : List View) (id : ℕ) (v w : View) → Has vs id v → Has (set vs id w) id w
set_has vs id v w at = set_here vs id w (at_within vs id v at)

-- THE SHAPE IN EACH WAY

abbrev Shapes : Type 0 → (Bool → Facts) → List View → Type 0
Shapes tells is vs = EachWay tells (λ told. Shape (is told) (map (one_way told) vs))

-- what holds in each way where something else does
each_way : (tells : Type 0) (P Q : Bool → Type 0) → ((told : Bool) → P told → Q told) → EachWay tells P → EachWay tells Q
each_way tells P Q f e = record { bare = f false e.bare; told = λ t. f true (e.told t) }

-- a view changes that still fits, and has the marks that it had
quiet_ways : (tells : Type 0) (is : Bool → Facts) (vs : List View) (id : ℕ) (v w : View) → Has vs id v → Shapes tells is vs
    → ((told : Bool) → Fits (is told) (one_way told v) → Fits (is told) (one_way told w))
    → w.own ≡ v.own → w.cares ≡ v.cares → w.holds ≡ v.holds → w.given ≡ v.given → w.root ≡ v.root → Shapes tells is (set vs id w)
quiet_ways tells is vs id v w at s fit own cares holds given root = each_way tells (λ told. Shape (is told) (map (one_way told) vs)) (λ told. Shape (is told) (map (one_way told) (set vs id w)))
    (λ told one. let at' = has_map (one_way told) vs id v at in
    subst (λ (us : List OneWay). Shape (is told) us) (sym (map_set (one_way told) vs id w))
    (quiet (is told) (map (one_way told) vs) id (one_way told v) (one_way told w) at' one (fit told (one.each id (one_way told v) at')) own cares holds given root))
    s

-- a view that knows the same of the value, and has the marks that it had, fits as before
fits_same : (is : Facts) (v w : OneWay) → SameSeen w.sight v.sight → w.member ≡ v.member → w.cares ≡ v.cares → w.own ≡ v.own → w.holds ≡ v.holds → w.live ≡ v.live
    → (w.opening ≡ true → w.has ≡ true) → Fits is v → Fits is w
fits_same is v w seen member cares own holds live opens fit = record {
  knows = λ l. meets_same v w is seen member cares (fit.knows (sym live ∙ l));
  within = subst (λ (n : ℕ). n ≤ length w.sight.last.kept) (ap length (sym own)) (subst (λ (f : Facts). length v.own ≤ length f.kept) (sym seen.0) fit.within);
  before = subst (λ (f : Facts). length f.kept ≤ length is.kept) (sym seen.0) fit.before;
  small = subst (λ (n : ℕ). n < seats) (sym member) fit.small;
  opens = opens;
  itself = λ l. ap (λ (hs : List Bool). marked_at hs w.member) holds ∙ (ap (λ (n : ℕ). marked_at v.holds n) member ∙ fit.itself (sym live ∙ l));
  heard = λ l. subst (λ (hs : List (List Entry)). AllBegin is.kept hs) (sym seen.3) (fit.heard (sym live ∙ l));
}

module _ {V : Type 0} (tells : Type 0) (facts : V → Bool → Facts) where
  abbrev Cell : Type 0
  Cell = maybe.Option (Option V)

  abbrev Held : List Cell → List View → (Bool → Facts) → ℕ → Type 0
  Held hs vs is turn = Place tells facts hs vs is turn

  -- what a step owes where the words are ws
  abbrev Reaches : List Cell → List View → ℕ → (ℕ → ℕ) → ℕ → List (ℕ × Option V) → (ℕ → Me (Option V) View → Type 0) → List ℕ → Type 0
  Reaches hs vs i f id c then ws = (w : View) × (a : Act (Option V)) × Valid hs c a × Ruled tells facts record { words = set ws i (f (slice_index ws i)); homes = homes_after hs c a; views = set vs id w } × then (slice_index ws i) (w, carried_after c a)

  -- a view without the turn changes
  place_set : (hs : List Cell) (vs : List View) (id : ℕ) (v w : View) (is : Bool → Facts) (turn : ℕ) → Has vs id v → v.has ≡ false → w.has ≡ false → Held hs vs is turn → Held hs (set vs id w) is turn
  place_set hs vs id v w is zero at idle idle' (x, homes, is_x, none_has) =
      (x, homes, is_x, λ j u atj. ⊎_elim (λ t. ap (λ (z : View). z.has) (sym t.1) ∙ idle') (λ t. none_has j u t.1) (at_set vs id j w u atj))
  place_set hs vs id v w is (suc m) at idle idle' (j, u, atj, hasj, memj, outj, openj, alone) =
      let other : j ≢ id = λ e. true_false u.has hasj (ap (λ (z : View). z.has) (one_at vs j id u v atj at e) ∙ idle) in (
        j,
        u,
        set_else vs id j w other ∙ atj,
        hasj,
        memj,
        outj,
        openj,
        λ k x atk hask.
            ⊎_elim (λ t. true_false x.has hask (ap (λ (z : View). z.has) (sym t.1) ∙ idle')) (λ t. alone k x t.1 hask) (at_set vs id k w x atk),
      )

  place_snoc : (hs : List Cell) (vs : List View) (w : View) (is : Bool → Facts) (turn : ℕ) → w.has ≡ false → Held hs vs is turn → Held hs (vs ++ w ∷ []) is turn
  place_snoc hs vs w is zero idle' (x, homes, is_x, none_has) =
      (x, homes, is_x, λ j u atj. ⊎_elim (λ t. none_has j u t) (λ t. ap (λ (z : View). z.has) (sym t) ∙ idle') (at_snoc vs w u j atj))
  place_snoc hs vs w is (suc m) idle' (j, u, atj, hasj, memj, outj, openj, alone) = (
    j,
    u,
    at_longer vs (w ∷ []) j u atj,
    hasj,
    memj,
    outj,
    openj,
    λ k x atk hask.
        ⊎_elim (λ t. alone k x t hask) (λ t. true_false x.has hask (ap (λ (z : View). z.has) (sym t) ∙ idle')) (at_snoc vs w x k atk),
  )

  -- the seat with the turn is the one that the rule knows
  turn_of : (hs : List Cell) (vs : List View) (is : Bool → Facts) (turn id : ℕ) (v : View) → Held hs vs is turn → Has vs id v → v.has ≡ true
      → (turn ≡ suc v.member) × ((told : Bool) → (sight v told).out ≡ is told) × (v.opening ≡ true → hs ≡ some None ∷ []) × ((j : ℕ) (w : View) → Has vs j w → w.has ≡ true → j ≡ id)
  turn_of hs vs is zero id v (x, homes, is_x, none_has) at has = absurd (true_false v.has has (none_has id v at))
  turn_of hs vs is (suc m) id v (j, u, atj, hasj, memj, outj, openj, alone) at has =
      let e : id ≡ j = alone id v at has in
      let same : u ≡ v = one_at vs j id u v atj at (sym e) in (
        ap suc (sym memj ∙ ap (λ (z : View). z.member) same),
        (λ told. ap (λ (z : View). (sight z told).out) (sym same) ∙ outj told),
        (λ o. openj (ap (λ (z : View). z.opening) same ∙ o)),
        λ k w atk hask. alone k w atk hask ∙ sym e,
      )

  -- the view of the seat with the turn changes, and the seat keeps the turn
  place_turn : (hs hs' : List Cell) (vs : List View) (is is' : Bool → Facts) (turn id : ℕ) (v w : View) → Held hs vs is turn → Has vs id v → v.has ≡ true → w.has ≡ true → w.member ≡ v.member
      → ((told : Bool) → (sight w told).out ≡ is' told) → w.opening ≡ false → Held hs' (set vs id w) is' turn
  place_turn hs hs' vs is is' turn id v w place at has has' member out begun =
      let t = turn_of hs vs is turn id v place at has in
      subst (Held hs' (set vs id w) is') (sym t.0) (
        id,
        w,
        set_has vs id v w at,
        has',
        member,
        out,
        (λ o. true_false w.opening o begun),
        λ j u atj hasj.
            ⊎_elim (λ s. s.0) (λ s. t.3 j u s.1 hasj) (at_set vs id j w u atj),
      )

  -- what a pass finds at its turn
  finds : (is : Bool → Facts) (vs : List View) (id : ℕ) (v : View) (x : V) → ((told : Bool) → facts x told ≡ is told) → Has vs id v → v.live ≡ true → Shapes tells is vs → Finds tells v (facts x)
  finds is vs id v x is_x at live s = each_way tells (λ told. Shape (is told) (map (one_way told) vs)) (λ told. Meets v told (facts x told) × HasAll v told (facts x told) × HasHeard v told (facts x told))
      (λ told one. let at' = has_map (one_way told) vs id v at in (
        subst (λ (f : Facts). Meets v told f) (sym (is_x told)) ((one.each id (one_way told v) at').knows live),
        subst (λ (f : Facts). HasAll v told f) (sym (is_x told)) (has_all (is told) (map (one_way told) vs) id (one_way told v) at' one live),
        subst (λ (f : Facts). HasHeard v told f) (sym (is_x told)) ((one.each id (one_way told v) at').heard live),
      ))
      s

  tries_goes : (hs : List Cell) (vs : List View) (is : Bool → Facts) (turn count id : ℕ) (v : View) (slots : ℕ) → ((told : Bool) → length (is told).kept ≡ count) → Held hs vs is turn → Shapes tells is vs
      → Has vs id v → v.has ≡ false → v.live ≡ true → v.opening ≡ false
      → Reaches hs vs 0 (λ n. either (eqb n 0) (v.member + 1) n) id [] (tried tells facts (step slots 0 0 (v.member + 1) none) (v, [])) (turn ∷ count ∷ [])
  tries_goes hs vs is zero count id v slots counts (x, homes, is_x, none_has) s at idle live begun =
      let w : View = taking v (v.tries + 1) (facts x) in (
        w,
        takes 0 (Some x),
        ap (λ (h : List Cell). get_elem? h 0) homes,
        record {
          value = is;
          turn = suc v.member;
          count = count;
          words = ap (λ (n : ℕ). n ∷ count ∷ []) (omega arith);
          counts = counts;
          place = (
            id,
            w,
            set_has vs id v w at,
            refl,
            refl,
            (λ told. taking_out told v (v.tries + 1) (facts x) ∙ is_x told),
            (λ e. true_false v.opening e begun),
            λ j u atj hasj.
                ⊎_elim (λ t. t.0) (λ t. true_false u.has hasj (none_has j u t.1)) (at_set vs id j w u atj),
          );
          shape = quiet_ways tells is vs id v w at s (λ told fit. fits_same (is told) (one_way told v) (one_way told w) (taking_seen told v (v.tries + 1) (facts x)) refl refl refl refl refl (λ o. refl) fit) refl refl refl refl refl;
        },
        (omega arith, (λ _. (x, finds is vs id v x is_x at live s, refl)), λ ne. absurd (ne refl)),
      )
  tries_goes hs vs is (suc m) count id v slots counts place s at idle live begun =
      let w : View = refused v (suc m) in
      let his = s.bare.each place.0 (one_way false place.1) (has_map (one_way false) vs place.0 place.1 place.2) in (
        w,
        keeps,
        tt,
        record {
          value = is;
          turn = suc m;
          count = count;
          words = ap (λ (b : Bool). either b (v.member + 1) (suc m) ∷ count ∷ []) (ne_eqb (suc m) 0 (λ e. omega arith));
          counts = counts;
          place = place_set hs vs id v w is (suc m) at idle idle place;
          shape = quiet_ways tells is vs id v w at s (λ told fit. fits_same (is told) (one_way told v) (one_way told w) (refl, refl, refl, refl) refl refl refl refl refl (λ o. true_false v.opening o begun) fit) refl refl refl refl refl;
        },
        ((let b = his.small in let c : place.1.member ≡ m = place.4 in omega arith), (λ e. absurd (omega arith)), λ _. refl),
      )

  pub tries : (slots id : ℕ) (me : Me (Option V) View) (by : ℕ) → me.1 ≡ [] → me.0.has ≡ false → me.0.live ≡ true → me.0.opening ≡ false → by ≡ me.0.member
      → Allows (Ruled tells facts) slots id me 0 (λ n. either (eqb n 0) (by + 1) n) (tried tells facts (step slots 0 0 (by + 1) none) me)
  tries slots id me by empty idle live begun is_by =
      subst (λ (k : ℕ). Allows (Ruled tells facts) slots id me 0 (λ n. either (eqb n 0) (k + 1) n) (tried tells facts (step slots 0 0 (k + 1) none) me)) (sym is_by)
      (subst (λ (m : Me (Option V) View). Allows (Ruled tells facts) slots id m 0 (λ n. either (eqb n 0) (me.0.member + 1) n) (tried tells facts (step slots 0 0 (me.0.member + 1) none) m)) (sym (seat_is me me.0 [] refl empty)) (λ s r len at small.
      subst (Reaches s.homes s.views 0 (λ n. either (eqb n 0) (me.0.member + 1) n) id [] (tried tells facts (step slots 0 0 (me.0.member + 1) none) (me.0, []))) (sym r.words)
      (tries_goes s.homes s.views r.value r.turn r.count id me.0 slots r.counts r.place r.shape at idle live begun)))

  -- the pass that has the turn counts the value that it gives back
  counts_ways : (is is' : Bool → Facts) (vs : List View) (id : ℕ) (v : View) (count n : ℕ) → ((told : Bool) → length (is told).kept ≡ count) → ((told : Bool) → length (is' told).kept ≡ n)
      → ((told : Bool) → (sight v told).out ≡ is told) → Has vs id v → Shapes tells is vs → v.has ≡ true → v.live ≡ true → v.opening ≡ false → MayLeave tells v is' → Shapes tells is' (set vs id (counting v is'))
  counts_ways is is' vs id v count n counts counts' out at s has live begun may = record { bare = by_way false s.bare may.bare; told = λ t. by_way true (s.told t) (may.told t) } where
    by_way : (told : Bool) → Shape (is told) (map (one_way told) vs) → MayEnd v told (is' told) → Shape (is' told) (map (one_way told) (set vs id (counting v is')))
    by_way told one may' =
        let was : length v.bare.out.kept ≡ length (sight v told).out.kept = ap (λ (f : Facts). length f.kept) (out false) ∙ (counts false ∙ (sym (counts told) ∙ ap (λ (f : Facts). length f.kept) (sym (out told)))) in
        let now : length (is' false).kept ≡ length (is' told).kept = counts' false ∙ sym (counts' told) in
        subst (λ (us : List OneWay). Shape (is' told) us) (sym (map_set (one_way told) vs id (counting v is')))
        (subst (λ (w : OneWay). Shape (is' told) (set (map (one_way told) vs) id w)) (sym (counting_way told v is'))
        (subst (λ (k : ℕ). Shape (is' told) (set (map (one_way told) vs) id (counting_one k (length (is' false).kept) (one_way told v) (is' told)))) (sym was)
        (subst (λ (k : ℕ). Shape (is' told) (set (map (one_way told) vs) id (counting_one (length (sight v told).out.kept) k (one_way told v) (is' told)))) (sym now)
        (counts_shape (is told) (is' told) (map (one_way told) vs) id (one_way told v) (has_map (one_way told) vs id v at) one (out told) has live begun may'))))

  -- what became kept is the pass's own
  grows_ways : (is is' : Bool → Facts) (vs : List View) (id : ℕ) (v : View) (count n : ℕ) → ((told : Bool) → length (is told).kept ≡ count) → ((told : Bool) → length (is' told).kept ≡ n)
      → ((told : Bool) → (sight v told).out ≡ is told) → Has vs id v → Shapes tells is vs → v.live ≡ true → MineGrows tells v (counting v is') is'
  grows_ways is is' vs id v count n counts counts' out at s live = each_way tells (λ told. Shape (is told) (map (one_way told) vs))
      (λ told. (more : List Entry) → (is' told).kept ≡ (sight v told).out.kept ++ more → mine (counting v is') told ≡ mine v told ++ more)
      (λ told one more grew.
      let fit = one.each id (one_way told v) (has_map (one_way told) vs id v at) in
      let starts = (fit.knows live).kept in
      let was : length v.bare.out.kept ≡ length (sight v told).out.kept = ap (λ (f : Facts). length f.kept) (out false) ∙ (counts false ∙ (sym (counts told) ∙ ap (λ (f : Facts). length f.kept) (sym (out told)))) in
      let now : length (is' false).kept ≡ length (is' told).kept = counts' false ∙ sym (counts' told) in
      (λ i. marked (grown v.own (was i) (now i)) ((counting_sees told v is' i).last.kept))
      ∙ mine_grows v.own (sight v told).last.kept (sight v told).out.kept (is' told).kept more fit.within (starts.0, ap (λ (f : Facts). f.kept) (out told) ∙ starts.1) grew)
      s

  counts_goes : (hs : List Cell) (vs : List View) (is is' : Bool → Facts) (turn count id n : ℕ) (v : View) (c : List (ℕ × Option V)) (slots : ℕ) → ((told : Bool) → length (is told).kept ≡ count)
      → ((told : Bool) → length (is' told).kept ≡ n) → Held hs vs is turn → Shapes tells is vs
      → Has vs id v → v.has ≡ true → v.live ≡ true → v.opening ≡ false → MayLeave tells v is'
      → Reaches hs vs 1 (λ _. n) id c (λ _. counted tells facts is' (step slots 1 n 0 none) (v, c) n) (turn ∷ count ∷ [])
  counts_goes hs vs is is' turn count id n v c slots counts counts' place s at has live begun may =
      let w : View = counting v is' in
      let t = turn_of hs vs is turn id v place at has in (
        w,
        keeps,
        tt,
        record {
          value = is';
          turn = turn;
          count = n;
          words = refl;
          counts = counts';
          place = place_turn hs hs vs is is' turn id v w place at has has refl (λ told. ap (λ (z : Sight). z.out) (counting_sees told v is')) begun;
          shape = counts_ways is is' vs id v count n counts counts' t.1 at s has live begun may;
        },
        (refl, grows_ways is is' vs id v count n counts counts' t.1 at s live),
      )

  pub counts : (slots id : ℕ) (me : Me (Option V) View) (is' : Bool → Facts) (n : ℕ) → ((told : Bool) → n ≡ length (is' told).kept) → me.0.has ≡ true → me.0.live ≡ true → me.0.opening ≡ false → MayLeave tells me.0 is'
      → Allows (Ruled tells facts) slots id me 1 (λ _. n) (λ _. counted tells facts is' (step slots 1 n 0 none) me n)
  counts slots id me is' n count has live begun may s r len at small =
      subst (Reaches s.homes s.views 1 (λ _. n) id me.1 (λ _. counted tells facts is' (step slots 1 n 0 none) me n)) (sym r.words)
      (counts_goes s.homes s.views r.value is' r.turn r.count id n me.0 me.1 slots r.counts (λ told. sym (count told)) r.place r.shape at has live begun may)

  ends_goes : (hs : List Cell) (vs : List View) (is : Bool → Facts) (turn count id : ℕ) (v : View) (x : V) (slots : ℕ) → ((told : Bool) → length (is told).kept ≡ count) → Held hs vs is turn → Shapes tells is vs
      → Has vs id v → length hs ≡ 1 → v.has ≡ true → v.live ≡ true → v.opening ≡ false → ((told : Bool) → (sight v told).out ≡ facts x told)
      → Reaches hs vs 0 (λ _. 0) id ((0, Some x) ∷ []) (λ _. ended tells facts (step slots 0 0 0 none) (v, (0, Some x) ∷ []) 0) (turn ∷ count ∷ [])
  ends_goes hs vs is turn count id v x slots counts place s at len has live begun out_is =
      let w : View = ending v in
      let t = turn_of hs vs is turn id v place at has in (
        w,
        gives,
        tt,
        record {
          value = is;
          turn = 0;
          count = count;
          words = refl;
          counts = counts;
          place = (
            x,
            set_only hs (some (Some x)) len,
            (λ told. sym (out_is told) ∙ t.1 told),
            λ j u atj.
                ⊎_elim (λ q. ap (λ (z : View). z.has) (sym q.1)) (λ q. not_true u.has (λ h. q.0 (t.3 j u q.1 h))) (at_set vs id j w u atj),
          );
          shape = quiet_ways tells is vs id v w at s (λ told fit. fits_same (is told) (one_way told v) (one_way told w) (refl, refl, refl, refl) refl refl refl refl refl (λ o. true_false v.opening o begun) fit) refl refl refl refl refl;
        },
        refl,
      )

  pub ends : (slots id : ℕ) (me : Me (Option V) View) (v : View) (x : V) → slots ≡ 1 → me ≡ (v, (0, Some x) ∷ []) → v.has ≡ true → v.live ≡ true → v.opening ≡ false → ((told : Bool) → (sight v told).out ≡ facts x told)
      → Allows (Ruled tells facts) slots id me 0 (λ _. 0) (λ _. ended tells facts (step slots 0 0 0 none) me 0)
  ends slots id me v x one is has live begun out_is =
      subst (λ (m : Me (Option V) View). Allows (Ruled tells facts) slots id m 0 (λ _. 0) (λ _. ended tells facts (step slots 0 0 0 none) m 0)) (sym is) (λ s r len at small.
      subst (Reaches s.homes s.views 0 (λ _. 0) id ((0, Some x) ∷ []) (λ _. ended tells facts (step slots 0 0 0 none) (v, (0, Some x) ∷ []) 0)) (sym r.words)
      (ends_goes s.homes s.views r.value r.turn r.count id v x slots r.counts r.place r.shape at (len ∙ one) has live begun out_is))

  begins_goes : (hs : List Cell) (vs : List View) (is : Bool → Facts) (turn count id : ℕ) (v : View) (n slots : ℕ) → ((told : Bool) → length (is told).kept ≡ count) → Held hs vs is turn → Shapes tells is vs
      → Has vs id v → v.has ≡ true → v.live ≡ true → v.opening ≡ true → n ≡ length v.bare.out.kept
      → Reaches hs vs 1 (λ _. n) id [] (λ _. began tells facts (step slots 1 n 0 none) (v, []) n) (turn ∷ count ∷ [])
  begins_goes hs vs is turn count id v n slots counts place s at has live opens same =
      let w : View = opened v in
      let t = turn_of hs vs is turn id v place at has in (
        w,
        takes 0 None,
        ap (λ (h : List Cell). get_elem? h 0) (t.2 opens),
        record {
          value = is;
          turn = turn;
          count = count;
          words = ap (λ (k : ℕ). turn ∷ k ∷ []) (same ∙ (ap (λ (z : Facts). length z.kept) (t.1 false) ∙ counts false));
          counts = counts;
          place = place_turn hs (set hs 0 none) vs is is turn id v w place at has has refl t.1 refl;
          shape = quiet_ways tells is vs id v w at s (λ told fit. fits_same (is told) (one_way told v) (one_way told w) (refl, refl, refl, refl) refl refl refl refl refl (λ o. has) fit) refl refl refl refl refl;
        },
        refl,
      )

  pub begins : (slots id : ℕ) (me : Me (Option V) View) (v : View) (n : ℕ) → me ≡ (v, []) → v.has ≡ true → v.live ≡ true → v.opening ≡ true → n ≡ length v.bare.out.kept
      → Allows (Ruled tells facts) slots id me 1 (λ _. n) (λ _. began tells facts (step slots 1 n 0 none) me n)
  begins slots id me v n is has live opens count =
      subst (λ (m : Me (Option V) View). Allows (Ruled tells facts) slots id m 1 (λ _. n) (λ _. began tells facts (step slots 1 n 0 none) m n)) (sym is) (λ s r len at small.
      subst (Reaches s.homes s.views 1 (λ _. n) id [] (λ _. began tells facts (step slots 1 n 0 none) (v, []) n)) (sym r.words)
      (begins_goes s.homes s.views r.value r.turn r.count id v n slots r.counts r.place r.shape at has live opens count))

  -- the table at the start
  pub opens : (x : V) (n : ℕ) → ((told : Bool) → n ≡ length (facts x told).kept) → EachWay tells (λ told. MayBegin (facts x told)) → Ruled tells facts (opening (1 ∷ n ∷ []) (None ∷ []) (opener (facts x)))
  opens x n count may = record {
    value = facts x;
    turn = 1;
    count = n;
    words = refl;
    counts = λ told. sym (count told);
    place = (0, opener (facts x), refl, refl, refl, (λ told. opener_out told (facts x)), (λ o. refl), λ j w at has. only_one (opener (facts x)) w j at);
    shape = each_way tells (λ told. MayBegin (facts x told)) (λ told. Shape (facts x told) (map (one_way told) (opener (facts x) ∷ [])))
        (λ told one. subst (λ (w : OneWay). Shape (facts x told) (w ∷ [])) (sym (opener_way told (facts x))) (open_shape (facts x told) one)) may;
  }

  pub splits : (id : ℕ) (v : View) (m : ℕ) → v.has ≡ false → v.live ≡ true → v.root ≡ true → 0 < m → m < seats → marked_at v.given m ≡ false → Splits (Ruled tells facts) id v (giving m v) (given_to m v)
  splits id v m idle live root pos small new s r at = record {
    value = r.value;
    turn = r.turn;
    count = r.count;
    words = r.words;
    counts = r.counts;
    place = place_snoc s.homes (set s.views id (giving m v)) (given_to m v) r.value r.turn refl (place_set s.homes s.views id v (giving m v) r.value r.turn at idle idle r.place);
    shape = each_way tells (λ told. Shape (r.value told) (map (one_way told) s.views)) (λ told. Shape (r.value told) (map (one_way told) (set s.views id (giving m v) ++ given_to m v ∷ [])))
        (λ told one. subst (λ (us : List OneWay). Shape (r.value told) us)
        (sym (map_snoc (one_way told) (set s.views id (giving m v)) (given_to m v) ∙ (λ i. map_set (one_way told) s.views id (giving m v) i ++ given_way told m v i ∷ [])))
        (split_shape (r.value told) (map (one_way told) s.views) id (one_way told v) m (has_map (one_way told) s.views id v at) one live root idle pos small new))
        r.shape;
  }

  pub joins : (id : ℕ) (v : View) (other : ℕ) (w : View) → v.has ≡ false → w.has ≡ false → v.live ≡ true → w.live ≡ true → v.opening ≡ false → Joins (Ruled tells facts) id v other w (joined v w) spent
  joins id v other w idle idle' live live' begun s r at ne ato =
      let b : View = joined v w in
      let at' : Has s.views other w = sym (set_else s.views id other b ne) ∙ ato in
      record {
        value = r.value;
        turn = r.turn;
        count = r.count;
        words = r.words;
        counts = r.counts;
        place = place_set s.homes (set s.views id b) other w spent r.value r.turn ato idle' refl (place_set s.homes s.views id v b r.value r.turn at idle idle r.place);
        shape = each_way tells (λ told. Shape (r.value told) (map (one_way told) s.views)) (λ told. Shape (r.value told) (map (one_way told) (set (set s.views id b) other spent)))
            (λ told one. subst (λ (us : List OneWay). Shape (r.value told) us)
            (sym (map_set (one_way told) (set s.views id b) other spent
            ∙ ((λ i. set (map_set (one_way told) s.views id b i) other (spent_way told i))
            ∙ (λ i. set (set (map (one_way told) s.views) id (joined_way told v w i)) other spent_one))))
            (join_shape (r.value told) (map (one_way told) s.views) id other (one_way told v) (one_way told w) (has_map (one_way told) s.views id v at) (has_map (one_way told) s.views other w at') ne one live live' begun))
            r.shape;
      }

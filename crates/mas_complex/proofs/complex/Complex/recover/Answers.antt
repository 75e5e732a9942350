use Rattle.mas_complex.proofs.Answering.{◌≡◌, ◌≤◌, ◌+◌, ◌*◌, ◌||◌, ◌∙◌, ⊎_elim, ℕ, List, length, Option, true, false, Some, IfSome, refl, sym, subst, ap, rules, ∥∥₁_map, Ckpt1, Ckpt2, disk_now, Goes, Rose, Disk, Page, Queue, page_count, IsOneSeen, ReadsSeen, bytes_of, goes_on, next_order, order_first, orders_most, err_from_is_err_and, pair_state, parts_of, looked, sought, Before, Dev, Entry, StandFor, run, no, fault_earlier, fault_later, left_why, rose_earlier, if_err, left_some, as_many_fated, stands_of, found_many, seen_alive, each, copies_of, half_of, kept_past, past_of, place_of, setting_of, view_of, pair_then, OnPair, Complex, View, WasUnfit, ◌⊎◌, Half, IsUnfit, Looked, None, Sought, Err, IsErrOf, PairState, Result, pair_error, PairNo, look_left, IsAtLevel, Place, level, pair_stopped, Halted as PairHalted, BothLost as PairBothLost, recover_no, recover_stopped, RecoverNo, RecoverBothLost, RecoverHalted}
use Rattle.mas_complex.proofs.complex.Complex.recover.Given.{Over}
use Rattle.mas_complex.proofs.complex.Complex.recover.Goals.{After-choose_any}
use Rattle.mas_complex.proofs.complex.Complex.recover.Goals as goal

-- WHAT THE CALLS LEAVE, one after another

-- both looks and the choice
chose : (g : Over) (c : After-choose_any g) → OnPair g.P.Plant.tells c.args.by.0 false (pair_state g.P.Plant.view (parts_of c.args.self.now)) (pair_state g.P.Plant.view (parts_of c.choose_any.new.self))
chose g c = pair_then (pair_then c.in_ok-first.ensures.leaves c.in_ok-second.ensures.leaves) (c.choose_any.ensures.leaves c.args.by.0)

-- WHAT BOTH LOOKS GAVE, up to the choice
module _ (g : Over) (c : After-choose_any g) where
  abbrev was : Complex _ _ g.P.Plant g.C.Steady g.C.Copying
  was = c.args.self.now

  abbrev mid : Complex _ _ g.P.Plant g.C.Steady g.C.Copying
  mid = c.see_on-2.new.self

  abbrev end : View
  end = view_of c.choose_any.new.self

  abbrev it : Sought
  it = sought g.C.Copying.reads (parts_of was)

  abbrev copy : Dev → Looked
  copy d = looked g.C.Copying.count g.C.Copying.room (half_of mid d) (place_of mid d)

  -- of the copy on one device
  record Saw (d : Dev) (seen : Option (List Page)) : Type 0 where
    is : IsOneSeen g.P.Plant.tells it (copy d) seen
    reads : g.P.Plant.tells → ReadsSeen g.C.Copying.reads (disk_now (view_of was) d).bytes seen
    unseen : g.P.Plant.tells → seen ≡ None → (half_of was d).alive ≡ true → Rose ((view_of was).faults (Disk d)) (end.faults (Disk d))
    room : g.P.Plant.tells → IfSome seen (λ _. (copy d).room ≡ g.C.Copying.room_in (disk_now (view_of was) d).bytes)
    before : (copy d).alive ≡ true → (half_of was d).alive ≡ true

  last : Goes (view_of mid) end
  last = (c.choose_any.ensures.leaves c.args.by.0).counts.goes

  saw1 : Saw Ckpt1 c.in_ok-first.first
  saw1 = record {
    is = search rules;
    reads = λ told. subst (λ (l : List ℕ). ReadsSeen g.C.Copying.reads l c.in_ok-first.first) (c.see_on.ensures.bytes told Ckpt1) (c.in_ok-first.ensures.reads told);
    unseen = λ told none alive. fault_later Ckpt1 (view_of was) (view_of c.see_on.new.self) end (c.in_ok-first.ensures.unseen told none alive) (goes_on _ _ _ c.see_on-2.ensures.leaves.counts.goes last);
    room = λ told. subst (λ (h : Half _). IfSome c.in_ok-first.first (λ _. g.C.Copying.room h.copy ≡ g.C.Copying.room_in (disk_now (view_of was) Ckpt1).bytes)) (sym c.see_on-2.ensures.other)
        (subst (λ (l : List ℕ). IfSome c.in_ok-first.first (λ _. g.C.Copying.room c.see_on.new.self.pair.first.copy ≡ g.C.Copying.room_in l)) (c.see_on.ensures.bytes told Ckpt1) (c.in_ok-first.ensures.room told));
    before = λ is. c.see_on.ensures.was_alive (sym (ap (λ h. h.alive) c.see_on-2.ensures.other) ∙ is);
  }

  saw2 : Saw Ckpt2 c.in_ok-second.second
  saw2 = record {
    is = search rules;
    reads = λ told. subst (λ (l : List ℕ). ReadsSeen g.C.Copying.reads l c.in_ok-second.second) (c.see_on-2.ensures.bytes told Ckpt2 ∙ c.see_on.ensures.bytes told Ckpt2) (c.in_ok-second.ensures.reads told);
    unseen = λ told none alive. fault_earlier Ckpt2 (view_of was) (view_of c.see_on.new.self) end c.see_on.ensures.leaves.counts.goes (fault_later Ckpt2 (view_of c.see_on.new.self) (view_of mid) end (c.in_ok-second.ensures.unseen told none (ap (λ h. h.alive) c.see_on.ensures.other ∙ alive)) last);
    room = λ told. subst (λ (l : List ℕ). IfSome c.in_ok-second.second (λ _. g.C.Copying.room mid.pair.second.copy ≡ g.C.Copying.room_in l)) (c.see_on-2.ensures.bytes told Ckpt2 ∙ c.see_on.ensures.bytes told Ckpt2) (c.in_ok-second.ensures.room told);
    before = λ is. sym (ap (λ h. h.alive) c.see_on.ensures.other) ∙ c.see_on-2.ensures.was_alive is;
  }

  -- why one that counted as alive doesn't any more, once the pages found were brought
  gone : (found : List Page) (new : Complex _ _ g.P.Plant g.C.Steady g.C.Copying) → Goes end (view_of new) → g.P.Plant.tells → (d : Dev) (seen : Option (List Page)) → Saw d seen
      → ((half_of mid d).alive ≡ true → (half_of c.choose_any.new.self d).alive ≡ false → IsUnfit seen (place_of mid d) (g.C.Copying.room (half_of mid d).copy) found)
      → ((half_of c.choose_any.new.self d).alive ≡ true → (half_of new d).alive ≡ false → Rose (end.faults (Disk d)) ((view_of new).faults (Disk d)))
      → (half_of was d).alive ≡ true → (half_of new d).alive ≡ false
      → Rose ((view_of was).faults (Disk d)) ((view_of new).faults (Disk d)) ⊎ WasUnfit g.C.Copying.reads (disk_now (view_of was) d).bytes was.level (g.C.Copying.room_in (disk_now (view_of was) d).bytes) found
  gone found new goes told d seen saw unfit failed alive dead = left_why g.P.Plant.tells it (copy d) (disk_now (view_of was) d).bytes (g.C.Copying.room_in (disk_now (view_of was) d).bytes) found (Rose ((view_of was).faults (Disk d)) ((view_of new).faults (Disk d))) seen (half_of c.choose_any.new.self d).alive
      (λ none. fault_later d (view_of was) end (view_of new) (saw.unseen told none alive) goes)
      (λ is. fault_earlier d (view_of was) end (view_of new) (chose g c).counts.goes (failed is dead))
      (saw.reads told) saw.is unfit (saw.room told)

pub returns-in_default-clause-leaves : goal.returns-in_default-clause-leaves
returns-in_default-clause-leaves g c = chose g (goal.at.returns-in_default-clause-leaves g c).After-choose_any

pub returns-then-not-may_follow-clause-leaves : goal.returns-then-not-may_follow-clause-leaves
returns-then-not-may_follow-clause-leaves g c = chose g (goal.at.returns-then-not-may_follow-clause-leaves g c).After-choose_any

-- a copy that was brought up in an error
brought : (g : Over) (by : ℕ) (x y : PairState) (r : Result (List Page) RecoverNo) (why : PairNo) → (no : RecoverNo) × (r ≡ Err no) × (no ≡ recover_no why) → OnPair g.P.Plant.tells by (pair_stopped {T = Unit {0}} (Err why)) x y → OnPair g.P.Plant.tells by (recover_stopped r) x y
brought g by x y r why p = pair_error {B = Unit {0}} (λ r q. OnPair g.P.Plant.tells by (pair_stopped q) x y → OnPair g.P.Plant.tells by (recover_stopped r) x y) (λ l. l) (λ l. l) r why p

pub returns-in_err-bring-clause-leaves : goal.returns-in_err-bring-clause-leaves
returns-in_err-bring-clause-leaves g c =
    pair_then (chose g (goal.at.returns-in_err-bring-clause-leaves g c).After-choose_any) (brought g c.args.by.0 _ _ c.from_residual-in_err-bring.result _ (err_from_is_err_and c.from_residual-in_err-bring.result c.from_residual-in_err-bring.ensures.1) c.in_err-bring.ensures.leaves)

pub returns-clause-leaves : goal.returns-clause-leaves
returns-clause-leaves g c =
    rw (ap (λ p. p.first_alive) c.give_fate.ensures.frame, ap (λ p. p.second_alive) c.give_fate.ensures.frame, ap (λ p. p.plant) c.give_fate.ensures.frame)
    (pair_then (chose g (goal.at.returns-clause-leaves g c).After-choose_any) c.in_ok-bring.ensures.leaves)

pub returns-in_err-second-clause-leaves : goal.returns-in_err-second-clause-leaves
returns-in_err-second-clause-leaves g c =
    pair_then c.in_ok-first.ensures.leaves (look_left (Option (List Page)) c.from_residual-in_err-second.result _ (err_from_is_err_and c.from_residual-in_err-second.result c.from_residual-in_err-second.ensures.1) c.in_err-second.ensures.leaves)

pub returns-in_err-first-clause-leaves : goal.returns-in_err-first-clause-leaves
returns-in_err-first-clause-leaves g c = look_left (Option (List Page)) c.from_residual.result _ (err_from_is_err_and c.from_residual.result c.from_residual.ensures.1) c.in_err-first.ensures.leaves

pub returns-clause-stands : goal.returns-clause-stands
returns-clause-stands g c told =
    let s = c.give_fate.new.self in
    let e = c.give_fate.ensures.frame in
    ∥∥₁_map (s.kept told) (λ k. subst (λ (K : List Entry). StandFor (run s.base K) (bytes_of c.in-Some.found)) (kept_past s) (stands_of (setting_of s) (past_of s) s.current s.level (copies_of s) (view_of s) k (bytes_of c.in-Some.found)
    (subst (λ p. (p.first_alive || p.second_alive) ≡ true) (sym e) c.in_ok-bring.ensures.some) (each (λ d. (half_of s d).alive ≡ true → place_of s d ≡ Before) c.give_fate.ensures.first c.give_fate.ensures.second)
    (λ d was x r. g.met.C.Copying.rests_now (half_of s d).copy was x r)
    (each (λ d. (half_of s d).alive ≡ true → g.C.Copying.reads (disk_now (view_of s) d).bytes ≡ Some (bytes_of c.in-Some.found))
    (λ is. read Ckpt1 ((c.in_ok-bring.ensures.first (sym (ap (λ p. p.first_alive) e) ∙ is)).1 told)) (λ is. read Ckpt2 ((c.in_ok-bring.ensures.second (sym (ap (λ p. p.second_alive) e) ∙ is)).1 told))))) where
      read : (d : Dev) → g.C.Copying.reads (disk_now (g.P.Plant.view c.bring.new.self.plant) d).bytes ≡ Some (bytes_of c.as_slice-2.result.now) → g.C.Copying.reads (disk_now (g.P.Plant.view c.give_fate.new.self.plant) d).bytes ≡ Some (bytes_of c.in-Some.found)
      read d reads = subst (λ p. g.C.Copying.reads (disk_now (g.P.Plant.view p.plant) d).bytes ≡ Some (bytes_of c.in-Some.found)) (sym c.give_fate.ensures.frame)
          (subst (λ (ps : List Page). g.C.Copying.reads (disk_now (g.P.Plant.view c.bring.new.self.plant) d).bytes ≡ Some (bytes_of ps)) c.as_slice-2.ensures reads)

pub returns-in_default-clause-both_failed : goal.returns-in_default-clause-both_failed
returns-in_default-clause-both_failed g c both told =
    let w = (goal.at.returns-in_default-clause-both_failed g c).After-choose_any in
    let neither = c.in_default.ensures.neither (search rules) in
    each (λ d. (half_of c.args.self.now d).alive ≡ true → Rose ((view_of c.args.self.now).faults (Disk d)) ((view_of c.choose_any.new.self).faults (Disk d))) ((saw1 g w).unseen told neither.0) ((saw2 g w).unseen told neither.1)

pub returns-clause-left : goal.returns-clause-left
returns-clause-left g c told =
    let w = (goal.at.returns-clause-left g c).After-choose_any in
    let s = c.args.self.now in
    let f = c.give_fate.new.self in
    let why = gone g w c.in-Some.found c.bring.new.self c.bring.ensures.leaves.counts.goes told in
    each (λ d. (half_of s d).alive ≡ true → (half_of f d).alive ≡ false
    → Rose ((view_of s).faults (Disk d)) ((g.P.Plant.view f.plant).faults (Disk d)) ⊎ WasUnfit g.C.Copying.reads (disk_now (view_of s) d).bytes s.level (g.C.Copying.room_in (disk_now (view_of s) d).bytes) c.in-Some.found)
    (λ alive dead. rw (ap (λ p. p.plant) c.give_fate.ensures.frame) (why Ckpt1 c.in_ok-first.first (saw1 g w) c.in-Some.ensures.unfit1 c.bring.ensures.failed1 alive (sym (ap (λ p. p.first_alive) c.give_fate.ensures.frame) ∙ dead)))
    (λ alive dead. rw (ap (λ p. p.plant) c.give_fate.ensures.frame) (why Ckpt2 c.in_ok-second.second (saw2 g w) c.in-Some.ensures.unfit2 c.bring.ensures.failed2 alive (sym (ap (λ p. p.second_alive) c.give_fate.ensures.frame) ∙ dead)))

pub returns-clause-picked : goal.returns-clause-picked
returns-clause-picked g c told =
    let w = (goal.at.returns-clause-picked g c).After-choose_any in
    let s = c.args.self.now in
    let one = saw1 g w in
    let two = saw2 g w in
    let rest = c.bring.ensures.leaves.counts.goes in
    rw (ap (λ p. p.plant) c.give_fate.ensures.frame) (record {
      one = c.in_ok-first.first;
      two = c.in_ok-second.second;
      some1 = λ some. one.before (seen_alive g.P.Plant.tells (it g w) (copy g w Ckpt1) c.in_ok-first.first one.is some);
      some2 = λ some. two.before (seen_alive g.P.Plant.tells (it g w) (copy g w Ckpt2) c.in_ok-second.second two.is some);
      read1 = one.reads told;
      read2 = two.reads told;
      none1 = λ none alive. fault_later Ckpt1 (view_of s) (view_of c.choose_any.new.self) (view_of c.bring.new.self) (one.unseen told none alive) rest;
      none2 = λ none alive. fault_later Ckpt2 (view_of s) (view_of c.choose_any.new.self) (view_of c.bring.new.self) (two.unseen told none alive) rest;
      greater = c.in-Some.ensures.greater;
    })

-- HOW MANY PAGES

pub returns-clause-many : goal.returns-clause-many
returns-clause-many g c =
    let same = ap (λ p. p.base) c.see_on.ensures.frame in
    let second : IfSome c.in_ok-second.second (λ pages. length pages ≡ page_count c.args.self.now.base.config) =
    subst (λ (q : Queue). IfSome c.in_ok-second.second (λ pages. length pages ≡ page_count q.config)) same c.in_ok-second.ensures.many in
    found_many (page_count c.args.self.now.base.config) c.in_ok-first.first c.in_ok-second.second c.in-Some.found c.in_ok-first.ensures.many second c.in-Some.ensures.greater

pub returns-in_err-bring-clause-halted : goal.returns-in_err-bring-clause-halted
returns-in_err-bring-clause-halted g c is =
    let P = g.P.Plant in
    let by = c.args.by.0 in
    let r = c.from_residual-in_err-bring.result in
    let p = err_from_is_err_and r c.from_residual-in_err-bring.ensures.1 in
    rose_earlier ((P.view c.args.self.now.plant).stops by) ((P.view c.choose_any.new.self.plant).stops by) ((P.view c.bring.new.self.plant).stops by) ((chose g (goal.at.returns-in_err-bring-clause-halted g c).After-choose_any).counts.goes.stops by)
    (c.in_err-bring.ensures.halted (pair_error {B = Unit {0}} (λ r q. IsErrOf r RecoverHalted → IsErrOf q PairHalted) (λ _. refl) (λ is. absurd (cc is)) r c.in_err-bring.field-0.0 p is))

pub returns-in_err-bring-clause-both : goal.returns-in_err-bring-clause-both
returns-in_err-bring-clause-both g c is =
    let r = c.from_residual-in_err-bring.result in
    let p = err_from_is_err_and r c.from_residual-in_err-bring.ensures.1 in
    absurd (c.in_err-bring.ensures.not_both (pair_error {B = Unit {0}} (λ r q. IsErrOf r RecoverBothLost → IsErrOf q PairBothLost) (λ is. absurd (cc is)) (λ _. refl) r c.in_err-bring.field-0.0 p is))

-- how far the pages brought have come, by the level that is handed on
at_level : (one two three : List Page) (l reached now : ℕ) (place : Place) → two ≡ one → three ≡ one → l ≡ level (bytes_of three) → now ≡ reached → IsAtLevel (level (bytes_of two)) reached place → IsAtLevel l now place
at_level one two three l reached now place a b is same = rw (is, same, b ∙ sym a) (λ x. x)

pub give_fate-requires-clause-first : goal.give_fate-requires-clause-first
give_fate-requires-clause-first g c alive = at_level _ _ _ _ _ _ _ c.as_slice-2.ensures c.as_slice-3.ensures c.pages_level.ensures (ap (λ p. p.level) c.bring.ensures.frame) (c.in_ok-bring.ensures.first alive).0

pub give_fate-requires-clause-second : goal.give_fate-requires-clause-second
give_fate-requires-clause-second g c alive = at_level _ _ _ _ _ _ _ c.as_slice-2.ensures c.as_slice-3.ensures c.pages_level.ensures (ap (λ p. p.level) c.bring.ensures.frame) (c.in_ok-bring.ensures.second alive).0

pub returns-in_err-bring-clause-both_failed : goal.returns-in_err-bring-clause-both_failed
returns-in_err-bring-clause-both_failed g c =
    let e = c.bring.new.self in
    if_err c.from_residual-in_err-bring.result (λ both told. absurd (left_some e.pair.first.alive e.pair.second.alive c.bring.ensures.some both))

-- HOW FAR THE PAGES MAY HAVE COME

pub returns-clause-low : goal.returns-clause-low
returns-clause-low g c =
    let d = c.choose_any.new.self in
    let e = c.bring.new.self in
    let f = c.give_fate.new.self in
    let fated : length f.journal.batches ≡ length e.journal.batches = as_many_fated c.pages_level.result e.level (g.P.Plant.view e.plant).now e.current e.journal.batches f.journal.batches c.give_fate.ensures.fated in
    let many : length f.journal.batches ≡ length d.journal.batches = fated ∙ ap (λ p. length p.batches) c.bring.ensures.frame in
    let low : next_order (bytes_of c.as_slice.result.now) ≤ order_first + orders_most * length d.journal.batches = c.if-not-may_follow.ensures.order refl in
    subst (λ (ps : List Page). next_order (bytes_of ps) ≤ order_first + orders_most * length f.journal.batches) c.as_slice.ensures
    (subst (λ (n : ℕ). next_order (bytes_of c.as_slice.result.now) ≤ order_first + orders_most * n) (sym many) low)

-- BOTH COPIES ARE LOST AFTER AN ERROR: a look that ended in it left its copy

pub returns-in_err-second-clause-both_failed : goal.returns-in_err-second-clause-both_failed
returns-in_err-second-clause-both_failed g c = if_err c.from_residual-in_err-second.result (λ both. absurd (no c.see_on-2.new.self.pair.second.alive c.in_err-second.ensures.stands both.1))

pub returns-then-not-may_follow-clause-both_failed : goal.returns-then-not-may_follow-clause-both_failed
returns-then-not-may_follow-clause-both_failed g c both told =
    let d = c.choose_any.new.self in
    absurd (⊎_elim (λ x. no d.pair.first.alive x.0 both.0) (λ x. no d.pair.second.alive x.0 both.1) c.in-Some.ensures.chosen.one)

-- Where the value stands after a line of a member: after one that gave nothing, and after a step.
use Rattle.mas_run.proofs.Names.{IsAfterTakeover, holder_is, ◌≡◌, ◌⊎◌, inl, inr, ⊎_elim, ℕ, ◌+◌, ◌<◌, Bool, true, false, List, drop, length, take, All, Option, Some, None, refl, sym, subst, arith, ◌≤◌, ◌∙◌, ap, ◌-◌, set, Result, Err, OnOk, ◌&&◌, MemberId, Batch, Entry, Queue, Holder, IsBetweenSittings, IsAsideHalt, IsCutIn as IsCutBy, HasCut, play_in, Left, adds_all, adds_first, begun, left_by, none_left, stopped_by, Piece, Play, Cut, Halt, Cause, Stops, IsOfEarlier, StandsIn, Dev, Ckpt1, Ckpt2, Page, steps_most, PlantGhosts, View, disk_now, Ghosts as CopyGhosts, page_count, settled_later, Parts, parts_of, unreserved_in, Member, IsSeat, HasUntold, queue_of, IsQuiet, Proceeds, AreLarge, AreMembers, IsBetween, IsMemberAt, is_left_held, BetweenLines, LeftBetween, roomy_on, Book, is_holder, is_stopped, IsMember, noted, eqb-true, and_from, length-set, length-drop, IsConfig, nobody, is_somebody, IsSound, AreRoomy, AreSettled, OtherNotesStay, Since, inside_since, SteadyGhosts, Complex, IsOperatorAway, NodeNo, MayHold, nat_tests, counts_of, journal_of, journal_unreserved, settled_unreserved, stands_unreserved, IsMemberUp, slice_get, no, CallsKeep, left_keeps, HoldsLock, Ok, and_none, stands_later, by_test, play_since, IsAside, Halted}
use Rattle.ckpt_places.specs.declared.places.Place.{Place}
use Rattle.member_node.specs.Copies.{RestsAt}
use Rattle.run_opening.proofs.QuietLemmas.{quiet_on}
use Rattle.member_resets.proofs.Entering.{quiet_with, seat_with}
use Rattle.member_resets.proofs.BookLemmas.{calls_keep, same_calls}
use Rattle.mas_run.proofs.AfterLemmas.{IsAfter, earlier_left}
use Rattle.mas_run.proofs.WireLemmas.{other_set, own_set}
use Rattle.run_turns.proofs.Keeping.{all_keep}
use Rattle.std.proofs.lemmas.Bool.Decides.{eqb_tells}
use Rattle.std.proofs.lemmas.Option.{same_Some as some_same}

-- FROM ONE VALUE TO THE ONE AFTER A LINE of a run

module _ {P C : Type 0} (plants : PlantGhosts P) (copies : CopyGhosts C) (x y : Parts P C) (at : ℕ) (after : IsAfter plants copies x y at) where
  -- a member that noted what it had noted is as it was, at its seat if it holds the lock
  member_on : (j : ℕ) (m : Member) → slice_get y.had m.id.0 ≡ slice_get x.had m.id.0
      → (IsMemberUp plants copies x m → is_stopped y.book m.id ≡ false → is_holder y.book m.id ≡ true → IsSeat plants copies y m) → IsMemberAt plants copies x j m → IsMemberAt plants copies y j m
  member_on j m had seat is = record {
    id = is.id;
    up = λ up.
        let was = is.up (after.since.up m.id up) in
        let config : y.base.config ≡ m.checkpoint.tables.config = ap (λ (Q : Queue). Q.config) after.base ∙ was.config in
        let many : length m.room ≡ page_count y.base.config = was.many ∙ ap (λ (Q : Queue). page_count Q.config) (sym after.base) in
        assumption (config, many, was.idle, (λ (t : plants.tells) (read : m.fresh ≡ false). had ∙ was.noted t read), seat was up);
  }

  -- between two lines, by what may differ
  between_on : (ms ns : List Member) (was : ℕ) → IsBetween plants copies x ms was → StandsIn y.batches y.placed y.book y.current
      → AreSettled y.batches (plants.view y.plant).now → (is_left_held y.book ≡ false → IsQuiet plants copies y (page_count y.base.config)) → y.reserved ≡ None
      → AreMembers plants copies y ns → length ns ≡ length ms → y.book.holder.0 ≤ x.base.config.members → IsBetween plants copies y ns (at + 1)
  between_on ms ns was is stands settled quiet unreserved members many held =
      let number = many ∙ is.many ∙ ap (λ (Q : Queue). Q.config.members) (sym after.base) in
      let booked = after.since.many ∙ is.booked ∙ ap (λ (Q : Queue). Q.config.members) (sym after.base) in
      let within = subst (λ (Q : Queue). y.book.holder.0 ≤ Q.config.members) (sym after.base) held in
      let config = subst (λ (Q : Queue). IsConfig Q.config) (sym after.base) is.config in
      let begun : y.since ≤ (plants.view y.plant).now = let le = is.begun in let on = after.goes.later in let began = after.began in omega (arith, le, on, began) in
      let roomy : plants.tells → AreRoomy (plants.view y.plant) y.base.config = λ t. subst (λ (Q : Queue). AreRoomy (plants.view y.plant) Q.config) (sym after.base) (roomy_on (plants.view x.plant) (plants.view y.plant) x.base.config after.goes (is.roomy t)) in
      let untold : (k : MemberId) (later : ℕ) → at + 1 ≤ later → later ≤ steps_most → HasUntold plants copies y k later = λ k later le small. after.untold k later (omega (arith, le)) small in
      let earlier = earlier_left (at + 1) y.batches y.placed y.book y.current stands after.earlier in
      let few : at + 1 ≤ steps_most + 1 = let le = after.few in omega (arith, le) in
      let large : AreLarge plants copies y = rw (after.base, after.goes.size Ckpt1, after.goes.size Ckpt2) is.large in
      assumption (stands, settled, quiet, unreserved, members, number, booked, within, config, subst IsSound (sym after.base) is.sound, begun, roomy, large, untold, earlier, few)

-- A LINE THAT GAVE NOTHING. The plant went on, and the copies have the bytes that they had; one may count as lost that didn't. Who holds the lock in the later book held it, or nobody does.

pub record KeepsHolder (b c : Book) : Type 0 where
  pub same : (k : MemberId) → 1 ≤ k.0 → is_holder c k ≡ true → c.holder ≡ b.holder
  pub unheld : is_left_held c ≡ false → is_left_held b ≡ false
  pub within : c.holder.0 ≤ b.holder.0

-- no stopped member holds now: none did
pub holder_kept : (b c : Book) → Since b c → c.holder ≡ b.holder → KeepsHolder b c
holder_kept b c since holder = record { same = λ k some holds. holder; unheld = unheld; within = let same = ap (λ (k : MemberId). k.0) holder in omega (arith, same) } where
  unheld : is_left_held c ≡ false → is_left_held b ≡ false
  unheld none = by_test (is_somebody b.holder)
      (λ e. and_none (is_somebody b.holder) (is_stopped b b.holder) (since.up b.holder (sym (ap (λ (k : MemberId). is_somebody k && is_stopped c k) holder ∙ ap (λ (t : Bool). t && is_stopped c b.holder) e) ∙ none)))
      (λ e. ap (λ (t : Bool). t && is_stopped b b.holder) e)

pub holder_freed : (b c : Book) → c.holder ≡ nobody → is_left_held b ≡ false → KeepsHolder b c
holder_freed b c free up =
    let none : c.holder.0 ≡ 0 = ap (λ (k : MemberId). k.0) free in
    record { same = λ k some holds. absurd (let held : c.holder.0 ≡ k.0 = eqb-true c.holder.0 k.0 holds in omega (arith, held, some, none)); unheld = λ left. up; within = omega (arith, none) }

module _ {P C : Type 0} (plants : PlantGhosts P) (copies : CopyGhosts C) (x : Parts P C) (q : P) (is1 is2 : Bool) (found1 found2 : ℕ) (alive1 : is1 ≡ true → x.first_alive ≡ true) (alive2 : is2 ≡ true → x.second_alive ≡ true)
    (bytes : plants.tells → (d : Dev) → (disk_now (plants.view q) d).bytes ≡ (disk_now (plants.view x.plant) d).bytes) where
  abbrev z : Parts P C
  z = record x { plant = q; first_alive = is1; second_alive = is2; first_found = found1; second_found = found2 }

  abbrev v : Parts P C → View
  v w = plants.view w.plant

  -- a copy that counts as alive is at rest as it was
  rest_on : (d : Dev) (was is : Bool) (place : Place) (count : ℕ) (pages : List Page) → (is ≡ true → was ≡ true) → RestsAt plants.tells was place count pages (copies.reads (disk_now (v x) d).bytes)
      → RestsAt plants.tells is place count pages (copies.reads (disk_now (v z) d).bytes)
  rest_on d was is place count pages alive rest = record { before = rest.before; as_many = λ on. rest.as_many (alive on); reads = λ t on. ap copies.reads (bytes t d) ∙ rest.reads t (alive on) }

  pub seat_spoken : Proceeds (v x) (v z) → (m : Member) → IsSeat plants copies x m → IsSeat plants copies z m
  seat_spoken goes m is =
      let s = is.still in
      let first = rest_on Ckpt1 x.first_alive is1 _ _ m.checkpoint.pages alive1 s.first in
      let second = rest_on Ckpt2 x.second_alive is2 _ _ m.checkpoint.pages alive2 s.second in
      let kept = settled_later x.batches (v x).now (v z).now s.kept goes.later in
      let begun : x.since ≤ (v z).now = let le = s.begun in let on = goes.later in omega (arith, le, on) in
      let roomy : plants.tells → AreRoomy (v z) x.base.config = λ t. roomy_on (v x) (v z) x.base.config goes (s.roomy t) in
      assumption (first, second, kept, begun, roomy, is)

  module _ (c : Book) (o : Option (List Entry)) (none : o ≡ None) (y : Parts P C) (frame : y ≡ record z { book = c; reserved = o }) (at : ℕ) (after : IsAfter plants copies x y at) (keeps : KeepsHolder x.book c) where
    abbrev w : Parts P C
    w = record z { book = c; reserved = o }

    after_w : IsAfter plants copies x w at
    after_w = subst (λ (k : Parts P C). IsAfter plants copies x k at) frame after

    sits : (k : ℕ) (m : Member) → 1 ≤ k → IsMemberAt plants copies x k m → IsMemberAt plants copies w k m
    sits k m some its =
        let holder : is_holder c m.id ≡ true → c.holder ≡ x.book.holder = λ holds. let number : m.id.0 ≡ k = ap (λ (j : MemberId). j.0) its.id in keeps.same m.id (omega (arith, some, number)) holds in
        member_on plants copies x w at after_w k m refl
        (λ was up holds.
        let seat = seat_spoken after_w.goes m (was.seated (sym (ap (λ (h : MemberId). is_holder (record c { holder = h }) m.id) (holder holds)) ∙ holds)) in
        let was_held : HoldsLock x.book x.base.config m.id = seat.still.holds in
        seat_with plants copies z m c (assumption (holder holds ∙ was_held.may.holds, inside_since x.book c m.id after_w.since was_held.seated, up, was_held)) o none seat) its

    pub between_line : (ms : List Member) (was : ℕ) → IsBetween plants copies x ms was → IsBetween plants copies y ms (at + 1)
    between_line ms was is =
        let pages : ℕ = page_count x.base.config in
        let within : c.holder.0 ≤ x.base.config.members = let le = keeps.within in let held = is.held in omega (arith, le, held) in
        subst (λ (k : Parts P C). IsBetween plants copies k ms (at + 1)) (sym frame)
        (between_on plants copies x w at after_w ms ms was is (stands_later x.batches x.placed x.book c after_w.since x.current is.stands) (settled_later x.batches (v x).now (v w).now is.settled after_w.goes.later)
        (λ free. quiet_with plants copies z c o none pages (quiet_on plants copies x q is1 is2 found1 found2 after_w.goes alive1 alive2 bytes pages (is.quiet (keeps.unheld free)))) none
        (λ i m here. sits (1 + i) m (omega arith) (is.members i m here)) refl within)

-- A LINE OF A MEMBER: the lock is held by it then, or by nobody.

module _ {P C : Type 0} (plants : PlantGhosts P) (copies : CopyGhosts C) (x y : Parts P C) (at : ℕ) (after : IsAfter plants copies x y at) (by : MemberId)
    (holder : (y.book.holder ≡ by) ⊎ (y.book.holder ≡ nobody)) (notes : OtherNotesStay by x.had y.had) where
  -- another member is as it was: it doesn't hold the lock, and what it noted stays
  other_after : (j : ℕ) (m : Member) → 1 ≤ j → (j ≡ by.0 → ⊥) → IsMemberAt plants copies x j m → IsMemberAt plants copies y j m
  other_after j m some other is =
      let number : m.id.0 ≡ j = ap (λ (k : MemberId). k.0) is.id in
      let apart : m.id.0 ≡ by.0 → ⊥ = λ same. other (sym number ∙ same) in
      member_on plants copies x y at after j m (notes m.id.0 apart) (λ was up holds.
      let same : y.book.holder.0 ≡ m.id.0 = eqb-true y.book.holder.0 m.id.0 holds in
      ⊎_elim (λ mine. absurd (apart (sym same ∙ ap (λ (k : MemberId). k.0) mine))) (λ none. absurd (let zero_holds : y.book.holder.0 ≡ 0 = ap (λ (k : MemberId). k.0) none in omega (arith, same, number, some, zero_holds))) holder) is

  -- with its member as it is then
  between_set : (n : Member) → IsMemberAt plants copies y by.0 n → IsMember x.book by → (ms : List Member) (was : ℕ) → IsBetween plants copies x ms was → StandsIn y.batches y.placed y.book y.current
      → AreSettled y.batches (plants.view y.plant).now → (is_left_held y.book ≡ false → IsQuiet plants copies y (page_count y.base.config)) → y.reserved ≡ None
      → IsBetween plants copies y (set ms (by.0 - 1) n) (at + 1)
  between_set n its inside ms was is stands settled quiet unreserved =
      let within : by.0 ≤ x.base.config.members = let le = inside.1 in let booked = is.booked in omega (arith, le, booked) in
      let few : by.0 - 1 < length ms = let some = inside.0 in let many = is.many in omega (arith, some, within, many) in
      let held : y.book.holder.0 ≤ x.base.config.members = ⊎_elim (λ mine. let same = ap (λ (k : MemberId). k.0) mine in omega (arith, within, same)) (λ none. let zero_holds = ap (λ (k : MemberId). k.0) none in omega (arith, zero_holds)) holder in
      let members : AreMembers plants copies y (set ms (by.0 - 1) n) = λ i m here. ⊎_elim
      (λ own.
      let same : Some n ≡ Some m = sym (own_set ms (by.0 - 1) n few) ∙ subst (λ (k : ℕ). slice_get (set ms (by.0 - 1) n) k ≡ Some m) own.1 here in
      let number : by.0 ≡ 1 + i = let place = own.1 in let some = inside.0 in omega (arith, place, some) in
      subst (λ (k : ℕ). IsMemberAt plants copies y k m) number (subst (λ (k : Member). IsMemberAt plants copies y by.0 k) (some_same n m same) its))
      (λ apart. other_after (1 + i) m (omega arith) (λ same. apart.1 (omega (arith, same))) (is.members i m (sym (other_set ms (by.0 - 1) i n apart.1) ∙ here)))
      (eqb_tells i (by.0 - 1)) in
      between_on plants copies x y at after ms (set ms (by.0 - 1) n) was is stands settled quiet unreserved members (length-set ms (by.0 - 1) n) held

  -- which took its seat in the line and left it, or holds it still
  pub between_aside : (n : Member) → n.id ≡ by → IsAside plants copies y n → length n.room ≡ page_count x.base.config → (y.book.holder ≡ by → IsSeat plants copies y n) → IsMember x.book by → (ms : List Member) (was : ℕ) → IsBetween plants copies x ms was
      → IsBetween plants copies y (set ms (by.0 - 1) n) (at + 1)
  between_aside n own aside many seat inside ms was is =
      let room : length n.room ≡ page_count y.base.config = many ∙ ap (λ (Q : Queue). page_count Q.config) (sym after.base) in
      let its : IsMemberAt plants copies y by.0 n = record { id = own; up = λ up. record { config = aside.config; many = room; idle = aside.idle; noted = aside.noted; seated = λ holds. seat (holder_is y.book n.id holds ∙ own) } } in
      between_set n its inside ms was is (subst (λ (c : Option Batch). StandsIn y.batches y.placed y.book c) (sym aside.quiet.none) aside.quiet.unplaced) aside.quiet.kept (λ free. subst (λ (k : ℕ). IsQuiet plants copies y k) room aside.quiet) aside.quiet.unreserved

-- A line whose member had the lock, and played a step or a reset: where the value stands after it, for every answer.

-- WHO HOLDS THE LOCK after a line of a member that had it: that member, or nobody

module _ (by : MemberId) where
  abbrev IsHeldBy : Book → Type 0
  IsHeldBy b = (b.holder ≡ by) ⊎ (b.holder ≡ nobody)

  held_calls : CallsKeep by IsHeldBy
  held_calls = calls_keep by IsHeldBy (λ b inner held. held) (λ b held. inl refl) (λ b held. inr refl) (λ b held. inr refl) (λ b n held. held)

-- WHAT IS RESERVED, once it is given up: where nothing is, and all stands, nothing changes

unreserved_same : {P C : Type 0} (y : Parts P C) (b : Book) (o : Option Batch) (placed : Bool) → StandsIn y.batches placed b o
    → unreserved_in (record y { current = o; reserved = None; placed = placed }) ≡ record y { current = o; reserved = None; placed = placed }
unreserved_same y b q2 q3 stands = grind arith

pub same_unreserved : {P C : Type 0} (y : Parts P C) → y.reserved ≡ None → (b : Book) → StandsIn y.batches y.placed b y.current → unreserved_in y ≡ y
same_unreserved y unreserved b stands = subst (λ (r : Option (List Entry)). unreserved_in (record y { reserved = r }) ≡ record y { reserved = r }) (sym unreserved) (unreserved_same y b y.current y.placed stands)

-- WHO HOLDS THE LOCK where a member was halted in its sitting, up to the acts that follow it: that member

module _ (by : MemberId) where
  held_first : (halt : Halt) (l : Left) (ps : List Piece) → 0 < length ps → (IsAsideHalt halt → ⊥) → MayHold l.book by → (adds_first by true halt l ps).book.holder ≡ by
  held_first halt l q2 some locked may = grind arith

  halted_holds : (cut : Cut) (pieces : List Piece) (b : Book) (Q : Queue) (count : ℕ) → MayHold b by → cut.cause ≡ Stops → cut.sittings < length pieces → (IsAsideHalt cut.halt → ⊥)
      → (left_by by (Some cut) (play_in by pieces b Q) count).book.holder ≡ by
  halted_holds cut pieces b Q count may why there locked = let some_left : (k : ℕ) (ps : List Piece) → k < length ps → 0 < length (drop k ps) = λ k ps there. let e = length-drop k ps in omega (arith, e, there) in
      let first = take cut.sittings pieces in
      let l = adds_all by true (none_left by b count) first in
      let seated : IsMember l.book by = inside_since b l.book by (play_since by (play_in by first b Q) count may.seated None) may.seated in
      let up : is_stopped l.book by ≡ false = all_keep by (λ (c : Book). is_stopped c by ≡ is_stopped b by) (same_calls by by b) true first (none_left by b count) refl ∙ may.up in
      let free : IsHeldBy by l.book = all_keep by (IsHeldBy by) (held_calls by) true first (none_left by b count) may.free in
      let may_l : MayHold l.book by = assumption (seated, up, free, may) in
      ap (λ (cause : Cause). (stopped_by by cause (adds_first by true cut.halt l (drop cut.sittings pieces)).book).holder) why
      ∙ held_first cut.halt l (drop cut.sittings pieces) (some_left cut.sittings pieces there) locked may_l

-- THE VALUE THEN

module _ {P C : Type 0} {plants : PlantGhosts P} {steadies : SteadyGhosts C} {copies : CopyGhosts C} (x : Parts P C) (y : Complex P C plants steadies copies) (at : ℕ) (after : IsAfter plants copies x (parts_of y) at)
    (by : MemberId) (inside : IsMember x.book by) (down : is_stopped y.book by ≡ true) (notes : OtherNotesStay by x.had (parts_of y).had) where
  abbrev left_part : Parts P C
  left_part = parts_of y

  halted_between : (n : Member) → n.id ≡ by → (ms : List Member) (was : ℕ) → IsBetween plants copies x ms was → IsHeldBy by y.book → IsOperatorAway y.book y.reserved y.current → ((y.book.holder ≡ by → ⊥) → IsQuiet plants copies left_part (page_count x.base.config)) → LeftBetween y (set ms (by.0 - 1) n) (at + 1)
  halted_between n id ms was is holder away quiet =
      let z : Parts P C = unreserved_in left_part in
      let somebody : is_somebody by ≡ true = let some = inside.0 in grind (arith, nat_tests, some) in
      let left_held : y.book.holder ≡ by → is_left_held y.book ≡ true = λ mine. ap (λ (m : MemberId). is_somebody m && is_stopped y.book m) mine ∙ and_from (is_somebody by) (is_stopped y.book by) somebody down in
      let stands : StandsIn z.batches z.placed z.book z.current = stands_unreserved y by down (⊎_elim (λ mine. inl mine) (λ none. inr (away none).1) holder) in
      let still : IsQuiet plants copies left_part (page_count x.base.config) → IsQuiet plants copies z (page_count y.base.config) =
      λ calm. subst (λ (w : Parts P C). IsQuiet plants copies w (page_count y.base.config)) (sym (same_unreserved left_part calm.unreserved y.book (subst (λ (c : Option Batch). StandsIn left_part.batches left_part.placed y.book c) (sym calm.none) calm.unplaced)))
      (subst (λ (Q : Queue). IsQuiet plants copies left_part (page_count Q.config)) (sym after.base) calm) in
      let its : IsMemberAt plants copies z by.0 n = record { id = id; up = λ up. absurd (no true refl (sym down ∙ sym (ap (λ (k : MemberId). is_stopped y.book k) id) ∙ up)) } in
      let own : All (IsOfEarlier (at + 1)) (journal_of z) = subst (λ (bs : List Batch). All (IsOfEarlier (at + 1)) bs) (sym (journal_unreserved left_part)) after.earlier in
      let so : IsAfter plants copies x z at = record { base = after.base; began = after.began; since = after.since; goes = after.goes; untold = after.untold; earlier = own; few = after.few } in
      between_set plants copies x z at so by holder notes n its inside ms was is stands (settled_unreserved y) (λ free. still (quiet (λ mine. no (is_left_held y.book) (left_held mine) free))) refl

  -- who holds the lock was halted
  pub held_halted : (n : Member) → n.id ≡ by → (ms : List Member) (was : ℕ) → IsBetween plants copies x ms was → y.book.holder ≡ by → LeftBetween y (set ms (by.0 - 1) n) (at + 1)
  held_halted n id ms was is mine =
      let not_free : y.book.holder ≡ nobody → ⊥ = λ free. let zero_by = ap (λ (k : MemberId). k.0) (sym mine ∙ free) in let some = inside.0 in absurd (omega (arith, zero_by, some)) in
      halted_between n id ms was is (inl mine) (λ free. absurd (not_free free)) (λ apart. absurd (apart mine))

-- A STEP from a value in which its member has the lock: by a try, or by a takeover

module _ {P C : Type 0} {plants : PlantGhosts P} {steadies : SteadyGhosts C} {copies : CopyGhosts C} (x mid y : Complex P C plants steadies copies) (t : Parts P C) (ms : List Member)
    (h : Holder) (is : BetweenLines x ms h.step) (inside : IsMember x.book h.by) (may : MayHold t.book h.by) (m n : Member) (own : m.id ≡ h.by) (stays : n.id ≡ m.id) (many : length m.room ≡ page_count x.base.config)
    (pieces : List Piece) (cut : Option Cut) (away : IsOperatorAway y.book y.reserved y.current) (quiet : IsBetweenSittings cut → IsQuiet plants copies (parts_of y) (length m.room))
    (notes : OtherNotesStay h.by (parts_of x).had (parts_of y).had) (r : Result (Unit {0}) NodeNo) (left : HasCut plants copies h pieces cut t (parts_of y) r) (now : OnOk r (IsAfterTakeover mid y m n)) where
  abbrev p : Parts P C
  p = parts_of x

  abbrev q : Parts P C
  q = parts_of y

  abbrev play : Play
  play = play_in h.by pieces t.book (queue_of t)

  abbrev count : ℕ
  count = counts_of t.printed h.by

  its_held : IsHeldBy h.by q.book
  its_held = subst (λ (b : Book). IsHeldBy h.by b) (sym left.leaves.book) (left_keeps h.by (IsHeldBy h.by) (held_calls h.by) cut (λ k is_cut why b is. is) play count may.free)

  -- a member that was halted, and doesn't hold the lock, was halted in acts aside
  quiet_aside : (c : Option Cut) → cut ≡ c → IsCutBy {T = Unit {0}} (Err Halted) pieces c → (q.book.holder ≡ h.by → ⊥) → IsQuiet plants copies q (page_count x.base.config)
  quiet_aside None is at apart = absurd at
  quiet_aside (Some c) is at apart = ⊎_elim (λ aside. subst (λ (k : ℕ). IsQuiet plants copies q k) many (quiet (subst IsBetweenSittings (sym is) aside)))
      (λ locked. absurd (apart (ap (λ (b : Book). b.holder) left.leaves.book ∙ ap (λ (o : Option Cut). (left_by h.by o play count).book.holder) is
      ∙ halted_holds h.by c pieces t.book (queue_of t) count may at.cause at.there locked)))
      (aside_or c.halt) where
        aside_or : (halt : Halt) → IsAsideHalt halt ⊎ (IsAsideHalt halt → ⊥)
        aside_or q0 = grind arith

  -- it wasn't cut, or its member was halted
  pub turned : (IsAfter plants copies p q h.step → r ≡ Ok tt → BetweenLines y (set ms (h.by.0 - 1) n) (h.step + 1))
      × (IsAfter plants copies p q h.step → is_stopped y.book h.by ≡ true → r ≡ Err Halted → LeftBetween y (set ms (h.by.0 - 1) n) (h.step + 1))
  turned = (
    (λ after ok.
        let a : IsAfterTakeover mid y m n = subst (λ (k : Result (Unit {0}) NodeNo). OnOk k (IsAfterTakeover mid y m n)) ok now in
        between_aside plants copies p q h.step after h.by its_held notes n (stays ∙ own) a.aside (a.room ∙ many) (λ mine. a.seat (mine ∙ sym own)) inside ms h.step is),
    (λ after down halted. halted_between p y h.step after h.by inside down notes n (stays ∙ own) ms h.step is its_held away (quiet_aside cut refl (subst (λ (k : Result (Unit {0}) NodeNo). IsCutBy k pieces cut) halted left.by_answer))),
  )

-- A line of a member that only closes: it is refused or denied, or the lock is given up.
use Rattle.mas_run.proofs.Names.{spares_none, Admission, AreMembersNamed, Armed, Ask, BetweenLines, Book, Bool, Closes, Closing, Complex, Counts, Denied, Dev, DiskView as Disk, Entry, Err, Frees, Ghosts as CopyGhosts, HasClosed, IsBetween, IsMember, IsSayer, IsShown, Keep, LineDone, List, LockNo, Member, MemberId, NodeNo, None, Ok, Option, Outer, Parts, PlantGhosts, Refused, Release, Replaced, Replaces, Result, Scene, Since, StandsIn, SteadyGhosts, [], after_free, after_stop, after_try, ap, arith, closes_with, copies_at, counts_of, denied_closing, denied_holder, false, flown_of, freed_by, if◌then◌else◌, inl, inr, inside_since, is_holder, is_left_held, is_locked, is_somebody, is_stopped, journal_of, left_at as closes_at, line_by, members_most, next, no, nobody, noted, once_found, parts_of, refl, reserved_after_stop, scene_as, stopped_in, stopped_so, subst, sym, tested_as, tried, tried_since, true, with_holder, ℕ, ⊎_elim, ◌&&◌, ◌+◌, ◌∙◌, ◌≡◌, ◌≤◌, Halted, ReplyClosing, PlainReply}
use Rattle.mas_run.proofs.AfterLemmas.{IsAfter, scene_at}
use Rattle.mas_run.proofs.TurnedLemmas.{same_unreserved, KeepsHolder, between_line, holder_freed, holder_kept}
use Rattle.member_lines.specs.Earlier.{MaySayItsLine}
use Rattle.mas_run.proofs.ClosingLemmas.{IsCloser, Stays, none_stopped, closed_did, none_merely}
use Rattle.mas_run.proofs.PassedLemmas.{renews_same}
use Rattle.mas_run.proofs.ArmLemmas.{tested_here, done_so, InArm, arm_book, arm_inside, arm_kept, held_up, tested_up}
use Rattle.mas_run.proofs.KnownLemmas.{busy_named, sayer_of}
use Rattle.mas_run.proofs.JournalLemmas.{flies_so}

pub shown_at : {P C : Type 0} (plants : PlantGhosts P) (copies : CopyGhosts C) (told : Type 0) (x : Parts P C) → StandsIn x.batches x.placed x.book x.current
    → IsShown plants copies told (scene_at x) x
shown_at plants copies told x stands = record { queue = refl; book = refl; flight = flies_so x.batches x.placed x.book x.current stands; counts = λ t m up. refl }

-- while nobody holds the lock
pub none_held : (b : Book) → b.holder ≡ nobody → is_left_held b ≡ false
none_held b free = ap (λ (m : MemberId). is_somebody m && is_stopped b m) free

-- WHAT A LINE ENDS IN whose member is stopped in the book where it was halted, or gave the lock up: who holds the lock is known then, and nothing is reserved

abbrev pub LineEnds : {P C : Type 0} → Book → Parts P C → Parts P C → Type 0
LineEnds was z w = Stays z w × (Since was w.book → KeepsHolder was w.book) × (w.reserved ≡ None)

pub stays_stopped : {P C : Type 0} (by : MemberId) (z : Parts P C) (q : P) (r : Result (Unit {0}) NodeNo) → Stays z (stopped_so r by (record z { plant = q }))
stays_stopped by z q q3 = grind arith

pub stopped_ends : {P C : Type 0} (r : Result (Unit {0}) NodeNo) (by : MemberId) (z : Parts P C) (was : Book) → z.book.holder ≡ was.holder → z.reserved ≡ None → LineEnds was z (stopped_so r by z)
stopped_ends (Err Halted) by z was same none = (refl, (λ since. holder_kept was (after_stop z.book by) since same), ap (λ (o : Option (List Entry)). reserved_after_stop by o) none)
stopped_ends _ by z was same none = (refl, (λ since. holder_kept was z.book since same), none)

-- a lock that is left
pub freed_holder : (b : Book) (by : MemberId) (inner : Bool) → is_holder b by ≡ true → (after_free b by inner).holder ≡ nobody
freed_holder b by true holds = ap (λ (h : Bool). (if h then with_holder b nobody else b).holder) holds
freed_holder b by false holds = ap (λ (h : Bool). (if h then with_holder (noted b by) nobody else b).holder) holds

freed_ends : {P C : Type 0} (r : Result (Unit {0}) NodeNo) (by : MemberId) (z : Parts P C) → is_holder z.book by ≡ true → is_stopped z.book by ≡ false → z.reserved ≡ None → LineEnds z.book z (freed_by r by z)
freed_ends (Ok done) by z holds up none = (refl, (λ since. holder_freed z.book (after_free z.book by false) (freed_holder z.book by false holds) (held_up z.book by holds up)), refl)
freed_ends (Err e) by z holds up none = stopped_ends (Err e) by z z.book refl none

-- A LINE THAT ONLY CLOSES, said on the value that its test left

module _ {P C : Type 0} {plants : PlantGhosts P} {steadies : SteadyGhosts C} {copies : CopyGhosts C} {x mid : Complex P C plants steadies copies} {ms : List Member}
    {at : ℕ} {by : MemberId} {what : Ask} {a : Admission} (w : InArm x mid ms at by what a) (y : Complex P C plants steadies copies) (book : tried x.book by a ≡ tested_as x.book by a)
    (none : is_locked a ≡ true → x.current ≡ None) (apart : (dev : Dev) → a ≡ Replaces dev → ⊥) (sayer : MemberId) (sayer_is : IsSayer x.book sayer by) (r : Result (Unit {0}) NodeNo) (closed : Closes by at a sayer mid y r)
    (end : Closing) (rel : Release) (closer : (S : Scene) → (is_locked a ≡ true → S.flight ≡ None) → IsCloser S at (line_by by what) a Replaced end rel)
    (ends : Parts P C → Parts P C) (frame_y : parts_of y ≡ ends (record (parts_of mid) { plant = y.plant }))
    (so : LineEnds x.book (record (parts_of x) { book = tested_as x.book by a }) (ends (record (parts_of x) { plant = y.plant; book = tested_as x.book by a }))) where
  abbrev p : Parts P C
  p = parts_of x

  abbrev t : Parts P C
  t = record p { book = (tested_as x.book by a) }

  abbrev q : Parts P C
  q = parts_of y

  at_end : LineEnds x.book t q
  at_end = subst (λ (z : Parts P C). LineEnds x.book t z) (sym (subst (λ (z : Parts P C). q ≡ ends (record z { plant = y.plant })) w.frame frame_y)) so

  closed_at : (counts : Counts) (armed : List Armed) → HasClosed plants (scene_as p counts armed) by at a sayer t q r
  closed_at counts armed =
      subst (λ (z : Parts P C). HasClosed plants (scene_as p counts armed) by at a sayer z q r) w.frame
      (closed (scene_as p counts armed) (tested_here p counts armed by a mid.book (book ∙ sym (arm_book w)) none))

  here : HasClosed plants (scene_at p) by at a sayer t q r
  here = closed_at (counts_of p.printed) []

  seated : r ≡ Err Halted → IsMember x.book by
  seated e = ⊎_elim (λ none_says. absurd (no true refl (sym (ap stopped_in e) ∙ none_stopped plants by a sayer t q r (closes_at (scene_at p) by at a) here (inl none_says) none_says))) (λ own. own.1) sayer_is

  line_done : LineDone x y ms at by what r
  line_done =
      let next : IsAfter plants copies p q at → BetweenLines y ms (at + 1) = λ after.
      between_line plants copies p y.plant p.first_alive p.second_alive p.first_found p.second_found (λ on. on) (λ on. on) (λ t d. ap (λ (k : Disk). k.bytes) (here.acts.disks t d)) q.book q.reserved at_end.2 q at_end.0 at after (at_end.1 after.since)
      ms at w.is in
      done_so x y ms at by what r (ap (λ (k : Parts P C). k.base) at_end.0) (ap (λ (k : Parts P C). k.since) at_end.0) w.few w.is
      (λ told knows counts armed. closed_did x y at by what a told knows counts armed w.adm (tested_as x.book by a) Replaced end rel (closer (scene_as p counts armed) (λ locked. ap flown_of (none locked))) r sayer t
      (none_merely plants by a t (Ok tt) (spares_none by.0 (plants.view x.plant)) (inr (refl, refl))) (λ o. (refl, λ d. refl)) (closed_at counts armed) (⊎_elim inl (λ own. inr own.0) sayer_is) at_end.0 ms (ap (λ (k : Parts P C). journal_of k) at_end.0) (ap (λ (k : Parts P C). k.printed) at_end.0)
      (λ cut. renews_same a cut Replaced (copies_at plants t) (copies_at plants q) (λ dev is. absurd (apart dev is)) (ap (λ (k : Parts P C). k.renewals) at_end.0)) (λ after ok. next after)
      (λ after down e. let between = next after in subst (λ (z : Parts P C). IsBetween plants copies z ms (at + 1)) (sym (same_unreserved q at_end.2 q.book between.stands)) between)) seated

-- THE THREE ADMISSIONS that only close

module _ {P C : Type 0} {plants : PlantGhosts P} {steadies : SteadyGhosts C} {copies : CopyGhosts C} {x mid : Complex P C plants steadies copies} {ms : List Member}
    {at : ℕ} {by : MemberId} {what : Ask} where
  -- by its member, where that is up in the book of its test
  may_say : {a : Admission} (w : InArm x mid ms at by what a) → IsMember (tested_as x.book by a) by → is_stopped (tested_as x.book by a) by ≡ false → by.0 ≤ members_most → MaySayItsLine mid by at
  may_say w inside up few = record { member = subst (λ (b : Book). IsMember b by) (sym (arm_book w)) inside; up = ap (λ (b : Book). is_stopped b by) (arm_book w) ∙ up; by = few; kept = λ told. arm_kept w }

  -- by the operator, or by its member
  module _ {sayer : MemberId} {end : Closing} (w : InArm x mid ms at by what (Refused sayer end)) where
    pub refused_sayer : IsSayer mid.book sayer by
    refused_sayer = subst (λ (b : Book). IsSayer b sayer by) (sym (arm_book w)) (sayer_of x.base w.is.config x.book by w.is.booked sayer w.known_so.0)

    pub refused_done : (y : Complex P C plants steadies copies) (r : Result (Unit {0}) NodeNo) → Closes by at (Refused sayer end) sayer mid y r → parts_of y ≡ stopped_so r by (record (parts_of mid) { plant = y.plant })
        → LineDone x y ms at by what r
    refused_done y r closed frame_y =
        line_done w y refl (λ locked. absurd (no false locked refl)) (λ dev same. absurd (cc)) sayer (sayer_of x.base w.is.config x.book by w.is.booked sayer w.known_so.0) r closed
        end Keep (λ S none. record { pieces = refl; shaped = λ cut old new. refl; play = λ cut. refl })
        (λ (z : Parts P C). stopped_so r by z) frame_y (stopped_ends r by (record (parts_of x) { plant = y.plant }) x.book refl w.is.unreserved)

  -- of a member that didn't get the lock
  module _ {why : LockNo} (w : InArm x mid ms at by what (Denied why)) where
    pub denied_may : by.0 ≤ members_most → MaySayItsLine mid by at
    denied_may few =
        let inside = arm_inside w w.known_so.0 in
        may_say w (inside_since x.book (after_try x.book by false) by (tried_since x.book by inside false) inside) (tested_up x.book by inside w.known_so.0.up) few

    pub denied_named : AreMembersNamed (denied_closing why)
    denied_named = busy_named x.base w.is.config x.book by why w.known_so.1 (let held = w.is.held in let most = w.is.config.members.1 in omega (arith, held, most))

    pub denied_done : (y : Complex P C plants steadies copies) (r : Result (Unit {0}) NodeNo) → Closes by at (Denied why) by mid y r → parts_of y ≡ stopped_so r by (record (parts_of mid) { plant = y.plant }) → LineDone x y ms at by what r
    denied_done y r closed frame_y =
        line_done w y refl (λ locked. absurd (no false locked refl)) (λ dev same. absurd (cc)) by (inr (refl, arm_inside w w.known_so.0, w.known_so.0.up)) r closed
        (denied_closing why) Keep (λ S none. record { pieces = refl; shaped = λ cut old new. refl; play = λ cut. refl })
        (λ (z : Parts P C). stopped_so r by z) frame_y (stopped_ends r by (record (parts_of x) { plant = y.plant; book = after_try x.book by false }) x.book (denied_holder x.book by why w.known_so.1) w.is.unreserved)

  -- of one that gives it up
  module _ (w : InArm x mid ms at by what Frees) where
    pub frees_may : by.0 ≤ members_most → MaySayItsLine mid by at
    frees_may few = may_say w (arm_inside w w.known_so.0) w.known_so.0.up few

    pub frees_none : mid.current ≡ None
    frees_none = ap (λ (z : Parts P C). z.current) w.frame ∙ (w.is.quiet (held_up x.book by w.known_so.1 w.known_so.0.up)).none

    pub freed_line : (y : Complex P C plants steadies copies) (r : Result (Unit {0}) NodeNo) → Closes by at Frees by mid y r → parts_of y ≡ freed_by r by (record (parts_of mid) { plant = y.plant }) → LineDone x y ms at by what r
    freed_line y r closed frame_y =
        let end = ReplyClosing PlainReply in
        line_done w y refl (λ locked. sym (ap (λ (z : Parts P C). z.current) w.frame) ∙ frees_none) (λ dev same. absurd (cc)) by (inr (refl, arm_inside w w.known_so.0, w.known_so.0.up)) r closed
        end Outer (λ S unflown. record { pieces = ap (λ f. once_found f (closes_with by at end Outer)) (unflown refl); shaped = λ cut old new. refl; play = λ cut. refl })
        (λ (z : Parts P C). freed_by r by z) frame_y (freed_ends r by (record (parts_of x) { plant = y.plant }) w.known_so.1 w.known_so.0.up w.is.unreserved)

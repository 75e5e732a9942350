-- A stop of a member, a stop that is armed, and the loss of a device, as lines of a script.
use Rattle.mas_run.proofs.Names.{IsGiven, IsHonestAs, IfIdle, OnlyStops, printed_at, PrintsNone, IsPassed, IsWhy, Console, of_if, Known, Account, Admission, Armed, AreVolumesKept, Ask, AskLeaves, BetweenLines, Book, Bool, Ckpt1, Ckpt2, Complex, Config, Dev, Disk, DiskView, Elsewhere, Entry, Err, Flying, Fuse, Ghosts as CopyGhosts, HasPlayedLine, HaveRead, IfOfMember, IsAskRight, IsBetween, IsCkpt, IsFlight, IsMember, IsShown, KeepCopies, LeavesVolumes, LineAt, LineIsPlayed, List, Loses, Member, MemberId, NoMore, NodeNo, None, Ok, Option, Part, Parts, PlantGhosts, Played, Proceeds, Queue, Replaced, Result, Rose, SamePapers, SameWires, SaysStopped, Scene, Since, Some, Spool, StandsIn, StaysLost, SteadyGhosts, Step, TellNone, View, ViewLine as Line, VolumesStay, [], account_at, admitted, admitted_at, after_stop, ap, append-nil, arith, arms_then, closing_line, closing_of, comes, console_now, copies_at, counts_of, disk_now, eqb-true, failed, false, flown_of, if◌then◌else◌, inl, inr, inside_of, is_alive, is_member, is_of_member, is_stopped, is_up, is_work, journal_of, kept_all, kept_none, le_refl, left, length, line_by, loses_then, nat_tests, next, no, no_more, none_given, none_lost, none_since, not, nothing, other, paper_now, papers_none, parts_of, pick, proceeds_none, proceeds_of, queue_of, refl, reserved_after_stop, runs_keep_configuration, same_device, settle, sides_of, silent, stay_none, steps_most, stopped_said, stopped_since, subst, sym, true, whole_later, wires_none, with_half, ℕ, ⊎_elim, ◌&&◌, ◌++◌, ◌+◌, ◌==◌, ◌∙◌, ◌∷◌, ◌≡◌, ◌≢◌, ◌≤◌, ◌⊎◌, IsNextBy, here_at, there_at, by_test, is_replaced, Halted, ConsoleFault, Stop, StopIn, Lose, Stopped}
use Rattle.mas_run.proofs.AfterLemmas.{IsAfter, after_said, scene_at}
use Rattle.member_lines.specs.Stops.{ArmsIf, ArmsStop, IsAt, Stops}
use Rattle.mas_run.proofs.ClosesLemmas.{shown_at}
use Rattle.mas_run.proofs.JournalLemmas.{flies_so, flown_is}
use Rattle.mas_run.proofs.CopiesLemmas.{copies_still, leaves_same}
use Rattle.mas_run.proofs.WireLemmas.{carries_none, readers_still, serves_none}
use Rattle.mas_run.proofs.TurnedLemmas.{between_line, holder_kept}
use Rattle.mas_run.proofs.LeftLemmas.{if_idle}
use Rattle.member_resets.proofs.SettleLemmas.{settle_none}
use Rattle.mas_run.proofs.PassedLemmas.{kept_by, renews_same, same_dev}

own_dev : (d : Dev) → same_device d d ≡ true
own_dev q0 = grind arith

-- WHAT SUCH A LINE NEEDN'T SAY

unasked : (S : Scene) (by : MemberId) (at : ℕ) (what : Ask) (P : Type 0) → is_of_member what ≡ false → IfOfMember what P × IsAskRight S by at none_given what
unasked q0 by at q3 q4 none = grind arith

-- WHAT SUCH A LINE DOES: it may lose a device, and the copy on it; and in a later book who is up was so before

abbrev named_lost : Option Dev → ℕ → Bool
named_lost None = none_lost
named_lost (Some dev) = λ volume. same_device (Spool volume) dev

pub record IsMutePlant (tells : Type 0) (lost : Option Dev) (old new : View) : Type 0 where
  pub goes : Proceeds old new
  pub stops : (m : ℕ) → new.stops m ≡ old.stops m
  pub loses : (d : Dev) → new.loses d ≡ loses_then lost d (old.loses d)
  pub stays : (d : Dev) → StaysLost d old new
  pub stay : VolumesStay (named_lost lost) old new
  pub console : tells → console_now new ≡ console_now old
  pub papers : tells → SamePapers old new
  pub wires : tells → SameWires old new
  pub bytes : tells → (d : Dev) → (disk_now new d).bytes ≡ (disk_now old d).bytes
  pub volumes : tells → ((n : ℕ) → lost ≡ Some (Spool n) → ⊥) → AreVolumesKept old new

pub record IsMute {P C : Type 0} (plants : PlantGhosts P) (lost : Option Dev) (x y : Parts P C) : Type 0 where
  pub frame : y ≡ record x { plant = y.plant; book = y.book; first_alive = y.first_alive; second_alive = y.second_alive; first_found = y.first_found; second_found = y.second_found }
  pub later : Since x.book y.book
  pub holder : y.book.holder ≡ x.book.holder
  pub plant : IsMutePlant plants.tells lost (plants.view x.plant) (plants.view y.plant)
  pub alive1 : y.first_alive ≡ true → x.first_alive ≡ true
  pub alive2 : y.second_alive ≡ true → x.second_alive ≡ true
  pub kept : KeepCopies plants {T = Unit {0}} x y (Ok tt)

-- its account: it says nothing, and leaves a scene with the same queue, batch in flight and counts
abbrev account_mute : Scene → ℕ → Step → Option Dev → Bool → Played → Account
account_mute S at step lost arms played = record { line = record { scene = S; number = at; step = step; given = none_given }; played = played; cut = None; named = named_lost lost; arms = arms }

abbrev played_mute : Scene → Option Dev → Book → List Armed → Played
played_mute S lost book armed = record { outcome = record nothing { loses = lost }; next = record S { book = book; armed = armed }; goes_on = true }

module _ {P C : Type 0} (plants : PlantGhosts P) (copies : CopyGhosts C) (told : Type 0) (S : Scene) (at : ℕ) (step : Step) (lost : Option Dev) (x y : Parts P C) where
  abbrev l : LineAt
  l = record { scene = S; number = at; step = step; given = none_given }

  -- at a scene
  pub record IsMuteAt : Type 0 where
    pub armed : List Armed
    pub arming : Bool
    pub account : account_at l ≡ account_mute S at step lost arming (played_mute S lost y.book armed)
    pub arms : (m : ℕ) → (plants.view y.plant).arms m ≡ arms_then (account_mute S at step lost arming (played_mute S lost y.book armed)) m ((plants.view x.plant).arms m)
    pub leaves : LeavesVolumes l → (n : ℕ) → lost ≡ Some (Spool n) → ⊥

  mute_played : is_of_member step.what ≡ false → (told → plants.tells) → IsMute plants lost x y → StandsIn y.batches y.placed y.book y.current → IsShown plants copies told S x → IsMuteAt → HasPlayedLine plants copies told S at step x y (Ok tt)
  mute_played none tells mute stands shown here =
      let since : Since S.book y.book = subst (λ (b : Book). Since b y.book) shown.book mute.later in
      let flown : flown_of y.current ≡ S.flight = ap (λ (w : Parts P C). flown_of w.current) mute.frame ∙ flown_is S.book S.flight x.current shown.flight in
      let its = comes S.queue.config S.book step.by step.what in
      let old : View = plants.view x.plant in
      let new : View = plants.view y.plant in
      let w : Account = account_mute S at step lost here.arming (played_mute S lost y.book here.armed) in
      let given : IsGiven told l old new = record { shaped = inr (unasked S step.by at step.what _ none).0; right = λ t. (unasked S step.by at step.what (Unit {0}) none).1 } in
      let honest : told → IfOfMember step.what (IsHonestAs l (admitted_at l) None old new) = λ t. (unasked S step.by at step.what _ none).0 in
      let tight : IfIdle (is_work (admitted_at l)) (Unit {0}) = if_idle (is_work (admitted_at l)) (Unit {0}) tt in
      let why : IsWhy {T = Unit {0}} (Ok tt) step.by old new Halted = refl in
      let unfailed : Ok tt ≡ failed ConsoleFault → Rose (old.faults Console) (new.faults Console) = λ e. absurd (cc) in
      let spares : OnlyStops step.by old new = λ m other. mute.plant.stops m in
      let console : told → console_now new ≡ console_now old ++ [] = λ t. mute.plant.console (tells t) ∙ sym (append-nil (console_now old)) in
      let paper : told → (m : ℕ) → paper_now new m ≡ paper_now old m ++ printed_at w m = λ t m. mute.plant.papers (tells t) new.now mute.plant.goes.later (le_refl new.now) m ∙ sym (of_if (λ (ls : List Line). paper_now old m ++ ls ≡ paper_now old m) (step.by.0 == m) [] [] (λ is. append-nil (paper_now old m)) (λ is. append-nil (paper_now old m))) in
      let dry : told → PrintsNone (admitted_at l) → SamePapers old new = λ t so. mute.plant.papers (tells t) in
      let volumes : told → LeavesVolumes l → AreVolumesKept old new = λ t leaves. mute.plant.volumes (tells t) (here.leaves leaves) in
      let passed : IsPassed told w [] old new (Ok tt) = search (given, honest, tight, why, unfailed, spares, console, paper, dry, volumes, here.arms, mute.plant.goes, mute.plant.stays, mute.plant.stay, mute.plant.stops) in record {
        given = none_given;
        next = subst (λ (w : Account). IsNextBy told (here_at plants copies at S x) w (there_at plants copies y (Ok tt))) (sym here.account) (record {
          own = [];
          passed = passed;
          at = old.now;
          moment = (omega arith, mute.plant.goes.later);
          batches = ap (λ (w : Parts P C). journal_of w) mute.frame ∙ sym (append-nil (settle Flying old.now (journal_of x)) ∙ settle_none old.now (journal_of x));
          loses = λ t d. inl (mute.plant.loses d);
          renews = renews_same (admitted_at l) None Replaced (copies_at plants x) (copies_at plants y)
              (λ dev is. absurd (no (is_replaced dev (admitted_at l)) (ap (is_replaced dev) is ∙ own_dev dev) (kept_by dev its (λ same. no (is_of_member step.what) (ap is_of_member same) none)))) (ap (λ (w : Parts P C). w.renewals) mute.frame);
          wires = λ t. carries_none x.since l (admitted_at l) [] old new refl (mute.plant.wires (tells t)) (λ line is. absurd (serves_none its (λ n same. no (is_of_member step.what) (ap is_of_member same) none) line is));
        });
        shows = subst (λ (w : Account). IsShown plants copies told w.played.next y) (sym here.account) (record {
          queue = ap queue_of mute.frame ∙ shown.queue;
          book = refl;
          flight = subst (λ (o : Option (List Entry)). IsFlight y.book o y.current) flown (flies_so y.batches y.placed y.book y.current stands);
          counts = λ t m up. ap (λ (w : Parts P C). counts_of w.printed m) mute.frame ∙ shown.counts t m (since.up m up);
        });
      }

-- as a line of a run, after which the readers have read what they had
pub record IsMuteLine {P C : Type 0} {plants : PlantGhosts P} {steadies : SteadyGhosts C} {copies : CopyGhosts C} (x y : Complex P C plants steadies copies) (ms : List Member) (at : ℕ) (step : Step) : Type 0 where
  pub line : LineIsPlayed x y ms at step (Ok tt)
  pub heard : (rs : List (Option (List ℕ))) → HaveRead x rs → HaveRead y rs

module _ {P C : Type 0} {plants : PlantGhosts P} {steadies : SteadyGhosts C} {copies : CopyGhosts C} (x y : Complex P C plants steadies copies) (ms : List Member) (at : ℕ) (few : at ≤ steps_most) (is : BetweenLines x ms at)
    (lost : Option Dev) (mute : IsMute plants lost (parts_of x) (parts_of y)) where
  mute_line : (step : Step) → is_of_member step.what ≡ false → ((told : Type 0) (S : Scene) → IsShown plants copies told S (parts_of x) → IsMuteAt plants copies told S at step lost (parts_of x) (parts_of y)) → IsMuteLine x y ms at step
  mute_line step none so =
      let p : Parts P C = parts_of x in
      let q : Parts P C = parts_of y in
      let after : IsAfter plants copies p q at = after_said plants copies p q (ap (λ (w : Parts P C). w.base) mute.frame) (ap (λ (w : Parts P C). w.since) mute.frame) mute.plant.goes is at (omega arith)
      (λ t. ([], mute.plant.console t ∙ sym (append-nil (console_now (plants.view x.plant))), (λ k less small es of. tt))) (ap (λ (w : Parts P C). journal_of w) mute.frame) mute.later few in
      let next : BetweenLines y ms (at + 1) = between_line plants copies p q.plant q.first_alive q.second_alive q.first_found q.second_found mute.alive1 mute.alive2 mute.plant.bytes q.book x.reserved is.unreserved q mute.frame at after
      (holder_kept x.book q.book mute.later mute.holder) ms at is in
      let line : LineIsPlayed x y ms at step (Ok tt) = record {
        base = ap (λ (w : Parts P C). w.base) mute.frame;
        since = ap (λ (w : Parts P C). w.since) mute.frame;
        line = λ all tells S shown. mute_played plants copies (Known all) S at step lost p q none tells mute next.stands shown (so (Known all) S shown);
        kept = leaves_same plants {T = Unit {0}} p q (Ok tt) mute.kept (ap (λ (w : Parts P C). w.renewals) mute.frame) mute.alive1 mute.alive2;
        next = next;
      } in record {
        line = line;
        heard = λ rs read. readers_still plants p q line.base line.since is.booked rs read (λ t. mute.plant.goes.past x.since is.begun) (λ t m up. mute.later.up m up) mute.plant.wires;
      }

-- A STOP, and one that is armed

-- nothing but the counts of stops that were armed differs
abbrev armed_as : View → View → View
armed_as old new = record old { arms = new.arms }

same_armed : (old new : View) → new ≡ old → new ≡ armed_as old new
same_armed old new same = same ∙ ap (λ (a : ℕ → ℕ). record old { arms = a }) (sym (ap (λ (w : View). w.arms) same))

armed_mute : (tells : Type 0) (old : View) (arms : ℕ → ℕ) → IsMutePlant tells None old (record old { arms = arms })
armed_mute tells old arms = assumption (proceeds_none old, papers_none old, wires_none old, kept_none old, stay_none none_lost old)

-- a line that did nothing to the plant but that
still_mute : {P C : Type 0} (plants : PlantGhosts P) (x y : Parts P C) → y ≡ record x { plant = y.plant; book = y.book } → Since x.book y.book → y.book.holder ≡ x.book.holder
    → plants.view y.plant ≡ armed_as (plants.view x.plant) (plants.view y.plant) → IsMute plants None x y
still_mute {P} {C} plants x y frame later holder armed =
    let old : View = plants.view x.plant in
    let one : y.first_alive ≡ x.first_alive = ap (λ (w : Parts P C). w.first_alive) frame in
    let two : y.second_alive ≡ x.second_alive = ap (λ (w : Parts P C). w.second_alive) frame in
    let mute : IsMutePlant plants.tells None old (plants.view y.plant) = subst (λ (w : View). IsMutePlant plants.tells None old w) (sym armed) (armed_mute plants.tells old (plants.view y.plant).arms) in record {
      frame = subst (λ (w : Parts P C). w ≡ record x { plant = w.plant; book = w.book; first_alive = w.first_alive; second_alive = w.second_alive; first_found = w.first_found; second_found = w.second_found }) (sym frame) refl;
      later = later;
      holder = holder;
      plant = mute;
      alive1 = λ on. sym one ∙ on;
      alive2 = λ on. sym two ∙ on;
      kept = copies_still plants {T = Unit {0}} x y (Ok tt) mute.goes one two (λ d. ap (λ (w : View). w.lost (Disk d)) armed) mute.loses (inl (inr (one, two)));
    }

-- A STOP THAT IS ARMED, if the member is up

module _ {P C : Type 0} {plants : PlantGhosts P} {steadies : SteadyGhosts C} {copies : CopyGhosts C} (x y : Complex P C plants steadies copies) (by : MemberId) where
  armed_same : (up : Bool) → ArmsIf up by x y → plants.view y.plant ≡ armed_as (plants.view x.plant) (plants.view y.plant)
  armed_same true arms = arms.same
  armed_same false same = same_armed (plants.view x.plant) (plants.view y.plant) (ap plants.view same)

  armed_grow : (up : Bool) → ArmsIf up by x y → (k : ℕ) → (plants.view y.plant).arms k ≡ (if up && (by.0 == k) then next ((plants.view x.plant).arms k) else (plants.view x.plant).arms k)
  armed_grow false same k = ap (λ (w : P). (plants.view w).arms k) same
  armed_grow true arms k =
      let old = (plants.view x.plant).arms k in
      by_test (by.0 == k)
      (λ is. subst (λ (j : ℕ). (plants.view y.plant).arms j ≡ next ((plants.view x.plant).arms j)) (eqb-true by.0 k is) arms.counted ∙ ap (λ (b : Bool). if b then next old else old) (sym is))
      (λ is. arms.else_counted k (λ e. absurd (let same : (by.0 == k) ≡ true = grind (arith, nat_tests, e) in cc)) ∙ ap (λ (b : Bool). if b then next old else old) (sym is))

-- A DEVICE THAT IS LOST

abbrev pub disk_of : Part → Dev
disk_of (Disk d) = d
disk_of _ = Ckpt1

pub other_disk : (dev d : Dev) → same_device d dev ≡ false → Disk d ≢ Disk dev
other_disk dev d other same = absurd (no true refl (sym (own_dev dev) ∙ ap (λ (k : Dev). same_device k dev) (sym (ap disk_of same)) ∙ other))

lost_count : (dev d : Dev) (old new : View) → Loses (Disk dev) old new → new.loses d ≡ loses_then (Some dev) d (old.loses d)
lost_count dev d old new lost = of_if (λ (n : ℕ). new.loses d ≡ n) (same_device d dev) (next (old.loses d)) (old.loses d) (λ is. lost.counted d (ap (λ (e : Dev). Disk e) (same_dev d dev is))) (λ is. lost.else_counted d (other_disk dev d is))

pub kept_elsewhere : (dev : Dev) (old new : View) → ((n : ℕ) → Spool n ≢ dev) → Elsewhere dev old new → AreVolumesKept old new
kept_elsewhere dev old new apart els t from to n =
    subst (NoMore (disk_now old (Spool n))) (sym (els.others t from to (Spool n) (apart n))) (no_more (disk_now old (Spool n)))

-- THE OPERATOR SAID that a member was stopped in its line, after which the value was between two lines already

stopped_tells : (by : MemberId) (at : ℕ) (r : Result (Unit {0}) NodeNo) → TellNone at (stopped_said r by at)
stopped_tells by at (Ok done) = λ k less small es of. whole_later by at k less (omega (arith, small)) es of (closing_line by at Stopped ∷ []) (closing_of by at Stopped)
stopped_tells by at (Err e) = λ k less small es of. tt

module _ {P C : Type 0} {plants : PlantGhosts P} {steadies : SteadyGhosts C} {copies : CopyGhosts C} where
  pub stopped_next : (by : MemberId) (at : ℕ) (y z : Complex P C plants steadies copies) (r : Result (Unit {0}) NodeNo) → parts_of z ≡ record (parts_of y) { plant = z.plant }
      → SaysStopped by at y z r → (ms : List Member) → at ≤ steps_most → IsBetween plants copies (parts_of y) ms (at + 1) → IsBetween plants copies (parts_of z) ms (at + 1)
  stopped_next by at y z r frame says ms few is =
      let x = parts_of y in
      let w = parts_of z in
      let book : w.book ≡ x.book = ap (λ (k : Parts P C). k.book) frame in
      let since : Since x.book w.book = subst (λ (b : Book). Since x.book b) (sym book) (none_since x.book) in
      between_line plants copies x z.plant x.first_alive x.second_alive x.first_found x.second_found (λ on. on) (λ on. on) (λ t d. ap (λ (k : DiskView). k.bytes) (says.acts.disks t d)) x.book x.reserved is.unreserved w frame at
      (after_said plants copies x w (ap (λ (k : Parts P C). k.base) frame) (ap (λ (k : Parts P C). k.since) frame) (proceeds_of (plants.view x.plant) (plants.view w.plant) says.acts.goes) is at (omega arith)
      (λ t. (stopped_said r by at, says.console t, stopped_tells by at r)) (ap (λ (k : Parts P C). journal_of k) frame) since few)
      (holder_kept x.book x.book (none_since x.book) refl) ms (at + 1) is

whole_half : {P C : Type 0} (d : Dev) (p q : Parts P C) → q ≡ with_half d q p → pick d q.first_copy q.second_copy ≡ pick d p.first_copy p.second_copy
    → q ≡ record p { plant = q.plant; first_alive = q.first_alive; second_alive = q.second_alive; first_found = q.first_found; second_found = q.second_found }
whole_half Ckpt2 p q is_so same = cc
whole_half _ p q is_so same = cc

-- THE THREE LINES

module _ {P C : Type 0} {plants : PlantGhosts P} {steadies : SteadyGhosts C} {copies : CopyGhosts C} (x y : Complex P C plants steadies copies) (ms : List Member) (at : ℕ) (by : MemberId)
    (few : at ≤ steps_most) (is : BetweenLines x ms at) where
  abbrev p : Parts P C
  p = parts_of x

  abbrev q : Parts P C
  q = parts_of y

  abbrev here : Scene
  here = scene_at p

  here_shown : IsShown plants copies (Unit {0}) here p
  here_shown = shown_at plants copies (Unit {0}) p is.stands

  is_at : (told : Type 0) (S : Scene) → IsShown plants copies told S p → IsAt S p
  is_at told S shown = record { book = sym shown.book; config = ap (λ (Q : Queue). Q.config) (sym shown.queue) ∙ (runs_keep_configuration x.base (kept_all p.batches)).config }

  -- by whether its member is up
  silent_book : (up : Bool) (S : Scene) (b : Book) → (if up then silent (record S { book = b }) else silent S) ≡ silent (record S { book = (if up then silent (record S { book = b }) else silent S).next.book })
  silent_book q0 q1 b = grind arith

  silent_armed : (up : Bool) (S : Scene) (armed : List Armed) → (if up then silent (record S { armed = armed }) else silent S) ≡ silent (record S { armed = if up then armed else S.armed })
  silent_armed q0 q1 armed = grind arith

  -- a member that is up has its place in the book
  inside_up : (S : Scene) → IsAt S p → is_up S by ≡ true → IsMember S.book by
  inside_up S at_scene up =
      let member : is_member S.queue.config by ≡ true =
      by_test (is_member S.queue.config by) (λ e. e) (λ e. absurd (no true refl (sym up ∙ ap (λ (t : Bool). if t then not (is_stopped S.book by) else false) e))) in
      inside_of S.queue.config by member S.book (ap (λ (b : Book). length b.members) at_scene.book ∙ is.booked ∙ ap (λ (c : Config). c.members) (sym at_scene.config))

  -- A STOP OF A MEMBER between its acts

  module _ (stops : Stops by x y) where
    -- the book that it leaves, if the member is up
    abbrev booked : Bool → Book
    booked up = (if up then silent (record here { book = after_stop here.book by }) else silent here).next.book

    booked_so : (up : Bool) → is_up here by ≡ up → Since p.book (booked up) × ((booked up).holder ≡ p.book.holder)
    booked_so true up = (stopped_since p.book by (inside_up here (is_at (Unit {0}) here here_shown) up), refl)
    booked_so false down = (none_since p.book, refl)

    -- nothing is reserved then either
    unreserved : (up : Bool) → (if up then reserved_after_stop by p.reserved else p.reserved) ≡ p.reserved
    unreserved true = ap (λ (r : Option (List Entry)). reserved_after_stop by r) is.unreserved ∙ sym is.unreserved
    unreserved false = refl

    stop_none : IsMute plants None p q
    stop_none =
        let up = is_up here by in
        let so = booked_so up refl in
        let whole : q ≡ record p { book = booked up } = stops here (is_at (Unit {0}) here here_shown) ∙ ap (λ (r : Option (List Entry)). record p { book = booked up; reserved = r }) (unreserved up) in
        subst (λ (w : Parts P C). IsMute plants None p w) (sym whole) (still_mute plants p (record p { book = booked up }) refl so.0 so.1 refl)

    pub stop_mute : IsMuteLine x y ms at (line_by by Stop)
    stop_mute = mute_line x y ms at few is None stop_none (line_by by Stop) refl (λ told S shown.
        let frame = stops S (is_at told S shown) in
        record {
          armed = S.armed;
          arming = false;
          account = ap (account_mute S at (line_by by Stop) None false) (silent_book (is_up S by) S (after_stop S.book by) ∙ ap (λ (b : Book). played_mute S None b S.armed) (sym (ap (λ (w : Parts P C). w.book) frame)));
          arms = λ m. ap (λ (w : Parts P C). (plants.view w.plant).arms m) frame;
          leaves = λ leaves n e. absurd (cc);
        })

  -- A STOP THAT IS ARMED

  module _ (what : Fuse) (n : ℕ) (frame : q ≡ record p { plant = q.plant }) (arms : ArmsStop by x y) where
    same_book : q.book ≡ p.book
    same_book = ap (λ (w : Parts P C). w.book) frame

    arm_none : IsMute plants None p q
    arm_none =
        still_mute plants p q (frame ∙ ap (λ (b : Book). record p { plant = q.plant; book = b }) (sym same_book)) (subst (λ (b : Book). Since p.book b) (sym same_book) (none_since p.book)) (ap (λ (b : Book). b.holder) same_book)
        (armed_same x y by (is_up here by) (arms here (is_at (Unit {0}) here here_shown)))

    pub arm_mute : IsMuteLine x y ms at (line_by by (StopIn what n))
    arm_mute = mute_line x y ms at few is None arm_none (line_by by (StopIn what n)) refl (λ told S shown.
        let armed : List Armed = S.armed ++ record { member = by; fuse = what; left = n } ∷ [] in
        let then_armed : List Armed = if is_up S by then armed else S.armed in
        record {
          armed = then_armed;
          arming = is_up S by;
          account = ap (account_mute S at (line_by by (StopIn what n)) None (is_up S by)) (silent_armed (is_up S by) S armed ∙ ap (λ (b : Book). played_mute S None b then_armed) (sym (same_book ∙ shown.book)));
          arms = armed_grow x y by (is_up S by) (arms S (is_at told S shown));
          leaves = λ leaves n e. absurd (cc);
        })

  -- A DEVICE THAT IS LOST, and the copy on it with it

  module _ (dev : Dev) (frame : q ≡ with_half dev q p) (dead : IsCkpt dev → (pick dev y.pair.first y.pair.second).alive ≡ false) (volume : (n : ℕ) → dev ≡ Spool n → y.pair ≡ x.pair)
      (copy : (pick dev y.pair.first y.pair.second).copy ≡ (pick dev x.pair.first x.pair.second).copy) (lost : Loses (Disk dev) (plants.view x.plant) (plants.view y.plant))
      (els : plants.tells → Elsewhere dev (plants.view x.plant) (plants.view y.plant))
      (bytes : plants.tells → (d : Dev) → (disk_now (plants.view y.plant) d).bytes ≡ (disk_now (plants.view x.plant) d).bytes) where
    abbrev Whole : Type 0
    Whole = q ≡ record p { plant = q.plant; first_alive = q.first_alive; second_alive = q.second_alive; first_found = q.first_found; second_found = q.second_found }

    whole_by : (d : Dev) → q ≡ with_half d q p → (pick d y.pair.first y.pair.second).copy ≡ (pick d x.pair.first x.pair.second).copy → Whole
    whole_by Ckpt2 is_so same = whole_half Ckpt2 p q is_so same
    whole_by d is_so same = whole_half d p q is_so same

    lost_whole : Whole
    lost_whole = whole_by dev frame copy

    same_book_lost : q.book ≡ p.book
    same_book_lost = ap (λ (w : Parts P C). w.book) lost_whole

    -- which copies count as alive: all that did but the one on it

    abbrev IsOnly : Dev → Dev → Type 0
    IsOnly e d = ((e ≡ d) × (is_alive d (sides_of plants q) ≡ false)) ⊎ ((is_alive d (sides_of plants q) ≡ is_alive d (sides_of plants p)) × (e ≢ d))

    only_by : (e : Dev) → q ≡ with_half e q p → (IsCkpt e → (pick e y.pair.first y.pair.second).alive ≡ false) → ((n : ℕ) → e ≡ Spool n → y.pair ≡ x.pair) → (d : Dev) → IsCkpt d → IsOnly e d
    only_by Ckpt1 is_so gone apart Ckpt1 ckpt = inl (refl, gone tt)
    only_by Ckpt2 is_so gone apart Ckpt2 ckpt = inl (refl, gone tt)
    only_by (Spool n) is_so gone apart Ckpt1 ckpt = inr (ap (λ w. w.first.alive) (apart n refl), λ e. absurd (cc))
    only_by Ckpt2 is_so gone apart Ckpt1 ckpt = inr (ap (λ (w : Parts P C). w.first_alive) is_so, λ e. absurd (cc))
    only_by _ is_so gone apart Ckpt2 ckpt = inr (ap (λ (w : Parts P C). w.second_alive) is_so, λ e. absurd (cc))
    only_by _ is_so gone apart (Spool m) ckpt = absurd ckpt

    only : (d : Dev) → IsCkpt d → IsOnly dev d
    only = only_by dev frame dead volume

    alive_then : (d : Dev) → IsCkpt d → is_alive d (sides_of plants q) ≡ true → is_alive d (sides_of plants p) ≡ true
    alive_then d ckpt on = ⊎_elim (λ gone. absurd (no (is_alive d (sides_of plants q)) on gone.1)) (λ same. sym same.0 ∙ on) (only d ckpt)

    rose : (d : Dev) → dev ≡ d → Rose ((plants.view x.plant).loses d) ((plants.view y.plant).loses d)
    rose d same = let once = lost.counted d (ap (λ (e : Dev). Disk e) (sym same)) in omega (arith, once)

    lost_copies : KeepCopies plants {T = Unit {0}} p q (Ok tt)
    lost_copies = record {
      goes = proceeds_of (plants.view x.plant) (plants.view y.plant) lost.goes;
      copies = λ d ckpt. record {
        failed = λ on off. ⊎_elim (λ gone. inr (rose d gone.0)) (λ same. absurd (no (is_alive d (sides_of plants q)) (same.0 ∙ on) off)) (only d ckpt);
        there = λ on there. ⊎_elim (λ gone. absurd (no (is_alive d (sides_of plants q)) on gone.1)) (λ same. lost.else_lost (Disk d) (λ e. same.1 (sym (ap disk_of e))) ∙ there (sym same.0 ∙ on)) (only d ckpt);
      };
      grow = λ d. by_test (same_device d dev) (λ is. inr (rose d (sym (same_dev d dev is)))) (λ is. inl (lost.else_counted d (other_disk dev d is)));
      left = ⊎_elim (λ gone. inr (inl (rose Ckpt1 gone.0))) (λ one. ⊎_elim (λ gone. inr (inr (rose Ckpt2 gone.0))) (λ two. inl (inr (one.0, two.0))) (only Ckpt2 tt)) (only Ckpt1 tt);
    }

    lose_some : IsMute plants (Some dev) p q
    lose_some = record {
      frame = lost_whole ∙ ap (λ (b : Book). record p { plant = q.plant; book = b; first_alive = q.first_alive; second_alive = q.second_alive; first_found = q.first_found; second_found = q.second_found }) (sym same_book_lost);
      later = subst (λ (b : Book). Since p.book b) (sym same_book_lost) (none_since p.book);
      holder = ap (λ (b : Book). b.holder) same_book_lost;
      plant = record {
        goes = proceeds_of (plants.view x.plant) (plants.view y.plant) lost.goes;
        stops = lost.stops;
        loses = λ d. lost_count dev d (plants.view x.plant) (plants.view y.plant) lost;
        stays = λ d gone. lost.goes.lost (Disk d) gone;
        stay = record { lost = λ n other. lost.else_lost (Disk (Spool n)) (other_disk dev (Spool n) other); faults = λ n other. lost.faults (Disk (Spool n)) };
        console = λ t. (els t).console (plants.view y.plant).now lost.goes.later (le_refl (plants.view y.plant).now);
        papers = λ t. (els t).papers;
        wires = λ t. (els t).wires;
        bytes = bytes;
        volumes = λ t none. kept_elsewhere dev (plants.view x.plant) (plants.view y.plant) (λ n same. none n (ap (λ (d : Dev). Some d) (sym same))) (els t);
      };
      alive1 = alive_then Ckpt1 tt;
      alive2 = alive_then Ckpt2 tt;
      kept = lost_copies;
    }

    leaves_dev : (a : Admission) (e : Dev) → AskLeaves a (Lose e) → (n : ℕ) → Some e ≡ Some (Spool n) → ⊥
    leaves_dev a q1 leaves n same = grind arith

    pub lose_mute : IsMuteLine x y ms at (line_by by (Lose dev))
    lose_mute = mute_line x y ms at few is (Some dev) lose_some (line_by by (Lose dev)) refl (λ told S shown. record {
      armed = S.armed;
      arming = false;
      account = ap (λ (b : Book). account_mute S at (line_by by (Lose dev)) (Some dev) false (played_mute S (Some dev) b S.armed)) (sym (same_book_lost ∙ shown.book));
      arms = lost.arms;
      leaves = leaves_dev (admitted S.queue.config S.book by (Lose dev)) dev;
    })

-- A line of a member, once the operator said that its member was stopped, if it was.
use Rattle.mas_run.proofs.Names.{of_if, Known, kept_then, IsWhy, ◌≡◌, ℕ, ◌+◌, ◌≤◌, true, List, Result, Ok, Err, OnOk, sym, ◌∙◌, ap, subst, false, if◌then◌else◌, length, Option, refl, ◌≢◌, ◌++◌, arith, inr, zero, suc, [], ◌∷◌, map, Some, ⊎_elim, inl, ◌-◌, ◌*◌, ◌<◌, set, slice_get, MemberId, steps_most, wires_most, Book, is_stopped, PlantGhosts, Ghosts as CopyGhosts, SteadyGhosts, Complex, Parts, parts_of, unreserved_in, Member, NodeNo, SaysStopped, ActsOnce, failed, Ask, Scene, count_then, CopiesKept, LeavesCopies, LeftAt, linesleft_left_at as left_at, HasLeft, LeavesAt, seen_of, LineIsLeft, HasPlayedLine, is_of_member, line_by, BetweenLines, IsBetween, IsShown, IsFlight, LineDone, LineIsPlayed, Queue, same_member, is_member, Step, Admission, admitted, asked, Plays, Resets, TakesOver, Given, ArePiecesOf, Cut, Ends, Sight, LineAt, admitted_at, pieces_at, Batch, View, ViewLine as Line, taken_now, Rose, counts_of, Renewals, journal_of, fate_found, Piece, piece_at, pieces_from, unless_told, IfRuns, RenewsAs, Carries, task_place, run, Console, rose_later, console_now, holder_then, all_entries, Holder, State, Line as Node, Said, CutsAs, IsPassed, IsUnsaid, named_as, Proceeds, IsShapedAs, proceeds_of, proceeds_on, kept_on, nat_tests, same_member_is, journal_unreserved, ReaderStaysFrom, MayBeAsked, OnConsole, Fresh, Task, AreReaders, HasRead, Cause, HasCause, IsHaltBy, Stops, append_assoc, stopped_lines, stopped_said, no, scene_as, copies_at, IsNextBy, here_at, there_at, Account, AreUpSince, ◌⊎◌, stay_both, Halted, ConsoleFault, NoMemory, paper_now, VolumesStay, IfOfMember, SamePapers, IsHonestAs, PrintsNone, printed_at, LeavesVolumes, AreVolumesKept, OnlyStops}
use Rattle.mas_run.proofs.AfterLemmas.{cut_some, scene_at}
use Rattle.mas_run.proofs.CopiesLemmas.{said_copies, leaves_same, leaves_then}
use Rattle.mas_run.proofs.MuteLineLemmas.{stopped_next}
use Rattle.mas_run.proofs.LeftLemmas.{account_as, of_member, passed_here, act_after, loses_on, papers_on, shaped_as_later, finds_later, if_member, lines_left, printed_here, took, console_stays, stays_any, given_by, if_ok, if_runs}
use Rattle.mas_run.proofs.PassedLemmas.{renews_later, renews_caused, batched_within}
use Rattle.mas_run.proofs.WireLemmas.{carries_later, readers_served, readers_still, set_still, ReadsLine, carries_still}
use Rattle.mas_run.proofs.JournalLemmas.{flight_next, history_own, queue_then, flown_is}
use Rattle.mas_run.proofs.ArmLemmas.{InArm}

-- THE SCENE that a line of a member leaves

module _ {P C : Type 0} (plants : PlantGhosts P) (copies : CopyGhosts C) (told : Type 0) (l : LineAt) (x y : Parts P C) {result : Result (Unit {0}) NodeNo} {ms ns : List Member} {at to : ℕ}
    (was : IsBetween plants copies x ms at) (now : IsBetween plants copies y ns to) (base : y.base ≡ x.base) (shown : IsShown plants copies told l.scene x) (left : HasLeft plants copies told l x y result)
    (book : y.book ≡ (left_at l).book) (since : AreUpSince x.book y.book)
    (counted : told → is_stopped l.scene.book l.step.by ≡ false → is_stopped y.book l.step.by ≡ false → counts_of y.printed l.step.by ≡ (left_at l).count) where
  count_now : told → (m : MemberId) → is_stopped y.book m ≡ false → counts_of y.printed m ≡ ((account_as l).played.next).counts m
  count_now t m up =
      let was : is_stopped l.scene.book m ≡ false = subst (λ (b : Book). is_stopped b m ≡ false) shown.book (since m up) in
      of_if (λ (n : ℕ). counts_of y.printed m ≡ n) (same_member m l.step.by) (left_at l).count (l.scene.counts m)
      (λ is.
      let same : m ≡ l.step.by = same_member_is m l.step.by is in
      let up_by : (b : Book) → is_stopped b m ≡ false → is_stopped b l.step.by ≡ false = λ b. subst (λ (k : MemberId). is_stopped b k ≡ false) same in
      ap (λ (k : MemberId). counts_of y.printed k) same ∙ counted t (up_by l.scene.book was) (up_by y.book up))
      (λ is. left.other_counts t m (λ same. no (same_member m l.step.by) (let number = ap (λ (k : MemberId). k.0) same in grind (arith, nat_tests, number)) is) ∙ shown.counts t m was)

  pub shown_next : IsShown plants copies told ((account_as l).played.next) y
  shown_next =
      let own = history_own l.step.by (plants.view x.plant).now (plants.view y.plant).now (left_at l).batches left.own left.batches in
      let found = fate_found (admitted_at l) l.given.sight in
      record {
        queue = queue_then plants copies x y was now base shown found left.at (left_at l).batches left.own own left.journal;
        book = book;
        flight = subst (λ (b : Book). IsFlight b ((account_as l).played.next).flight y.current) book (flight_next plants copies x y was now base shown found left.at (left_at l).batches left.own own left.journal);
        counts = subst (λ (b : Book). told → (m : MemberId) → is_stopped b m ≡ false → counts_of y.printed m ≡ ((account_as l).played.next).counts m) book count_now;
      }

-- THE LINE, cut there for another cause: where it was cut tells nothing of what it found

pieces_same : (n : ℕ) (s : Sight) (c : Option Cut) (count : ℕ) (Q : Queue) (h : Holder) (st : State)
    → pieces_from n (record s { cut = c }) count Q h st ≡ pieces_from n s count Q h st
pieces_same zero s c count Q h st = refl
pieces_same (suc more) s c count Q h st =
    let p = piece_at s count Q h st in
    let es = all_entries p.sitting.batches in
    ap (λ (ps : List Piece). p ∷ unless_told p.sitting.next ps)
    (pieces_same more s c (count_then h.by es count + length p.printed) (run Q es) (holder_then Q h es) p.sitting.next)

right_same : (S : Scene) (by : MemberId) (at : ℕ) (s : Sight) (ps : List Piece) (c d : Option Cut) (a : Admission) → ArePiecesOf S by at a (record { sight = record s { cut = c }; pieces = ps }) → ArePiecesOf S by at a (record { sight = record s { cut = d }; pieces = ps })
right_same S by at s ps c d (Plays task) is = is ∙ pieces_same _ s c (S.counts by) S.queue _ _ ∙ sym (pieces_same _ s d (S.counts by) S.queue _ _)
right_same S by at s ps c d _ is = is

-- what a member's halt is said to be: its stop, or the end of the run
abbrev cause_said : Result (Unit {0}) NodeNo → Cause
cause_said (Ok done) = Stops
cause_said (Err e) = Ends

module _ (S : Scene) (at : ℕ) (step : Step) (s : Sight) (ps : List Piece) (cut : Cut) where
  abbrev caused : Cause → LineAt
  caused why = record { scene = S; number = at; step = step; given = record { sight = record s { cut = Some (record cut { cause = why }) }; pieces = ps } }

  shaped_same : (why other : Cause) (old new : View) (a : Admission) → IsShapedAs (caused why) old new a → IsShapedAs (caused other) old new a
  shaped_same why other old new (Plays task) is = is
  shaped_same why other old new (Resets of) is = is
  shaped_same why other old new (TakesOver of) is = is
  shaped_same why other old new a is = right_same S step.by at s ps (Some (record cut { cause = why })) (Some (record cut { cause = other })) a is

  carries_same : (why other : Cause) (since : ℕ) (old new : View) (a : Admission) (given : List ℕ) → Carries since (caused why) a given old new → Carries since (caused other) a given old new
  carries_same why other since old new (Plays (Node line)) given c = record { gives = c.gives; hears = c.hears }
  carries_same why other since old new _ given c = c

-- why it was cut, once the operator said that its member was stopped, or the run ended as it couldn't
halted_so : (r : Result (Unit {0}) NodeNo) (by : MemberId) (at : ℕ) (cut : Cut) (old mid new : View) → IsHaltBy Halted cut.halt → Rose (old.stops by.0) (new.stops by.0) → mid.halt ≡ mid.now → ActsOnce r mid new
    → CutsAs r by (Some (record cut { cause = cause_said r })) old new × IsWhy r by old new Halted × (stopped_said r by at ≡ map (λ (s : Said). s.line) (stopped_lines by at (Some (cause_said r))))
halted_so (Ok done) by at cut old mid new halt rose last acted = ((refl, halt, rose, act_after mid new last acted), refl, refl)
halted_so (Err e) by at cut old mid new halt rose last acted = ((refl, inr (record { why = halt; stopped = rose; unsaid = unsaid e acted })), inr (refl, rose), refl) where
  unsaid : (k : NodeNo) → ActsOnce {T = Unit {0}} (Err k) mid new → IsUnsaid k new
  unsaid ConsoleFault once = act_after mid new last once
  unsaid NoMemory once = subst (λ (v : View). v.now ≡ v.halt) (sym once) (sym last)
  unsaid _ once = absurd once

module _ {P C : Type 0} {plants : PlantGhosts P} {steadies : SteadyGhosts C} {copies : CopyGhosts C} (told : Type 0) (tells : told → plants.tells) (S : Scene) (at : ℕ) (step : Step)
    (member : is_of_member step.what ≡ true) (s : Sight) (ps : List Piece) (cut : Cut) (x : Parts P C) (y z : Complex P C plants steadies copies) (r : Result (Unit {0}) NodeNo)
    (left : HasLeft plants copies told (caused S at step s ps cut Stops) x (parts_of y) (Err Halted)) (says : SaysStopped step.by at y z r) where
  abbrev l : LineAt
  l = caused S at step s ps cut Stops

  abbrev n : LineAt
  n = caused S at step s ps cut (cause_said r)

  passed_said : IsPassed told (account_as n) left.own (plants.view x.plant) (plants.view z.plant) r
  passed_said =
      let old = plants.view x.plant in
      let mid = plants.view y.plant in
      let new = plants.view z.plant in
      let acts = says.acts in
      let after : Proceeds mid new = proceeds_of mid new acts.goes in
      let stops : (m : ℕ) → new.stops m ≡ mid.stops m = λ m. says.spares.stops m (inr refl) in
      let rose : Rose (old.stops step.by.0) (new.stops step.by.0) = subst (λ (k : ℕ). Rose (old.stops step.by.0) k) (sym (stops step.by.0)) (left.acts.stopped refl) in
      let so = halted_so r step.by at cut old mid new left.cut.halt rose (left.acts.spares.at_halt refl) says.acted in
      let given = given_by told n member old new (⊎_elim inl (λ shape. inr (shaped_same S at step s ps cut Stops (cause_said r) old new (admitted_at l) (shaped_as_later old mid new acts.goes l (admitted_at l) shape))) left.shaped)
      (λ t. right_same S step.by at s ps _ _ (admitted_at l) (left.right t)) in
      let honest : told → IfOfMember step.what (IsHonestAs n (admitted_at n) n.given.sight.cut old new) = λ t. if_member step.what _ (finds_later old mid new acts.goes S.queue.config.groups step.by l.given.sight.finds _ (left.honest t)) in
      let stay : told → VolumesStay (account_as n).named old new = λ t. let but = named_as l (admitted_at l) l.given.sight.cut in stay_both but old mid new (left.stay t) (stays_any but mid new (console_stays mid new acts)) in
      let spares : OnlyStops step.by old new = λ k other. stops k ∙ left.acts.spares.stops k (inl other) in
      let failed : r ≡ Err ConsoleFault → Rose (old.faults Console) (new.faults Console) = λ is. rose_later (old.faults Console) (mid.faults Console) (new.faults Console) (left.acts.goes.faults Console) (subst (λ (k : Result (Unit {0}) NodeNo). HasCause k 0 mid new) is says.cause) in
      let console : told → console_now new ≡ console_now old ++ map (λ (k : Said). k.line) (account_as n).played.outcome.said = λ t. says.console (tells t) ∙ ap (λ (ls : List Line). ls ++ stopped_said r step.by at) (left.console t)
      ∙ append_assoc (console_now old) (left_at l).lines (stopped_said r step.by at) ∙ ap (λ (ls : List Line). console_now old ++ ls) (ap (λ (ls : List Line). (left_at l).lines ++ ls) so.2 ∙ sym (lines_left n)) in
      let paper : told → (k : ℕ) → paper_now new k ≡ paper_now old k ++ printed_at (account_as n) k = λ t k. acts.papers (tells t) new.now acts.goes.later (omega arith) k ∙ printed_here plants copies told l x (parts_of y) left t k in
      let dry : told → PrintsNone (admitted_at n) → SamePapers old new = λ t none. papers_on old mid new left.acts.goes.later after (left.dry t none) (acts.papers (tells t)) in
      let arms : (k : ℕ) → new.arms k ≡ old.arms k = λ k. acts.goes.arms k ∙ left.acts.arms k in
      let volumes : told → LeavesVolumes n → AreVolumesKept old new = λ t leaves. kept_then new.now old mid new left.acts.goes.later after (left.volumes t ((of_member n member).leaves leaves)) (kept_on mid new (acts.others (tells t))) in
      let batches = batched_within step.by old.now old.now mid.now new.now (left_at l).batches left.own (omega arith) acts.goes.later left.batches in
      search (proceeds_on old mid new left.acts.goes after, acts.goes.lost, left.acts.stays, given, honest, stay, so, left.cut.there, left.tight, left.broke, spares, failed, batches, console, paper, dry, arms, volumes)

-- AT A SCENE that a value shows

module _ {P C : Type 0} {plants : PlantGhosts P} {steadies : SteadyGhosts C} {copies : CopyGhosts C} (told : Type 0) (at : ℕ) (step : Step) (x y : Complex P C plants steadies copies) (r : Result (Unit {0}) NodeNo) where
  at_shown : LineIsLeft told at step x y r → (S : Scene) → IsShown plants copies told S (parts_of x) → LeftAt plants copies told S at step (parts_of x) (parts_of y) r
  at_shown line S shown =
      let p : Parts P C = parts_of x in
      let scene_is : scene_as p S.counts S.armed ≡ S = rw (shown.queue, shown.book, flown_is S.book S.flight p.current shown.flight) refl in
      subst (λ (T : Scene). LeftAt plants copies told T at step p (parts_of y) r) scene_is
      (line S.counts S.armed (λ t m up. shown.counts t m (subst (λ (b : Book). is_stopped b m ≡ false) shown.book up)))

-- BETWEEN TWO LINES

module _ {P C : Type 0} {plants : PlantGhosts P} {steadies : SteadyGhosts C} {copies : CopyGhosts C} (x y : Complex P C plants steadies copies) (ms ns : List Member)
    (at : ℕ) (by : MemberId) (what : Ask) (member : is_of_member what ≡ true) (is : BetweenLines x ms at) where
  abbrev p : Parts P C
  p = parts_of x

  abbrev line : Scene → Given → LineAt
  line S g = record { scene = S; number = at; step = line_by by what; given = g }

  abbrev IsPlayedAt : Type 0 → Scene → Parts P C → Result (Unit {0}) NodeNo → Type 0
  IsPlayedAt told S z r = HasPlayedLine plants copies told S at (line_by by what) p z r

  -- in the words of a run, whose account of it is that by its admission
  counted_as : (told : Type 0) (S : Scene) (z : Parts P C) (r : Result (Unit {0}) NodeNo) (g : Given) → IsNextBy told (here_at plants copies at S p) (account_as (line S g)) (there_at plants copies z r)
      → OnOk r (IsShown plants copies told (account_as (line S g)).played.next z) → IsPlayedAt told S z r
  counted_as told S z r g next shows =
      let same = sym (of_member (line S g) member).account in
      record {
        given = g;
        next = subst (λ (a : Account). IsNextBy told (here_at plants copies at S p) a (there_at plants copies z r)) same next;
        shows = subst (λ (a : Account). OnOk r (IsShown plants copies told a.played.next z)) same shows;
      }

  -- IT WASN'T HALTED

  pub played_line : (r : Result (Unit {0}) NodeNo) → (r ≡ failed Halted → ⊥) → LineDone x y ns at by what r → LineIsPlayed x y ns at (line_by by what) r
  played_line r other done = record {
    base = done.base;
    since = done.since;
    line = λ all tells S shown. played_as (Known all) S shown (at_shown (Known all) at (line_by by what) x y r (done.line all tells) S shown);
    kept = done.copies_kept;
    next = done.next;
  } where
    played_as : (told : Type 0) (S : Scene) → IsShown plants copies told S p → LeftAt plants copies told S at (line_by by what) p (parts_of y) r → IsPlayedAt told S (parts_of y) r
    played_as told S shown a =
        let l = line S a.given in
        let left = a.left in
        counted_as told S (parts_of y) r a.given (search (passed_here plants copies told l p (parts_of y) r other member left, left.loses, left.wires, a.renews, left)) (shows r done.next (λ e. (done.up e).0) a) where
          shows : (k : Result (Unit {0}) NodeNo) → OnOk k (BetweenLines y ns (at + 1)) → ((k ≡ Ok tt) ⊎ (k ≡ failed Halted) → AreUpSince x.book y.book) → (b : LeftAt plants copies told S at (line_by by what) p (parts_of y) k)
              → OnOk k (IsShown plants copies told (account_as (line S b.given)).played.next (parts_of y))
          shows (Err e) now since b = tt
          shows (Ok went_on) now since b = shown_next plants copies told (line S b.given) p (parts_of y) is now done.base shown b.left b.left.book (since (inl refl)) (λ t was up. b.left.count t was)

  -- IT WAS HALTED: what is reserved is given up, and the operator says that it was stopped

  module _ (done : LineDone x y ns at by what (failed Halted)) (mid z : Complex P C plants steadies copies) (frame : parts_of mid ≡ unreserved_in (parts_of y))
      (r : Result (Unit {0}) NodeNo) (frame_z : parts_of z ≡ record (parts_of mid) { plant = z.plant }) (says : SaysStopped by at mid z r) where
    between_mid : IsBetween plants copies (parts_of mid) ns (at + 1)
    between_mid = subst (λ (w : Parts P C). IsBetween plants copies w ns (at + 1)) (sym frame) (done.halted refl)

    base_mid : mid.base ≡ x.base
    base_mid = ap (λ (w : Parts P C). w.base) frame ∙ done.base

    -- it was cut so, by which its member was stopped
    said_as : (told : Type 0) (tells : told → plants.tells) (S : Scene) → IsShown plants copies told S p → (s : Sight) (ps : List Piece) (cut : Cut)
        → HasLeft plants copies told (caused S at (line_by by what) s ps cut Stops) p (parts_of mid) (failed Halted)
        × RenewsAs (admitted S.queue.config S.book by what) (Some (record cut { cause = Stops })) s.renewed (copies_at plants p) (copies_at plants (parts_of mid)) → IsPlayedAt told S (parts_of z) r
    said_as told tells S shown s ps cut b =
        let left = b.0 in
        let v = plants.view p.plant in
        let w = plants.view mid.plant in
        let l = caused S at (line_by by what) s ps cut Stops in
        let n = caused S at (line_by by what) s ps cut (cause_said r) in
        let later : w.now ≤ (plants.view z.plant).now = says.acts.goes.later in
        let up = subst (λ (w : Parts P C). AreUpSince x.book w.book × (is_stopped w.book by ≡ false → failed Halted ≡ Ok tt)) (sym frame) (done.up (inr refl)) in
        let here : IsShown plants copies told (account_as l).played.next (parts_of mid) =
        shown_next plants copies told l p (parts_of mid) is between_mid base_mid shown left left.book up.0 (λ t was now. absurd (let clash : failed Halted ≡ Ok tt = up.1 now in cc)) in
        counted_as told S (parts_of z) r n.given (record {
          own = left.own;
          passed = passed_said told tells S at (line_by by what) member s ps cut p mid z r left says;
          at = left.at;
          moment = (left.moment.0, let before = left.moment.1 in omega (arith, later, before));
          batches = ap journal_of frame_z ∙ left.journal;
          loses = λ t d. loses_on copies.reads v w (plants.view z.plant) says.acts.goes says.acts.loses (took l) d (left.loses t d);
          renews = subst (λ (rs : Renewals). RenewsAs (admitted_at n) n.given.sight.cut s.renewed (copies_at plants p) (record { renewals = rs; view = plants.view z.plant })) (sym (ap (λ (k : Parts P C). k.renewals) frame_z))
              (renews_later (admitted_at n) n.given.sight.cut s.renewed (copies_at plants p) (copies_at plants (parts_of mid)) (plants.view z.plant) later
              (renews_caused (admitted_at n) (record cut { cause = Stops }) (cause_said r) s.renewed (copies_at plants p) (copies_at plants (parts_of mid)) b.1));
          wires = λ t. carries_later x.since n (admitted_at n) (left_at n).given v w (plants.view z.plant) (says.acts.wires (tells t))
              (carries_same S at (line_by by what) s ps cut Stops (cause_said r) x.since v w (admitted_at n) (left_at n).given (left.wires t));
        }) (shows r here) where
          shows : (k : Result (Unit {0}) NodeNo) → IsShown plants copies told (account_as (caused S at (line_by by what) s ps cut Stops)).played.next (parts_of mid)
              → OnOk k (IsShown plants copies told (account_as (caused S at (line_by by what) s ps cut (cause_said k))).played.next (parts_of z))
          shows (Err e) here = tt
          shows (Ok went_on) here = subst (λ (w : Parts P C). IsShown plants copies told (account_as (caused S at (line_by by what) s ps cut Stops)).played.next w) (sym frame_z) (assumption here)

    stopped_as : (told : Type 0) (tells : told → plants.tells) (S : Scene) → IsShown plants copies told S p → LeftAt plants copies told S at (line_by by what) p (parts_of y) (failed Halted) → IsPlayedAt told S (parts_of z) r
    stopped_as told tells S shown at_left =
        let a : LeftAt plants copies told S at (line_by by what) p (parts_of mid) (failed Halted) = subst (λ (w : Parts P C). LeftAt plants copies told S at (line_by by what) p w (failed Halted)) (sym frame)
        (subst (λ (bs : List Batch). LeavesAt copies.reads told S at (line_by by what) (seen_of plants copies p) (record (seen_of plants copies (parts_of y)) { journal = bs }) (parts_of y).book (failed Halted)) (sym (journal_unreserved (parts_of y))) at_left) in
        let g = a.given in
        let cut = cut_some Halted (pieces_at (line S g)) g.sight.cut a.left.cut in
        said_as told tells S shown g.sight g.pieces cut.0
        (subst (λ (c : Option Cut). HasLeft plants copies told (line S (record g { sight = record g.sight { cut = c } })) p (parts_of mid) (failed Halted)
        × RenewsAs (admitted S.queue.config S.book by what) c g.sight.renewed (copies_at plants p) (copies_at plants (parts_of mid)))
        (cut.1 ∙ ap (λ (why : Cause). Some (record cut.0 { cause = why })) cut.2.cause) (a.left, a.renews))

    stopped_copies : CopiesKept x z r
    stopped_copies =
        leaves_then plants p (parts_of mid) (parts_of z) r (subst (λ (w : Parts P C). LeavesCopies plants {T = Unit {0}} p w (Ok tt)) (sym frame) done.copies_kept)
        (leaves_same plants (parts_of mid) (parts_of z) r
        (said_copies plants 0 (parts_of mid) (parts_of z) r says.acts (ap (λ (w : Parts P C). w.first_alive) frame_z) (ap (λ (w : Parts P C). w.second_alive) frame_z) says.cause)
        (ap (λ (w : Parts P C). w.renewals) frame_z) (λ is. sym (ap (λ (w : Parts P C). w.first_alive) frame_z) ∙ is) (λ is. sym (ap (λ (w : Parts P C). w.second_alive) frame_z) ∙ is))

    pub stopped_line : at ≤ steps_most → LineIsPlayed x z ns at (line_by by what) r
    stopped_line few = record {
      base = ap (λ (w : Parts P C). w.base) frame_z ∙ base_mid;
      since = ap (λ (w : Parts P C). w.since) frame_z ∙ ap (λ (w : Parts P C). w.since) frame ∙ done.since;
      line = λ all tells S shown. stopped_as (Known all) tells S shown (at_shown (Known all) at (line_by by what) x y (failed Halted) (done.line all tells) S shown);
      kept = stopped_copies;
      next = if_ok r _ (λ e. stopped_next by at mid z r frame_z says ns few between_mid);
    }

-- The readers of a run's members after a line of a script, from what it left.

-- the place is one of a reader
pub place_inside : (Q : Queue) (by : MemberId) (task : Task) (at members : ℕ) → MayBeAsked Q by task → at < members → task_place at task < wires_most * members
place_inside q0 by q2 at members asked less = grind arith

-- the reader of a task's line has read what its member took
pub reads_line : {P C : Type 0} (plants : PlantGhosts P) (x : Parts P C) (by : MemberId) (rs : List (Option (List ℕ))) → AreReaders plants x rs → is_member x.base.config by ≡ true → is_stopped x.book by ≡ false
    → (Q : Queue) (task : Task) → MayBeAsked Q by task → (was : Option (List ℕ)) → slice_get rs (task_place (by.0 - 1) task) ≡ Some was → plants.tells → ReadsLine plants x x by task was
reads_line plants x by rs read member up Q (Node line) asked was here tells =
    subst (λ (o : Option (Option (List ℕ))). HasRead (((plants.view x.plant).world x.since).taken line by.0) (taken_now (plants.view x.plant) line by.0) o) here (read.each tells by line member asked up)
reads_line plants x by rs read member up Q _ asked was here tells = tt

module _ {P C : Type 0} {plants : PlantGhosts P} {steadies : SteadyGhosts C} {copies : CopyGhosts C} {x mid : Complex P C plants steadies copies} {ms : List Member} {at : ℕ} {by : MemberId} {what : Ask} {a : Admission}
    (w : InArm x mid ms at by what a) {y : Complex P C plants steadies copies} {ns : List Member} {r : Result (Unit {0}) NodeNo} (done : LineDone x y ns at by what r)
    (rs : List (Option (List ℕ))) (read : AreReaders plants (parts_of x) rs) where
  abbrev xp : Parts P C
  xp = parts_of x

  abbrev yq : Parts P C
  yq = parts_of y

  left : plants.tells → LeftAt plants copies (Unit {0}) (scene_at xp) at (line_by by what) xp yq r
  left t = done.line true (λ o. t) (counts_of xp.printed) [] (λ o m up. refl)

  abbrev its_line : Given → LineAt
  its_line g = record { scene = scene_at xp; number = at; step = line_by by what; given = g }

  past : plants.tells → (plants.view yq.plant).world x.since ≡ (plants.view xp.plant).world x.since
  past t = (left t).left.acts.goes.past x.since w.is.begun

  wires : (t : plants.tells) → Carries x.since (its_line (left t).given) a (left_at (its_line (left t).given)).given (plants.view xp.plant) (plants.view yq.plant)
  wires t =
      let l = its_line (left t).given in
      subst (λ (b : Admission). Carries x.since l b (left_at l).given (plants.view xp.plant) (plants.view yq.plant)) w.adm ((left t).left.wires tt)

  -- A LINE THAT SERVES NONE

  still_read : ((n : ℕ) → a ≢ Plays (Node n)) → AreUpSince x.book y.book → AreReaders plants yq rs
  still_read other since =
      readers_still plants xp yq done.base done.since w.is.booked rs read past (λ t. since)
      (λ t. carries_still x.since (its_line (left t).given) a (left_at (its_line (left t).given)).given (plants.view xp.plant) (plants.view yq.plant) other (wires t))

  pub still_done : ((n : ℕ) → a ≢ Plays (Node n)) → IfRuns r (AreReaders plants yq rs)
  still_done other = if_runs r _ (λ e. still_read other (done.up e).0)

  -- A TASK

  pub heard_task : (task : Task) → a ≡ Plays task → is_member x.base.config by ≡ true → MayBeAsked x.base by task → (was now : Option (List ℕ)) → slice_get rs (task_place (by.0 - 1) task) ≡ Some was → ReaderStaysFrom (Fresh task) was now
      → (plants.tells → r ≡ Ok tt → ReadsLine plants xp yq by task now) → IfRuns r (AreReaders plants yq (set rs (task_place (by.0 - 1) task) now))
  heard_task (Node n) is its on was now here stays heard =
      if_runs r _ (λ e. readers_served plants xp yq done.base done.since w.is.booked rs read past (λ t. (done.up e).0) by n on its now
      (λ t. (subst (λ (b : Admission). Carries x.since (its_line (left t).given) b (left_at (its_line (left t).given)).given (plants.view xp.plant) (plants.view yq.plant)) is (wires t)).gives.else_taken)
      (λ t up. heard t ((done.up e).1 up)))
  heard_task another is its on was now here stays heard =
      if_runs r _ (λ e. subst (λ (k : List (Option (List ℕ))). AreReaders plants yq k) (sym (set_still rs _ was now here stays)) (still_read (λ n same. absurd (let clash = sym is ∙ same in cc)) (done.up e).0))

-- THE OPERATOR SAID that a member was stopped
module _ {P C : Type 0} (plants : PlantGhosts P) (x y z : Parts P C) (mid : x ≡ unreserved_in y) (frame : z ≡ record x { plant = z.plant })
    (acts : OnConsole plants.tells (plants.view x.plant) (plants.view z.plant)) (begun : x.since ≤ (plants.view x.plant).now) (booked : length y.book.members ≡ y.base.config.members)
    (rs : List (Option (List ℕ))) (read : AreReaders plants y rs) where
  pub readers_said : AreReaders plants z rs
  readers_said =
      let booked_x : length x.book.members ≡ x.base.config.members = subst (λ (w : Parts P C). length w.book.members ≡ w.base.config.members) (sym mid) booked in
      let same_x : AreReaders plants x rs = subst (λ (w : Parts P C). AreReaders plants w rs) (sym mid) (assumption read) in
      readers_still plants x z (ap (λ (w : Parts P C). w.base) frame) (ap (λ (w : Parts P C). w.since) frame) booked_x rs same_x (λ t. acts.goes.past x.since begun)
      (λ t m up. subst (λ (b : Book). is_stopped b m ≡ false) (ap (λ (w : Parts P C). w.book) frame) up) acts.wires

-- A line of a member at a scene that the value shows: what is known once it was tested, and what its member may do.
use Rattle.mas_run.proofs.Names.{Admission, All, All-weaker, AreEarlier, AreKeptFrom, AreUpSince, Armed, Ask, Batch, BetweenLines, Book, Bool, ByLock, Complex, Config, CopiesKept, Counts, Entry, Err, ForStep, Fresh, Ghosts as CopyGhosts, Given, Grant, HasGot, HasLeftAs, HasStepKept, Holder, HoldsLock, IsAtGate, IsKeptBy, IsMember, IsMemberAt, IsMemberUp, IsOfEarlier, IsPlayed, IsQuiet, IsSeat, IsSeatedBy, IsTested, IsUp, LeftAt, LeftBetween, LineDone, LineIsLeft, List, MayGoOn, MayHold, MayTakeSeat, Member, MemberId, NodeNo, None, Ok, OnOk, Option, Parts, PlantGhosts, RenewsAs, Result, Scene, Some, SteadyGhosts, Task, Work, [], admission_of, admitted, after_try, and_none, ap, append-nil, arith, by_test, copies_at, counted, counts_of, earlier_kept, false, flown_of, granted_by, holder_is, holder_keeps, if◌then◌else◌, in_flight, inl, inr, inside_of, inside_since, is_holder, is_left_held, is_locked, is_member, is_of_member, is_somebody, is_stopped, left_of, left_of as hold_left, length, level_most, levels_for, levels_most, line_by, members_most, no, noted, page_count, parts_of, played, queue_of, refl, scene_as, seated, set, slice_get, slice_set, steps_most, subst, sym, tested_as, tried, tried_since, true, try_refusal, ℕ, ⊎_elim, ◌&&◌, ◌++◌, ◌+◌, ◌-◌, ◌<◌, ◌∙◌, ◌≡◌, ◌≤◌, ◌⊎◌, SitsAreFewUnits, Known, Since, none_since, admitted_since, TakesOver, Halted}
use Rattle.member_lines.specs.declared.admissions.Admission.{Admission as Admitted}
use Rattle.member_resets.proofs.BookLemmas.{got_free, same_calls}
use Rattle.member_resets.proofs.Entering.{gate_with, quiet_with}
use Rattle.mas_run.proofs.KnownLemmas.{IsKnown, known}
use Rattle.mas_run.proofs.LeftLemmas.{if_ok}
use Rattle.mas_run.proofs.AfterLemmas.{IsAfter, IsTold, after_halted, after_ok, knows, same_config}

-- a line was tested at it that was tested on the value
pub tested_here : {P C : Type 0} (x : Parts P C) (counts : Counts) (armed : List Armed) (by : MemberId) (a : Admission) (b : Book) → tried x.book by a ≡ b → (is_locked a ≡ true → x.current ≡ None) → IsTested (scene_as x counts armed) by a b
tested_here x counts armed by a b is none = record { book = is; flight = λ locked. ap flown_of (none locked) }

-- a line of its admission is a line
pub left_so : {P C : Type 0} (plants : PlantGhosts P) (copies : CopyGhosts C) (told : Type 0) (S : Scene) (at : ℕ) (by : MemberId) (what : Ask) (a : Admission) (g : Given) (x y : Parts P C)
    (r : Result (Unit {0}) NodeNo) → admitted S.queue.config S.book by what ≡ a → RenewsAs a g.sight.cut g.sight.renewed (copies_at plants x) (copies_at plants y)
    → HasLeftAs plants copies told (record { scene = S; number = at; step = line_by by what; given = g }) a x y r → LeftAt plants copies told S at (line_by by what) x y r
left_so plants copies told S at by what a g x y r adm renews left = record {
  given = g;
  left = subst (λ (b : Admission). HasLeftAs plants copies told (record { scene = S; number = at; step = line_by by what; given = g }) b x y r) (sym adm) left;
  renews = subst (λ (b : Admission). RenewsAs b g.sight.cut g.sight.renewed (copies_at plants x) (copies_at plants y)) (sym adm) renews;
}

-- the member at a place of the list is now another
pub done_at : {P C : Type 0} {plants : PlantGhosts P} {steadies : SteadyGhosts C} {copies : CopyGhosts C} (x y : Complex P C plants steadies copies) (ms : List Member) (n : Member)
    (at : ℕ) (by : MemberId) (what : Ask) (r : Result (Unit {0}) NodeNo) (i : ℕ) → i ≡ by.0 - 1 → LineDone x y (set ms (by.0 - 1) n) at by what r → LineDone x y (slice_set ms i n) at by what r
done_at x y ms n at by what r i is done = subst (λ (k : ℕ). LineDone x y (set ms k n) at by what r) (sym is) done

-- WHAT A LINE DID at a scene, with where the value then stands; and so the line, by what it did at each scene

pub record DoneAt {P C : Type 0} {plants : PlantGhosts P} {steadies : SteadyGhosts C} {copies : CopyGhosts C} (x y : Complex P C plants steadies copies) (ns : List Member) (at : ℕ) (by : MemberId) (what : Ask)
    (told : Type 0) (S : Scene) (r : Result (Unit {0}) NodeNo) : Type 0 where
  pub left : (told → is_stopped S.book by ≡ false → counts_of x.printed by ≡ S.counts by) → LeftAt plants copies told S at (line_by by what) (parts_of x) (parts_of y) r
  pub kept : CopiesKept x y r
  pub next : IsAfter plants copies (parts_of x) (parts_of y) at → r ≡ Ok tt → BetweenLines y ns (at + 1)
  pub halted : IsAfter plants copies (parts_of x) (parts_of y) at → is_stopped y.book by ≡ true → r ≡ Err Halted → LeftBetween y ns (at + 1)

module _ {P C : Type 0} {plants : PlantGhosts P} {steadies : SteadyGhosts C} {copies : CopyGhosts C} (x y : Complex P C plants steadies copies) (ns : List Member) (at : ℕ) (by : MemberId) (what : Ask)
    (r : Result (Unit {0}) NodeNo) (base : y.base ≡ x.base) (since : y.since ≡ x.since) where
  pub done_of : ((told : Type 0) → IsTold plants told → LineIsLeft told at (line_by by what) x y r) → CopiesKept x y r → OnOk r (BetweenLines y ns (at + 1)) → (r ≡ Err Halted → LeftBetween y ns (at + 1))
      → ((r ≡ Ok tt) ⊎ (r ≡ Err Halted) → AreUpSince x.book y.book × (is_stopped y.book by ≡ false → r ≡ Ok tt)) → LineDone x y ns at by what r
  done_of left kept next halted up =
      record { base = base; since = since; line = λ all tells. left (Known all) (knows plants all tells); copies_kept = kept; next = next; halted = halted; up = up }

  -- by what is known after it
  module _ {ms : List Member} (few : at ≤ steps_most) (is : BetweenLines x ms at) where
    pub done_on : ((told : Type 0) → IsTold plants told → LineIsLeft told at (line_by by what) x y r) → CopiesKept x y r → (IsAfter plants copies (parts_of x) (parts_of y) at → r ≡ Ok tt → BetweenLines y ns (at + 1))
        → (IsAfter plants copies (parts_of x) (parts_of y) at → is_stopped y.book by ≡ true → r ≡ Err Halted → LeftBetween y ns (at + 1)) → (r ≡ Err Halted → IsMember x.book by) → LineDone x y ns at by what r
    done_on left kept next halted seated =
        let ok = after_ok x y base since few is by what r left in
        let down = λ (e : r ≡ Err Halted). after_halted x y base since few is by what r left e (seated e) in
        done_of left kept (if_ok r _ (λ e. next (ok e) e)) (λ e. halted (down e).0 (down e).1 e)
        (⊎_elim (λ e. ((ok e).since.up, λ up. e)) (λ e. ((down e).0.since.up, λ up. absurd (no true refl (sym (down e).1 ∙ up)))))

    pub done_so : ((told : Type 0) → IsTold plants told → (counts : Counts) (armed : List Armed) → DoneAt x y ns at by what told (scene_as (parts_of x) counts armed) r) → (r ≡ Err Halted → IsMember x.book by)
        → LineDone x y ns at by what r
    done_so did seated =
        let here = did ⊥ (inl (λ t. t)) (counts_of x.printed) [] in
        done_on (λ told knows counts armed counted. (did told knows counts armed).left (λ o up. counted o by up)) here.kept here.next here.halted seated

-- What is known of a line of a member that was tested, and of its member where that is up or got the lock.

module _ {P C : Type 0} {plants : PlantGhosts P} {steadies : SteadyGhosts C} {copies : CopyGhosts C} (x mid : Complex P C plants steadies copies) (ms : List Member)
    (at : ℕ) (by : MemberId) (what : Ask) where
  -- THE ADMISSION of a line, from a value between two lines to the one that its test left

  pub record InArm (a : Admission) : Type 0 where
    pub few : at ≤ steps_most
    pub below : x.level < level_most
    pub is : BetweenLines x ms at
    pub adm : admitted (queue_of (parts_of x)).config x.book by what ≡ a
    pub known_so : IsKnown x.base is.config x.book by a
    pub frame : parts_of mid ≡ record (parts_of x) { book = tested_as x.book by a }

  pub in_arm : at ≤ steps_most → x.level < level_most → (is : BetweenLines x ms at) → is_of_member what ≡ true → IsPlayed (line_by by what)
      → (said : Admitted) (a : Admission) → admission_of said ≡ a → admission_of said ≡ admitted x.base.config x.book by what
      → parts_of mid ≡ record (parts_of x) { book = tested_as x.book by (admission_of said) } → InArm a
  in_arm few below is member played said a so adm frame = record {
    few = few;
    below = below;
    is = is;
    adm = ap (λ (c : Config). admitted c x.book by what) (same_config (parts_of x)) ∙ sym adm ∙ so;
    known_so = subst (λ (b : Admission). IsKnown x.base is.config x.book by b) (sym adm ∙ so) (known x.base is.config x.book by what member played);
    frame = frame ∙ ap (λ (b : Admission). record (parts_of x) { book = tested_as x.book by b }) so;
  }

  -- ITS MEMBER, which is up, and got the lock by a try

  pub record HasTurn (a : Admission) (m : Member) : Type 0 where
    pub arm : InArm a
    pub frame : parts_of mid ≡ record (parts_of x) { book = after_try x.book by false }
    pub inside : IsMember x.book by
    pub got : HasGot x.base.config x.book by
    pub own : m.id ≡ by
    pub up : IsMemberUp plants copies (parts_of x) m

-- a member at its place of the list
pub record InPlace {P C : Type 0} {plants : PlantGhosts P} {steadies : SteadyGhosts C} {copies : CopyGhosts C} (x : Complex P C plants steadies copies) (by : MemberId) (i : ℕ) (m : Member) : Type 0 where
  pub inside : IsMember x.book by
  pub own : m.id ≡ by
  pub up : IsMemberUp plants copies (parts_of x) m
  pub back : i ≡ by.0 - 1

module _ {P C : Type 0} {plants : PlantGhosts P} {steadies : SteadyGhosts C} {copies : CopyGhosts C} {x mid : Complex P C plants steadies copies} {ms : List Member}
    {at : ℕ} {by : MemberId} {what : Ask} {a : Admission} (w : InArm x mid ms at by what a) where
  pub arm_book : mid.book ≡ tested_as x.book by a
  arm_book = ap (λ (z : Parts P C). z.book) w.frame

  -- all batches are of earlier lines
  pub arm_kept : AreKeptFrom by at (mid.journal.batches ++ in_flight mid.current) (plants.view mid.plant).now
  arm_kept =
      subst (λ (z : Parts P C). AreKeptFrom by at (z.batches ++ in_flight z.current) (plants.view z.plant).now) (sym w.frame)
      (earlier_kept by at (plants.view x.plant).now (x.journal.batches ++ in_flight x.current) w.is.earlier)

  pub own_kept : (m : Member) → m.id ≡ by → AreKeptFrom m.id at (mid.journal.batches ++ in_flight mid.current) (plants.view mid.plant).now
  own_kept m own = subst (λ (k : MemberId). AreKeptFrom k at (mid.journal.batches ++ in_flight mid.current) (plants.view mid.plant).now) (sym own) arm_kept

  module _ (its : IsUp x.base.config x.book by) where
    pub arm_inside : IsMember x.book by
    arm_inside = inside_of x.base.config by its.member x.book w.is.booked

    tested_since : (b : Admission) → Since x.book (tested_as x.book by b)
    tested_since (TakesOver of) = none_since x.book
    tested_since b = admitted_since by b x.book arm_inside

    pub tested_inside : IsMember mid.book by
    tested_inside = subst (λ (b : Book). IsMember b by) (sym arm_book) (inside_since x.book (tested_as x.book by a) by (tested_since a) arm_inside)

    pub arm_within : (i : ℕ) → i ≡ by.0 - 1 → i < length ms
    arm_within i place =
        omega (arith, place, arm_inside, w.is.booked, w.is.many)

    pub in_place : (i : ℕ) → i ≡ by.0 - 1 → (m : Member) → slice_get ms i ≡ Some m → InPlace x by i m
    in_place i place m here =
        let first : 1 + i ≡ by.0 = omega (arith, place, arm_inside.0) in
        let at_m : IsMemberAt plants copies (parts_of x) by.0 m = subst (λ (k : ℕ). IsMemberAt plants copies (parts_of x) k m) first (w.is.members i m here) in
        record { inside = arm_inside; own = at_m.id; up = at_m.up (ap (λ (k : MemberId). is_stopped x.book k) at_m.id ∙ its.up); back = place }

    pub has_turn : HasGot x.base.config x.book by → tested_as x.book by a ≡ after_try x.book by false → (i : ℕ) → i ≡ by.0 - 1 → (m : Member) → slice_get ms i ≡ Some m → HasTurn x mid ms at by what a m
    has_turn got tried i place m here = let frame = w.frame ∙ ap (λ (b : Book). record (parts_of x) { book = b }) tried in assumption (w, frame, got, in_place i place m here)

-- who holds the lock in the line
pub holder_same : (b : Book) (by : MemberId) (at : ℕ) (h : Holder) (grant was : Grant) → h ≡ record { by = by; step = at; hold = left_of b by; grant = grant } → grant ≡ was
    → h ≡ record { by = by; step = at; hold = left_of b by; grant = was }
holder_same b by at h grant was is so = is ∙ ap (λ (k : Grant). let j : Holder = record { by = by; step = at; hold = left_of b by; grant = k } in j) so

-- WHAT A TASK USES AT MOST

pub few_levels : (task : Task) → SitsAreFewUnits (Fresh task) → levels_for (Fresh task) + 4 ≤ levels_most
few_levels q0 few = grind arith

-- THE LOCK

pub held_up : (b : Book) (by : MemberId) → is_holder b by ≡ true → is_stopped b by ≡ false → is_left_held b ≡ false
held_up b by holds up =
    ap (λ (m : MemberId). is_somebody m && is_stopped b m) (holder_is b by holds) ∙ and_none (is_somebody by) (is_stopped b by) up

-- who got it by a try held it, or nobody did
none_left_held : (b : Book) (by : MemberId) → is_stopped b by ≡ false → try_refusal b by false ≡ None → is_left_held b ≡ false
none_left_held b by up none = by_test (is_holder b by) (λ holds. held_up b by holds up) (λ free. ap (λ (t : Bool). t && is_stopped b b.holder) (got_free b by up free none))

-- whoever is up is up once it tried
pub tested_up : (b : Book) (by : MemberId) → IsMember b by → is_stopped b by ≡ false → is_stopped (after_try b by false) by ≡ false
tested_up b by inside up = (same_calls by by b).tries b false refl ∙ up

-- A member that is up and got the lock by a try: what it may do.

module _ {P C : Type 0} {plants : PlantGhosts P} {steadies : SteadyGhosts C} {copies : CopyGhosts C} {x mid : Complex P C plants steadies copies} {ms : List Member}
    {at : ℕ} {by : MemberId} {what : Ask} {a : Admission} {m : Member} (turn : HasTurn x mid ms at by what a m) where
  abbrev p : Parts P C
  p = parts_of x

  abbrev b : Book
  b = after_try x.book by false

  pub turn_quiet : IsQuiet plants copies p (page_count x.base.config)
  turn_quiet = turn.arm.is.quiet (none_left_held x.book by turn.got.is_up.up turn.got.none)

  -- it was tested so at a scene that the value shows
  pub turn_tested : tried x.book m.id a ≡ after_try x.book m.id false → (counts : Counts) (armed : List Armed) → IsTested (scene_as p counts armed) m.id a mid.book
  turn_tested tries counts armed =
      tested_here p counts armed m.id a mid.book (tries ∙ ap (λ (j : MemberId). after_try x.book j false) turn.own ∙ sym (ap (λ (w : Parts P C). w.book) turn.frame)) (λ locked. turn_quiet.none)

  -- who holds the lock in its line
  abbrev pub turn_holder : Holder
  turn_holder = record { by = by; step = at; hold = hold_left b by; grant = granted_by x.book by }

  pub its_holder : (h : Holder) → h ≡ record { by = by; step = at; hold = hold_left mid.book by; grant = granted_by x.book by } → h ≡ turn_holder
  its_holder h same = same ∙ ap (λ (w : Parts P C). let g : Holder = record { by = by; step = at; hold = hold_left w.book by; grant = granted_by x.book by } in g) turn.frame

  pub turn_hold : MayHold b by
  turn_hold = let few : by.0 ≤ members_most = let le = turn.inside.1 in let many = turn.arm.is.booked in let most = turn.arm.is.config.members.1 in omega (arith, le, many, most) in record {
    some = turn.inside.0;
    few = few;
    seated = (turn.inside.0, let le = turn.inside.1 in let many = (tried_since x.book by turn.inside false).many in omega (arith, le, many));
    up = tested_up x.book by turn.inside turn.got.is_up.up;
    free = inl turn.got.holds;
  }

  seated_so : (h : Bool) → is_holder x.book by ≡ h → IsSeatedBy plants copies (if h then ByLock else ForStep) (record p { book = b }) m
  seated_so true holds =
      subst (λ (c : Book). IsSeat plants copies (record p { book = c }) m) (sym (holder_keeps x.book by turn.got.is_up.up turn.got.none holds)) (turn.up.seated (ap (λ (j : MemberId). is_holder x.book j) turn.own ∙ holds))
  seated_so false free = tt

  -- it may go on, and take its seat: no batch has an entry of this line, or of a later one
  pub turn_goes : (task : Task) → SitsAreFewUnits (Fresh task) → MayGoOn plants copies (record p { book = b }) m turn_holder (Fresh task)
  turn_goes task small =
      let is = turn.arm.is in
      let earlier_batches : All (IsOfEarlier at) p.batches = subst (λ (bs : List Batch). All (IsOfEarlier at) bs) (ap (λ (c : Option Batch). p.batches ++ in_flight c) turn_quiet.none ∙ append-nil p.batches) is.earlier in
      let step_kept : HasStepKept plants copies (record p { book = b }) m.id at =
      All-weaker (IsOfEarlier at) (λ (b : Batch). IsKeptBy (plants.view x.plant).now b ⊎ AreEarlier m.id at b.entries)
      (λ b of. inr (All-weaker (λ (e : Entry). e.step < at) (λ (e : Entry). e.by ≡ m.id → e.step < at) (λ e less same. less) b.entries of)) p.batches earlier_batches in
      let quiet : IsQuiet plants copies (record p { book = b }) (length m.room) =
      subst (λ (n : ℕ). IsQuiet plants copies (record p { book = b }) n) (sym turn.up.many) (quiet_with plants copies p b p.reserved turn_quiet.unreserved (page_count x.base.config) turn_quiet) in
      record {
        aside = record { quiet = quiet; idle = turn.up.idle; noted = turn.up.noted; config = turn.up.config };
        hold = subst (λ (j : MemberId). MayHold b j) (sym turn.own) turn_hold;
        member = ap (λ (j : MemberId). is_member x.base.config j) turn.own ∙ turn.got.is_up.member;
        base_sound = λ t. is.sound;
        untold = is.untold m.id at (omega arith) turn.arm.few;
        step = step_kept;
        seat = seated_so (is_holder x.book by) refl;
        level = let below = turn.arm.below in let most = few_levels task small in omega (arith, below, most);
        holder = sym turn.own;
      }

  pub may_seat : MayTakeSeat mid m
  may_seat =
      let go = turn_goes (Work 0) (omega arith) in
      let below = turn.arm.below in
      let holds : HoldsLock b p.base.config m.id = record { may = record { holds = turn.got.holds ∙ sym turn.own; up = λ some. go.hold.up }; some = go.hold.some; few = go.hold.few; seated = go.hold.seated; member = go.member } in
      subst (λ (w : Parts P C). IsAtGate plants copies w m) (sym turn.frame) (gate_with plants copies (record p { book = b }) m b holds go.aside (omega (arith, below)))

-- A line that is opened: its try of the lock, and its member that has it then.
use Rattle.std.proofs.Common.{◌≡◌, ◌∙◌, inl, inr, ⊎_elim, ◌≤◌, ℕ, ◌+◌, ◌-◌, ◌&&◌, ◌||◌, not, if◌then◌else◌, is_some, Bool, true, false, length, Option, Some, None, Result, Ok, Err, ap, refl, subst, sym, arith}
use Rattle.std.specs.Prelude.{IfOk, OnOk}
use Rattle.std.proofs.lemmas.Bool.{eqb-true, ne_eqb}
use Rattle.std.proofs.lemmas.List.{get_or-set_same, length-set}
use Rattle.mas_types.specs.declared.ids.MemberId.{MemberId}
use Rattle.mas_types.specs.declared.queues.Queue.{Queue}
use Rattle.mas_types.specs.Ids.{is_somebody, nobody}
use Rattle.mas_types.specs.Limits.{members_most}
use Rattle.lock_cycle.specs.declared.answers.LockNo.{LockNo}
use Rattle.lock_cycle.specs.declared.standings.Standing.{Standing}
use Rattle.lock_cycle.specs.Books.{Book, IsMember, after_try, beginner, granted, is_holder, is_stopped, left_of, standing, ticked, try_refusal}
use Rattle.spool_plant.specs.declared.plant.Plant.{Ghosts as PlantGhosts}
use Rattle.ckpt_copy.specs.declared.copying.Copying.{Ghosts as CopyGhosts}
use Rattle.ckpt_form.specs.declared.steady.Steady.{Ghosts as SteadyGhosts}
use Rattle.mas_complex.specs.declared.complex.Complex.{Complex}
use Rattle.mas_complex.specs.Journals.{in_flight}
use Rattle.mas_complex.specs.Parts.{Parts, parts_of}
use Rattle.script_lang.specs.declared.types.Ask.{Ask}
use Rattle.script_lang.specs.declared.types.Ask.TheVariants as ask
use Rattle.step_turns.specs.Laws.{on_line}
use Rattle.step_turns.specs.declared.states.Grant.TheVariants.{ForStep}
use Rattle.step_turns.specs.declared.states.Holder.{Holder}
use Rattle.step_turns.specs.declared.states.State.{State}
use Rattle.step_turns.specs.declared.states.State.TheVariants.{Away, Fresh, Rested, Told}
use Rattle.step_turns.specs.declared.states.Aside.TheVariants.{Acknowledge, Exchange, PrintLines, ReadText, SpoolArrival, SpoolDeck, SpoolOutputs}
use Rattle.step_turns.specs.declared.states.Task.{Task}
use Rattle.step_turns.specs.declared.states.Task.TheVariants.{Deck, Give, Line, Work}
use Rattle.mas_race.specs.Between.{is_held}
use Rattle.race_turns.specs.Turns.{left_holder}
use Rattle.member_node.specs.declared.member.Member.{Member}
use Rattle.member_steps.specs.Steps.{AreKeptFrom}
use Rattle.member_sittings.specs.Whole.{HasUntold}
use Rattle.member_resets.specs.Asides.{IfAway}
use Rattle.member_resets.specs.Locks.{IsUnlocked, MayHold}
use Rattle.member_resets.specs.Quiet.{IsQuiet, MayGoOn, levels_for}
use Rattle.member_resets.specs.Sits.{AreFewUnits, MayBeAsked}
use Rattle.member_node.specs.declared.member.NodeNo.{NodeNo}
use Rattle.run_turns.specs.Admissions.{Admission, admitted}
use Rattle.member_lines.specs.Admissions.{AreFewUnits as FewAsked, admission_of, tested_as}
use Rattle.member_resets.specs.Plays.{played_in}
use Rattle.member_resets.proofs.Entering.{quiet_with}
use Rattle.member_resets.proofs.PieceLemmas.{played_frame}
use Rattle.member_node.specs.declared.member.NodeNo.TheVariants as no_node
use Rattle.member_lines.specs.Closes.{IsSayer, stopped_so}
use Rattle.member_lines.specs.declared.admissions.Admission.{Admission as Admitted}
use Rattle.member_racing.specs.Asked.{IsAsked, IsKnown, IsRaced, IsSaidBy}
use Rattle.member_racing.specs.Bounds.{levels_most}
use Rattle.member_racing.specs.Opened.{ComesTo, IfLeft, done_of}
use Rattle.member_racing.specs.Stages.{IsBegun, first_unsaid}
use Rattle.member_racing.specs.Turning.{MayTurn, closed_by}
use Rattle.member_racing.specs.Waits.{IsAtEase}
use Rattle.member_racing.specs.declared.stages.Stage.{Stage as Stands}
use Rattle.member_racing.specs.declared.stages.Stage.TheVariants as line
use Rattle.member_racing.proofs.Easing.{ease_as}
use Rattle.member_racing.proofs.Members.{inside_of}
use Rattle.member_racing.proofs.Resting.{all_front}
use Rattle.member_racing.proofs.Turns.{Holds, nobody_is, step_kept}

-- LIMITS

pub few_raced : (what : Ask) → IsRaced what → FewAsked what
few_raced (ask.Work n) is = is
few_raced (ask.Deck cards) is = tt
few_raced (ask.Command c) is = tt
few_raced ask.Lock is = tt
few_raced ask.Free is = tt
few_raced (ask.Line n) is = tt
few_raced (ask.Replace dev) is = tt
few_raced ask.Stop is = tt
few_raced (ask.StopIn fuse n) is = tt
few_raced (ask.Lose dev) is = tt

pub few_task : (base : Queue) (by : MemberId) (task : Task) → MayBeAsked base by task → on_line (Fresh task) ≡ false → AreFewUnits (Fresh task)
few_task base by (Give c) may off = omega arith
few_task base by (Deck fields text) may off = omega arith
few_task base by (Work n) may off = let few : n ≤ 9999 = may in omega (arith, few)
few_task base by (Line l) may off = absurd (cc)

-- a step that serves no line uses few levels
pub levels_few : (s : State) → on_line s ≡ false → AreFewUnits s → levels_for s + 4 ≤ levels_most
levels_few (Fresh (Give c)) off few = omega arith
levels_few (Fresh (Deck fields text)) off few = omega arith
levels_few (Fresh (Work n)) off few = omega (arith, few)
levels_few (Fresh (Line l)) off few = absurd (cc)
levels_few (Away (SpoolDeck n text)) off few = omega arith
levels_few (Away (ReadText runs n fields p)) off few = omega (arith, few)
levels_few (Away (SpoolOutputs n specs p)) off few = omega (arith, few)
levels_few (Away (PrintLines n i last p)) off few = omega (arith, few)
levels_few (Away (Exchange l offer)) off few = absurd (cc)
levels_few (Away (SpoolArrival number job cards service)) off few = absurd (cc)
levels_few (Away (Acknowledge number service)) off few = absurd (cc)
levels_few (Rested p) off few = omega (arith, few)
levels_few Told off few = omega arith

-- THE TRY

module _ (b : Book) (by : MemberId) where
  abbrev then_try : Bool → Option LockNo → Book
  then_try s r = if s then b else if is_some r then ticked b false else granted (ticked b false) by

  refused_holder : (s : Bool) (why : LockNo) → (then_try s (Some why)).holder ≡ b.holder
  refused_holder true why = refl
  refused_holder false why = refl

  refused_members : (s : Bool) (why : LockNo) → (then_try s (Some why)).members ≡ b.members
  refused_members true why = refl
  refused_members false why = refl

  -- one that was refused changes neither the holder nor a member
  pub denied_holder : (why : LockNo) → try_refusal b by false ≡ Some why → (after_try b by false).holder ≡ b.holder
  denied_holder why is =
      ap (λ (r : Option LockNo). (then_try (is_stopped b by || is_holder b by) r).holder) is ∙ refused_holder (is_stopped b by || is_holder b by) why

  pub denied_members : (why : LockNo) → try_refusal b by false ≡ Some why → (after_try b by false).members ≡ b.members
  denied_members why is =
      ap (λ (r : Option LockNo). (then_try (is_stopped b by || is_holder b by) r).members) is ∙ refused_members (is_stopped b by || is_holder b by) why

  refused_left : (s : Bool) (why : LockNo) → left_holder (then_try s (Some why)) ≡ left_holder b
  refused_left true why = refl
  refused_left false why = refl

  pub denied_left : (why : LockNo) → try_refusal b by false ≡ Some why → left_holder (after_try b by false) ≡ left_holder b
  denied_left why is =
      ap (λ (r : Option LockNo). left_holder (then_try (is_stopped b by || is_holder b by) r)) is ∙ refused_left (is_stopped b by || is_holder b by) why

  -- WHO GOT THE LOCK

  module _ (up : is_stopped b by ≡ false) (other : is_holder b by ≡ false) (got : try_refusal b by false ≡ None) where
    pub got_book : after_try b by false ≡ granted (ticked b false) by
    got_book =
        ap (λ (s : Bool). then_try (s || is_holder b by) (try_refusal b by false)) up ∙ ap (λ (h : Bool). then_try (false || h) (try_refusal b by false)) other
        ∙ ap (λ (r : Option LockNo). then_try (false || false) r) got

    pub got_members : length (after_try b by false).members ≡ length b.members
    got_members = ap (λ (d : Book). length d.members) got_book ∙ length-set b.members (by.0 - 1) _

    module _ (inside : IsMember b by) where
      its_standing : standing (granted (ticked b false) by) by ≡ record (standing b by) { left = b.hold }
      its_standing = let some = inside.0 in let few = inside.1 in get_or-set_same b.members (by.0 - 1) (record (standing b by) { left = b.hold }) (beginner 0) (omega (arith, some, few))

      pub got_up : is_stopped (after_try b by false) by ≡ false
      got_up = ap (λ (d : Book). is_stopped d by) got_book ∙ ap (λ (s : Standing). s.stopped) its_standing ∙ up

      -- with a whole hold
      pub got_hold : left_of (after_try b by false) by ≡ b.hold
      got_hold = ap (λ (d : Book). left_of d by) got_book ∙ ap (λ (s : Standing). s.left) its_standing

      pub got_may : 1 ≤ by.0 → by.0 ≤ members_most → MayHold (after_try b by false) by
      got_may some few = record {
        some = some;
        few = few;
        seated = (inside.0, subst (λ (k : ℕ). by.0 ≤ k) (sym got_members) inside.1);
        up = got_up;
        free = inl (ap (λ (d : Book). d.holder) got_book);
      }

-- THE STOPPED MEMBER THAT HOLDS THE LOCK

pub if_left : (o : Option MemberId) (A : MemberId → Type 0) → ((of : MemberId) → o ≡ Some of → A of) → IfLeft o A
if_left None A f = tt
if_left (Some of) A f = f of refl

pub left_some : (b : Book) (of : MemberId) → is_holder b of ≡ true → is_somebody of ≡ true → is_stopped b of ≡ true → left_holder b ≡ Some of
left_some b of holds somebody down =
    let same : b.holder ≡ of = ap (λ (k : ℕ). let m : MemberId = record { 0 = k } in m) (eqb-true b.holder.0 of.0 holds) in
    ap (λ (m : MemberId). if is_somebody m && is_stopped b m then Some m else None) same
    ∙ ap (λ (t : Bool). if t && is_stopped b of then Some of else None) somebody ∙ ap (λ (t : Bool). if t then Some of else None) down

-- a member that is up has no lock between two turns
pub not_holder : (b : Book) (m : MemberId) → is_held b ≡ false → 1 ≤ m.0 → is_stopped b m ≡ false → is_holder b m ≡ false
not_holder b m unheld some up = by_test (is_holder b m) refl where
  somebody : is_somebody m ≡ true
  somebody = ap not (ne_eqb m.0 0 (λ is. omega (arith, some, is)))

  held : b.holder ≡ m → is_held b ≡ true
  held same = ap (λ (k : MemberId). is_somebody k && not (is_stopped b k)) same ∙ ap (λ (t : Bool). t && not (is_stopped b m)) somebody ∙ ap not up

  by_test : (h : Bool) → is_holder b m ≡ h → is_holder b m ≡ false
  by_test false is = is
  by_test true is = absurd (let bad : true ≡ false = sym (held (ap (λ (k : ℕ). let i : MemberId = record { 0 = k } in i) (eqb-true b.holder.0 m.0 is))) ∙ unheld in cc)

-- A MEMBER THAT HAS THE LOCK MAY GO ON

module _ {P C : Type 0} {plants : PlantGhosts P} {steadies : SteadyGhosts C} {copies : CopyGhosts C} (x : Complex P C plants steadies copies) (m : Member) (at : ℕ) (what : Ask) (s : Stands) (may : MayTurn x m at what s) (opened : first_unsaid at s ≡ at)
    (none : x.book.holder ≡ nobody) (up : is_stopped x.book m.id ≡ false) where
  abbrev p : Parts P C
  p = parts_of x

  -- by a book in which it may hold, and a state that serves no line
  pub goes_with : (b : Book) → MayHold b m.id → (h : Holder) → h.by ≡ m.id → h.step ≡ at → h.grant ≡ ForStep → (state : State) → on_line state ≡ false → AreFewUnits state → MayGoOn plants copies (record p { book = b }) m h state
  goes_with b hold h by step grant state off few =
      let w = may.waits in
      let ease : IsAtEase plants copies p m = w.ease up in
      let quiet = may.quiet none in
      let low = may.level in
      let levels = levels_few state off few in
      record {
        aside = record {
          quiet = quiet_with plants copies p b p.reserved quiet.unreserved (length m.room) (subst (λ (k : ℕ). IsQuiet plants copies p k) (sym ease.many) quiet);
          idle = ease.idle;
          noted = ease.noted;
          config = ease.tables;
        };
        hold = hold;
        member = w.member;
        base_sound = w.sound;
        untold = subst (λ (k : ℕ). HasUntold plants copies p m.id k) (sym step) (w.untold at (subst (λ (k : ℕ). k ≤ at) (sym opened) (omega arith)) w.few);
        step = subst (λ (k : ℕ). AreKeptFrom m.id k p.batches (plants.view x.plant).now) (sym step)
            (all_front (Holds m.id at (plants.view x.plant).now) p.batches (in_flight p.current) (step_kept x may.rest may.some m at what s may opened));
        seat = rw grant tt;
        level = omega (arith, low, levels);
        holder = by;
      }

-- ITS ADMISSION

pub record InArm {P C : Type 0} {plants : PlantGhosts P} {steadies : SteadyGhosts C} {copies : CopyGhosts C} (x : Complex P C plants steadies copies) (by : MemberId) (mid : Complex P C plants steadies copies) (what : Ask) (a : Admission) : Type 0 where
  pub adm : a ≡ admitted x.base.config x.book by what
  pub known_so : IsKnown x.base x.book by a
  pub frame : parts_of mid ≡ record (parts_of x) { book = tested_as x.book by a }

pub in_arm : {P C : Type 0} {plants : PlantGhosts P} {steadies : SteadyGhosts C} {copies : CopyGhosts C} (x : Complex P C plants steadies copies) (by : MemberId) (mid : Complex P C plants steadies copies) (what : Ask)
    → IsAsked x.base by what → (said : Admitted) (a : Admission) → admission_of said ≡ a → admission_of said ≡ admitted x.base.config x.book by what
    → parts_of mid ≡ record (parts_of x) { book = tested_as x.book by (admission_of said) } → InArm x by mid what a
in_arm x by mid what asked said a is adm frame = record {
  adm = sym is ∙ adm;
  known_so = subst (λ (b : Admission). IsKnown x.base x.book by b) (sym adm ∙ is) (asked.known x.book);
  frame = frame ∙ ap (λ (b : Admission). record (parts_of x) { book = tested_as x.book by b }) is;
}

-- WHAT CLOSES, or gets no further

pub done_closed : (r : Result (Unit {0}) NodeNo) → done_of (closed_by r) ≡ r
done_closed (Ok done) = refl
done_closed (Err e) = refl

pub comes_closed : (r : Result (Unit {0}) NodeNo) → ComesTo line.Closed (closed_by r)
comes_closed (Ok done) = refl
comes_closed (Err e) = tt

pub if_closed : (r : Result (Unit {0}) NodeNo) (A : Type 0) → OnOk r A → IfOk (closed_by r) (λ s. A)
if_closed (Ok done) A a = a
if_closed (Err e) A a = tt

pub on_ok_as : {A : Type 0} (B : Type 0) (r : Result (Unit {0}) NodeNo) → (A → B) → OnOk r A → OnOk r B
on_ok_as B (Ok done) f a = f a
on_ok_as B (Err e) f a = tt

-- who says so
pub sayer_of : (base : Queue) (b : Book) (by sayer : MemberId) → length b.members ≡ base.config.members → IsSaidBy base.config b by sayer → IsSayer b sayer by
sayer_of base b by sayer booked says = ⊎_elim (λ operator. inl operator) (λ its. inr (its.0, inside_of base.config by its.1.member b booked, its.1.up)) says

-- NOBODY HOLDS THE LOCK

pub begun_open : (at : ℕ) (s : Stands) → IsBegun s → first_unsaid at s ≡ at
begun_open at line.Opens is = absurd is
begun_open at (line.Sits stand) is = refl
begun_open at (line.Acts stand) is = refl
begun_open at line.Closed is = absurd is

-- between two turns, unless a stopped member does
pub free_now : (b : Book) → is_held b ≡ false → left_holder b ≡ None → b.holder ≡ nobody
free_now b unheld none = by_tests (is_somebody b.holder) (is_stopped b b.holder) refl refl where
  by_tests : (s d : Bool) → is_somebody b.holder ≡ s → is_stopped b b.holder ≡ d → b.holder ≡ nobody
  by_tests false d is down = nobody_is b.holder is
  by_tests true false is down = absurd (let held : is_held b ≡ true = ap (λ (t : Bool). t && not (is_stopped b b.holder)) is ∙ ap not down in let bad : true ≡ false = sym held ∙ unheld in cc)
  by_tests true true is down =
      absurd (let some : left_holder b ≡ Some b.holder = ap (λ (t : Bool). if t && is_stopped b b.holder then Some b.holder else None) is ∙ ap (λ (t : Bool). if t then Some b.holder else None) down in let bad : Some b.holder ≡ None = sym some ∙ none in cc)

pub hold_free : (b : Book) (m : MemberId) → IsMember b m → 1 ≤ m.0 → m.0 ≤ members_most → is_stopped b m ≡ false → b.holder ≡ nobody → MayHold b m
hold_free b m inside some few up none = record { some = some; few = few; seated = inside; up = up; free = inr none }

pub unlocked_free : (s : State) (b : Book) (m : MemberId) → b.holder ≡ nobody → IfAway s (IsUnlocked ForStep b m)
unlocked_free (Away aside) b m none = none
unlocked_free (Fresh task) b m none = tt
unlocked_free (Rested p) b m none = tt
unlocked_free Told b m none = tt

-- THE BASE, the first moment, and when copies were replaced, are as they were

module _ {P C : Type 0} where
  by_fields : (x y z : Parts P C) → y.base ≡ z.base → y.since ≡ z.since → y.renewals ≡ z.renewals → z.base ≡ x.base → z.since ≡ x.since → z.renewals ≡ x.renewals → y ≡ played_in y x
  by_fields x y z base since renewals b s r = played_frame x y (base ∙ b) (since ∙ s) (renewals ∙ r)

  -- after a try of the lock
  pub frame_on : (x z y : Parts P C) (b : Book) → z ≡ record x { book = b } → y ≡ played_in y z → y ≡ played_in y x
  frame_on x z y b book frame =
      by_fields x y z (ap (λ (q : Parts P C). q.base) frame) (ap (λ (q : Parts P C). q.since) frame) (ap (λ (q : Parts P C). q.renewals) frame) (ap (λ (q : Parts P C). q.base) book)
      (ap (λ (q : Parts P C). q.since) book) (ap (λ (q : Parts P C). q.renewals) book)

  pub tried_frame : (x z : Parts P C) (b : Book) → z ≡ record x { book = b } → z ≡ played_in z x
  tried_frame x z b book = played_frame x z (ap (λ (q : Parts P C). q.base) book) (ap (λ (q : Parts P C). q.since) book) (ap (λ (q : Parts P C). q.renewals) book)

  -- after a line that only closes
  pub said_frame : (x y : Parts P C) (by : MemberId) (r : Result (Unit {0}) NodeNo) → y ≡ stopped_so r by (record x { plant = y.plant }) → y ≡ played_in y x
  said_frame x y by (Ok done) e = played_frame x y (ap (λ (q : Parts P C). q.base) e) (ap (λ (q : Parts P C). q.since) e) (ap (λ (q : Parts P C). q.renewals) e)
  said_frame x y by (Err no_node.NoMemory) e = played_frame x y (ap (λ (q : Parts P C). q.base) e) (ap (λ (q : Parts P C). q.since) e) (ap (λ (q : Parts P C). q.renewals) e)
  said_frame x y by (Err no_node.BothLost) e = played_frame x y (ap (λ (q : Parts P C). q.base) e) (ap (λ (q : Parts P C). q.since) e) (ap (λ (q : Parts P C). q.renewals) e)
  said_frame x y by (Err no_node.Halted) e = played_frame x y (ap (λ (q : Parts P C). q.base) e) (ap (λ (q : Parts P C). q.since) e) (ap (λ (q : Parts P C). q.renewals) e)
  said_frame x y by (Err no_node.ConsoleFault) e = played_frame x y (ap (λ (q : Parts P C). q.base) e) (ap (λ (q : Parts P C). q.since) e) (ap (λ (q : Parts P C). q.renewals) e)

  -- with Ok a line that only closes leaves what was noted, and the book
  pub said_ease : (plants : PlantGhosts P) (copies : CopyGhosts C) (x y : Parts P C) (m : Member) (by : MemberId) (r : Result (Unit {0}) NodeNo) → y ≡ stopped_so r by (record x { plant = y.plant }) → (is_stopped x.book m.id ≡ false → IsAtEase plants copies x m)
      → OnOk r (is_stopped y.book m.id ≡ false → IsAtEase plants copies y m)
  said_ease plants copies x y m by (Err e) frame ease = tt
  said_ease plants copies x y m by (Ok done) frame ease = λ up.
      ease_as plants copies x y m (ap (λ (q : Parts P C). q.base) frame) (ap (λ (q : Parts P C). q.had) frame) (ease (ap (λ (q : Parts P C). is_stopped q.book m.id) (sym frame) ∙ up))

-- What the acts of a turn did before it was ended: to the devices and to who was stopped, and to the notes and counts
-- of the other members.
use Rattle.std.proofs.Common.{◌≡◌, ◌≢◌, ◌∙◌, ◌⊎◌, inl, inr, ⊎_elim, ℕ, ◌≤◌, Bool, true, false, List, [], Option, Some, None, Result, Ok, Err, ap, refl, subst, sym, arith}
use Rattle.mas_types.specs.declared.ids.Dev.{Dev}
use Rattle.mas_types.specs.declared.ids.Dev.TheVariants.{Ckpt1, Ckpt2, Spool}
use Rattle.mas_types.specs.declared.ids.MemberId.{MemberId}
use Rattle.mas_types.specs.declared.answers.Closing.{Closing}
use Rattle.mas_types.specs.declared.journals.Entry.{Entry}
use Rattle.mas_types.specs.declared.journals.Fate.{Fate}
use Rattle.mas_types.specs.Ids.{nobody}
use Rattle.lock_cycle.specs.Books.{Book, after_stop, after_try}
use Rattle.spool_plant.specs.declared.plant.Plant.{Ghosts as PlantGhosts}
use Rattle.spool_plant.specs.View.{View}
use Rattle.spool_plant.specs.Acts.{Rose}
use Rattle.ckpt_copy.specs.declared.copying.Copying.{Ghosts as CopyGhosts}
use Rattle.mas_complex.specs.CallCounts.{IsLostOnce, KeepsCounts, PairState, pair_state, pair_at}
use Rattle.mas_complex.specs.Locking.{reserved_after_stop}
use Rattle.mas_complex.specs.Paper.{counts_of}
use Rattle.mas_complex.specs.Parts.{Parts}
use Rattle.run_turns.specs.Admissions.{Admission, Denied, Frees, Locks, Plays, Refused, Replaces, Resets, TakesOver, Unplayed, admitted}
use Rattle.run_turns.specs.Scenes.{Scene, scene_of}
use Rattle.race_turns.specs.Turns.{left_holder}
use Rattle.step_turns.specs.Sittings.{Sitting}
use Rattle.step_turns.specs.declared.states.Found.{Found}
use Rattle.step_turns.specs.declared.states.Holder.{Holder}
use Rattle.step_turns.specs.declared.states.State.{State}
use Rattle.step_turns.specs.declared.states.Aside.TheVariants.{Acknowledge, Exchange, PrintLines, ReadText, SpoolArrival, SpoolDeck, SpoolOutputs}
use Rattle.step_turns.specs.declared.states.State.TheVariants.{Away, Fresh, Rested, Told}
use Rattle.member_node.specs.declared.member.Member.{Member}
use Rattle.member_node.specs.declared.member.NodeNo.{NodeNo}
use Rattle.member_node.specs.declared.member.NodeNo.TheVariants as no_node
use Rattle.member_node.specs.Calls.{Grows}
use Rattle.member_node.specs.Spares.{Spares, is_stop, stopped_in}
use Rattle.member_node.proofs.CourseLemmas.{course_none, no}
use Rattle.member_node.proofs.SpareLemmas.{spares_for, spares_none, spares_then}
use Rattle.member_steps.specs.Noting.{OtherNotesStay}
use Rattle.member_steps.specs.Saying.{OnConsole}
use Rattle.member_steps.specs.Steps.{StepCauses}
use Rattle.member_steps.proofs.NoteLemmas.{notes_none, notes_same, notes_then}
use Rattle.member_steps.proofs.KeepLemmas.{causes_then, copy_causes}
use Rattle.member_sittings.specs.declared.ends.SittingEnd.{SittingEnd}
use Rattle.member_sittings.specs.Sat.{IsSat, Start}
use Rattle.member_work.specs.Printing.{IsBeside}
use Rattle.member_resets.specs.Asides.{ActsAfter}
use Rattle.member_resets.specs.Plays.{HasActedIn, Passage}
use Rattle.member_resets.specs.Stand.{Stand}
use Rattle.member_resets.proofs.Acting.{acted_err, acted_ok, acts_beside, asided, changed_only, only_these}
use Rattle.member_resets.proofs.Passages.{passage_of, passage_then}
use Rattle.member_lines.specs.Closes.{HasCause, HasClosed, stopped_so}
use Rattle.member_racing.specs.Asked.{IsAsked, IsKnown}
use Rattle.member_racing.specs.Kinds.{ActsBy, HasSat, HasSeat, SeatsAndResets, SitsBy, TakesBy}
use Rattle.member_racing.specs.Opened.{ClosesRefused, GoesAs, IsIdleTurn, OpensAs, TriesBy, UnlessLeft, WaitsOn, done_of}
use Rattle.member_resets.proofs.OnceLemmas.{then_once}
use Rattle.member_resets.specs.Resetting.{AreLostOnce, CopiesLeft, HasResetBy, IsTaken, IsUntaken, TakeCauses, TakesAndResets, TakesBy as ClosesTaken}
use Rattle.member_racing.specs.Stages.{Raced, stood_of}
use Rattle.member_racing.specs.declared.stages.Stage.{Stage as Stands}
use Rattle.member_racing.specs.declared.stages.Stage.TheVariants as line

-- the answer alone, whatever comes with Ok
abbrev ended : {T : Type 0} → Result T NodeNo → Result (Unit {0}) NodeNo
ended (Ok done) = Ok tt
ended (Err e) = Err e

-- ACTS

module _ {P C : Type 0} (plants : PlantGhosts P) where
  abbrev v : Parts P C → View
  v x = plants.view x.plant

  -- Acts of a member: what becomes of the copies, which a call lost once at most; nobody was stopped but the member,
  -- and it only where the answer says so, and no volume was lost by a call; the answer has its cause. What every
  -- other member noted, and how many lines it has printed, is as it was.
  pub record TurnActs (by : MemberId) (x y : Parts P C) (r : Result (Unit {0}) NodeNo) : Type 0 where
    pub passage : Passage x.first_alive y.first_alive x.second_alive y.second_alive (v x) (v y)
    pub once : AreLostOnce plants x y
    pub spares : Spares by.0 (stopped_in r) (v x) (v y)
    pub cause : StepCauses r by.0 (pair_at x.first_alive x.second_alive (v x)) (pair_at y.first_alive y.second_alive (v y))
    pub notes : OtherNotesStay by x.had y.had
    pub counts : (m : MemberId) → m ≢ by → counts_of y.printed m ≡ counts_of x.printed m

  -- none, with an answer that nobody was stopped for
  none_acts : (by : MemberId) (x : Parts P C) → TurnActs by x x (Ok tt)
  none_acts by x = record {
    passage = passage_of x.first_alive x.first_alive x.second_alive x.second_alive (v x) (v x) (course_none x.first_alive x.second_alive (v x));
    once = record { first = inl refl; second = inl refl };
    spares = spares_none by.0 (v x);
    cause = inr (refl, refl);
    notes = notes_none by x.had;
    counts = λ m other. refl;
  }

  -- one after another
  then_acts : (by : MemberId) (x y z : Parts P C) (r : Result (Unit {0}) NodeNo) → TurnActs by x y (Ok tt) → TurnActs by y z r → TurnActs by x z r
  then_acts by x y z r one two = record {
    passage = passage_then x.first_alive y.first_alive z.first_alive x.second_alive y.second_alive z.second_alive (v x) (v y) (v z) one.passage two.passage;
    once = then_once plants x y z one.passage.alive1 two.passage.alive1 one.passage.alive2 two.passage.alive2 one.once two.once;
    spares = spares_then by.0 _ (v x) (v y) (v z) one.spares two.spares;
    cause = causes_then r by.0 x.first_alive y.first_alive z.first_alive x.second_alive y.second_alive z.second_alive (v x) (v y) (v z) one.cause one.passage.goes two.cause;
    notes = notes_then by x.had y.had z.had one.notes two.notes;
    counts = λ m other. two.counts m other ∙ one.counts m other;
  }

  -- the book was changed after them, or before
  acts_booked : (by : MemberId) (x y : Parts P C) (b : Book) (r : Result (Unit {0}) NodeNo) → TurnActs by x y r → TurnActs by x (record y { book = b }) r
  acts_booked by x y b r a = record { passage = a.passage; once = record { first = a.once.first; second = a.once.second }; spares = a.spares; cause = a.cause; notes = a.notes; counts = a.counts }

  acts_tried : (by : MemberId) (x y : Parts P C) (b : Book) (r : Result (Unit {0}) NodeNo) → TurnActs by (record x { book = b }) y r → TurnActs by x y r
  acts_tried by x y b r a = record { passage = a.passage; once = record { first = a.once.first; second = a.once.second }; spares = a.spares; cause = a.cause; notes = a.notes; counts = a.counts }

  acts_to : (by : MemberId) (x y z : Parts P C) (r : Result (Unit {0}) NodeNo) → z ≡ y → TurnActs by x y r → TurnActs by x z r
  acts_to by x y z r same a = subst (λ (q : Parts P C). TurnActs by x q r) (sym same) a

-- CALLS ON THE COPIES that may lose one, once

once_grows : (was is : Bool) (before after : ℕ) → IsLostOnce was is before after → Grows before after
once_grows was is before after once = ⊎_elim inl (λ lost. inr (let more = lost.2 in omega (arith, more))) once

module _ (by : ℕ) (stopped : Bool) (x y : PairState) (counts : KeepsCounts by stopped x y) where
  counted_passage : Passage x.first y.first x.second y.second x.view y.view
  counted_passage = record {
    goes = counts.goes;
    failed1 = counts.first.gone;
    failed2 = counts.second.gone;
    there1 = counts.first.stands.0;
    there2 = counts.second.stands.0;
    alive1 = counts.first.alive;
    alive2 = counts.second.alive;
    grow = grow;
  } where
    grow : (d : Dev) → Grows (x.view.loses d) (y.view.loses d)
    grow Ckpt1 = once_grows x.first y.first _ _ counts.first.once
    grow Ckpt2 = once_grows x.second y.second _ _ counts.second.once
    grow (Spool n) = inl (counts.else_loses (Spool n) (λ e. absurd (cc)) (λ e. absurd (cc)))

  counted_spares : 1 ≤ by → Spares by stopped x.view y.view
  counted_spares some = record {
    volumes = λ n. counts.else_loses (Spool n) (λ e. absurd (cc)) (λ e. absurd (cc));
    stops = counts.no_other_stop;
    operator = λ is. omega (arith, some);
    at_halt = counts.at_halt;
  }

-- the cause of a sitting's error is one of any answer's
sitting_cause : (e : NodeNo) (by : ℕ) (a a' b b' : Bool) (old new : View) → StepCauses {T = SittingEnd} (Err e) by (pair_at a b old) (pair_at a' b' new) → StepCauses {T = Unit {0}} (Err e) by (pair_at a b old) (pair_at a' b' new)
sitting_cause no_node.NoMemory by a a' b b' old new cause = cause
sitting_cause no_node.BothLost by a a' b b' old new cause = cause
sitting_cause no_node.Halted by a a' b b' old new cause = cause
sitting_cause no_node.ConsoleFault by a a' b b' old new cause = cause

module _ {P C : Type 0} (plants : PlantGhosts P) (copies : CopyGhosts C) where
  abbrev view : Parts P C → View
  view x = plants.view x.plant

  -- A SITTING

  seat_acts : (by : MemberId) (x seat : Parts P C) (r : Result (Unit {0}) NodeNo) → HasSeat plants copies by x seat r → TurnActs plants by x seat r
  seat_acts by x seat r took = record {
    passage = passage_of x.first_alive seat.first_alive x.second_alive seat.second_alive (view x) (view seat) took.acts.on.course;
    once = record { first = took.acts.on.course.once1; second = took.acts.on.course.once2 };
    spares = took.acts.on.spares;
    cause = copy_causes r by.0 (pair_state plants.view x) (pair_state plants.view seat) took.acts.on.cause;
    notes = took.acts.notes;
    counts = λ m other. ap (λ (q : Parts P C). counts_of q.printed m) took.frame;
  }

  sat_acts : (by : MemberId) (x y : Parts P C) (t : Sitting) (r : Result SittingEnd NodeNo) → IsSat plants by t x y r → TurnActs plants by x y (ended r)
  sat_acts by x y t (Ok end) sat = record {
    passage = passage_of x.first_alive y.first_alive x.second_alive y.second_alive (view x) (view y) sat.acts.course;
    once = record { first = sat.acts.course.once1; second = sat.acts.course.once2 };
    spares = sat.acts.spares;
    cause = sat.acts.cause;
    notes = sat.acts.notes;
    counts = sat.counts.others;
  }
  sat_acts by x y t (Err e) sat = record {
    passage = passage_of x.first_alive y.first_alive x.second_alive y.second_alive (view x) (view y) sat.acts.course;
    once = record { first = sat.acts.course.once1; second = sat.acts.course.once2 };
    spares = sat.acts.spares;
    cause = sitting_cause e by.0 x.first_alive y.first_alive x.second_alive y.second_alive (view x) (view y) sat.acts.cause;
    notes = sat.acts.notes;
    counts = sat.counts.others;
  }

  seated_acts : (s : Start) (x y : Parts P C) (r : Result SittingEnd NodeNo) → HasSat plants copies s x y r → TurnActs plants s.holder.by x y (ended r)
  seated_acts s x y r o = then_acts plants s.holder.by x o.seat y (ended r) (seat_acts s.holder.by x o.seat (Ok tt) o.took) (sat_acts s.holder.by o.seat y o.sat.sitting r o.sat.sat)

  pub sits_acts : (s : Start) (x y : Parts P C) (n : Member) (r : Result Stands NodeNo) → SitsBy plants copies s x y n r → TurnActs plants s.holder.by x y (done_of r)
  sits_acts s x y n (Ok next) o =
      let by = s.holder.by in
      let t = o.turn in
      let there = then_acts plants by x t.seat o.there (Ok tt) (seat_acts by x t.seat (Ok tt) (record { frame = t.locked; acts = t.took })) (sat_acts by t.seat o.there t.sat.sitting (Ok o.end) t.sat.sat) in
      acts_to plants by x _ y (Ok tt) o.frame (acts_booked plants by x o.there _ (Ok tt) there)
  sits_acts s x y n (Err e) o = ⊎_elim (λ took. seat_acts s.holder.by x y (Err e) took) (λ sat. seated_acts s x y (Err e) sat) o

  gave_acts : (h : Holder) (of : MemberId) (x y : Parts P C) (r : Result SittingEnd NodeNo) → SeatsAndResets plants copies h of x y r → TurnActs plants h.by x y (ended r)
  gave_acts h of x y r g = then_acts plants h.by x g.seat y (ended r) (seat_acts h.by x g.seat (Ok tt) g.took) (sat_acts h.by g.seat y g.gave.sitting r g.gave.sat.sat)

  -- ACTS ASIDE

  from_acted : (by : MemberId) (x y : Parts P C) (r : Result (Unit {0}) NodeNo) → HasActedIn plants copies by x y r → AreLostOnce plants x y → ((m : MemberId) → m ≢ by → counts_of y.printed m ≡ counts_of x.printed m) → TurnActs plants by x y r
  from_acted by x y r a once counts = record { passage = a.course; once = once; spares = a.spares; cause = a.cause; notes = a.notes; counts = counts }

  abbrev member_of : ℕ → MemberId
  member_of n = record { 0 = n }

  -- beside the copies no call loses one
  beside_once : (x y : Parts P C) → y ≡ asided y x → IsBeside plants.tells (view x) (view y) → AreLostOnce plants x y
  beside_once x y frame acts = record { first = inl (acts.loses Ckpt1); second = inl (acts.loses Ckpt2) }

  only_counts : (x y : Parts P C) → y ≡ record x { plant = y.plant } → (k : MemberId) → counts_of y.printed k ≡ counts_of x.printed k
  only_counts x y frame k = ap (λ (q : Parts P C). counts_of q.printed k) frame

  aside_counts : (x y : Parts P C) (m : Member) (s : State) (was is : Option (List ℕ)) (r : Result Found NodeNo) → ActsAfter plants x y m s was is r → (k : MemberId) → k ≢ m.id → counts_of y.printed k ≡ counts_of x.printed k
  aside_counts x y m (Away (PrintLines n i last p)) was is r a k other = a.1.counts k (λ same. other (ap member_of same))
  aside_counts x y m (Away (SpoolDeck n text)) was is r a k other = only_counts x y a.0 k
  aside_counts x y m (Away (ReadText runs n fields p)) was is r a k other = only_counts x y a.0 k
  aside_counts x y m (Away (SpoolOutputs n specs p)) was is r a k other = only_counts x y a.0 k
  aside_counts x y m (Away (Exchange l offer)) was is r a k other = only_counts x y a.0 k
  aside_counts x y m (Away (SpoolArrival number job cards service)) was is r a k other = only_counts x y a.0 k
  aside_counts x y m (Away (Acknowledge number service)) was is r a k other = only_counts x y a.0 k
  aside_counts x y m (Fresh task) was is r a k other = ap (λ (q : Parts P C). counts_of q.printed k) a.0
  aside_counts x y m (Rested p) was is r a k other = ap (λ (q : Parts P C). counts_of q.printed k) a.0
  aside_counts x y m Told was is r a k other = ap (λ (q : Parts P C). counts_of q.printed k) a.0

  pub aside_acts : (x y : Parts P C) (m : Member) (s : Stand) (r : Result Stands NodeNo) → ActsBy plants copies x y m s r → TurnActs plants m.id x y (done_of r)
  aside_acts x y m s (Ok next) o =
      let at = o.0 in
      let is = o.1 in
      let a = o.4 in
      from_acted m.id x y (Ok tt)
      (acted_ok plants copies x y m.id at.found (only_these (Ok at.found) m.id x y (changed_only plants copies x y m s.state (Some []) is (Ok at.found) a)) (acts_beside plants copies x y m s.state (Some []) is (Ok at.found) a))
      (beside_once x y (only_these (Ok at.found) m.id x y (changed_only plants copies x y m s.state (Some []) is (Ok at.found) a)) (acts_beside plants copies x y m s.state (Some []) is (Ok at.found) a).beside)
      (aside_counts x y m s.state (Some []) is (Ok at.found) a)
  aside_acts x y m s (Err e) o =
      let is = o.0 in
      let a = o.1 in
      from_acted m.id x y (Err e)
      (acted_err plants copies x y m.id e (only_these {T = Found} (Err e) m.id x y (changed_only plants copies x y m s.state (Some []) is (Err e) a)) (acts_beside plants copies x y m s.state (Some []) is (Err e) a))
      (beside_once x y (only_these {T = Found} (Err e) m.id x y (changed_only plants copies x y m s.state (Some []) is (Err e) a)) (acts_beside plants copies x y m s.state (Some []) is (Err e) a).beside)
      (aside_counts x y m s.state (Some []) is (Err e) a)

  -- A LINE THAT RESETS

  pub resets_acts : (h : Holder) (of : MemberId) (x y : Parts P C) (pages : ℕ) (r : Result (Unit {0}) NodeNo) → HasResetBy plants copies h of x y pages r → TurnActs plants h.by x y r
  resets_acts h of x y pages r o = from_acted h.by x y r o.acts o.once o.counts

  -- A TAKEOVER

  module _ (by : MemberId) (some : 1 ≤ by.0) where
    taken_acts : (of : MemberId) (x mid : Parts P C) (found : Fate) → IsTaken plants copies by of x mid found → TurnActs plants by x mid (Ok tt)
    taken_acts of x mid found t = record {
      passage = counted_passage by.0 false (pair_state plants.view x) (pair_state plants.view mid) t.counts;
      once = record { first = t.counts.first.once; second = t.counts.second.once };
      spares = counted_spares by.0 false (pair_state plants.view x) (pair_state plants.view mid) t.counts some;
      cause = inl t.some;
      notes = notes_same by x.had mid.had t.had;
      counts = λ m other. ap (λ (l : List ℕ). counts_of l m) t.printed;
    }

    untaken_cause : (e : NodeNo) (x y : Parts P C) → TakeCauses plants copies e by x y → CopiesLeft plants copies e y → StepCauses {T = Unit {0}} (Err e) by.0 (pair_at x.first_alive x.second_alive (view x)) (pair_at y.first_alive y.second_alive (view y))
    untaken_cause no_node.BothLost x y cause left = cause
    untaken_cause no_node.Halted x y cause left = (inl left, cause)
    untaken_cause no_node.NoMemory x y cause left = inl left
    untaken_cause no_node.ConsoleFault x y cause left = absurd cause

    untaken_acts : (of : MemberId) (x y : Parts P C) (e : NodeNo) → IsUntaken plants copies by of x y e → TurnActs plants by x y (Err e)
    untaken_acts of x y e u = record {
      passage = counted_passage by.0 (is_stop e) (pair_state plants.view x) (pair_state plants.view y) u.counts;
      once = record { first = u.counts.first.once; second = u.counts.second.once };
      spares = counted_spares by.0 (is_stop e) (pair_state plants.view x) (pair_state plants.view y) u.counts some;
      cause = untaken_cause e x y u.cause u.some;
      notes = notes_same by x.had y.had u.had;
      counts = λ m other. ap (λ (l : List ℕ). counts_of l m) u.printed;
    }

    pub takes_acts : (at : ℕ) (of : MemberId) (x y : Parts P C) (r : Result (Unit {0}) NodeNo) → TakesBy plants copies by at of x y r → TurnActs plants by x y r
    takes_acts at of x y (Ok done) o =
        let there = then_acts plants by x o.mid o.there (Ok tt) (taken_acts of x o.mid o.found o.taken_over) (gave_acts _ of o.mid o.there (Ok o.end) o.reset) in
        acts_to plants by x _ y (Ok tt) o.frame (acts_booked plants by x o.there _ (Ok tt) there)
    takes_acts at of x y (Err e) o = ⊎_elim
        (λ u. untaken_acts of x y e u)
        (λ b. then_acts plants by x b.mid y (Err e) (taken_acts of x b.mid b.found b.taken_over)
        (⊎_elim (λ took. seat_acts by b.mid y (Err e) took) (λ reset. gave_acts _ of b.mid y (Err e) reset) b.why)) o

    -- a line that takes over first, then resets
    then_resets : (at : ℕ) (of : MemberId) (x y : Parts P C) (pages : ℕ) (r : Result (Unit {0}) NodeNo) → TakesAndResets plants copies by at of x y pages r → TurnActs plants by x y r
    then_resets at of x y pages r t = then_acts plants by x t.mid y r (taken_acts of x t.mid t.found t.taken) (resets_acts _ of t.mid y pages r t.reset)

    pub closes_acts : (at : ℕ) (of : MemberId) (x y : Parts P C) (pages : ℕ) (r : Result (Unit {0}) NodeNo) → ClosesTaken plants copies by at of x y pages r → TurnActs plants by x y r
    closes_acts at of x y pages (Ok done) t = then_resets at of x y pages (Ok done) t
    closes_acts at of x y pages (Err e) t = ⊎_elim (λ u. untaken_acts of x y e u) (λ k. then_resets at of x y pages (Err e) k) t

-- LINES THAT ONLY CLOSE, said by the member or by the operator

says_by : {A : Type 0} (sayer by : MemberId) → (sayer ≡ nobody) ⊎ ((sayer ≡ by) × A) → (sayer ≡ nobody) ⊎ (sayer ≡ by)
says_by sayer by says = ⊎_elim (λ none. inl none) (λ same. inr same.0) says

module _ (by sayer : MemberId) (old new : View) (says : (sayer ≡ nobody) ⊎ (sayer ≡ by)) where
  -- the operator is never stopped
  none_halted : Spares sayer.0 true old new → sayer ≡ nobody → ⊥
  none_halted spares none = let some = spares.operator refl in let zero : sayer.0 ≡ 0 = ap (λ (m : MemberId). m.0) none in absurd (omega (arith, some, zero))

  said_spares : (r : Result (Unit {0}) NodeNo) → Spares sayer.0 (stopped_in r) old new → Spares by.0 (stopped_in r) old new
  said_spares (Ok done) spares = spares_for by.0 sayer.0 old new spares
  said_spares (Err no_node.NoMemory) spares = spares_for by.0 sayer.0 old new spares
  said_spares (Err no_node.BothLost) spares = spares_for by.0 sayer.0 old new spares
  said_spares (Err no_node.ConsoleFault) spares = spares_for by.0 sayer.0 old new spares
  said_spares (Err no_node.Halted) spares = ⊎_elim (λ none. absurd (none_halted spares none)) (λ same. subst (λ (m : MemberId). Spares m.0 true old new) same spares) says

  said_cause : (a b : Bool) (r : Result (Unit {0}) NodeNo) → Spares sayer.0 (stopped_in r) old new → HasCause r sayer.0 old new → StepCauses r by.0 (pair_at a b old) (pair_at a b new)
  said_cause a b (Ok done) spares cause = inr (refl, refl)
  said_cause a b (Err no_node.NoMemory) spares cause = inr (refl, refl)
  said_cause a b (Err no_node.BothLost) spares cause = absurd cause
  said_cause a b (Err no_node.ConsoleFault) spares cause = (inr (refl, refl), cause)
  said_cause a b (Err no_node.Halted) spares cause = (inr (refl, refl), ⊎_elim (λ none. absurd (none_halted spares none)) (λ same. subst (λ (m : MemberId). Rose (old.stops m.0) (new.stops m.0)) same cause) says)

-- acts on the console lose no copy
pub said_passage : (told : Type 0) (a b : Bool) (old new : View) → OnConsole told old new → Passage a a b b old new
said_passage told a b old new acts = record {
  goes = acts.goes;
  failed1 = λ is not. absurd (no a is not);
  failed2 = λ is not. absurd (no b is not);
  there1 = λ is there. acts.lost Ckpt1 ∙ there;
  there2 = λ is there. acts.lost Ckpt2 ∙ there;
  alive1 = λ is. is;
  alive2 = λ is. is;
  grow = λ d. inl (acts.loses d);
}

module _ {P C : Type 0} where
  -- only the book and what was reserved may differ
  booked : (y b : Parts P C) → y ≡ b → y ≡ record b { book = y.book; reserved = y.reserved }
  booked y b e =
      e
      ∙ ap (λ (k : Book). record b { book = k }) (sym (ap (λ (q : Parts P C). q.book) e))
      ∙ ap (λ (o : Option (List Entry)). record b { book = y.book; reserved = o }) (sym (ap (λ (q : Parts P C). q.reserved) e))

  said_frame : (r : Result (Unit {0}) NodeNo) (by : MemberId) (x y : Parts P C) → y ≡ stopped_so r by (record x { plant = y.plant }) → y ≡ record x { plant = y.plant; book = y.book; reserved = y.reserved }
  said_frame (Ok done) by x y e = booked y (record x { plant = y.plant }) e
  said_frame (Err no_node.NoMemory) by x y e = booked y (record x { plant = y.plant }) e
  said_frame (Err no_node.BothLost) by x y e = booked y (record x { plant = y.plant }) e
  said_frame (Err no_node.ConsoleFault) by x y e = booked y (record x { plant = y.plant }) e
  said_frame (Err no_node.Halted) by x y e = booked y (record x { plant = y.plant; book = after_stop x.book by; reserved = reserved_after_stop by x.reserved }) e

module _ {P C : Type 0} (plants : PlantGhosts P) (copies : CopyGhosts C) where
  abbrev shown : Parts P C → View
  shown x = plants.view x.plant

  pub refused_acts : (r : Raced) (sayer : MemberId) (end : Closing) (x y : Parts P C) (result : Result Stands NodeNo) → (sayer ≡ nobody) ⊎ (sayer ≡ r.by) → ClosesRefused plants copies r sayer end x y result → TurnActs plants r.by x y (done_of result)
  refused_acts r sayer end x y result says o =
      let q : Result (Unit {0}) NodeNo = done_of result in
      let S : Scene = record (scene_of x.base) { book = x.book } in
      let closed : HasClosed plants S r.by r.number (Refused sayer end) sayer x y q = o.closed S (record { book = refl; flight = λ locked. refl }) in
      acts_to plants r.by x (record x { plant = y.plant; book = y.book; reserved = y.reserved }) y q (said_frame q r.by x y o.frame) (record {
        passage = said_passage plants.tells x.first_alive x.second_alive (shown x) (shown y) closed.acts;
        once = record { first = inl (closed.acts.loses Ckpt1); second = inl (closed.acts.loses Ckpt2) };
        spares = said_spares r.by sayer (shown x) (shown y) says q closed.spares;
        cause = said_cause r.by sayer (shown x) (shown y) says x.first_alive x.second_alive q closed.spares closed.cause;
        notes = notes_none r.by x.had;
        counts = λ m other. refl;
      })

  -- A TURN

  module _ (r : Raced) (some : 1 ≤ r.by.0) (x y : Parts P C) (m n : Member) (result : Result Stands NodeNo) (mine : m.id ≡ r.by) where
    abbrev Acts : Type 0
    Acts = TurnActs plants r.by x y (done_of result)

    -- nothing was done
    idle_acts : IsIdleTurn plants copies x y m n result → Acts
    idle_acts idle = ⊎_elim
        (λ lost. subst (λ (q : Result Stands NodeNo). TurnActs plants r.by x y (done_of q)) (sym lost.0)
        (acts_to plants r.by x x y (Err no_node.BothLost) idle.frame (let none = none_acts plants r.by x in record { passage = none.passage; once = none.once; spares = none.spares; cause = lost.1; notes = none.notes; counts = none.counts })))
        (λ out. subst (λ (q : Result Stands NodeNo). TurnActs plants r.by x y (done_of q)) (sym out.0)
        (acts_to plants r.by x x y (Err no_node.NoMemory) idle.frame (let none = none_acts plants r.by x in record { passage = none.passage; once = none.once; spares = none.spares; cause = none.cause; notes = none.notes; counts = none.counts })))
        idle.answer

    -- only the lock was tried for
    still_acts : (z : Parts P C) → WaitsOn plants copies (stood_of r) z y result → TurnActs plants r.by z y (done_of result)
    still_acts z w = subst (λ (q : Result Stands NodeNo). TurnActs plants r.by z y (done_of q)) (sym w.answer) (acts_to plants r.by z z y (Ok tt) w.frame (none_acts plants r.by z))

    -- a stopped member's lock is taken over, or the line goes on
    unless_acts : (l : Option MemberId) (z : Parts P C) (A : Type 0) → (A → TurnActs plants r.by z y (done_of result)) → UnlessLeft plants copies l (stood_of r) z y result A → TurnActs plants r.by z y (done_of result)
    unless_acts None z A f u = f u
    unless_acts (Some of) z A f u = takes_acts plants copies r.by some r.number of z y (done_of result) u.takes

    opens_acts : (a : Admission) → IsKnown x.base x.book r.by a → OpensAs plants copies r x y m n result a → Acts
    opens_acts (Refused sayer end) known o = refused_acts r sayer end x y result (says_by sayer r.by known.0) o
    opens_acts (Denied why) known o =
        let z : Parts P C = record x { book = after_try x.book r.by false } in
        acts_tried plants r.by x y _ (done_of result) (unless_acts (left_holder x.book) z (WaitsOn plants copies (stood_of r) z y result) (still_acts z) o)
    opens_acts (Plays task) known o =
        let z : Parts P C = record x { book = after_try x.book r.by false } in
        acts_tried plants r.by x y _ (done_of result) (sits_acts plants copies _ z y n result o)
    opens_acts (Resets of) known o =
        let z : Parts P C = record x { book = after_try x.book r.by false } in
        acts_tried plants r.by x y _ (done_of result) (resets_acts plants copies _ of z y _ (done_of result) o.1)
    opens_acts (TakesOver of) known o = closes_acts plants copies r.by some r.number of x y _ (done_of result) o.1
    opens_acts (Replaces dev) known o = absurd o
    opens_acts Locks known o = absurd o
    opens_acts Frees known o = absurd o
    opens_acts Unplayed known o = absurd o

    goes_acts : IsAsked x.base r.by r.what → (s : Stands) → ((at : Stand) → s ≡ line.Sits at → at.holder.by ≡ r.by) → GoesAs plants copies r x y m n result s → Acts
    goes_acts asked line.Opens its o = opens_acts (admitted x.base.config x.book r.by r.what) (asked.known x.book) o
    goes_acts asked (line.Sits at) its o =
        unless_acts (left_holder x.book) x _ (λ u. subst (λ (k : MemberId). TurnActs plants k x y (done_of result)) (its at refl) (sits_acts plants copies _ x y n result u)) o
    goes_acts asked (line.Acts at) its o =
        unless_acts (left_holder x.book) x _ (λ u. subst (λ (k : MemberId). TurnActs plants k x y (done_of result)) mine (aside_acts plants copies x y m at result u.0)) o
    goes_acts asked line.Closed its o = still_acts x o

    -- whatever it did
    pub tries_acts : IsAsked x.base r.by r.what → ((at : Stand) → r.stands ≡ line.Sits at → at.holder.by ≡ r.by) → TriesBy plants copies r x y m n result → Acts
    tries_acts asked its t = ⊎_elim (λ idle. idle_acts idle) (λ goes. goes_acts asked r.stands its goes.2) t

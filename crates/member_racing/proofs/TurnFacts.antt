-- What a value shows its member after a turn: it is the turn that the queue and the book gave, and what was left of it.
use Rattle.std.proofs.Common.{◌≡◌, ◌≢◌, ◌∙◌, inl, inr, ⊎_elim, ◌==◌, ◌||◌, ◌≤◌, if◌then◌else◌, ℕ, Bool, true, false, List, [], ◌∷◌, ◌++◌, append-nil, drop, filter, length, map, take, All, IfOk, Option, Some, None, Result, Ok, Err, ap, refl, subst, sym, arith}
use Rattle.std.specs.Prelude.{slice_index_or}
use Rattle.std.specs.Coded.{le_prop}
use Rattle.std.proofs.Math.Logic.{∥∥₁_elim}
use Rattle.std.proofs.Math.Seq.{drop-append_seam, take-append_seam}
use Rattle.std.proofs.lemmas.Bool.{eq-eqb}
use Rattle.std.proofs.lemmas.List.{append_assoc, drop-append-le, length-append, map-append}
use Rattle.std.proofs.lemmas.List.Elements.{All-append, All-cons, All-head, All-nil, All-tail, filter-append}
use Rattle.mas_types.specs.declared.answers.Closing.TheVariants as closing
use Rattle.mas_types.specs.declared.ids.MemberId.{MemberId}
use Rattle.mas_types.specs.declared.journals.Batch.{Batch}
use Rattle.mas_types.specs.declared.journals.Entry.{Entry}
use Rattle.mas_types.specs.declared.journals.Fate.{Fate}
use Rattle.mas_types.specs.declared.journals.Fate.TheVariants.{Dropped, Flying, Kept}
use Rattle.mas_types.specs.declared.queues.Queue.{Queue}
use Rattle.mas_types.specs.Closings.{closing_line}
use Rattle.mas_types.specs.Ids.{same_member}
use Rattle.mas_types.specs.Journal.{is_kept}
use Rattle.mas_types.specs.Limits.{members_most}
use Rattle.mas_types.specs.Run.{run}
use Rattle.lock_cycle.specs.Books.{Book, is_stopped}
use Rattle.script_lang.specs.declared.types.Ask.{Ask}
use Rattle.spool_plant.specs.Acts.{Goes, Rose, next}
use Rattle.spool_plant.specs.View.{Line, View, World}
use Rattle.spool_plant.specs.declared.plant.Plant.{Ghosts as PlantGhosts}
use Rattle.ckpt_copy.specs.declared.copying.Copying.{Ghosts as CopyGhosts}
use Rattle.ckpt_copy.specs.Moments.{goes_none}
use Rattle.ckpt_form.specs.declared.steady.Steady.{Ghosts as SteadyGhosts}
use Rattle.gate_turns.specs.Shared.{begun_by, said_since}
use Rattle.gate_turns.specs.Words.{lines_by, speaker}
use Rattle.gate_turns.proofs.Actors.{lines_named}
use Rattle.gate_turns.proofs.KeptSame.{begun_append}
use Rattle.mas_complex.proofs.Batches.{kept_all_append}
use Rattle.mas_complex.specs.declared.complex.Complex.{Complex}
use Rattle.mas_complex.specs.Journals.{in_flight, kept_all}
use Rattle.mas_complex.specs.Paper.{counts_of}
use Rattle.mas_complex.specs.Parts.{Parts, parts_of, shown_of, unreserved_in}
use Rattle.mas_race.specs.Between.{BetweenTurns}
use Rattle.run_turns.specs.Cuts.{Left, entries_of, whole}
use Rattle.run_turns.specs.Scenes.{Batched, kept_in, kept_of}
use Rattle.run_turns.specs.Sights.{Cause, Cut, Ends, Halt, Stops}
use Rattle.run_turns.specs.Steps.{Said, cause_of, stopped_lines}
use Rattle.race_turns.specs.Races.{left_at, Taken, ends_in, queue_at, stage_left, stops_in, turn_left, whole_texts}
use Rattle.race_turns.specs.Sides.{Takes}
use Rattle.race_turns.specs.Turns.{Acts, Closed, Opens, Sits, Stage, Turn, turn_at}
use Rattle.step_turns.specs.States.{nothing_found}
use Rattle.step_turns.specs.declared.states.Found.{Found}
use Rattle.step_turns.specs.declared.states.State.{State}
use Rattle.member_node.specs.Calls.{console_now}
use Rattle.member_node.specs.Spares.{is_stop, stopped_in}
use Rattle.member_node.specs.declared.member.Member.{Member}
use Rattle.member_node.specs.declared.member.NodeNo.{NodeNo}
use Rattle.member_node.specs.declared.member.NodeNo.TheVariants as no_node
use Rattle.member_sittings.specs.Sat.{journal_of}
use Rattle.member_sittings.specs.Whole.{queue_of}
use Rattle.member_resets.specs.Cuts.{AreBatched, IsBatched, IsHaltBy, cause_by}
use Rattle.member_resets.specs.Found.{IsFoundAt}
use Rattle.member_resets.specs.Plays.{played_in}
use Rattle.member_resets.proofs.Cutting.{cut_at}
use Rattle.member_resets.proofs.Following.{found_in}
use Rattle.member_lines.specs.Closes.{ActsOnce, stopped_said}
use Rattle.member_resets.specs.Settling.{settle}
use Rattle.member_resets.proofs.BookLemmas.{stopped_now}
use Rattle.member_racing.specs.Opened.{Tries, done_of}
use Rattle.member_racing.specs.Stages.{Raced, stage_of}
use Rattle.member_racing.specs.Turned.{IfActed, IsCutBy, IsUnsaid, TakesTurn, asked_in, shows, standing_in}
use Rattle.member_racing.specs.Turning.{EndsTurn, closed_by, raced_at}
use Rattle.member_racing.specs.Waits.{Waits, WaitsAt}
use Rattle.member_racing.specs.declared.stages.Stage.{Stage as Stands}
use Rattle.member_racing.specs.declared.stages.Stage.TheVariants as line
use Rattle.member_racing.proofs.ActedLeft.{calm_here}
use Rattle.member_resets.proofs.SettleLemmas.{settle_none}
use Rattle.member_racing.proofs.Adding.{end_base, end_journal}
use Rattle.member_racing.proofs.BooksStill.{tries_still}
use Rattle.member_racing.proofs.Costing.{TurnActs}
use Rattle.member_racing.proofs.Histories.{journal_kept}
use Rattle.member_racing.proofs.Journaled.{journal_begun}
use Rattle.member_racing.proofs.Later.{begun_at, desk_at, lines_at, stopped_at}
use Rattle.member_racing.proofs.Members.{few_of, named_own, some_of}
use Rattle.member_racing.proofs.Settled.{found_of, kept_settled, settle_begun}
use Rattle.member_racing.proofs.TurnKinds.{halts_early, went}
use Rattle.member_racing.proofs.TurnLeft.{HasGone, IsCutOf, IsOwnText, OwnLines, left_pieces, queue_found, turn_in}
use Rattle.member_racing.proofs.TurnParts.{acts_end, acts_tried, its_by, may_end, rose_halted}
use Rattle.member_racing.proofs.TurnSits.{gone_nothing}

-- WHAT STANDS IN THE JOURNAL of what was left

same_itself : (m : MemberId) → same_member m m ≡ true
same_itself m = eq-eqb m.0 m.0 refl

module _ (by : MemberId) where
  one_entries : (b : Batched) (from now : ℕ) (c : Batch) (f : Fate) → IsBatched f by b from now c → (if same_member c.by by then c.entries else []) ≡ b.entries
  one_entries b from now c Kept is = ap (λ (k : MemberId). if same_member k by then c.entries else []) is.by_it ∙ ap (λ (t : Bool). if t then c.entries else []) (same_itself by) ∙ is.entries
  one_entries b from now c Flying is = ap (λ (k : MemberId). if same_member k by then c.entries else []) is.by_it ∙ ap (λ (t : Bool). if t then c.entries else []) (same_itself by) ∙ is.entries
  one_entries b from now c Dropped is = absurd is

  one_kept : (b : Batched) (from now : ℕ) (c : Batch) (f : Fate) → IsBatched f by b from now c → (if is_kept c.fate then c.entries else []) ≡ kept_of f b.entries
  one_kept b from now c Kept is = ap (λ (f : Fate). if is_kept f then c.entries else []) is.kept ∙ is.entries
  one_kept b from now c Flying is = ap (λ (f : Fate). if is_kept f then c.entries else []) is.flies
  one_kept b from now c Dropped is = absurd is

  batched_begun : (from now : ℕ) (bs : List Batched) (cs : List Batch) → AreBatched by from now bs cs → begun_by by cs ≡ entries_of bs
  batched_begun from now [] [] is = refl
  batched_begun from now [] (c ∷ cs) is = absurd is
  batched_begun from now (b ∷ bs) [] is = absurd is
  batched_begun from now (b ∷ bs) (c ∷ cs) is =
      ap (λ (es : List Entry). es ++ begun_by by cs) (one_entries b from now c b.fate is.0) ∙ ap (λ (es : List Entry). b.entries ++ es) (batched_begun c.last now bs cs is.1)

  batched_kept : (from now : ℕ) (bs : List Batched) (cs : List Batch) → AreBatched by from now bs cs → kept_all cs ≡ kept_in bs
  batched_kept from now [] [] is = refl
  batched_kept from now [] (c ∷ cs) is = absurd is
  batched_kept from now (b ∷ bs) [] is = absurd is
  batched_kept from now (b ∷ bs) (c ∷ cs) is =
      ap (λ (es : List Entry). es ++ kept_all cs) (one_kept b from now c b.fate is.0) ∙ ap (λ (es : List Entry). kept_of b.fate b.entries ++ es) (batched_kept c.last now bs cs is.1)

-- who says a line, and the queue, make no difference to what is left of pieces
left_alike : (by : MemberId) (t : Turn) (b : Book) (Q R : Queue) (count : ℕ) (cut : Option Cut) → left_at by count cut t b Q ≡ left_pieces by t.pieces b R count cut
left_alike by t b Q R count None = refl
left_alike by t b Q R count (Some c) = refl

-- LINES of the member, behind those that stood

module _ (members : ℕ) (m : ℕ) where
  abbrev IsTheirs : Line → Type 0
  IsTheirs l = l.whole ≡ true → speaker members l.text ≡ m

  keep_one : (l : Line) (ls : List Line) → lines_by members m (whole_texts ls) ≡ whole_texts ls → (b : Bool) → b ≡ true → (if b then l.text ∷ lines_by members m (whole_texts ls) else lines_by members m (whole_texts ls)) ≡ l.text ∷ whole_texts ls
  keep_one l ls same true is = ap (λ (ts : List (List ℕ)). l.text ∷ ts) same
  keep_one l ls same false is = absurd (cc)

  keep_whole : (l : Line) (ls : List Line) → lines_by members m (whole_texts ls) ≡ whole_texts ls → (b : Bool) → (b ≡ true → speaker members l.text ≡ m) → lines_by members m (map (λ (j : Line). j.text) (if b then l ∷ filter (λ (j : Line). j.whole) ls else filter (λ (j : Line). j.whole) ls))
      ≡ map (λ (j : Line). j.text) (if b then l ∷ filter (λ (j : Line). j.whole) ls else filter (λ (j : Line). j.whole) ls)
  keep_whole l ls same true f = keep_one l ls same (speaker members l.text == m) (eq-eqb (speaker members l.text) m (f refl))
  keep_whole l ls same false f = same

  all_named : (ls : List Line) → All IsTheirs ls → lines_by members m (whole_texts ls) ≡ whole_texts ls
  all_named [] all = refl
  all_named (l ∷ ls) all = keep_whole l ls (all_named ls (All-tail IsTheirs l ls all)) l.whole (All-head IsTheirs l ls all)

  lines_more : (was more : List Line) (n : ℕ) → n ≤ length was → All IsTheirs more → lines_by members m (whole_texts (drop n (was ++ more))) ≡ lines_by members m (whole_texts (drop n was)) ++ whole_texts more
  lines_more was more n le all =
      ap (λ (ls : List Line). lines_by members m (whole_texts ls)) (drop-append-le n was more le)
      ∙ ap (λ (ls : List Line). lines_by members m (map (λ (j : Line). j.text) ls)) (filter-append (λ (j : Line). j.whole) (drop n was) more)
      ∙ ap (lines_by members m) (map-append (λ (j : Line). j.text) (filter (λ (j : Line). j.whole) (drop n was)) (filter (λ (j : Line). j.whole) more))
      ∙ filter-append (λ (l : List ℕ). speaker members l == m) (whole_texts (drop n was)) (whole_texts more)
      ∙ ap (λ (ls : List (List ℕ)). lines_by members m (whole_texts (drop n was)) ++ ls) (all_named more all)

-- WHAT IS CUT

-- where the operator couldn't say that its member was stopped, the run ended for it
abbrev pub unsaid_at : Halt → Cut
unsaid_at halt = record { sittings = 0; halt = halt; cause = Ends }

true_false : true ≡ false → ⊥
true_false e = absurd (cc)

or_none : (b : Bool) → b ≡ (b || false)
or_none true = refl
or_none false = refl

or_some : (b : Bool) → (b || true) ≡ true
or_some true = refl
or_some false = refl

module _ {P C : Type 0} {plants : PlantGhosts P} {steadies : SteadyGhosts C} {copies : CopyGhosts C} (x mid : Complex P C plants steadies copies) (m n : Member) (at : ℕ) (what : Ask) (s : Stands) (tried : Result Stands NodeNo) (rest : BetweenTurns x) (waits : Waits x m at what s)
    (tries : Tries (raced_at m.id at what s) x mid m n tried) (frame : parts_of mid ≡ played_in (parts_of mid) (parts_of x)) (y : Complex P C plants steadies copies) (result : Result Stands NodeNo) (ends : EndsTurn m.id at mid y tried result) where
  abbrev by : MemberId
  by = m.id

  abbrev r : Raced
  r = raced_at by at what s

  abbrev p : Parts P C
  p = parts_of x

  abbrev v : Complex P C plants steadies copies → View
  v c = plants.view c.plant

  some : 1 ≤ by.0
  some = some_of x.base.config by waits.member

  few : by.0 ≤ members_most
  few = few_of x.base.config by waits.member waits.config

  base_mid : mid.base ≡ x.base
  base_mid = ap (λ (q : Parts P C). q.base) frame

  base : y.base ≡ x.base
  base = (end_base by at mid y tried result ends).base ∙ base_mid

  since : y.since ≡ x.since
  since = (end_base by at mid y tried result ends).since ∙ ap (λ (q : Parts P C). q.since) frame

  goes : Goes (v x) (v y)
  goes = (acts_end x mid m n at what s tried rest waits tries y result ends).passage.goes

  -- WHAT IT LEFT, before it was ended

  module _ (t : plants.tells) where
    queue_still : queue_found plants copies p Flying 0 ≡ queue_of p
    queue_still = ap (run x.base) (kept_settled x Flying 0 ∙ append-nil (kept_all x.journal.batches))

    -- acts aside that weren't done find what is as it is
    calm_found : (q : Stands) → s ≡ q → (found : Found) × IfActed x.book (stage_of q) (λ state. IsFoundAt x.base.config.groups by (v x) (v mid) (queue_found plants copies p Flying 0) state found)
    calm_found line.Opens is = (nothing_found, tt)
    calm_found (line.Sits stand) is = (nothing_found, tt)
    calm_found line.Closed is = (nothing_found, tt)
    calm_found (line.Acts stand) is =
        let its : WaitsAt plants copies p m at (line.Acts stand) = subst (λ (q : Stands). WaitsAt plants copies p m at q) is waits.stands in
        let calm = calm_here plants copies p (parts_of mid) m t (rest.roomy t) stand.state its.goes.off (its.goes.mine t) in (
          calm.0,
          λ left. subst (λ (Q : Queue). IsFoundAt x.base.config.groups by (v x) (v mid) Q stand.state calm.0) (sym queue_still) calm.1,
        )

    nothing_left : (e : NodeNo) → e ≢ no_node.ConsoleFault → parts_of mid ≡ p → HasGone plants copies r p (parts_of mid) (Err e)
    nothing_left e unlike same =
        let calm = calm_found s refl in
        gone_nothing plants copies r p (parts_of mid) e (halts_early e unlike) calm.0 (ap (λ (q : Parts P C). journal_of q) same ∙ sym (settle_none 0 (journal_of p))) (ap (λ (q : Parts P C). console_now (plants.view q.plant)) same) calm.1

    pub gone : HasGone plants copies r p (parts_of mid) tried
    gone = ⊎_elim
        (λ idle. ⊎_elim
        (λ lost. subst (HasGone plants copies r p (parts_of mid)) (sym lost.0) (nothing_left no_node.BothLost (λ e. absurd (cc)) idle.frame))
        (λ out. subst (HasGone plants copies r p (parts_of mid)) (sym out.0) (nothing_left no_node.NoMemory (λ e. absurd (cc)) idle.frame)) idle.answer)
        (λ went_so. went x m n at what s rest waits (parts_of mid) tried went_so.0 went_so.1 base_mid t went_so.2) tries

    abbrev f : Fate
    f = gone.found

    abbrev moment : ℕ
    moment = gone.moment

    abbrev count : ℕ
    count = counts_of x.printed by

    abbrev front : List Batch
    front = settle f moment (journal_of p)

    abbrev turn_mid : Turn
    turn_mid = turn_in plants copies r p f moment gone.inked gone.saw

    abbrev left_mid : Option Cut → Left
    left_mid cut = left_pieces by turn_mid.pieces x.book (queue_found plants copies p f moment) count cut

    -- what the cut was once the turn was ended, and what more was said then
    pub record IsEnded (cut : Option Cut) : Type 0 where
      pub batches : (left_mid cut).batches ≡ (left_mid gone.cut).batches
      pub console : console_now (v y) ≡ console_now (v mid) ++ map (λ (l : Said). l.line) (stopped_lines by at (cause_of cut))
      pub lines : (left_mid cut).lines ≡ (left_mid gone.cut).lines
      pub count : cut ≡ None → (gone.cut ≡ None) × (y.printed ≡ mid.printed)
      pub stops : ends_in cut ≡ false → is_stopped y.book by ≡ (is_stopped x.book by || stops_in cut)
      pub by_answer : IsCutBy result by cut (v x) (v y)
      pub next : IfOk result (λ q. stage_of q ≡ stage_left cut turn_mid.next)
      pub found : (state : State) (Q : Queue) (found : Found) → IsFoundAt x.base.config.groups by (v x) (v mid) Q state found → IsFoundAt x.base.config.groups by (v x) (v y) Q state found

    same_view : parts_of y ≡ parts_of mid → v y ≡ v mid
    same_view same = ap (λ (q : Parts P C). plants.view q.plant) same

    unreserved_view : parts_of y ≡ unreserved_in (parts_of mid) → v y ≡ v mid
    unreserved_view same = ap (λ (q : Parts P C). plants.view q.plant) same

    found_by : v y ≡ v mid → (state : State) (Q : Queue) (found : Found) → IsFoundAt x.base.config.groups by (v x) (v mid) Q state found → IsFoundAt x.base.config.groups by (v x) (v y) Q state found
    found_by same state Q found is = subst (λ (u : View). IsFoundAt x.base.config.groups by (v x) u Q state found) (sym same) is

    console_by : v y ≡ v mid → console_now (v y) ≡ console_now (v mid) ++ []
    console_by same = ap (λ (u : View). console_now u) same ∙ sym (append-nil (console_now (v mid)))

    -- nobody else was stopped, and the member only where it was halted
    up_stops : (e : Result Stands NodeNo) → tried ≡ e → stopped_in (done_of e) ≡ false → v y ≡ v mid → (v y).stops by.0 ≡ (v x).stops by.0
    up_stops e is unhalted same =
        let a : TurnActs plants by p (parts_of mid) (done_of e) = subst (λ (q : Result Stands NodeNo). TurnActs plants by p (parts_of mid) (done_of q)) is (acts_tried x mid m n at what s tried rest waits tries) in
        ap (λ (u : View). u.stops by.0) same ∙ a.spares.stops by.0 (inr unhalted)

    -- IT ENDED WELL
    well : (q : Stands) → tried ≡ Ok q → EndsTurn by at mid y (Ok q) result → IsEnded None
    well q is e =
        let same = same_view e.0 in
        let uncut : gone.cut ≡ None = subst (λ (k : Result Stands NodeNo). IsCutOf plants copies k gone.cut) is gone.by_answer in
        let still : is_stopped mid.book by ≡ is_stopped x.book by = tries_still plants copies r p (parts_of mid) m n tried refl (its_by x mid m n at what s tried rest waits tries) tries (λ halted. not_err q is halted) in
        record {
          batches = ap (λ (c : Option Cut). (left_mid c).batches) (sym uncut);
          console = console_by same;
          lines = ap (λ (c : Option Cut). (left_mid c).lines) (sym uncut);
          count = λ none. (uncut, ap (λ (k : Parts P C). k.printed) e.0);
          stops = λ goes_on. ap (λ (k : Parts P C). is_stopped k.book by) e.0 ∙ still ∙ or_none (is_stopped x.book by);
          by_answer = subst (λ (k : Result Stands NodeNo). IsCutBy k by None (v x) (v y)) (sym e.1) (up_stops (Ok q) is refl same);
          next = subst (λ (k : Result Stands NodeNo). IfOk k (λ q. stage_of q ≡ turn_mid.next)) (sym e.1) (subst (λ (k : Result Stands NodeNo). IfOk k (λ q. stage_of q ≡ turn_mid.next)) is gone.next);
          found = found_by same;
        }
      where
        not_err : (q : Stands) → tried ≡ Ok q → done_of tried ≡ Err no_node.Halted → ⊥
        not_err q is halted = absurd (let both : (let d : Result (Unit {0}) NodeNo = Ok tt in d) ≡ Err no_node.Halted = ap done_of (sym is) ∙ halted in cc)

    -- AN ERROR, with nobody stopped
    broke : (e : NodeNo) → e ≢ no_node.Halted → cause_by e ≡ Ends → is_stop e ≡ false → tried ≡ Err e → v y ≡ v mid → result ≡ Err e → IsEnded gone.cut
    broke e unlike ended unstopped is same answer =
        let cut = subst (λ (k : Result Stands NodeNo). IsCutOf plants copies k gone.cut) is gone.by_answer in
        let by_cause : gone.cut ≡ Some (unsaid_at cut.0) = cut.1 ∙ ap (λ (c : Cause). let o : Option Cut = Some (record { sittings = 0; halt = cut.0; cause = c }) in o) ended in
        record {
          batches = refl;
          console = console_by same ∙ ap (λ (c : Option Cut). console_now (v mid) ++ map (λ (l : Said). l.line) (stopped_lines by at (cause_of c))) (sym by_cause);
          lines = refl;
          count = λ none. absurd (some_none (unsaid_at cut.0) (sym by_cause ∙ none));
          stops = λ goes_on. absurd (true_false (sym (ap ends_in by_cause) ∙ goes_on));
          by_answer = subst (λ (k : Result Stands NodeNo). IsCutBy k by gone.cut (v x) (v y)) (sym answer)
              (subst (λ (c : Option Cut). IsCutBy {T = Stands} (Err e) by c (v x) (v y)) (sym by_cause) (refl, refl, inl (record { why = cut.2; other = unlike; up = up_stops (Err e) is unstopped same })));
          next = subst (λ (k : Result Stands NodeNo). IfOk k (λ q. stage_of q ≡ stage_left gone.cut turn_mid.next)) (sym answer) tt;
          found = found_by same;
        }
      where
        some_none : (c : Cut) → Some c ≡ None → ⊥
        some_none c is = absurd (cc)

    -- ITS MEMBER WAS HALTED
    module _ (is : tried ≡ Err no_node.Halted) (e : EndsTurn by at mid y (Err no_node.Halted) result) where
      abbrev halt : Halt
      halt = (subst (λ (k : Result Stands NodeNo). IsCutOf plants copies k gone.cut) is gone.by_answer).0

      cut_is : gone.cut ≡ Some (cut_at no_node.Halted halt)
      cut_is = (subst (λ (k : Result Stands NodeNo). IsCutOf plants copies k gone.cut) is gone.by_answer).1

      halts : IsHaltBy no_node.Halted halt
      halts = (subst (λ (k : Result Stands NodeNo). IsCutOf plants copies k gone.cut) is gone.by_answer).2

      there_view : plants.view e.there.plant ≡ v mid
      there_view = ap (λ (q : Parts P C). plants.view q.plant) e.stopped

      stopped_then : is_stopped y.book by ≡ true
      stopped_then = ap (λ (q : Parts P C). is_stopped q.book by) e.frame ∙ ap (λ (q : Parts P C). is_stopped q.book by) e.stopped ∙ stopped_now mid.book by (may_end x mid m n at what s tried rest waits tries).member

      halted_now : (v mid).halt ≡ (v mid).now
      halted_now = (subst (λ (q : Result Stands NodeNo). TurnActs plants by p (parts_of mid) (done_of q)) is (acts_tried x mid m n at what s tried rest waits tries)).spares.at_halt refl

      rose : Rose ((v x).stops by.0) ((v y).stops by.0)
      rose = rose_halted x mid m n at what s tried rest waits tries y result ends is

      found_later : (state : State) (Q : Queue) (found : Found) → IsFoundAt x.base.config.groups by (v x) (v mid) Q state found → IsFoundAt x.base.config.groups by (v x) (v y) Q state found
      found_later state Q found f =
          found_in x.base.config.groups (v x) (v x) (v mid) (v y) (goes_none (v x)) (subst (λ (u : View). Goes u (v y)) there_view e.says.acts.goes) by Q state found f

      -- the two cuts leave the same
      same_batches : (cause : Cause) → (left_mid (Some (record { sittings = 0; halt = halt; cause = cause }))).batches ≡ (left_mid gone.cut).batches
      same_batches cause = ap (λ (c : Option Cut). (left_mid c).batches) (sym cut_is)

      same_lines : (cause : Cause) → (left_mid (Some (record { sittings = 0; halt = halt; cause = cause }))).lines ≡ (left_mid gone.cut).lines
      same_lines cause = ap (λ (c : Option Cut). (left_mid c).lines) (sym cut_is)

      some_cut : (c : Cut) → Some c ≡ None → ⊥
      some_cut c none = absurd (cc)

      -- and the operator said so
      said_so : (done : Unit {0}) → e.said ≡ Ok done → IsEnded (Some (cut_at no_node.Halted halt))
      said_so done well_said =
          let says = subst (λ (q : Result (Unit {0}) NodeNo). ActsOnce q (plants.view e.there.plant) (v y)) well_said e.says.acted in
          let answer : result ≡ Ok line.Closed = e.answer ∙ ap closed_by well_said in
          record {
            batches = same_batches Stops;
            console = e.says.console t ∙ ap (λ (q : Result (Unit {0}) NodeNo). console_now (plants.view e.there.plant) ++ stopped_said q by at) well_said ∙ ap (λ (u : View). console_now u ++ stopped_said {T = Unit {0}} (Ok done) by at) there_view;
            lines = same_lines Stops;
            count = λ none. absurd (some_cut (cut_at no_node.Halted halt) none);
            stops = λ goes_on. stopped_then ∙ sym (or_some (is_stopped x.book by));
            by_answer = subst (λ (k : Result Stands NodeNo). IsCutBy k by (Some (cut_at no_node.Halted halt)) (v x) (v y)) (sym answer) (
              refl,
              refl,
              halts,
              rose,
              says.time ∙ ap next (ap (λ (u : View). u.now) there_view ∙ sym halted_now ∙ sym (ap (λ (u : View). u.halt) there_view) ∙ sym says.halt),
            );
            next = subst (λ (k : Result Stands NodeNo). IfOk k (λ q. stage_of q ≡ Closed)) (sym answer) refl;
            found = found_later;
          }

      -- or couldn't
      unsaid_so : (k : NodeNo) → e.said ≡ Err k → IsEnded (Some (unsaid_at halt))
      unsaid_so k badly =
          let answer : result ≡ Err k = e.answer ∙ ap closed_by badly in
          record {
            batches = same_batches Ends;
            console = e.says.console t ∙ ap (λ (q : Result (Unit {0}) NodeNo). console_now (plants.view e.there.plant) ++ stopped_said q by at) badly ∙ ap (λ (u : View). console_now u ++ []) there_view;
            lines = same_lines Ends;
            count = λ none. absurd (some_cut (unsaid_at halt) none);
            stops = λ goes_on. absurd (cc);
            by_answer = subst (λ (j : Result Stands NodeNo). IsCutBy j by (Some (unsaid_at halt)) (v x) (v y)) (sym answer) (
              refl,
              refl,
              inr (record {
                why = halts;
                stopped = rose;
                unsaid = unsaid_by k (subst (λ (q : Result (Unit {0}) NodeNo). ActsOnce q (plants.view e.there.plant) (v y)) badly e.says.acted)
                    (subst (λ (q : Result (Unit {0}) NodeNo). stopped_in q ≡ false) badly e.says.unhalted);
              }),
            );
            next = subst (λ (j : Result Stands NodeNo). IfOk j (λ q. stage_of q ≡ Closed)) (sym answer) tt;
            found = found_later;
          }
        where
          unsaid_by : (j : NodeNo) → ActsOnce {T = Unit {0}} (Err j) (plants.view e.there.plant) (v y) → is_stop j ≡ false → IsUnsaid j (v y)
          unsaid_by no_node.ConsoleFault one up = one.time ∙ ap next (ap (λ (u : View). u.now) there_view ∙ sym halted_now ∙ sym (ap (λ (u : View). u.halt) there_view) ∙ sym one.halt)
          unsaid_by no_node.NoMemory same up = ap (λ (u : View). u.now) (same ∙ there_view) ∙ sym halted_now ∙ ap (λ (u : View). u.halt) (sym (same ∙ there_view))
          unsaid_by no_node.BothLost never up = absurd never
          unsaid_by no_node.Halted one up = absurd (cc)

    pub ended : (cut : Option Cut) × IsEnded cut
    ended = by_answer tried refl ends where
      by_said : (is : tried ≡ Err no_node.Halted) (e : EndsTurn by at mid y (Err no_node.Halted) result) (q : Result (Unit {0}) NodeNo) → e.said ≡ q → (cut : Option Cut) × IsEnded cut
      by_said is e (Ok done) said = (Some (cut_at no_node.Halted (halt is e)), said_so is e done said)
      by_said is e (Err k) said = (Some (unsaid_at (halt is e)), unsaid_so is e k said)

      by_answer : (q : Result Stands NodeNo) → tried ≡ q → EndsTurn by at mid y q result → (cut : Option Cut) × IsEnded cut
      by_answer (Ok k) is e = (None, well k is e)
      by_answer (Err no_node.BothLost) is e = (gone.cut, broke no_node.BothLost (λ k. absurd (cc)) refl refl is (same_view e.0) e.1)
      by_answer (Err no_node.NoMemory) is e = (gone.cut, broke no_node.NoMemory (λ k. absurd (cc)) refl refl is (unreserved_view e.0) e.1)
      by_answer (Err no_node.ConsoleFault) is e = (gone.cut, broke no_node.ConsoleFault (λ k. absurd (cc)) refl refl is (unreserved_view e.0) e.1)
      by_answer (Err no_node.Halted) is e = by_said is e e.said refl

    abbrev cut : Option Cut
    cut = ended.0

    abbrev its : IsEnded cut
    its = ended.1

    -- LINES

    abbrev its_lines : List Line
    its_lines = (left_mid cut).lines ++ map (λ (l : Said). l.line) (stopped_lines by at (cause_of cut))

    pub said_all : console_now (v y) ≡ console_now (v x) ++ its_lines
    said_all =
        its.console ∙ ap (λ (ls : List Line). ls ++ map (λ (l : Said). l.line) (stopped_lines by at (cause_of cut))) gone.leaves.console
        ∙ append_assoc (console_now (v x)) (left_mid gone.cut).lines (map (λ (l : Said). l.line) (stopped_lines by at (cause_of cut)))
        ∙ ap (λ (ls : List Line). console_now (v x) ++ (ls ++ map (λ (l : Said). l.line) (stopped_lines by at (cause_of cut)))) (sym its.lines)

    stop_own : (c : Option Cause) → OwnLines by at (map (λ (l : Said). l.line) (stopped_lines by at c))
    stop_own None = All-nil (λ (l : Line). l.whole ≡ true → IsOwnText by at l.text)
    stop_own (Some Ends) = All-nil (λ (l : Line). l.whole ≡ true → IsOwnText by at l.text)
    stop_own (Some Stops) = All-cons (λ (l : Line). l.whole ≡ true → IsOwnText by at l.text) (whole (closing_line by at closing.Stopped)) [] (λ is. inl (closing.Stopped, refl)) (All-nil (λ (l : Line). l.whole ≡ true → IsOwnText by at l.text))

    own_all : OwnLines by at its_lines
    own_all =
        All-append (λ (l : Line). l.whole ≡ true → IsOwnText by at l.text) (left_mid cut).lines (map (λ (l : Said). l.line) (stopped_lines by at (cause_of cut)))
        (subst (λ (ls : List Line). OwnLines by at ls) (sym its.lines) gone.leaves.texts) (stop_own (cause_of cut))

    pub said_own : (more : List Line) × (console_now (v y) ≡ console_now (v x) ++ more) × OwnLines by at more
    said_own = (its_lines, said_all, own_all)

    -- before the line closes nothing was said
    pub unclosed : IfOk result (λ q. q ≢ line.Closed → console_now (v y) ≡ console_now (v x))
    unclosed = by_answer tried refl ends where
      closed_with : (q : Result (Unit {0}) NodeNo) → IfOk (closed_by q) (λ k. k ≢ line.Closed → console_now (v y) ≡ console_now (v x))
      closed_with (Ok done) = λ unlike. absurd (unlike refl)
      closed_with (Err e) = tt

      by_answer : (q : Result Stands NodeNo) → tried ≡ q → EndsTurn by at mid y q result → IfOk result (λ k. k ≢ line.Closed → console_now (v y) ≡ console_now (v x))
      by_answer (Ok k) is e =
          let said : IfOk (let d : Result Stands NodeNo = Ok k in d) (λ j. j ≢ line.Closed → console_now (v mid) ≡ console_now (v x)) = subst (λ (d : Result Stands NodeNo). IfOk d (λ j. j ≢ line.Closed → console_now (v mid) ≡ console_now (v x))) is gone.silent in
          subst (λ (d : Result Stands NodeNo). IfOk d (λ j. j ≢ line.Closed → console_now (v y) ≡ console_now (v x))) (sym e.1) (λ unlike. ap (λ (u : View). console_now u) (same_view e.0) ∙ said unlike)
      by_answer (Err no_node.BothLost) is e = subst (λ (d : Result Stands NodeNo). IfOk d (λ j. j ≢ line.Closed → console_now (v y) ≡ console_now (v x))) (sym e.1) tt
      by_answer (Err no_node.NoMemory) is e = subst (λ (d : Result Stands NodeNo). IfOk d (λ j. j ≢ line.Closed → console_now (v y) ≡ console_now (v x))) (sym e.1) tt
      by_answer (Err no_node.ConsoleFault) is e = subst (λ (d : Result Stands NodeNo). IfOk d (λ j. j ≢ line.Closed → console_now (v y) ≡ console_now (v x))) (sym e.1) tt
      by_answer (Err no_node.Halted) is e = subst (λ (d : Result Stands NodeNo). IfOk d (λ j. j ≢ line.Closed → console_now (v y) ≡ console_now (v x))) (sym e.answer) (closed_with e.said)

    -- THE HISTORY

    abbrev K0 : List Entry
    K0 = kept_all front

    abbrev K1 : List Entry
    K1 = kept_all gone.leaves.more

    journal_y : journal_of (parts_of y) ≡ front ++ gone.leaves.more
    journal_y = end_journal by at mid y tried result ends ∙ gone.leaves.journal

    kept_y : kept_all y.journal.batches ≡ K0 ++ K1
    kept_y = sym (journal_kept y) ∙ ap kept_all journal_y ∙ kept_all_append front gone.leaves.more

    abbrev place : ℕ
    place = length K0

    queue_y : queue_at x.base (kept_all y.journal.batches) by place ≡ queue_found plants copies p f moment
    queue_y = ap (λ (es : List Entry). run x.base (take place es)) kept_y ∙ ap (run x.base) (take-append_seam K0 K1)

    abbrev taken : Taken
    taken = record { old = v x; new = v y; place = place; book = x.book; count = count; found = gone.saw; inked = gone.inked; cut = cut }

    abbrev turn : Turn
    turn = turn_at (queue_at x.base (kept_all y.journal.batches) by place) x.book by at what count gone.inked gone.saw (stage_of s)

    turn_same : turn ≡ turn_mid
    turn_same = ap (λ (Q : Queue). turn_at Q x.book by at what count gone.inked gone.saw (stage_of s)) queue_y

    abbrev left : Left
    left = turn_left x.base (kept_all y.journal.batches) by (asked_in r) taken turn

    alike : left_at by count cut turn x.book (queue_at x.base (kept_all y.journal.batches) by place) ≡ left_pieces by turn.pieces x.book (queue_found plants copies p f moment) count cut
    alike = left_alike by turn x.book (queue_at x.base (kept_all y.journal.batches) by place) (queue_found plants copies p f moment) count cut

    left_batches : left.batches ≡ (left_mid cut).batches
    left_batches = ap (λ (l : Left). l.batches) alike ∙ ap (λ (u : Turn). (left_pieces by u.pieces x.book (queue_found plants copies p f moment) count cut).batches) turn_same

    left_lines : left.lines ≡ its_lines
    left_lines = ap (λ (l : Left). l.lines ++ map (λ (l : Said). l.line) (stopped_lines by at (cause_of cut))) alike ∙ ap (λ (u : Turn). (left_pieces by u.pieces x.book (queue_found plants copies p f moment) count cut).lines ++ map (λ (l : Said). l.line) (stopped_lines by at (cause_of cut))) turn_same

    left_kept : K1 ≡ kept_in left.batches
    left_kept = batched_kept by gone.leaves.from gone.leaves.now (left_mid gone.cut).batches gone.leaves.more gone.leaves.batches ∙ ap kept_in (sym its.batches ∙ sym left_batches)

    left_begun : begun_by by gone.leaves.more ≡ entries_of left.batches
    left_begun = batched_begun by gone.leaves.from gone.leaves.now (left_mid gone.cut).batches gone.leaves.more gone.leaves.batches ∙ ap entries_of (sym its.batches ∙ sym left_batches)

    -- WHAT THE VALUE SHOWS THE MEMBER

    grown : kept_all y.journal.batches ≡ kept_all x.journal.batches ++ (found_of f x.current ++ K1)
    grown = kept_y ∙ ap (λ (es : List Entry). es ++ K1) (kept_settled x f moment) ∙ append_assoc (kept_all x.journal.batches) (found_of f x.current) K1

    begun_shown : begun_by by (y.journal.batches ++ in_flight y.current) ≡ begun_by by (x.journal.batches ++ in_flight x.current) ++ entries_of left.batches
    begun_shown =
        journal_begun y by ∙ ap (begun_by by) journal_y ∙ begun_append by front gone.leaves.more
        ∙ ap (λ (es : List Entry). es ++ begun_by by gone.leaves.more) (settle_begun by f moment (journal_of p) ∙ sym (journal_begun x by))
        ∙ ap (λ (es : List Entry). begun_by by (x.journal.batches ++ in_flight x.current) ++ es) left_begun

    older : length ((v x).world x.since).console ≤ length (console_now (v x))
    older =
        ∥∥₁_elim (x.kept t) le_prop
        (λ k.
        let b = k.grows x.since (omega arith) rest.begun in
        let many = ap length b.is ∙ length-append ((v x).world x.since).console b.more in
        omega (arith, many))

    theirs : All (IsTheirs x.base.config.members by.0) its_lines
    theirs = λ k d lt whole_so. its_text (slice_index_or its_lines k d).text (own_all k d lt whole_so) where
      its_text : (text : List ℕ) → IsOwnText by at text → speaker x.base.config.members text ≡ by.0
      its_text text own =
          let members = x.base.config.members in
          let named = lines_named members by at in
          let mine = named_own x.base.config by waits.member in
          ⊎_elim (λ closes. ap (speaker members) closes.1 ∙ named.0 closes.0 ∙ mine) (λ detail. ap (speaker members) detail.1 ∙ named.1 detail.0 ∙ mine) own

    said_shown : lines_by y.base.config.members by.0 (said_since y.since (v y)) ≡ lines_by x.base.config.members by.0 (said_since x.since (v x)) ++ whole_texts left.lines
    said_shown =
        ap (λ (b : Queue). lines_by b.config.members by.0 (said_since y.since (v y))) base
        ∙ ap (λ (from : ℕ). lines_by x.base.config.members by.0 (said_since from (v y))) since
        ∙ ap (λ (k : ℕ). lines_by x.base.config.members by.0 (whole_texts (drop k (console_now (v y))))) (ap (λ (w : World). length w.console) (goes.past x.since rest.begun))
        ∙ ap (λ (ls : List Line). lines_by x.base.config.members by.0 (whole_texts (drop (length ((v x).world x.since).console) ls))) said_all
        ∙ lines_more x.base.config.members by.0 (console_now (v x)) its_lines (length ((v x).world x.since).console) older theirs
        ∙ ap (λ (ls : List Line). lines_by x.base.config.members by.0 (said_since x.since (v x)) ++ whole_texts ls) (sym left_lines)

    count_shown : cut ≡ None → counts_of y.printed by ≡ left.count
    count_shown none =
        let k = its.count none in
        ap (λ (l : List ℕ). counts_of l by) k.1 ∙ gone.count k.0 ∙ ap (λ (c : Option Cut). (left_mid c).count) (k.0 ∙ sym none)
        ∙ sym (ap (λ (u : Turn). (left_pieces by u.pieces x.book (queue_found plants copies p f moment) count cut).count) turn_same) ∙ sym (ap (λ (l : Left). l.count) alike)

    takes_so : Takes x.base by (standing_in r) (asked_in r) taken turn left (shows by x) (shows by y)
    takes_so = record {
      turn_is = refl;
      left = refl;
      stopped = sym (stopped_at by some few true (shown_of x));
      printed = sym (ap (λ d. d.printed) (desk_at by some few true (shown_of x)));
      grows = (found_of f x.current ++ K1, grown);
      behind = let first = ap length (kept_settled x f moment) in let parts = length-append (kept_all x.journal.batches) (found_of f x.current) in omega (arith, first, parts);
      within = let all = ap length kept_y in let parts = length-append K0 K1 in let same = ap length left_kept in omega (arith, all, parts, same);
      kept = ap (drop place) kept_y ∙ drop-append_seam K0 K1 ∙ left_kept;
      begun = begun_at by some few true (shown_of y) ∙ begun_shown ∙ ap (λ (es : List Entry). es ++ entries_of left.batches) (sym (begun_at by some few true (shown_of x)));
      said = lines_at by some few true (shown_of y) ∙ said_shown ∙ ap (λ (ls : List (List ℕ)). ls ++ whole_texts left.lines) (sym (lines_at by some few true (shown_of x)));
      count = λ none. ap (λ d. d.printed) (desk_at by some few true (shown_of y)) ∙ count_shown none;
      stops = λ goes_on. stopped_at by some few true (shown_of y) ∙ its.stops goes_on ∙ ap (λ (b : Bool). b || stops_in cut) (sym (stopped_at by some few true (shown_of x)));
    }

    honest_at : (q : Stage) → IfActed x.book q (λ state. IsFoundAt x.base.config.groups by (v x) (v mid) (queue_found plants copies p f moment) state gone.saw)
        → IfActed x.book q (λ state. IsFoundAt x.base.config.groups by (v x) (v y) (queue_at x.base (kept_all y.journal.batches) by place) state gone.saw)
    honest_at Opens h = tt
    honest_at (Sits state found) h = tt
    honest_at Closed h = tt
    honest_at (Acts state) h = λ none. subst (λ (Q : Queue). IsFoundAt x.base.config.groups by (v x) (v y) Q state gone.saw) (sym queue_y) (its.found state (queue_found plants copies p f moment) gone.saw (h none))

    pub takes_turn : TakesTurn r x y result
    takes_turn = record {
      taken = taken;
      turn = turn;
      left = left;
      takes = takes_so;
      views = (refl, refl);
      book = refl;
      honest = honest_at (stage_of s) gone.honest;
      cut = its.by_answer;
      next = subst (λ (u : Turn). IfOk result (λ q. stage_of q ≡ stage_left cut u.next)) (sym turn_same) its.next;
    }

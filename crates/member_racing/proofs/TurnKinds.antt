-- What a turn left, by its kind, in the words of turns.
use Rattle.std.proofs.Common.{◌≡◌, ◌≢◌, ◌∙◌, ⊎_elim, ◌==◌, ◌+◌, ◌≤◌, ℕ, true, false, List, [], ◌∷◌, ◌++◌, ◌-◌, if◌then◌else◌, is_some, append-nil, length, IfOk, Option, Some, None, Result, Ok, Err, ap, refl, subst, sym, arith}
use Rattle.std.proofs.lemmas.Bool.Decides.{nat_tests}
use Rattle.std.proofs.lemmas.List.{get_or-set_same}
use Rattle.std.proofs.lemmas.List.Elements.{All-nil}
use Rattle.mas_types.specs.declared.answers.Closing.{Closing}
use Rattle.mas_types.specs.declared.ids.MemberId.{MemberId}
use Rattle.mas_types.specs.declared.journals.Batch.{Batch}
use Rattle.mas_types.specs.declared.journals.Fate.{Fate}
use Rattle.mas_types.specs.declared.journals.Fate.TheVariants.{Flying}
use Rattle.mas_types.specs.declared.queues.Config.{Config}
use Rattle.mas_types.specs.declared.queues.Queue.{Queue}
use Rattle.mas_types.specs.Closings.{closing_line}
use Rattle.mas_types.specs.Ids.{is_somebody, nobody}
use Rattle.mas_types.specs.Limits.{members_most}
use Rattle.mas_types.specs.Run.{run}
use Rattle.lock_cycle.specs.declared.standings.Standing.{Standing}
use Rattle.lock_cycle.specs.Books.{Book, IsMember, after_seize, after_try, beginner, granted, is_holder, is_stopped, left_of, seize_refusal, standing, try_refusal}
use Rattle.queue_laws.proofs.RunLaws.{runs_keep_configuration}
use Rattle.script_lang.specs.declared.types.Ask.{Ask}
use Rattle.spool_plant.specs.View.{View}
use Rattle.spool_plant.specs.declared.plant.Plant.{Ghosts as PlantGhosts}
use Rattle.ckpt_copy.specs.declared.copying.Copying.{Ghosts as CopyGhosts}
use Rattle.ckpt_form.specs.declared.steady.Steady.{Ghosts as SteadyGhosts}
use Rattle.duplex_pair.specs.Halves.{SomeAlive}
use Rattle.mas_complex.specs.declared.complex.Complex.{Complex}
use Rattle.mas_complex.specs.Journals.{kept_all}
use Rattle.mas_complex.specs.Paper.{counts_of}
use Rattle.mas_complex.specs.Parts.{Parts, parts_of}
use Rattle.mas_race.specs.Between.{BetweenTurns, is_held}
use Rattle.race_turns.specs.Turns.{Acts, Closed, Opens, Sits, acts, closes, left_holder, no_sitting, opens, racer, reset_sitting, sits, stage_after, takes, unless_left, waits}
use Rattle.run_turns.specs.Admissions.{Admission, Denied, Frees, Locks, Plays, Refused, Replaces, Resets, TakesOver, Unplayed, admitted}
use Rattle.run_turns.specs.Cuts.{batches_cut}
use Rattle.run_turns.specs.Pieces.{Piece, chunk, inked_of, piece_of, poured, reset_pieces, with_given}
use Rattle.run_turns.specs.Scenes.{Scene, scene_of}
use Rattle.run_turns.specs.Sights.{Cut, Halt, Saying, Waiting, Writing}
use Rattle.step_turns.specs.Laws.{on_line}
use Rattle.step_turns.specs.Sittings.{Sitting, sit}
use Rattle.step_turns.specs.States.{nothing_found}
use Rattle.step_turns.specs.declared.states.Found.{Found}
use Rattle.step_turns.specs.declared.states.Holder.{Holder}
use Rattle.step_turns.specs.declared.states.Release.TheVariants.{Keep}
use Rattle.step_turns.specs.declared.states.State.{State}
use Rattle.step_turns.specs.declared.states.State.TheVariants.{Fresh, Told}
use Rattle.member_node.specs.Calls.{console_now}
use Rattle.member_node.specs.declared.member.Member.{Member}
use Rattle.member_node.specs.declared.member.NodeNo.{NodeNo}
use Rattle.member_node.specs.declared.member.NodeNo.TheVariants as no_node
use Rattle.member_sittings.specs.Sat.{Start, journal_of}
use Rattle.member_sittings.specs.Whole.{queue_of}
use Rattle.member_resets.specs.Asides.{ActsAfter}
use Rattle.member_resets.specs.Cuts.{AreBatched, IsHaltBy}
use Rattle.member_resets.specs.Found.{IsFoundAt}
use Rattle.member_resets.specs.Locks.{MayHold}
use Rattle.member_resets.specs.Stand.{Stand}
use Rattle.member_resets.proofs.Acting.{acts_beside, changed_only, only_these}
use Rattle.member_resets.proofs.Cutting.{cut_at}
use Rattle.member_resets.proofs.Inking.{halts_idle}
use Rattle.member_lines.specs.Closes.{HasClosed, HasStoodBy, IsCutAs, left_at, stopped_so}
use Rattle.member_resets.specs.Resetting.{HasResetBy, IsTaken, IsUntaken, TakeCauses, TakesBy as ClosesTaken, taker_at}
use Rattle.member_resets.specs.Settling.{settle}
use Rattle.member_resets.proofs.SettleLemmas.{settle_none, journal_still}
use Rattle.member_racing.specs.Asked.{IsKnown}
use Rattle.member_racing.specs.Kinds.{ActsBy, SitsBy, TakesBy}
use Rattle.member_racing.specs.Opened.{ClosesRefused, ComesTo, GoesAs, OpensAs, TakesUp, UnlessLeft, WaitsOn, done_of}
use Rattle.member_racing.specs.Stages.{Raced, stage_of, stood_of}
use Rattle.member_racing.specs.Turned.{IfActed}
use Rattle.member_racing.specs.Turning.{raced_at}
use Rattle.member_racing.specs.Waits.{IsMine, IsStillRight, MayActNext, Waits, WaitsAt}
use Rattle.member_racing.specs.declared.stages.Stage.{Stage as Stands}
use Rattle.member_racing.specs.declared.stages.Stage.TheVariants as line
use Rattle.member_racing.proofs.ActedLeft.{acted_count, calm_here, found_here}
use Rattle.member_racing.proofs.Adding.{said_journal}
use Rattle.member_racing.proofs.Books.{OnlyBy, only_none, tried_only}
use Rattle.member_racing.proofs.BooksStill.{tried_same}
use Rattle.member_racing.proofs.HowLeft.{mid_may}
use Rattle.member_racing.proofs.Members.{few_of, inside_of, some_of, somebody_of}
use Rattle.member_resets.proofs.BookLemmas.{got_free}
use Rattle.member_racing.proofs.OpeningLemmas.{denied_holder, free_now, got_may, hold_free, not_holder}
use Rattle.member_racing.proofs.TurnLeft.{HasGone, IsOwnText, cut_so, gone_by, own_closing, queue_found, turn_in, whole_so}
use Rattle.member_racing.proofs.TurnSits.{PieceGone, gone_none, gone_nothing, gone_piece, piece_as, seen_from}
use Rattle.member_racing.proofs.TurnTakes.{gave_gone, reset_piece_of, resets_gone, same_done, sits_gone, sits_next, sits_silent, unseated_gave, whole_gave}
use Rattle.member_racing.proofs.Turns.{IsLeft, left_is, nobody_is}

-- a step that may sit isn't told
sits_not_told : {P C : Type 0} (plants : PlantGhosts P) (copies : CopyGhosts C) (x : Parts P C) (by : MemberId) (stand : Stand) → IsStillRight plants copies x by stand.state stand.found → stand.state ≢ Told
sits_not_told plants copies x by stand right told = absurd (by_state stand.state told right) where
  by_state : (s : State) → s ≡ Told → IsStillRight plants copies x by s stand.found → ⊥
  by_state s is its = let never : IsStillRight plants copies x by Told stand.found = subst (λ (k : State). IsStillRight plants copies x by k stand.found) is its in never

same_number : (n : ℕ) → (n == n) ≡ true
same_number n = grind (arith, nat_tests)

-- who took the lock over has a whole hold
pub seized_hold : (b : Book) (by of : MemberId) → IsMember b by → is_stopped b of ≡ true → is_holder b of ≡ true → left_of (after_seize b by of) by ≡ b.hold
seized_hold b by of inside down holds =
    ap (λ o. left_of (if is_some o then b else granted b by) by) none ∙ ap (λ (s : Standing). s.left) its_standing
  where
    none : seize_refusal b of ≡ None
    none = rw (down, holds) refl

    its_standing : standing (granted b by) by ≡ record (standing b by) { left = b.hold }
    its_standing = let some = inside.0 in let few = inside.1 in get_or-set_same b.members (by.0 - 1) (record (standing b by) { left = b.hold }) (beginner 0) (omega (arith, some, few))

-- a cut before anything was done
pub halts_early : (e : NodeNo) → e ≢ no_node.ConsoleFault → IsHaltBy e (Writing 0 None)
halts_early no_node.Halted unlike = tt
halts_early no_node.BothLost unlike = tt
halts_early no_node.NoMemory unlike = tt
halts_early no_node.ConsoleFault unlike = absurd (unlike refl)

-- with Ok a line comes to a stage
comes : (s : Stands) (q : Result Stands NodeNo) → ComesTo s q → IfOk q (λ next. stage_of next ≡ stage_of s)
comes s (Ok next) is = ap stage_of is
comes s (Err e) is = tt

closes_so : (A : Type 0) (q : Result Stands NodeNo) → ComesTo line.Closed q → IfOk q (λ next. next ≢ line.Closed → A)
closes_so A (Ok next) is = λ unlike. absurd (unlike is)
closes_so A (Err e) is = tt

always : (A : Type 0) (q : Result Stands NodeNo) → A → IfOk q (λ next. next ≢ line.Closed → A)
always A (Ok next) a = λ unlike. a
always A (Err e) a = tt

-- a line that hasn't closed isn't told
not_closed : (next : Stands) (state : State) → stage_of next ≡ stage_after state → next ≢ line.Closed → state ≢ Told
not_closed next state stage unlike told = absurd (unlike (by_stage next (stage ∙ ap stage_after told))) where
  by_stage : (q : Stands) → stage_of q ≡ Closed → q ≡ line.Closed
  by_stage line.Opens is = absurd (cc)
  by_stage (line.Sits stand) is = absurd (cc)
  by_stage (line.Acts stand) is = absurd (cc)
  by_stage line.Closed is = refl

module _ {P C : Type 0} {plants : PlantGhosts P} {steadies : SteadyGhosts C} {copies : CopyGhosts C} (x : Complex P C plants steadies copies) (m n : Member) (at : ℕ) (what : Ask) (s : Stands) (rest : BetweenTurns x) (waits_so : Waits x m at what s) (y : Parts P C) (result : Result Stands NodeNo)
    (some : SomeAlive x.pair.first.alive x.pair.second.alive) (unheld : is_held x.book ≡ false) (base_y : y.base ≡ x.base) (t : plants.tells) where
  abbrev p : Parts P C
  p = parts_of x

  abbrev v : Parts P C → View
  v q = plants.view q.plant

  abbrev by : MemberId
  by = m.id

  abbrev z : Parts P C
  z = record p { book = after_try x.book by false }

  abbrev at_stage : Stands → Raced
  at_stage q = raced_at by at what q

  abbrev Gone : Stands → Type 0
  Gone q = HasGone plants copies (at_stage q) p y result

  abbrev Q : Fate → ℕ → Queue
  Q f moment = queue_found plants copies p f moment

  -- THE MEMBER

  one : 1 ≤ by.0
  one = some_of x.base.config by waits_so.member

  few : by.0 ≤ members_most
  few = few_of x.base.config by waits_so.member waits_so.config

  inside : IsMember x.book by
  inside = inside_of x.base.config by waits_so.member x.book rest.members

  its_name : is_somebody by ≡ true
  its_name = somebody_of x.base.config by waits_so.member

  -- THE QUEUE

  config : (f : Fate) (moment : ℕ) → (Q f moment).config ≡ x.base.config
  config f moment = (runs_keep_configuration x.base (kept_all (settle f moment (journal_of p)))).config

  its_racer : (f : Fate) (moment : ℕ) → racer x.base.config by at ≡ racer (Q f moment).config by at
  its_racer f moment = ap (λ (c : Config). racer c by at) (sym (config f moment))

  none_at : x.book.holder ≡ nobody → x.current ≡ None
  none_at free = (rest.free some free).none

  unplaced_at : x.book.holder ≡ nobody → x.placed ≡ false
  unplaced_at free = rest.unplaced some (none_at free)

  front_none : settle Flying 0 (journal_of p) ≡ journal_of p
  front_none = settle_none 0 (journal_of p)

  front_free : x.book.holder ≡ nobody → settle Flying 0 (journal_of p) ≡ x.journal.batches
  front_free free = front_none ∙ journal_still p (none_at free) (unplaced_at free)

  queue_free : x.book.holder ≡ nobody → Q Flying 0 ≡ queue_of p
  queue_free free = ap (λ (bs : List Batch). run x.base (kept_all bs)) (front_free free)

  -- of a piece from the batches as they were
  piece_front : {T : Type 0} (front : List Batch) (old : View) (w : Sitting) (r : Result T NodeNo) → x.journal.batches ≡ front → PieceGone plants copies by at x.journal.batches old (counts_of x.printed by) y w r → PieceGone plants copies by at front old (counts_of x.printed by) y w r
  piece_front front old w r same g = subst (λ (bs : List Batch). PieceGone plants copies by at bs old (counts_of x.printed by) y w r) same g

  -- A TAKEOVER in the middle of a line

  module _ (w : Parts P C) (base : w.base ≡ x.base) (batches : journal_of w ≡ journal_of p) (printed : w.printed ≡ x.printed) (plant : v w ≡ v p) (of : MemberId) (book : w.book.hold ≡ x.book.hold) (seated : IsMember w.book by) (up : is_stopped w.book by ≡ false) (down : is_stopped w.book of ≡ true)
      (left : is_holder w.book of ≡ true) where
    module _ (mid : Parts P C) (found : Fate) (taken : IsTaken plants copies by of w mid found) (mid_base : mid.base ≡ w.base) where
      mid_hold : MayHold mid.book by
      mid_hold = mid_may plants copies by of w y its_name up down left mid taken.book seated one few

      mid_front : mid.batches ≡ settle found (v mid).now (journal_of p)
      mid_front = sym (journal_still mid taken.quiet.none taken.quiet.unplaced) ∙ taken.journal ∙ ap (settle found (v mid).now) batches

      mid_queue : queue_of mid ≡ Q found (v mid).now
      mid_queue = ap (λ b. run b (kept_all mid.batches)) (mid_base ∙ base) ∙ ap (λ (bs : List Batch). run x.base (kept_all bs)) mid_front

      mid_console : console_now (v mid) ≡ console_now (v p)
      mid_console = (taken.apart t).console ∙ ap (λ (u : View). console_now u) plant

      mid_count : counts_of mid.printed by ≡ counts_of x.printed by
      mid_count = ap (λ (l : List ℕ). counts_of l by) (taken.printed ∙ printed)

      -- a piece that was given from there on
      from_mid : {T : Type 0} (u : Sitting) (r : Result T NodeNo) → PieceGone plants copies by at mid.batches (v mid) (counts_of mid.printed by) y u r → PieceGone plants copies by at (settle found (v mid).now (journal_of p)) (v p) (counts_of x.printed by) y u r
      from_mid u r g =
          subst (λ (k : ℕ). PieceGone plants copies by at (settle found (v mid).now (journal_of p)) (v p) k y u r) mid_count
          (subst (λ (bs : List Batch). PieceGone plants copies by at bs (v p) (counts_of mid.printed by) y u r) mid_front
          (seen_from plants copies by at mid.batches (v mid) (v p) (counts_of mid.printed by) y u r mid_console g))

    -- nothing was found out
    untaken_gone : (q : Stands) (e : NodeNo) → result ≡ Err e → IsUntaken plants copies by of w y e → (saw : Found) → IfActed x.book (stage_of q) (λ state. IsFoundAt x.base.config.groups by (v p) (v y) (Q Flying 0) state saw) → Gone q
    untaken_gone q e is u saw honest =
        subst (HasGone plants copies (at_stage q) p y) (sym is)
        (gone_nothing plants copies (at_stage q) p y e (halts_early e (taken_cause e u.cause)) saw (u.journal ∙ batches ∙ sym front_none) ((u.apart t).console ∙ ap (λ (k : View). console_now k) plant) honest)
      where
        taken_cause : (k : NodeNo) → TakeCauses plants copies k by w y → k ≢ no_node.ConsoleFault
        taken_cause no_node.Halted cause = λ same. absurd (cc)
        taken_cause no_node.BothLost cause = λ same. absurd (cc)
        taken_cause no_node.NoMemory cause = λ same. absurd (cc)
        taken_cause no_node.ConsoleFault cause = absurd cause

    -- the turn that resets it quietly
    takes_gone : (q : Stands) → ((f : Fate) (moment inked : ℕ) (saw : Found) → turn_in plants copies (at_stage q) p f moment inked saw ≡ takes (Q f moment) by at of (stage_of q))
        → ((f : Fate) (moment : ℕ) → IfActed x.book (stage_of q) (λ state. IsFoundAt x.base.config.groups by (v p) (v y) (Q f moment) state nothing_found)) → TakesUp plants copies (stood_of (at_stage q)) of w y result → Gone q
    takes_gone q turns honest u = by_answer result refl u.takes where
      gone_of : (mid : Parts P C) (found : Fate) → queue_of mid ≡ Q found (v mid).now → PieceGone plants copies by at (settle found (v mid).now (journal_of p)) (v p) (counts_of x.printed by) y (reset_sitting (queue_of mid) by at of) result → Gone q
      gone_of mid found queue g =
          gone_piece plants copies (at_stage q) p y found (v mid).now nothing_found 0 by (stage_of q) (reset_sitting (Q found (v mid).now) by at of) (turns found (v mid).now 0 nothing_found) result
          (piece_as plants copies by at (settle found (v mid).now (journal_of p)) (v p) (counts_of x.printed by) y (reset_sitting (queue_of mid) by at of) (reset_sitting (Q found (v mid).now) by at of) result (ap (λ (k : Queue). reset_sitting k by at of) queue) g)
          (honest found (v mid).now) (comes q result u.next) (always _ result refl)

      by_answer : (r : Result Stands NodeNo) → result ≡ r → TakesBy plants copies by at of w y (done_of r) → Gone q
      by_answer (Ok next) is o =
          let base_mid : o.mid.base ≡ w.base = sym (ap (λ (k : Parts P C). k.base) o.frame ∙ ap (λ (k : Parts P C). k.base) o.reset.frame ∙ ap (λ (k : Parts P C). k.base) o.reset.took.frame) ∙ base_y ∙ sym base in
          let h = taker_at plants copies by at o.mid in
          gone_of o.mid o.found (mid_queue o.mid o.found o.taken_over base_mid)
          (subst (λ (r : Result Stands NodeNo). PieceGone plants copies by at (settle o.found (v o.mid).now (journal_of p)) (v p) (counts_of x.printed by) y (reset_sitting (queue_of o.mid) by at of) r) (sym is)
          (from_mid o.mid o.found o.taken_over base_mid {T = Stands} (reset_sitting (queue_of o.mid) by at of) (Ok next)
          (whole_gave plants copies t h of o.mid (mid_hold o.mid o.found o.taken_over base_mid) o.taken_over.quiet.none o.taken_over.quiet.unplaced next o.there y o.end o.reset
          (o.frame ∙ ap (λ (b : Book). record o.there { book = b }) (sym (ap (λ (k : Parts P C). k.book) o.frame))))))
      by_answer (Err e) is o = ⊎_elim
          (λ u. untaken_gone q e is u nothing_found (honest Flying 0))
          (λ b.
          let base_mid : b.mid.base ≡ w.base = sym (⊎_elim (λ took. ap (λ (k : Parts P C). k.base) took.frame) (λ g. ap (λ (k : Parts P C). k.base) g.frame ∙ ap (λ (k : Parts P C). k.base) g.took.frame) b.why) ∙ base_y ∙ sym base in
          let h = taker_at plants copies by at b.mid in
          gone_of b.mid b.found (mid_queue b.mid b.found b.taken_over base_mid)
          (subst (λ (r : Result Stands NodeNo). PieceGone plants copies by at (settle b.found (v b.mid).now (journal_of p)) (v p) (counts_of x.printed by) y (reset_sitting (queue_of b.mid) by at of) r) (sym is)
          (from_mid b.mid b.found b.taken_over base_mid {T = Stands} (reset_sitting (queue_of b.mid) by at of) (Err e)
          (⊎_elim
          (λ took. unseated_gave plants copies t h of b.mid (mid_hold b.mid b.found b.taken_over base_mid) b.taken_over.quiet.none b.taken_over.quiet.unplaced Stands y e took)
          (λ g. gave_gone plants copies t h of b.mid (mid_hold b.mid b.found b.taken_over base_mid) b.taken_over.quiet.none b.taken_over.quiet.unplaced Stands y e g) b.why)))) o

  -- A LINE THAT CLOSES before any try

  abbrev closing : MemberId → Closing → Sitting
  closing sayer end = record { batches = []; next = Told; lines = closing_line by at end ∷ []; release = Keep }

  turn_opens : (a : Admission) → admitted x.base.config x.book by what ≡ a → (f : Fate) (moment inked : ℕ) (saw : Found) → turn_in plants copies (at_stage line.Opens) p f moment inked saw ≡ opens (Q f moment) x.book by at a
  turn_opens a is f moment inked saw = ap (λ (c : Config). opens (Q f moment) x.book by at (admitted c x.book by what)) (config f moment) ∙ ap (opens (Q f moment) x.book by at) is

  module _ (sayer : MemberId) (end : Closing) (is : admitted x.base.config x.book by what ≡ Refused sayer end) (o : ClosesRefused plants copies (at_stage line.Opens) sayer end p y result) where
    abbrev before : List Batch
    before = settle Flying 0 (journal_of p)

    abbrev scene : Scene
    scene = record (scene_of x.base) { book = x.book }

    closed_there : HasClosed plants scene by at (Refused sayer end) sayer p y (done_of result)
    closed_there = o.closed scene (record { book = refl; flight = λ locked. refl })

    stood_there : HasStoodBy plants (left_at scene by at (Refused sayer end)) p y (done_of result)
    stood_there = closed_there.console t

    abbrev cut_there : Option Cut
    cut_there = stood_there.cut

    journal_there : journal_of y ≡ before ++ []
    journal_there = said_journal p y by (done_of result) o.frame ∙ sym front_none ∙ sym (append-nil before)

    same_count : (r : Result (Unit {0}) NodeNo) → (let d : Parts P C = stopped_so r by (record p { plant = y.plant }) in d.printed) ≡ x.printed
    same_count (Ok done) = refl
    same_count (Err no_node.NoMemory) = refl
    same_count (Err no_node.BothLost) = refl
    same_count (Err no_node.ConsoleFault) = refl
    same_count (Err no_node.Halted) = refl

    count_there : counts_of y.printed by ≡ counts_of x.printed by + 0
    count_there = ap (λ (q : Parts P C). counts_of q.printed by) o.frame ∙ ap (λ (l : List ℕ). counts_of l by) (same_count (done_of result)) ∙ more_none (counts_of x.printed by) where
      more_none : (k : ℕ) → k ≡ k + 0
      more_none k = omega arith

    lines_at : (c : Option Cut) → cut_there ≡ c → console_now (v y) ≡ console_now (v p) ++ (left_at scene by at (Refused sayer end) c).lines
    lines_at c same = subst (λ (k : Option Cut). console_now (v y) ≡ console_now (v p) ++ (left_at scene by at (Refused sayer end) k).lines) same stood_there.lines

    cut_leaves : (e : NodeNo) (halt : Halt) → AreBatched by 0 0 (batches_cut by halt []) [] → cut_there ≡ Some (cut_at e halt) → IsHaltBy e halt → PieceGone plants copies {T = Stands} by at before (v p) (counts_of x.printed by) y (closing sayer end) (Err e)
    cut_leaves e (Writing k g) none same halts = (Writing k g, halts, λ b q. cut_so plants copies by at before (v p) y b q (counts_of x.printed by) (piece_of (closing sayer end) false []) e (Writing k g) [] journal_there 0 0 none (lines_at _ same) (own_closing by at end))
    cut_leaves e (Saying k tail) none same halts = (Saying k tail, halts, λ b q. cut_so plants copies by at before (v p) y b q (counts_of x.printed by) (piece_of (closing sayer end) false []) e (Saying k tail) [] journal_there 0 0 none (lines_at _ same) (own_closing by at end))
    cut_leaves e (Waiting k tail) none same halts = (Waiting k tail, halts, λ b q. cut_so plants copies by at before (v p) y b q (counts_of x.printed by) (piece_of (closing sayer end) false []) e (Waiting k tail) [] journal_there 0 0 none (lines_at _ same) (own_closing by at end))

    refused_cut : (e : NodeNo) → result ≡ Err e → IsCutAs {T = Unit {0}} (Err e) cut_there → PieceGone plants copies {T = Stands} by at before (v p) (counts_of x.printed by) y (closing sayer end) (Err e)
    refused_cut no_node.ConsoleFault is c = cut_leaves no_node.ConsoleFault (Saying 0 None) tt c refl
    refused_cut no_node.NoMemory is c = cut_leaves no_node.NoMemory (Writing 0 None) tt c tt
    refused_cut no_node.Halted is c = cut_leaves no_node.Halted (Saying c.lines c.tail) tt c.is tt
    refused_cut no_node.BothLost is c = absurd c

    refused_answer : (r : Result Stands NodeNo) → result ≡ r → PieceGone plants copies by at before (v p) (counts_of x.printed by) y (closing sayer end) result
    refused_answer (Ok next) same =
        subst (λ (r : Result Stands NodeNo). PieceGone plants copies by at before (v p) (counts_of x.printed by) y (closing sayer end) r) (sym same) (
          λ b q. whole_so plants copies by at before (v p) y b q (counts_of x.printed by) (piece_of (closing sayer end) false []) [] journal_there 0 0 tt
              (lines_at None (subst (λ (r : Result Stands NodeNo). IsCutAs (done_of r) cut_there) same stood_there.is_cut)) (own_closing by at end),
          count_there,
        )
    refused_answer (Err e) same =
        subst (λ (r : Result Stands NodeNo). PieceGone plants copies by at before (v p) (counts_of x.printed by) y (closing sayer end) r) (sym same)
        (refused_cut e same (subst (λ (r : Result Stands NodeNo). IsCutAs (done_of r) cut_there) same stood_there.is_cut))

    refused_gone : Gone line.Opens
    refused_gone =
        gone_piece plants copies (at_stage line.Opens) p y Flying 0 nothing_found 0 sayer Closed (closing sayer end) (turn_opens (Refused sayer end) is Flying 0 0 nothing_found) result (refused_answer result refl) tt (comes line.Closed result o.next) (closes_so _ result o.next)

  -- THE LOCK that a try got

  got : is_stopped x.book by ≡ false → try_refusal x.book by false ≡ None → MayHold z.book by
  got up granted = got_may x.book by up (not_holder x.book by unheld one up) granted inside one few

  got_none : is_stopped x.book by ≡ false → try_refusal x.book by false ≡ None → x.book.holder ≡ nobody
  got_none up granted = nobody_is x.book.holder (got_free x.book by up (not_holder x.book by unheld one up) granted)

  -- A SITTING, by the queue that was found
  module _ (q : Stands) (w : Parts P C) (h : Holder) (state : State) (found : Found) (base_w : w.base ≡ x.base) (batches_w : w.batches ≡ x.journal.batches) (plant_w : v w ≡ v p) (printed_w : w.printed ≡ x.printed) (none_w : w.current ≡ None) (unplaced_w : w.placed ≡ false)
      (free : x.book.holder ≡ nobody) (holder : h ≡ racer x.base.config by at) (may_w : MayHold w.book h.by) (ne : state ≢ Told) (off : on_line state ≡ false) (turn_w : turn_in plants copies (at_stage q) p Flying 0 0 nothing_found ≡ sits by (sit (Q Flying 0) (racer (Q Flying 0).config by at) state found))
      (honest_w : IfActed x.book (stage_of q) (λ state. IsFoundAt x.base.config.groups by (v p) (v y) (Q Flying 0) state nothing_found)) (o : SitsBy plants copies (record { holder = h; state = state; found = found }) w y n result) where
    abbrev sat_start : Start
    sat_start = record { holder = h; state = state; found = found }

    abbrev sat_its : Sitting
    sat_its = sit (Q Flying 0) (racer (Q Flying 0).config by at) state found

    sat_queue : queue_of w ≡ Q Flying 0
    sat_queue = ap (λ b. run b (kept_all w.batches)) base_w ∙ ap (λ (bs : List Batch). run x.base (kept_all bs)) (batches_w ∙ sym (front_free free))

    sat_same : sit (queue_of w) h state found ≡ sat_its
    sat_same = ap (λ (k : Queue). sit k h state found) sat_queue ∙ ap (λ (k : Holder). sit (Q Flying 0) k state found) (holder ∙ its_racer Flying 0)

    sat_by : h.by ≡ by
    sat_by = ap (λ (k : Holder). k.by) holder

    sat_at : h.step ≡ at
    sat_at = ap (λ (k : Holder). k.step) holder

    sat_given : PieceGone plants copies h.by h.step w.batches (v w) (counts_of w.printed h.by) y (sit (queue_of w) h state found) result
    sat_given = sits_gone plants copies t sat_start w may_w none_w unplaced_w ne off y n result o

    sat_named : PieceGone plants copies by at w.batches (v w) (counts_of w.printed by) y (sit (queue_of w) h state found) result
    sat_named = subst (λ (k : MemberId). PieceGone plants copies k at w.batches (v w) (counts_of w.printed k) y (sit (queue_of w) h state found) result) sat_by
        (subst (λ (j : ℕ). PieceGone plants copies h.by j w.batches (v w) (counts_of w.printed h.by) y (sit (queue_of w) h state found) result) sat_at sat_given)

    sat_piece : PieceGone plants copies by at (settle Flying 0 (journal_of p)) (v p) (counts_of x.printed by) y sat_its result
    sat_piece =
        piece_as plants copies by at (settle Flying 0 (journal_of p)) (v p) (counts_of x.printed by) y (sit (queue_of w) h state found) sat_its result sat_same
        (seen_from plants copies by at (settle Flying 0 (journal_of p)) (v w) (v p) (counts_of x.printed by) y (sit (queue_of w) h state found) result (ap (λ (u : View). console_now u) plant_w)
        (subst (λ (k : ℕ). PieceGone plants copies by at (settle Flying 0 (journal_of p)) (v w) k y (sit (queue_of w) h state found) result) (ap (λ (l : List ℕ). counts_of l by) printed_w)
        (subst (λ (bs : List Batch). PieceGone plants copies by at bs (v w) (counts_of w.printed by) y (sit (queue_of w) h state found) result) (batches_w ∙ sym (front_free free)) sat_named)))

    sat_next : (r : Result Stands NodeNo) → result ≡ r → SitsBy plants copies sat_start w y n r → IfOk result (λ next. stage_of next ≡ stage_after sat_its.next)
    sat_next (Ok next) is so =
        subst (λ (r : Result Stands NodeNo). IfOk r (λ after. stage_of after ≡ stage_after sat_its.next)) (sym is)
        (sits_next plants copies t sat_start w may_w none_w unplaced_w ne off y n next so ∙ ap (λ (k : Sitting). stage_after k.next) sat_same)
    sat_next (Err e) is so = subst (λ (r : Result Stands NodeNo). IfOk r (λ after. stage_of after ≡ stage_after sat_its.next)) (sym is) tt

    sat_silent : (r : Result Stands NodeNo) → result ≡ r → SitsBy plants copies sat_start w y n r → IfOk result (λ next. next ≢ line.Closed → sat_its.lines ≡ [])
    sat_silent (Ok next) is so =
        subst (λ (r : Result Stands NodeNo). IfOk r (λ after. after ≢ line.Closed → sat_its.lines ≡ [])) (sym is)
        (λ unlike.
        let told : (sit (queue_of w) h state found).next ≢ Told = not_closed next (sit (queue_of w) h state found).next (sits_next plants copies t sat_start w may_w none_w unplaced_w ne off y n next so) unlike in
        ap (λ (k : Sitting). k.lines) (sym sat_same) ∙ sits_silent plants copies t sat_start w may_w none_w unplaced_w ne off y n next so told)
    sat_silent (Err e) is so = subst (λ (r : Result Stands NodeNo). IfOk r (λ after. after ≢ line.Closed → sat_its.lines ≡ [])) (sym is) tt

    sat_gone : Gone q
    sat_gone =
        gone_piece plants copies (at_stage q) p y Flying 0 nothing_found 0 by (stage_after sat_its.next) sat_its turn_w result sat_piece honest_w (sat_next result refl o) (sat_silent result refl o)

  -- A LINE THAT RESETS
  abbrev now_reset : MemberId → Queue → Holder → Sitting
  now_reset of k j = (reset_piece_of k j of).sitting

  closes_gone : (mid : Parts P C) (h : Holder) (of : MemberId) (f : Fate) (moment : ℕ) (pages : ℕ) → h ≡ racer x.base.config by at → mid.batches ≡ settle f moment (journal_of p) → queue_of mid ≡ Q f moment → console_now (v mid) ≡ console_now (v p) → counts_of mid.printed by ≡ counts_of x.printed by
      → turn_in plants copies (at_stage line.Opens) p f moment 0 nothing_found ≡ closes by (reset_pieces (Q f moment) (racer (Q f moment).config by at) of) → ComesTo line.Closed result → HasResetBy plants copies h of mid y pages (done_of result) → Gone line.Opens
  closes_gone mid h of f moment pages holder front queue console count turn next o =
      gone_piece plants copies (at_stage line.Opens) p y f moment nothing_found 0 by Closed (reset_piece_of (Q f moment) (racer (Q f moment).config by at) of).sitting turn result piece tt (comes line.Closed result next) (closes_so _ result next)
    where
      given : PieceGone plants copies h.by h.step mid.batches (v mid) (counts_of mid.printed h.by) y (now_reset of (queue_of mid) h) result
      given = resets_gone plants copies t h of mid y pages (done_of result) o {T = Stands} result (same_done result)

      named : PieceGone plants copies by at mid.batches (v mid) (counts_of mid.printed by) y (now_reset of (queue_of mid) (racer x.base.config by at)) result
      named = subst (λ (j : Holder). PieceGone plants copies j.by j.step mid.batches (v mid) (counts_of mid.printed j.by) y (now_reset of (queue_of mid) j) result) holder given

      piece : PieceGone plants copies by at (settle f moment (journal_of p)) (v p) (counts_of x.printed by) y (now_reset of (Q f moment) (racer (Q f moment).config by at)) result
      piece =
          piece_as plants copies by at (settle f moment (journal_of p)) (v p) (counts_of x.printed by) y (now_reset of (queue_of mid) (racer x.base.config by at)) (now_reset of (Q f moment) (racer (Q f moment).config by at)) result
          (ap (λ (k : Queue). now_reset of k (racer x.base.config by at)) queue ∙ ap (now_reset of (Q f moment)) (its_racer f moment))
          (seen_from plants copies by at (settle f moment (journal_of p)) (v mid) (v p) (counts_of x.printed by) y (now_reset of (queue_of mid) (racer x.base.config by at)) result console
          (subst (λ (k : ℕ). PieceGone plants copies by at (settle f moment (journal_of p)) (v mid) k y (now_reset of (queue_of mid) (racer x.base.config by at)) result) count
          (subst (λ (bs : List Batch). PieceGone plants copies by at bs (v mid) (counts_of mid.printed by) y (now_reset of (queue_of mid) (racer x.base.config by at)) result) front named)))

  -- ACTS ASIDE
  module _ (stand : Stand) (may_a : MayActNext plants copies p m at stand) (free : x.book.holder ≡ nobody) (left : left_holder x.book ≡ None) where
    abbrev acts_state : State
    acts_state = stand.state

    abbrev acts_front : List Batch
    acts_front = settle Flying 0 (journal_of p)

    -- nothing else was done, and nothing was said
    acts_only : (r : Result Found NodeNo) → (is : Option (List ℕ)) → ActsAfter plants p y m stand.state (Some []) is r → (journal_of y ≡ acts_front) × (console_now (v y) ≡ console_now (v p))
    acts_only r is a = (
      ap (λ (q : Parts P C). journal_of q) (only_these r by p y (changed_only plants copies p y m acts_state (Some []) is r a)) ∙ sym front_none,
      (acts_beside plants copies p y m acts_state (Some []) is r a).beside.console t,
    )

    acts_its : IsMine (queue_of p) by acts_state
    acts_its = may_a.goes.mine t

    acts_turn : (inked : ℕ) (saw : Found) → turn_in plants copies (at_stage (line.Acts stand)) p Flying 0 inked saw ≡ acts (Q Flying 0) by (counts_of x.printed by) inked acts_state saw
    acts_turn inked saw = ap (λ (l : Option MemberId). unless_left l (Q Flying 0) by at (Acts acts_state) (acts (Q Flying 0) by (counts_of x.printed by) inked acts_state saw)) left

    abbrev acts_piece : ℕ → Found → Piece
    acts_piece inked saw = with_given (poured inked acts_state saw) (piece_of no_sitting saw.printer (inked_of saw.printer inked (chunk (Q Flying 0) (counts_of x.printed by) acts_state saw.read)))

    acts_answer : (r : Result Stands NodeNo) → result ≡ r → ActsBy plants copies p y m stand r → Gone (line.Acts stand)
    acts_answer (Ok next) is a =
        let found : Found = a.0.found in
        let acted = a.4 in
        let k = acted_count plants copies p y m t (rest.roomy t) acts_state (Some []) a.1 found may_a.goes.off acts_its acted in
        let count : counts_of y.printed by ≡ counts_of x.printed by + length (acts_piece k.0 found).printed =
        k.1 ∙ ap (λ (j : Queue). counts_of x.printed by + length (inked_of found.printer k.0 (chunk j (counts_of x.printed by) acts_state found.read))) (sym (queue_free free)) in
        let same = acts_only (Ok found) a.1 acted in
        let stage : stage_of next ≡ Sits acts_state found = ap stage_of (a.2 ∙ ap (λ (k : Stand). let q : Stands = line.Sits k in q) a.3) in
        subst (HasGone plants copies (at_stage (line.Acts stand)) p y) (sym is)
        (gone_by plants copies (at_stage (line.Acts stand)) p y (Ok next) Flying 0 found k.0 None (acts (Q Flying 0) by (counts_of x.printed by) k.0 acts_state found) (acts_turn k.0 found)
        (whole_so plants copies by at acts_front (v p) y x.book (Q Flying 0) (counts_of x.printed by) (acts_piece k.0 found) [] (same.0 ∙ sym (append-nil acts_front)) 0 0 tt (same.1 ∙ sym (append-nil (console_now (v p)))) (All-nil (λ text. IsOwnText by at text))) (λ none. count)
        (λ l. subst (λ (q : Queue). IsFoundAt x.base.config.groups by (v p) (v y) q acts_state found) (sym (queue_free free)) (found_here plants copies p y m t (rest.roomy t) (may_a.groups t) acts_state (Some []) a.1 found may_a.goes.off acts_its acted)) refl stage (λ open_still. same.1))
    acts_answer (Err e) is a =
        let calm = calm_here plants copies p y m t (rest.roomy t) acts_state may_a.goes.off acts_its in
        let saw : Found = calm.0 in
        let same = acts_only (Err e) a.0 a.1 in
        let halt : IsHaltBy e (Waiting 0 None) = halts_idle e by.0 (v p) (v y) (acts_beside plants copies p y m acts_state (Some []) a.0 (Err e) a.1).cause in
        subst (HasGone plants copies (at_stage (line.Acts stand)) p y) (sym is)
        (gone_by plants copies (at_stage (line.Acts stand)) p y (Err e) Flying 0 saw 0 (Some (cut_at e (Waiting 0 None))) (acts (Q Flying 0) by (counts_of x.printed by) 0 acts_state saw) (acts_turn 0 saw)
        (cut_so plants copies by at acts_front (v p) y x.book (Q Flying 0) (counts_of x.printed by) (acts_piece 0 saw) e (Waiting 0 None) [] (same.0 ∙ sym (append-nil acts_front)) 0 0 tt (same.1 ∙ sym (append-nil (console_now (v p)))) (All-nil (λ text. IsOwnText by at text))) (λ none. absurd (cc))
        (λ l. subst (λ (q : Queue). IsFoundAt x.base.config.groups by (v p) (v y) q acts_state saw) (sym (queue_free free)) calm.1) (Waiting 0 None, refl, halt) tt tt)

    acts_gone : ActsBy plants copies p y m stand result → Gone (line.Acts stand)
    acts_gone o = acts_answer result refl o

  -- A TRY that was refused, or a line that has closed
  waits_gone : (q : Stands) (w : Parts P C) → journal_of w ≡ journal_of p → v w ≡ v p → w.printed ≡ x.printed → turn_in plants copies (at_stage q) p Flying 0 0 nothing_found ≡ waits by (stage_of q) → IfActed x.book (stage_of q) (λ state. IsFoundAt x.base.config.groups by (v p) (v y) (Q Flying 0) state nothing_found)
      → WaitsOn plants copies (stood_of (at_stage q)) w y result → Gone q
  waits_gone q w journal plant printed turn honest o =
      gone_none plants copies (at_stage q) p y Flying 0 nothing_found 0 by (stage_of q) turn q result o.answer refl
      (ap (λ (k : Parts P C). journal_of k) o.frame ∙ journal ∙ sym front_none) (ap (λ (k : Parts P C). console_now (v k)) o.frame ∙ ap (λ (u : View). console_now u) plant)
      (ap (λ (k : Parts P C). counts_of k.printed by) o.frame ∙ ap (λ (l : List ℕ). counts_of l by) printed) honest

  -- THE LOCK of a stopped member
  module _ (of : MemberId) (is : left_holder x.book ≡ Some of) where
    left : IsLeft x.book of
    left = left_is x.book of is

    -- whoever tried for it
    taken_gone : (q : Stands) (w : Parts P C) → w.base ≡ x.base → journal_of w ≡ journal_of p → w.printed ≡ x.printed → v w ≡ v p → w.book.holder ≡ x.book.holder → OnlyBy by x.book w.book → is_stopped w.book by ≡ false
        → ((f : Fate) (moment inked : ℕ) (saw : Found) → turn_in plants copies (at_stage q) p f moment inked saw ≡ takes (Q f moment) by at of (stage_of q)) → ((f : Fate) (moment : ℕ) → IfActed x.book (stage_of q) (λ state. IsFoundAt x.base.config.groups by (v p) (v y) (Q f moment) state nothing_found))
        → TakesUp plants copies (stood_of (at_stage q)) of w y result → Gone q
    taken_gone q w base journal printed plant holder only up turns honest u =
        takes_gone w base journal printed plant of only.hold (inside.0, subst (λ (k : ℕ). by.0 ≤ k) (sym only.many) inside.1) up (only.stays of left.stopped) (subst (λ (k : MemberId). (k.0 == of.0) ≡ true) (sym (holder ∙ left.holds)) (same_number of.0)) q turns honest u

  -- WHATEVER BECAME OF A LINE that was opened

  opens_gone : (a : Admission) → admitted x.base.config x.book by what ≡ a → IsKnown x.base x.book by a → OpensAs plants copies (at_stage line.Opens) p y m n result a → Gone line.Opens
  opens_gone (Refused sayer end) is known o = refused_gone sayer end is o
  opens_gone (Denied why) is known o = by_left (left_holder x.book) refl o where
    turn_at_left : (l : Option MemberId) → left_holder x.book ≡ l → (f : Fate) (moment inked : ℕ) (saw : Found) → turn_in plants copies (at_stage line.Opens) p f moment inked saw ≡ unless_left l (Q f moment) by at Opens (waits by Opens)
    turn_at_left l left f moment inked saw = turn_opens (Denied why) is f moment inked saw ∙ ap (λ (k : Option MemberId). unless_left k (Q f moment) by at Opens (waits by Opens)) left

    by_left : (l : Option MemberId) → left_holder x.book ≡ l → UnlessLeft plants copies l (stood_of (at_stage line.Opens)) z y result (WaitsOn plants copies (stood_of (at_stage line.Opens)) z y result) → Gone line.Opens
    by_left None left w = waits_gone line.Opens z refl refl refl (turn_at_left None left Flying 0 0 nothing_found) tt w
    by_left (Some of) left u =
        taken_gone of left line.Opens z refl refl refl refl (denied_holder x.book by why known.1) (tried_only by x.book inside false) (tried_same by x.book false ∙ known.0.up) (turn_at_left (Some of) left) (λ f moment. tt) u
  opens_gone (Plays task) is known o =
      let free = got_none known.0.up known.1 in
      sat_gone line.Opens z (racer x.base.config by at) (Fresh task) nothing_found refl refl refl refl (none_at free) (unplaced_at free) free refl (got known.0.up known.1) (λ told. absurd (cc)) known.3 (turn_opens (Plays task) is Flying 0 0 nothing_found) tt o
  opens_gone (Resets of) is known o =
      let free = got_none known.0.up known.1 in
      closes_gone z (racer x.base.config by at) of Flying 0 _ refl (sym (front_free free)) (sym (queue_free free)) refl refl (turn_opens (Resets of) is Flying 0 0 nothing_found) o.0 o.1
  opens_gone (TakesOver of) is known o = by_answer result refl o.1 where
    its_hold : left_of (after_seize x.book by of) by ≡ x.base.config.hold
    its_hold = seized_hold x.book by of inside known.2.down known.1 ∙ rest.hold

    taken_over : (mid : Parts P C) (found : Fate) (pages : ℕ) → IsTaken plants copies by of p mid found → mid.base ≡ x.base → HasResetBy plants copies (taker_at plants copies by at mid) of mid y pages (done_of result) → Gone line.Opens
    taken_over mid found pages taken base reset =
        closes_gone mid (taker_at plants copies by at mid) of found (v mid).now pages
        (ap (λ (k : ℕ). record (racer x.base.config by at) { hold = k }) (ap (λ (b : Book). left_of b by) taken.book ∙ its_hold))
        (mid_front p refl refl refl refl of refl inside known.0.up known.2.down known.1 mid found taken base) (mid_queue p refl refl refl refl of refl inside known.0.up known.2.down known.1 mid found taken base)
        (mid_console p refl refl refl refl of refl inside known.0.up known.2.down known.1 mid found taken base) (mid_count p refl refl refl refl of refl inside known.0.up known.2.down known.1 mid found taken base)
        (turn_opens (TakesOver of) is found (v mid).now 0 nothing_found) o.0 reset

    by_answer : (r : Result Stands NodeNo) → result ≡ r → ClosesTaken plants copies by at of p y (length m.room) (done_of r) → Gone line.Opens
    by_answer (Ok next) same k = taken_over k.mid k.found (length m.room) k.taken k.base (subst (λ (r : Result Stands NodeNo). HasResetBy plants copies (taker_at plants copies by at k.mid) of k.mid y (length m.room) (done_of r)) (sym same) k.reset)
    by_answer (Err e) same c = ⊎_elim
        (λ u. untaken_gone p refl refl refl refl of refl inside known.0.up known.2.down known.1 line.Opens e same u nothing_found tt)
        (λ k. taken_over k.mid k.found (length m.room) k.taken k.base (subst (λ (r : Result Stands NodeNo). HasResetBy plants copies (taker_at plants copies by at k.mid) of k.mid y (length m.room) (done_of r)) (sym same) k.reset)) c
  opens_gone (Replaces dev) is known o = absurd o
  opens_gone Locks is known o = absurd o
  opens_gone Frees is known o = absurd o
  opens_gone Unplayed is known o = absurd o

  some_left : (of : MemberId) (l : Option MemberId) → l ≡ Some of → l ≡ None → ⊥
  some_left of l some none = absurd (cc)

  goes_gone : (q : Stands) → WaitsAt plants copies p m at q → GoesAs plants copies (at_stage q) p y m n result q → Gone q
  goes_gone line.Opens stands o = opens_gone (admitted x.base.config x.book by what) refl (waits_so.asked.known x.book) o
  goes_gone (line.Sits stand) stands o = by_left (left_holder x.book) refl o where
    q : Stands
    q = line.Sits stand

    turn_at_left : (l : Option MemberId) → left_holder x.book ≡ l → (f : Fate) (moment inked : ℕ) (saw : Found) → turn_in plants copies (at_stage (line.Sits stand)) p f moment inked saw
        ≡ unless_left l (Q f moment) by at (Sits stand.state stand.found) (sits by (sit (Q f moment) (racer (Q f moment).config by at) stand.state stand.found))
    turn_at_left l left f moment inked saw = ap (λ (k : Option MemberId). unless_left k (Q f moment) by at (Sits stand.state stand.found) (sits by (sit (Q f moment) (racer (Q f moment).config by at) stand.state stand.found))) left

    by_left : (l : Option MemberId) → left_holder x.book ≡ l
        → UnlessLeft plants copies l (stood_of (at_stage (line.Sits stand))) p y result (SitsBy plants copies (record { holder = stand.holder; state = stand.state; found = stand.found }) p y n result) → Gone (line.Sits stand)
    by_left None left u =
        let free = free_now x.book unheld left in
        let may : MayHold x.book by = hold_free x.book by inside one few stands.goes.up free in
        sat_gone (line.Sits stand) p stand.holder stand.state stand.found refl refl refl refl (none_at free) (unplaced_at free) free stands.goes.holder (subst (MayHold x.book) (sym (ap (λ (h : Holder). h.by) stands.goes.holder)) may) (sits_not_told plants copies p by stand stands.right) stands.goes.off
        (turn_at_left None left Flying 0 0 nothing_found) tt u
    by_left (Some of) left u = taken_gone of left (line.Sits stand) p refl refl refl refl refl (only_none by x.book) stands.goes.up (turn_at_left (Some of) left) (λ f moment. tt) u
  goes_gone (line.Acts stand) stands o = by_left (left_holder x.book) refl o where
    turn_at_left : (of : MemberId) → left_holder x.book ≡ Some of → (f : Fate) (moment inked : ℕ) (saw : Found) → turn_in plants copies (at_stage (line.Acts stand)) p f moment inked saw ≡ takes (Q f moment) by at of (Acts stand.state)
    turn_at_left of left f moment inked saw = ap (λ (k : Option MemberId). unless_left k (Q f moment) by at (Acts stand.state) (acts (Q f moment) by (counts_of x.printed by) inked stand.state saw)) left

    by_left : (l : Option MemberId) → left_holder x.book ≡ l → UnlessLeft plants copies l (stood_of (at_stage (line.Acts stand))) p y result (ActsBy plants copies p y m stand result × (n ≡ m)) → Gone (line.Acts stand)
    by_left None left u = acts_gone stand stands (free_now x.book unheld left) left u.0
    by_left (Some of) left u =
        taken_gone of left (line.Acts stand) p refl refl refl refl refl (only_none by x.book) stands.goes.up (turn_at_left of left) (λ f moment none. absurd (some_left of (left_holder x.book) left none)) u
  goes_gone line.Closed stands o = waits_gone line.Closed p refl refl refl refl tt o

  pub went : GoesAs plants copies (at_stage s) p y m n result s → HasGone plants copies (at_stage s) p y result
  went o = goes_gone s waits_so.stands o

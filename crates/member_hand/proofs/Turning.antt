-- A member's turn that ends with an error: it took no seat, or its sitting was cut.
use Rattle.std.proofs.Common.{◌≡◌, ◌≢◌, ⊎_elim, ℕ, ◌+◌, ◌≤◌, Bool, false, List, [], ◌∷◌, ◌++◌, length, Option, Some, None, Result, Ok, Err, IfErr, IfOk, append-nil, refl, sym, ap, ◌∙◌, subst, arith}
use Rattle.mas_types.specs.declared.ids.MemberId.{MemberId}
use Rattle.mas_types.specs.declared.journals.Batch.{Batch}
use Rattle.mas_types.specs.declared.journals.Entry.{Entry}
use Rattle.mas_types.specs.declared.queues.Queue.{Queue}
use Rattle.mas_types.specs.Ids.{nobody}
use Rattle.lock_cycle.specs.Books.{Book}
use Rattle.spool_plant.specs.View.{Line, View, paper_now}
use Rattle.spool_plant.specs.declared.plant.Plant.{Ghosts as PlantGhosts}
use Rattle.ckpt_copy.specs.declared.copying.Copying.{Ghosts as CopyGhosts}
use Rattle.mas_complex.specs.Paper.{SamePapers, counts_of}
use Rattle.mas_complex.specs.Parts.{Parts}
use Rattle.member_node.specs.declared.member.Member.{Member}
use Rattle.member_node.specs.declared.member.NodeNo.{NodeNo}
use Rattle.member_node.specs.declared.member.NodeNo.TheVariants.{BothLost, Halted, ConsoleFault, NoMemory}
use Rattle.member_node.specs.Calls.{IsOnlyOn, VolumesStay, console_now, none_lost}
use Rattle.member_node.proofs.CourseLemmas.{only_on, papers_on, stay_then}
use Rattle.member_steps.specs.Steps.{StepCauses}
use Rattle.mas_complex.specs.CallCounts.{pair_at}
use Rattle.member_decks.specs.Keeping.{CopyCauses}
use Rattle.member_steps.proofs.KeepLemmas.{copy_causes}
use Rattle.member_sittings.specs.declared.ends.SittingEnd.{SittingEnd}
use Rattle.member_sittings.specs.Left.{Reach, ReachesBy, Said, said_nothing, said_of, torn_line}
use Rattle.member_sittings.specs.Sat.{CopiesActed, HasActed, IsSat, Sat, Start, journal_of, sat_in, seated_in}
use Rattle.member_sittings.specs.Tight.{IfNoWork, IsTightBy}
use Rattle.member_sittings.specs.Whole.{queue_of}
use Rattle.step_turns.specs.Sittings.{Sitting, sit}
use Rattle.step_turns.specs.declared.states.State.TheVariants.{Told}
use Rattle.step_turns.proofs.Sittings.{some_may_follow}
use Rattle.run_turns.specs.Cuts.{batches_cut, book_cut, broken, given_cut, lines_cut, printed_cut}
use Rattle.run_turns.specs.Pieces.{Piece, entered, piece_of}
use Rattle.run_turns.specs.Sights.{Halt, Saying, Waiting, Writing}
use Rattle.member_hand.specs.Cuts.{AreBatched, IsAsideHalt, IsBroken, IsHaltBy, IsTight}
use Rattle.member_hand.specs.Locks.{MayHold}
use Rattle.member_hand.specs.Hears.{GivesOnly, TakesNothing, line_served}
use Rattle.member_hand.specs.Plays.{HasActedIn, HasPlayed, stopped_by}
use Rattle.member_hand.specs.Sits.{GoesOn, LeavesStep}
use Rattle.member_hand.specs.Turns.{HasTurned, taken}
use Rattle.member_hand.proofs.Batching.{batched_sooner}
use Rattle.member_hand.proofs.Passages.{passage_of}
use Rattle.member_hand.proofs.Cutting.{IsLeftAt, acted_stopped, bare_cut, book_stopped, cut_at, holder_stopped, its_piece, left_stopped, none_tight, reach_tight, told_cut, unbroken}
use Rattle.member_hand.proofs.StepKinds.{if_all, if_map, if_silent, if_still, stays_from}
use Rattle.member_hand.proofs.Wiring.{gives_after, gives_still, takes_still, takes_then}
use Rattle.member_hand.proofs.Ending.{journal_is}
use Rattle.member_hand.proofs.Following.{acts_then}
use Rattle.member_hand.proofs.Locking.{acts_entered}
use Rattle.member_hand.proofs.Reaching.{all_there, broken_is, halt_by, halts_by, reach_there, reached_all}
use Rattle.member_hand.proofs.Shaping.{blank_own, blank_sitting, shaped_blank, shaped_one}

-- UNDER THE LOCK, nothing of the hold is spent, and nothing is printed

abbrev pub IsLocked : Halt → Type 0
IsLocked (Writing n b) = Unit {0}
IsLocked (Saying n tail) = Unit {0}
IsLocked (Waiting n tail) = ⊥

module _ (by : MemberId) where
  pub book_locked : (halt : Halt) (b : Book) (p : Piece) → IsLocked halt → book_cut by halt b p ≡ entered b by
  book_locked (Writing n b) book p is = refl
  book_locked (Saying n tail) book p is = refl
  book_locked (Waiting n tail) book p is = absurd is

  none_printed : (halt : Halt) (lines : List (List ℕ)) → IsLocked halt → printed_cut by halt lines ≡ []
  none_printed (Writing n b) lines is = refl
  none_printed (Saying n tail) lines is = refl
  none_printed (Waiting n tail) lines is = absurd is

  pub none_given : (halt : Halt) (bytes : List ℕ) → IsLocked halt → given_cut by halt bytes ≡ []
  none_given (Writing n b) bytes is = refl
  none_given (Saying n tail) bytes is = refl
  none_given (Waiting n tail) bytes is = absurd is

-- the printers' lines, as they were
pub papers_are : (v w : View) → v.now ≤ w.now → SamePapers v w → (m : ℕ) → paper_now w m ≡ paper_now v m
papers_are v w later same m = same w.now later (omega arith) m

-- causes of an answer, of whatever type
causes_in : (T : Type 0) (e : NodeNo) (by : ℕ) (a a' b b' : Bool) (v w : View) → StepCauses {T = T} (Err e) by (pair_at a b v) (pair_at a' b' w) → StepCauses {T = Unit {0}} (Err e) by (pair_at a b v) (pair_at a' b' w)
causes_in T NoMemory by a a' b b' v w cause = cause
causes_in T BothLost by a a' b b' v w cause = cause
causes_in T Halted by a a' b b' v w cause = cause
causes_in T ConsoleFault by a a' b b' v w cause = cause

reaches_in : (T : Type 0) (e : NodeNo) (ess : List (List Entry)) (r : Reach) → ReachesBy {T = T} (Err e) ess r → ReachesBy {T = Unit {0}} (Err e) ess r
reaches_in T NoMemory ess r is = is
reaches_in T BothLost ess r is = is
reaches_in T Halted ess r is = is
reaches_in T ConsoleFault ess r is = is

-- THE TURN

module _ {P C : Type 0} (plants : PlantGhosts P) (copies : CopyGhosts C) (s : Start) (x z : Parts P C) (may : MayHold x.book s.holder.by) (none : x.current ≡ None) (unplaced : x.placed ≡ false)
    (frame : z ≡ seated_in z (taken s.holder.by x)) (ne : s.state ≢ Told) where
  abbrev me : MemberId
  me = s.holder.by

  abbrev v : Parts P C → View
  v y = plants.view y.plant

  -- WHAT THE SEAT CHANGES

  pub seat_batches : z.batches ≡ x.batches
  seat_batches = ap (λ (q : Parts P C). q.batches) frame

  pub seat_queue : queue_of z ≡ queue_of x
  seat_queue = ap (λ (q : Parts P C). queue_of q) frame

  pub seat_printed : z.printed ≡ x.printed
  seat_printed = ap (λ (q : Parts P C). q.printed) frame

  pub seat_book : z.book ≡ entered x.book me
  seat_book = ap (λ (q : Parts P C). q.book) frame

  seat_journal : journal_of z ≡ x.batches
  seat_journal = ap (λ (q : Parts P C). journal_of q) frame ∙ journal_is plants copies x none unplaced

  pub seat_acted : CopiesActed plants {T = Unit {0}} me (taken me x) z (Ok tt) → HasActedIn plants copies me x z (Ok tt)
  seat_acted took = record { course = passage_of x.first_alive z.first_alive x.second_alive z.second_alive (v x) (v z) took.on.course; loses = took.on.loses; spares = took.on.spares; cause = took.on.cause; notes = took.notes }

  -- nobody but the member has the lock then
  pub away_never : (w : Parts P C) → w.book.holder ≡ (entered x.book me).holder → w.book.holder ≡ nobody → ⊥
  away_never w same free =
      let some = may.some in
      let is : me.0 ≡ 0 = ap (λ (i : MemberId). i.0) (sym (acts_entered x.book me may).holds ∙ sym same ∙ free) in
      absurd (omega (arith, some, is))

  -- what the plant shows once a member that was halted is stopped in the book
  pub view_stopped : (e : NodeNo) (by : MemberId) (w : Parts P C) (Q : View → Type 0) → Q (v w) → Q (v (stopped_by e by w))
  view_stopped Halted by w Q q = q
  view_stopped BothLost by w Q q = q
  view_stopped ConsoleFault by w Q q = q
  view_stopped NoMemory by w Q q = q

  -- THE SEAT WASN'T TAKEN

  module _ (pages : ℕ) (e : NodeNo) (acts : CopiesActed plants {T = Unit {0}} me (taken me x) z (Err e)) where
    begins_none : (why : NodeNo) → CopyCauses {T = Unit {0}} (Err why) me.0 (pair_at x.first_alive x.second_alive (v x)) (pair_at z.first_alive z.second_alive (v z)) → IsHaltBy why (Writing 0 None)
    begins_none BothLost cause = tt
    begins_none Halted cause = tt
    begins_none NoMemory cause = tt
    begins_none ConsoleFault cause = absurd cause

    pub unsat : (told : Type 0) → (told → plants.tells) → (p : Piece) → IsLeftAt plants copies told me p e (Writing 0 None) x z
    unsat told tells p = record {
      by_answer = begins_none e acts.on.cause;
      more = [];
      journal = seat_journal ∙ sym (append-nil x.batches);
      batches = tt;
      console = λ t. (acts.on.apart (tells t)).console ∙ sym (append-nil (console_now (v x)));
      paper = λ t. papers_are (v x) (v z) acts.on.course.goes.later (acts.on.apart (tells t)).papers me.0 ∙ sym (append-nil (paper_now (v x) me.0));
      other_papers = λ t m other. papers_are (v x) (v z) acts.on.course.goes.later (acts.on.apart (tells t)).papers m;
      other_counts = λ t m other. ap (λ (l : List ℕ). counts_of l m) seat_printed;
    }

    pub unsat_acted : HasActedIn plants copies me x z (Err e)
    unsat_acted = record { course = passage_of x.first_alive z.first_alive x.second_alive z.second_alive (v x) (v z) acts.on.course; loses = acts.on.loses; spares = acts.on.spares; cause = copy_causes (Err e) me.0 (pair_at x.first_alive x.second_alive (v x)) (pair_at z.first_alive z.second_alive (v z)) acts.on.cause; notes = acts.notes }

    pub unseated : (was : Option (List ℕ)) → HasPlayed plants copies s x (stopped_by e me z) pages was was (Err e)
    unseated was =
        let t : Sitting = blank_sitting s.holder s.state in
        let p : Piece = piece_of t false [] in
        let now = its_piece s x in
        let book = book_stopped plants copies me e z (entered x.book me) seat_book in
        record {
          pieces = p ∷ [];
          cut = Some (cut_at e (Writing 0 None));
          played = bare_cut plants copies s.holder p e (Writing 0 None) x (stopped_by e me z) (left_stopped plants copies ⊥ me p e (Writing 0 None) x z (unsat ⊥ (λ t. absurd t) p)) (blank_own s.holder s.state) book;
          shaped = shaped_blank s.holder s.found (v x) (v (stopped_by e me z)) s.state ne (some_may_follow s.state ne);
          tight = if_all s.state (IsTight e (Writing 0 None) t) (none_tight e t);
          acts = acted_stopped plants copies me e x z unsat_acted;
          dry = λ t. if_silent s.state (SamePapers (v x) (v (stopped_by e me z))) (λ no. view_stopped e me z (λ w. SamePapers (v x) w) (acts.on.apart t).papers);
          still = λ t. if_still s.state (IsOnlyOn (v x) (v (stopped_by e me z))) (view_stopped e me z (λ w. IsOnlyOn (v x) w) (acts.on.apart t).others);
          quiet = λ b. absurd b;
          away = λ free. absurd (away_never (stopped_by e me z) (holder_stopped plants copies me e z ∙ ap (λ (b : Book). b.holder) seat_book) free);
          reader = stays_from s.state was was (λ no. refl);
          told = λ t. told_cut plants copies s e (Writing 0 None) x (stopped_by e me z) ne (view_stopped e me z (λ w. VolumesStay none_lost (v x) w) acts.on.course.volumes) (if_all s.state (IsTight e (Writing 0 None) now.sitting) (none_tight e now.sitting)) (unbroken e 0 None now.sitting)
              (left_stopped plants copies (Unit {0}) me now e (Writing 0 None) x z (unsat (Unit {0}) (λ u. t) now)) book
              (view_stopped e me z (λ w. GivesOnly me (line_served s.state) [] (v x) w) (gives_still me (line_served s.state) (v x) (v z) (acts.on.apart t).wires))
              (λ no. view_stopped e me z (λ w. TakesNothing (v x) w) (takes_still (v x) (v z) (acts.on.apart t).wires)) was was;
        }

  -- THE SITTING WAS CUT

  module _ (took : CopiesActed plants {T = Unit {0}} me (taken me x) z (Ok tt)) (y : Parts P C) (same : y ≡ sat_in y z) where
    pub sat_acted : (e : NodeNo) → HasActed plants {T = SittingEnd} me z y (Err e) → HasActedIn plants copies me z y (Err e)
    sat_acted e a = record { course = passage_of z.first_alive y.first_alive z.second_alive y.second_alive (v z) (v y) a.course; loses = a.loses; spares = a.spares; cause = causes_in SittingEnd e me.0 z.first_alive y.first_alive z.second_alive y.second_alive (v z) (v y) a.cause; notes = a.notes }

    pub sat_book : y.book ≡ entered x.book me
    sat_book = ap (λ (q : Parts P C). q.book) same ∙ seat_book

    -- where content is told nothing is printed up to here, and no volume changes
    pub sat_dry : {T : Type 0} {r : Result T NodeNo} → HasActed plants me z y r → plants.tells → SamePapers (v x) (v y)
    sat_dry a t = papers_on (v x) (v z) (v y) took.on.course.goes.later a.course.goes (took.on.apart t).papers (a.papers t)

    pub sat_still : {T : Type 0} {r : Result T NodeNo} → HasActed plants me z y r → plants.tells → IsOnlyOn (v x) (v y)
    sat_still a t = only_on (v x) (v z) (v y) took.on.course.goes.later a.course.goes (took.on.apart t).others (a.others t)

    -- and no volume is lost, nor fails
    pub sat_stays : {T : Type 0} {r : Result T NodeNo} → HasActed plants me z y r → VolumesStay none_lost (v x) (v y)
    sat_stays a = stay_then none_lost (v x) (v z) (v y) took.on.course.volumes a.course.volumes

    -- a sitting, and what it may not leave
    record IsSatTight (e : NodeNo) (u : Sitting) : Type 0 where
      pub sat : IsSat plants me u z y (Err e)
      pub tight : IfNoWork s.state (IsTightBy {T = SittingEnd} (Err e) u.batches sat.reach)

    -- what is known of the cut, and where it was
    pub record IsCutIn (told : Type 0) (p : Piece) (e : NodeNo) : Type 0 where
      pub halt : Halt
      pub locked : IsLocked halt
      pub left : IsLeftAt plants copies told me p e halt x y
      pub tight : IfNoWork s.state (IsTight e halt p.sitting)
      pub broke : told → IsBroken e halt p.sitting

    sooner : (v x).now ≤ (v z).now
    sooner = took.on.course.goes.later

    -- by where it was, the batches that stand and the lines that were said
    cut_in : (told : Type 0) → (told → plants.tells) → (p : Piece) (e : NodeNo) (sat : IsSat plants me p.sitting z y (Err e)) (halt : Halt) → IsLocked halt → IsHaltBy e halt
        → (more : List Batch) → journal_of y ≡ z.batches ++ more → AreBatched me (v z).now (v y).now (batches_cut me halt p.sitting.batches) more
        → (told → console_now (v y) ≡ console_now (v z) ++ lines_cut me halt p.sitting.lines) → IfNoWork s.state (IsTight e halt p.sitting) → (told → IsBroken e halt p.sitting) → IsCutIn told p e
    cut_in told tells p e sat halt locked by_answer more journal batches console tight broke = record {
      halt = halt;
      locked = locked;
      tight = tight;
      broke = broke;
      left = record {
        by_answer = by_answer;
        more = more;
        journal = journal ∙ ap (λ (bs : List Batch). bs ++ more) seat_batches;
        batches = batched_sooner me (v x).now (v z).now (v y).now (batches_cut me halt p.sitting.batches) more sooner batches;
        console = λ t. console t ∙ ap (λ (ls : List Line). ls ++ lines_cut me halt p.sitting.lines) (took.on.apart (tells t)).console;
        paper = λ t.
            papers_are (v z) (v y) sat.acts.course.goes.later (sat.acts.papers (tells t)) me.0 ∙ papers_are (v x) (v z) sooner (took.on.apart (tells t)).papers me.0
            ∙ sym (append-nil (paper_now (v x) me.0)) ∙ ap (λ (ls : List Line). paper_now (v x) me.0 ++ ls) (sym (none_printed me halt p.printed locked));
        other_papers = λ t m other. papers_are (v z) (v y) sat.acts.course.goes.later (sat.acts.papers (tells t)) m ∙ papers_are (v x) (v z) sooner (took.on.apart (tells t)).papers m;
        other_counts = λ t m other. sat.counts.others m other ∙ ap (λ (l : List ℕ). counts_of l m) seat_printed;
      };
    }

    -- a cut before the lines
    writing : (told : Type 0) → (told → plants.tells) → (p : Piece) (e : NodeNo) (sat : IsSat plants me p.sitting z y (Err e)) → IfNoWork s.state (IsTightBy {T = SittingEnd} (Err e) p.sitting.batches sat.reach) → e ≢ ConsoleFault
        → (told → console_now (v y) ≡ console_now (v z)) → IsCutIn told p e
    writing told tells p e sat tight not quiet =
        cut_in told tells p e sat (halt_by sat.reach p.sitting.batches) tt (halts_by e sat.reach p.sitting.batches not (reaches_in SittingEnd e p.sitting.batches sat.reach sat.reached)) sat.more sat.journal
        (reach_there me (v z).now (v y).now sat.reach p.sitting.batches sat.more sat.left) (λ t. quiet t ∙ sym (append-nil (console_now (v z))))
        (if_map s.state (IsTightBy {T = SittingEnd} (Err e) p.sitting.batches sat.reach) (IsTight e (halt_by sat.reach p.sitting.batches) p.sitting) (reach_tight e sat.reach p.sitting) tight) (λ t. unbroken e _ _ p.sitting)

    -- and at the lines, once all batches are kept
    saying : (told : Type 0) → (told → plants.tells) → (p : Piece) (e : NodeNo) (sat : IsSat plants me p.sitting z y (Err e)) (n : ℕ) (tail : Option (List ℕ)) → IsHaltBy e (Saying n tail)
        → (more : List Batch) → journal_of y ≡ z.batches ++ more → AreBatched me (v z).now (v y).now (batches_cut me (Saying n tail) p.sitting.batches) more
        → (told → console_now (v y) ≡ console_now (v z) ++ lines_cut me (Saying n tail) p.sitting.lines) → IsTight e (Saying n tail) p.sitting → (told → IsBroken e (Saying n tail) p.sitting) → IsCutIn told p e
    saying told tells p e sat n tail by_answer more journal batches console tight broke =
        cut_in told tells p e sat (Saying n tail) tt by_answer more journal batches console (if_all s.state (IsTight e (Saying n tail) p.sitting) tight) broke

    abbrev Tightly : (p : Piece) (e : NodeNo) → IsSat plants me p.sitting z y (Err e) → Type 0
    Tightly p e sat = IfNoWork s.state (IsTightBy {T = SittingEnd} (Err e) p.sitting.batches sat.reach)

    -- whatever the plant tells
    pub bare_in : (p : Piece) (e : NodeNo) (sat : IsSat plants me p.sitting z y (Err e)) → Tightly p e sat → IsCutIn ⊥ p e
    bare_in p ConsoleFault sat tight =
        saying ⊥ (λ t. absurd t) p ConsoleFault sat 0 None refl sat.more sat.journal (reached_all me (v z).now (v y).now sat.reach p.sitting.batches sat.more sat.left sat.reached) (λ t. absurd t) tt (λ t. absurd t)
    bare_in p NoMemory sat tight = writing ⊥ (λ t. absurd t) p NoMemory sat tight (λ is. absurd (cc)) (λ t. absurd t)
    bare_in p BothLost sat tight = writing ⊥ (λ t. absurd t) p BothLost sat tight (λ is. absurd (cc)) (λ t. absurd t)
    bare_in p Halted sat tight = writing ⊥ (λ t. absurd t) p Halted sat tight (λ is. absurd (cc)) (λ t. absurd t)

    -- where content is told
    module _ (t : plants.tells) (p : Piece) where
      abbrev lines : List (List ℕ)
      lines = p.sitting.lines

      said_none : (e : NodeNo) (sat : IsSat plants me p.sitting z y (Err e)) → (sat.console t).said ≡ said_nothing → console_now (v y) ≡ console_now (v z)
      said_none e sat is = (sat.console t).is ∙ ap (λ (k : Said). console_now (v z) ++ said_of k lines) is ∙ append-nil (console_now (v z))

      said_some : (e : NodeNo) (sat : IsSat plants me p.sitting z y (Err e)) → (sat.console t).said.lines + length (torn_line (sat.console t).said.torn) ≤ length lines
          → console_now (v y) ≡ console_now (v z) ++ broken (sat.console t).said.lines (sat.console t).said.torn lines
      said_some e sat le = (sat.console t).is ∙ ap (λ (ls : List Line). console_now (v z) ++ ls) (broken_is (sat.console t).said.lines (sat.console t).said.torn lines le)

      pub told_in : (e : NodeNo) (sat : IsSat plants me p.sitting z y (Err e)) → Tightly p e sat → IsCutIn (Unit {0}) p e
      told_in NoMemory sat tight = writing (Unit {0}) (λ u. t) p NoMemory sat tight (λ is. absurd (cc)) (λ u. said_none NoMemory sat (sat.console t).by_answer)
      told_in BothLost sat tight = writing (Unit {0}) (λ u. t) p BothLost sat tight (λ is. absurd (cc)) (λ u. said_none BothLost sat (sat.console t).by_answer)
      told_in ConsoleFault sat tight =
          let said = sat.console t in
          let none = ap (λ (o : Option (List ℕ)). length (torn_line o)) said.by_answer.1 in
          let less = said.by_answer.0 in
          saying (Unit {0}) (λ u. t) p ConsoleFault sat said.said.lines said.said.torn said.by_answer.1 sat.more sat.journal
          (reached_all me (v z).now (v y).now sat.reach p.sitting.batches sat.more sat.left sat.reached) (λ u. said_some ConsoleFault sat (omega (arith, none, less))) tt (λ u. said.by_answer.0)
      told_in Halted sat tight =
          let said = sat.console t in
          ⊎_elim (λ nothing. writing (Unit {0}) (λ u. t) p Halted sat tight (λ is. absurd (cc)) (λ u. said_none Halted sat nothing))
          (λ kept. saying (Unit {0}) (λ u. t) p Halted sat said.said.lines said.said.torn tt kept.0 kept.1 (all_there me (v z).now (v y).now p.sitting.batches kept.0 kept.2) (λ u. said_some Halted sat said.by_answer) tt (λ u. tt))
          said.once_kept

    pub not_aside : (halt : Halt) → IsLocked halt → IsAsideHalt halt → ⊥
    not_aside (Writing n b) locked aside = aside
    not_aside (Saying n tail) locked aside = aside
    not_aside (Waiting n tail) locked aside = locked

    -- nothing moves on a line
    pub sat_gives : {T : Type 0} {r : Result T NodeNo} → HasActed plants me z y r → plants.tells → GivesOnly me (line_served s.state) [] (v x) (v y)
    sat_gives a t = gives_after me (line_served s.state) [] (v x) (v z) (v y) (took.on.apart t).wires (gives_still me (line_served s.state) (v z) (v y) (a.wires t))

    pub sat_takes : {T : Type 0} {r : Result T NodeNo} → HasActed plants me z y r → plants.tells → TakesNothing (v x) (v y)
    sat_takes a t = takes_then (v x) (v z) (v y) (takes_still (v x) (v z) (took.on.apart t).wires) (takes_still (v z) (v y) (a.wires t))

    pub sat_cut : (pages : ℕ) (was : Option (List ℕ)) (e : NodeNo) → Sat plants s z y (Err e) → HasPlayed plants copies s x (stopped_by e me y) pages was was (Err e)
    sat_cut pages was e sat =
        let p : Piece = piece_of sat.sitting false [] in
        let c = bare_in p e sat.sat sat.tight in
        let now = its_piece s x in
        record {
          pieces = p ∷ [];
          cut = Some (cut_at e c.halt);
          played = bare_cut plants copies s.holder p e c.halt x (stopped_by e me y) (left_stopped plants copies ⊥ me p e c.halt x y c.left) sat.of
              (book_stopped plants copies me e y (book_cut me c.halt x.book p) (sat_book ∙ sym (book_locked me c.halt x.book p c.locked)));
          shaped = shaped_one s.holder s.found (v x) (v (stopped_by e me y)) sat.sitting s.state ne (some_may_follow s.state ne) sat.shaped;
          tight = c.tight;
          acts = acted_stopped plants copies me e x y (acts_then plants copies me x z y (Err e) (seat_acted took) (sat_acted e sat.sat.acts));
          dry = λ t. if_silent s.state (SamePapers (v x) (v (stopped_by e me y))) (λ no. view_stopped e me y (λ w. SamePapers (v x) w) (sat_dry sat.sat.acts t));
          still = λ t. if_still s.state (IsOnlyOn (v x) (v (stopped_by e me y))) (view_stopped e me y (λ w. IsOnlyOn (v x) w) (sat_still sat.sat.acts t));
          quiet = λ b. absurd (not_aside c.halt c.locked b);
          away = λ free. absurd (away_never (stopped_by e me y) (holder_stopped plants copies me e y ∙ ap (λ (b : Book). b.holder) sat_book) free);
          reader = stays_from s.state was was (λ no. refl);
          told = λ t.
              let is : sat.sitting ≡ now.sitting = sat.is t ∙ ap (λ (Q : Queue). sit Q s.holder s.state s.found) seat_queue in
              let all = subst (IsSatTight e) is (record { sat = sat.sat; tight = sat.tight }) in
              let d = told_in t now e all.sat all.tight in
              told_cut plants copies s e d.halt x (stopped_by e me y) ne (view_stopped e me y (λ w. VolumesStay none_lost (v x) w) (sat_stays sat.sat.acts)) d.tight (d.broke tt) (left_stopped plants copies (Unit {0}) me now e d.halt x y d.left)
              (book_stopped plants copies me e y (book_cut me d.halt x.book now) (sat_book ∙ sym (book_locked me d.halt x.book now d.locked)))
              (subst (λ (bytes : List ℕ). GivesOnly me (line_served s.state) bytes (v x) (v (stopped_by e me y))) (sym (none_given me d.halt now.given d.locked)) (view_stopped e me y (λ w. GivesOnly me (line_served s.state) [] (v x) w) (sat_gives sat.sat.acts t)))
              (λ no. view_stopped e me y (λ w. TakesNothing (v x) w) (sat_takes sat.sat.acts t)) was was;
        }

    -- by the sitting's answer
    pub turned : (r : Result SittingEnd NodeNo) → Sat plants s z y r → IfOk r (HasTurned plants s x y)
    turned (Ok end) sat = record { seat = z; locked = frame; took = took; frame = same; sat = sat }
    turned (Err e) sat = tt

    pub turn_cut : (pages : ℕ) (r : Result SittingEnd NodeNo) → Sat plants s z y r → IfErr r (λ e. (was : Option (List ℕ)) → HasPlayed plants copies s x (stopped_by e me y) pages was was (Err e))
    turn_cut pages (Ok end) sat = tt
    turn_cut pages (Err e) sat = λ was. sat_cut pages was e sat

    pub leaves_from : (n : Member) (r : Result SittingEnd NodeNo) → IfOk r (LeavesStep plants copies z y n s) → IfOk r (LeavesStep plants copies x y n s)
    leaves_from n (Ok end) l = record { sits = l.sits; waits = l.waits; goes = subst (λ (k : ℕ). GoesOn s.state end.next k y.level) (ap (λ (q : Parts P C). q.level) frame) l.goes }
    leaves_from n (Err e) l = tt

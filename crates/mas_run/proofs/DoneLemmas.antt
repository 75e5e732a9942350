-- A line whose member got the lock by a try, and played a task with it or reset a stopped member; and a line that ended
-- before its first act.
use Rattle.mas_run.proofs.Names.{Admission, AdmissionLeaves, AreBatched, AreFoundIn, ArePiecesOf, AreVolumesKept, Ask, AtCut, Batch, Carries, Complex, Config, Cut, Err, Fate, Flying, Fresh, Ghosts as CopyGhosts, Give, Halt, HasActedIn, HasCut, HasPlayed, HasReset, HasResetBy, HearsStep, Holder, IfCommand, IfErr, IfIdle, IfNoPrint, IsAfterReset, IsAfterStep, IsBetweenSittings, IsBroken, IsCutBy, IsCutIn, IsGivable, IsOperatorAway, IsQuiet, IsShapedAs, IsTight, Left, LeftAt, LineAt, LineDone, LineIsLeft, List, LosesAs, MayBeAsked, MayGoOn, MayPlay, MayReset, Member, MemberId, NodeNo, None, Ok, OnOk, Option, Parts, Piece, PlantGhosts, Play, Plays, PlaysPlayed as Played, PrintsNone, Proceeds, Queue, ReadsAnyPieces, RenewsAs, Resets, Result, SamePapers, Scene, Sight, SitsAreFewUnits as AreFewUnits, Sitting, Some, SteadyGhosts, Task, View, ViewLine as Line, VolumesStay, Wait, Writes, adds, adds_part, admitted, after_try, ap, arith, asked, begins as begun, clear, comes, console_now, copies_at, counted, counts_of, cut_left, ended_as, false, fate_found, flown_of, granted_by, inl, inr, is_stopped, is_takeover, is_work, journal_of, journal_still, kept_on, kept_then, left, left_as, left_by, left_of as hold_left, length, line_by, members_most, named_as, named_in, once_found, other, pair_state, paper_now, papers_on, parts_of, pieces_as, pieces_from, play_as, play_in, played, played_in, plays_left_of as left_of, proceeds_of, queue_met, queue_of, refl, scene_as, set, settle, spares_none, stay_then, subst, sym, take, taking, task_most, true, waits_in, whole_pieces, ℕ, ◌++◌, ◌-◌, ◌∙◌, ◌≡◌, ◌≤◌, ◌⊎◌, IsAfterTakeover, on_ok, Halted, Reset}
use Rattle.mas_run.proofs.AfterLemmas.{IsTold, same_config}
use Rattle.member_sittings.specs.Tight.{IfNoWork}
use Rattle.member_resets.proofs.SettleLemmas.{settle_none}
use Rattle.mas_run.proofs.PassedLemmas.{batched_within}
use Rattle.mas_run.proofs.AlikeLemmas.{alike_same, left_alike}
use Rattle.mas_run.proofs.LeftLemmas.{loses_on, stays_any, if_runs}
use Rattle.mas_run.proofs.WireLemmas.{ReadsLine, task_carries, waits_on, read_after}
use Rattle.mas_run.proofs.ArmLemmas.{its_holder, turn_holder, HasTurn, left_so, turn_goes, turn_hold, turn_quiet, done_on}
use Rattle.mas_run.proofs.CopiesLemmas.{acted_leaves}
use Rattle.mas_run.proofs.TurnedLemmas.{turned}
use Rattle.mas_run.proofs.ClosingLemmas.{acts_caused, told_honest, HasMerelyActed, acts_then, none_merely}

-- without the count
abbrev erased : Left → Left
erased l = record { batches = l.batches; lines = l.lines; printed = l.printed; prints = l.prints; given = l.given; count = 0; book = l.book }

left_erased : (by : MemberId) (cut : Option Cut) (play : Play) (c d : ℕ) → erased (left_by by cut play c) ≡ erased (left_by by cut play d)
left_erased by cut play c d =
    left_alike by play (λ (p q : Piece). p ≡ q) (λ (l m : Left). erased l ≡ erased m) (λ l m p q e same. ap (λ (x : Left). erased (adds by play.locked x p)) e ∙ ap (λ (r : Piece). erased (adds by play.locked m r)) same)
    (λ halt l m p q e same. ap (λ (x : Left). erased (adds_part by play.locked halt x p)) e ∙ ap (λ (r : Piece). erased (adds_part by play.locked halt m r)) same) (λ why l m e. ap (λ (x : Left). erased (cut_left by why x)) e)
    cut play.pieces c d (alike_same (λ (p q : Piece). p ≡ q) (λ p. refl) (whole_pieces cut play.pieces) play.pieces) refl

-- IT DEPENDS on the pieces, the book and the lock alone

left_same : (by : MemberId) (cut : Option Cut) (p q : Play) (c : ℕ) → p.pieces ≡ q.pieces → p.book ≡ q.book → p.locked ≡ q.locked → left_by by cut p c ≡ left_by by cut q c
left_same by q1 p q c pieces book locked = grind arith

-- WHERE IT WAS CUT

cut_there : (r : Result (Unit {0}) NodeNo) (ps : List Piece) (cut : Option Cut) → IsCutIn r ps cut → IsCutBy r ps cut
cut_there (Ok done) ps cut is = is
cut_there (Err e) ps None is = absurd is
cut_there (Err e) ps (Some cut) is = record { there = inl is.there; halt = is.halt; cause = is.cause }

-- BEFORE THE STEP: nothing, or a takeover, which found this of a batch in flight at a moment

pub record ComesTo {P C : Type 0} (plants : PlantGhosts P) (reads : List ℕ → Option (List ℕ)) (told : Type 0) (by : MemberId) (a : Admission) (found : Fate) (at : ℕ) (x mid : Parts P C) : Type 0 where
  pub acted : HasMerelyActed plants by a x mid (Ok tt)
  pub moment : ((plants.view x.plant).now ≤ at) × (at ≤ (plants.view mid.plant).now)
  pub journal : mid.batches ≡ settle found at (journal_of x)
  pub printed : mid.printed ≡ x.printed
  pub console : told → console_now (plants.view mid.plant) ≡ console_now (plants.view x.plant)
  pub loses : told → LosesAs reads (taking (is_takeover a) found) None (plants.view x.plant) (plants.view mid.plant)

-- a step with which the line begins
comes_none : {P C : Type 0} (plants : PlantGhosts P) {reads : List ℕ → Option (List ℕ)} (told : Type 0) (by : MemberId) (a : Admission) (x : Parts P C) → journal_of x ≡ x.batches → ComesTo plants reads told by a Flying (plants.view x.plant).now x x
comes_none plants told by a x still = record {
  acted = none_merely plants by a x (Ok tt) (spares_none by.0 (plants.view x.plant)) (inr (refl, refl));
  moment = (omega arith, omega arith);
  journal = sym (settle_none (plants.view x.plant).now (journal_of x) ∙ still);
  printed = refl;
  console = λ t. refl;
  loses = λ t d. inl refl;
}

-- THE STEP, whose holder has the lock, at a scene

module _ {P C : Type 0} (plants : PlantGhosts P) (copies : CopyGhosts C) (told : Type 0) (tells : told → plants.tells) (S : Scene) (h : Holder) (what : Ask)
    (a : Admission) (sight : Sight) (ps : List Piece) (x mid y : Parts P C) (result : Result (Unit {0}) NodeNo) where
  abbrev v : Parts P C → View
  v z = plants.view z.plant

  abbrev l : LineAt
  l = record { scene = S; number = h.step; step = line_by h.by what; given = record { sight = sight; pieces = ps } }

  abbrev left_mid : Left
  left_mid = left_of plants copies h.by sight.cut ps mid

  -- where it waited, in these pieces
  abbrev waits_so : List Piece → List Wait
  waits_so qs = waits_in (take (whole_pieces sight.cut qs) qs) (queue_met S a sight)

  -- what is known of it where content is told
  pub record IsToldStep : Type 0 where
    pub right : ArePiecesOf S h.by h.step a l.given
    pub honest : AreFoundIn S.queue.config.groups h.by (v x) (v y) sight.finds (waits_so ps)
    pub stay : VolumesStay (named_in sight.finds (waits_so ps)) (v mid) (v y)
    pub broke : AtCut (IsBroken (ended_as result)) sight.cut ps
    pub dry : PrintsNone a → SamePapers (v mid) (v y)
    pub volumes : AdmissionLeaves a → AreVolumesKept (v mid) (v y)
    pub count : is_stopped S.book h.by ≡ false → counts_of mid.printed h.by ≡ S.counts h.by
    pub writes : Writes plants copies h.by left_mid mid y result
    pub wires : Carries x.since l a left_mid.given (v x) (v y)

  -- what is to be known of the scene, of what was done before, and of the step
  module _ (pieces : pieces_as l a ≡ ps) (book : (play_as l a).book ≡ mid.book) (locked : (play_as l a).locked ≡ true)
      (when : ℕ) (comes : ComesTo plants copies.reads told h.by a (fate_found a sight) when x mid)
      (cut : HasCut plants copies h ps sight.cut mid y result) (acts : HasActedIn plants copies h.by mid y result) where
    pub stepped_left : admitted S.queue.config S.book h.by what ≡ a → RenewsAs a sight.cut sight.renewed (copies_at plants x) (copies_at plants y) → told ⊎ IsShapedAs l (v x) (v y) a
        → IfIdle (is_work a) (AtCut (IsTight (ended_as result)) sight.cut ps) → (told → IsToldStep) → LeftAt plants copies told S h.step (line_by h.by what) x y result
    stepped_left adm renews shaped tight so = let on : Proceeds (v mid) (v y) = proceeds_of (v mid) (v y) acts.course.goes in
        let came = comes.acted in
        let paper_mid : told → (m : ℕ) → paper_now (v mid) m ≡ paper_now (v x) m = λ t m. came.papers (tells t) (v mid).now came.acts.goes.later (let same : (v mid).now ≤ (v mid).now = omega arith in same) m in
        let alike : erased left_mid ≡ erased (left_as l a) =
        sym (left_erased h.by sight.cut (play_as l a) (S.counts h.by) (counts_of mid.printed h.by) ∙ ap erased (left_same h.by sight.cut (play_as l a) (play_in h.by ps mid.book (queue_of mid)) (counts_of mid.printed h.by) pieces book locked)) in
        let count_alike : counts_of mid.printed h.by ≡ S.counts h.by → left_mid.count ≡ (left_as l a).count = λ same. ap (λ (k : Left). k.count) (sym (left_same h.by sight.cut (play_as l a) (play_in h.by ps mid.book (queue_of mid)) (counts_of mid.printed h.by) pieces book locked))
        ∙ ap (λ (n : ℕ). (left_by h.by sight.cut (play_as l a) n).count) same in left_so plants copies told S h.step h.by what a l.given x y result adm renews (record {
          acts = acts_then h.by a (v x) (v mid) (v y) result came.acts (acts_caused h.by a (pair_state plants.view mid) (pair_state plants.view y) result acts.course.goes acts.spares acts.cause);
          shaped = shaped;
          right = λ t. (so t).right;
          honest = λ t. subst (λ (qs : List Piece). AreFoundIn S.queue.config.groups h.by (v x) (v y) sight.finds (waits_so qs)) (sym pieces) (so t).honest;
          stay = λ t. stay_then (named_as l a sight.cut) (v x) (v mid) (v y) came.stay (subst (λ (qs : List Piece). VolumesStay (named_in sight.finds (waits_so qs)) (v mid) (v y)) (sym pieces) (so t).stay);
          cut = subst (λ (qs : List Piece). IsCutBy result qs sight.cut) (sym pieces) (cut_there result ps sight.cut cut.by_answer);
          tight = subst (λ (qs : List Piece). IfIdle (is_work a) (AtCut (IsTight (ended_as result)) sight.cut qs)) (sym pieces) tight;
          broke = λ t. subst (λ (qs : List Piece). AtCut (IsBroken (ended_as result)) sight.cut qs) (sym pieces) (so t).broke;
          own = cut.leaves.more;
          at = when;
          moment = (comes.moment.0, let le = comes.moment.1 in let more = acts.course.goes.later in omega (arith, le, more));
          journal = cut.leaves.journal ∙ ap (λ (bs : List Batch). bs ++ cut.leaves.more) comes.journal;
          batches = batched_within h.by (v x).now (v mid).now (v y).now (v y).now (left_as l a).batches cut.leaves.more came.acts.goes.later (omega arith)
              (subst (λ (k : Left). AreBatched h.by (v mid).now (v y).now k.batches cut.leaves.more) alike cut.leaves.batches);
          book = if_runs result (y.book ≡ (left_as l a).book) (λ e. cut.leaves.book ∙ ap (λ (k : Left). k.book) alike);
          console = λ t. (so t).writes.console ∙ ap (λ (ls : List Line). ls ++ left_mid.lines) (comes.console t) ∙ ap (λ (k : Left). console_now (v x) ++ k.lines) alike;
          paper = λ t. (so t).writes.paper ∙ ap (λ (ls : List Line). ls ++ left_mid.printed) (paper_mid t h.by.0) ∙ ap (λ (k : Left). paper_now (v x) h.by.0 ++ k.printed) alike;
          other_papers = λ t m other. (so t).writes.other_papers m other ∙ paper_mid t m;
          dry = λ t none. papers_on (v x) (v mid) (v y) came.acts.goes.later acts.course.goes (came.papers (tells t)) ((so t).dry none);
          count = λ t up. on_ok result (so t).writes.count (λ is. is ∙ count_alike ((so t).count up));
          other_counts = λ t m other. (so t).writes.other_counts m other ∙ ap (λ (p : List ℕ). counts_of p m) comes.printed;
          loses = λ t d. loses_on copies.reads (v x) (v mid) (v y) acts.course.goes (acts.loses (tells t)) (taking (is_takeover a) (fate_found a sight)) d (comes.loses t d);
          volumes = λ t leaves. kept_then (v y).now (v x) (v mid) (v y) came.acts.goes.later on (came.volumes (tells t)) ((so t).volumes leaves);
          wires = λ t. subst (λ (k : Left). Carries x.since l a k.given (v x) (v y)) alike (so t).wires;
        })

-- A TASK, played as a whole step

-- what is said of all but work, or of a command alone
tight_so : (task : Task) (A B : Type 0) → (A → B) → IfNoWork (Fresh task) A → IfIdle (is_work (Plays task)) B
tight_so q0 q1 q2 f is = grind arith

dry_so : (task : Task) (A : Type 0) → IfNoPrint (Fresh task) A → PrintsNone (Plays task) → A
dry_so q0 q1 is none = grind arith

still_so : (task : Task) (A : Type 0) → IfCommand (Fresh task) A → AdmissionLeaves (Plays task) → A
still_so q0 q1 is leaves = grind arith

-- what is said of where a step was cut that ended with an error is said of any
cut_so : (r : Result (Unit {0}) NodeNo) (ps : List Piece) (cut : Option Cut) (P : NodeNo → Halt → Sitting → Type 0) → IsCutIn r ps cut
    → IfErr r (λ e. AtCut (P e) cut ps) → AtCut (P (ended_as r)) cut ps
cut_so (Ok done) ps cut P is at = subst (λ (c : Option Cut). AtCut (P Halted) c ps) (sym is) tt
cut_so (Err e) ps cut P is at = at

-- a task within the limits uses few units
few_units : (Q : Queue) (by : MemberId) (task : Task) → MayBeAsked Q by task → AreFewUnits (Fresh task)
few_units q0 by q2 asked = grind arith

-- WITH THE LOCK, by a try

module _ {P C : Type 0} {plants : PlantGhosts P} {steadies : SteadyGhosts C} {copies : CopyGhosts C} {x mid : Complex P C plants steadies copies} {ms : List Member}
    {at : ℕ} {by : MemberId} {what : Ask} {a : Admission} {m : Member} (turn : HasTurn x mid ms at by what a m)
    (h : Holder) (same : h ≡ record { by = by; step = at; hold = hold_left mid.book by; grant = granted_by x.book by }) where
  abbrev p : Parts P C
  p = parts_of x

  abbrev t : Parts P C
  t = record p { book = after_try x.book by false }

  abbrev k : Holder
  k = turn_holder turn

  abbrev u : Parts P C → View
  u z = plants.view z.plant

  its_so : h ≡ k
  its_so = its_holder turn h same

  still : journal_of t ≡ t.batches
  still = journal_still p (turn_quiet turn).none (turn_quiet turn).unplaced

  -- nothing is in flight
  unflown : (ps : List Piece) → once_found (flown_of p.current) ps ≡ ps
  unflown ps = ap (λ (c : Option Batch). once_found (flown_of c) ps) (turn_quiet turn).none

  goes_h : (task : Task) → AreFewUnits (Fresh task) → MayGoOn plants copies (parts_of mid) m h (Fresh task)
  goes_h task small =
      subst (λ (w : Parts P C). MayGoOn plants copies w m h (Fresh task)) (sym turn.frame) (subst (λ (j : Holder). MayGoOn plants copies t m j (Fresh task)) (sym its_so) (turn_goes turn task small))

  -- it may play a task, or reset a member
  pub may_play : (task : Task) → MayBeAsked x.base by task → MayPlay mid m (begun h task)
  may_play task asked =
      let base = ap (λ (w : Parts P C). w.base) turn.frame in
      let right : MayBeAsked mid.base m.id task = subst (λ (Q : Queue). MayBeAsked Q m.id task) (sym base) (subst (λ (j : MemberId). MayBeAsked x.base j task) (sym turn.own) asked) in
      assumption (goes_h task (few_units x.base by task asked), right, few_units x.base by task asked)

  pub may_reset : (of : MemberId) → of.0 ≤ members_most → IsGivable x.base by (Reset of) → MayReset mid m h of
  may_reset of most givable =
      let base = ap (λ (w : Parts P C). w.base) turn.frame in
      let holds : mid.book.holder ≡ h.by = ap (λ (w : Parts P C). w.book.holder) turn.frame ∙ turn.got.holds ∙ sym (ap (λ (j : Holder). j.by) its_so) in
      let its : IsGivable mid.base m.id (Reset of) = subst (λ (Q : Queue). IsGivable Q m.id (Reset of)) (sym base) (subst (λ (j : MemberId). IsGivable x.base j (Reset of)) (sym turn.own) givable) in
      assumption (goes_h (Give (Reset of)) (omega arith), holds, its, most)

  -- where the value stands after it
  module _ (y : Complex P C plants steadies copies) (n : Member) (stays : n.id ≡ m.id) (frame_y : parts_of y ≡ played_in (parts_of y) (parts_of mid)) where
    abbrev q : Parts P C
    q = parts_of y

    frame_t : q ≡ played_in q t
    frame_t = subst (λ (w : Parts P C). q ≡ played_in q w) turn.frame frame_y

    renewals_t : y.renewals ≡ t.renewals
    renewals_t = ap (λ (w : Parts P C). w.renewals) frame_t

    -- WHAT ITS LINE COMES TO, by the pieces that it left

    module _ (r : Result (Unit {0}) NodeNo) (pieces : List Piece) (cut : Option Cut) (played : HasCut plants copies k pieces cut t q r) (acts : HasActedIn plants copies by t q r)
        (away : IsOperatorAway y.book y.reserved y.current) (quiet : IsBetweenSittings cut → IsQuiet plants copies q (length m.room))
        (task : Task) (after : OnOk r (IsAfterStep mid y m n (begun h task))) (left : (told : Type 0) → IsTold plants told → LineIsLeft told at (line_by by what) x y r) where
      turn_done : LineDone x y (set ms (by.0 - 1) n) at by what r
      turn_done =
          let now : OnOk r (IsAfterTakeover mid y m n) = on_ok r after (λ (a : IsAfterStep mid y m n (begun h task)). record { aside = a.aside; room = a.room; seat = λ holds. a.seat (holds ∙ turn.own ∙ sym (ap (λ (j : Holder). j.by) its_so)) }) in
          let both = turned x mid y t ms k turn.arm.is turn.inside (turn_hold turn) m n turn.own stays turn.up.many pieces cut away quiet acts.notes r played now in
          done_on x y (set ms (by.0 - 1) n) at by what r (ap (λ (w : Parts P C). w.base) frame_t) (ap (λ (w : Parts P C). w.since) frame_t) turn.arm.few turn.arm.is left
          (acted_leaves plants copies by t q r acts renewals_t) both.0 both.1 (λ e. turn.inside)

    -- A TASK

    module _ (task : Task) (asked : MayBeAsked x.base by task) (adm : admitted (queue_of p).config x.book by what ≡ Plays task) (was_read is_read : Option (List ℕ)) (r : Result (Unit {0}) NodeNo)
        (played : Played mid y m (begun h task) was_read is_read r) (after : OnOk r (IsAfterStep mid y m n (begun h task))) (read : plants.tells → ReadsLine plants p p by task was_read) where
      its : HasPlayed plants copies (begun k task) t q (length m.room) was_read is_read r
      its =
          subst (λ (j : Holder). HasPlayed plants copies (begun j task) t q (length m.room) was_read is_read r) its_so
          (subst (λ (w : Parts P C). HasPlayed plants copies (begun h task) w q (length m.room) was_read is_read r) turn.frame played)

      -- the reader of its line goes on
      pub reads_on : plants.tells → ReadsAnyPieces → r ≡ Ok tt → ReadsLine plants p q by task is_read
      reads_on tells law ok =
          let so = its.told tells in
          let waits = waits_in (take (whole_pieces so.sight.cut so.pieces) so.pieces) (queue_of t) in
          read_after plants p q by was_read is_read task so.sight.finds waits law (subst (λ (k : Result (Unit {0}) NodeNo). HearsStep by (u p) (u q) was_read is_read (Fresh task) k so.sight.finds waits) ok so.hears)
          (waits_on so.sight (counts_of t.printed by) (queue_of t) k task so.pieces (whole_pieces so.sight.cut so.pieces) so.is) (read tells)

      plays_left : (told : Type 0) → IsTold plants told → LineIsLeft told at (line_by by what) x y r
      plays_left told (inl none) counts armed counted =
          stepped_left plants copies told (λ o. absurd (none o)) (scene_as p counts armed) k what (Plays task) (record clear { cut = its.cut }) its.pieces t t q r
          (unflown its.pieces) refl refl (u t).now (comes_none plants told by (Plays task) t still) its.played its.acts adm renewals_t (inr (record { own = its.played.of; shaped = its.shaped }))
          (tight_so task _ _ (cut_so r its.pieces its.cut IsTight its.played.by_answer) its.tight) (λ o. absurd (none o))
      plays_left told (inr known) counts armed counted =
          let so = its.told known.1 in
          let l : LineAt = record { scene = scene_as p counts armed; number = at; step = line_by by what; given = record { sight = so.sight; pieces = so.pieces } } in
          let waits : List Piece → List Wait = λ qs. waits_in (take (whole_pieces so.sight.cut qs) qs) (queue_of t) in
          let right = so.is ∙ ap (λ (n : ℕ). pieces_from (task_most task) so.sight n (queue_of t) k (Fresh task)) (counted known.0 by turn.got.is_up.up) in
          let honest = subst (λ (c : Config). AreFoundIn c.groups by (u t) (u q) so.sight.finds (waits so.pieces)) (sym (same_config p)) so.finds in
          let volumes : AdmissionLeaves (Plays task) → AreVolumesKept (u t) (u q) = λ leaves. kept_on (u t) (u q) (still_so task _ (its.still known.1) leaves) in
          let wires = task_carries plants t l (left_of plants copies by so.sight.cut so.pieces t).given (u q) was_read is_read r (waits so.pieces) task so.gives so.hears (ap waits (unflown so.pieces)) (read known.1)
          (waits_on so.sight (counts_of t.printed by) (queue_of t) k task so.pieces (whole_pieces so.sight.cut so.pieces) so.is) in
          stepped_left plants copies told (λ o. known.1) (scene_as p counts armed) k what (Plays task) so.sight so.pieces t t q r
          (unflown so.pieces) refl refl (u t).now (comes_none plants told by (Plays task) t still) so.cut its.acts adm renewals_t (inl known.0) (tight_so task _ _ (cut_so r so.pieces so.sight.cut IsTight so.cut.by_answer) so.tight)
          (λ o. assumption (so, right, honest, volumes, wires, cut_so r so.pieces so.sight.cut IsBroken so.cut.by_answer so.broke, dry_so task (SamePapers (u t) (u q)) (its.dry known.1), counted known.0 by))

      pub plays_done : LineDone x y (set ms (by.0 - 1) n) at by what r
      plays_done = turn_done r its.pieces its.cut its.played its.acts its.away its.quiet task after plays_left

    -- A RESET of a stopped member

    module _ (of : MemberId) (adm : admitted (queue_of p).config x.book by what ≡ Resets of) (r : Result (Unit {0}) NodeNo)
        (reset : HasReset mid y m h of r) (after : OnOk r (IsAfterReset mid y m n h of)) where
      its_reset : HasResetBy plants copies k of t q (length m.room) r
      its_reset =
          subst (λ (j : Holder). HasResetBy plants copies j of t q (length m.room) r) its_so
          (subst (λ (w : Parts P C). HasResetBy plants copies h of w q (length m.room) r) turn.frame reset)

      resets_left : (told : Type 0) → IsTold plants told → LineIsLeft told at (line_by by what) x y r
      resets_left told (inl none) counts armed counted =
          stepped_left plants copies told (λ o. absurd (none o)) (scene_as p counts armed) k what (Resets of) (record clear { cut = its_reset.cut }) its_reset.pieces t t q r
          (unflown its_reset.pieces) refl refl (u t).now (comes_none plants told by (Resets of) t still) its_reset.played its_reset.acts adm renewals_t (inr its_reset.shaped) its_reset.tight (λ o. absurd (none o))
      resets_left told (inr known) counts armed counted =
          let so = its_reset.told known.1 in
          let honest = told_honest (queue_of p).config.groups by (u t) (u q) (whole_pieces so.cut so.pieces) so.pieces _ so.is refl (queue_of t) in
          let stay = stays_any (named_in clear.finds (waits_in (take (whole_pieces so.cut so.pieces) so.pieces) (queue_of t))) (u t) (u q) its_reset.volumes in
          stepped_left plants copies told (λ o. known.1) (scene_as p counts armed) k what (Resets of) (record clear { cut = so.cut }) so.pieces t t q r
          (unflown so.pieces) refl refl (u t).now (comes_none plants told by (Resets of) t still) so.left its_reset.acts adm renewals_t (inl known.0) so.tight
          (λ o. assumption (so, honest, stay, counted known.0 by, its_reset.papers known.1, kept_on (u t) (u q) (its_reset.others known.1), its_reset.wires known.1))

      pub resets_done : LineDone x y (set ms (by.0 - 1) n) at by what r
      resets_done = turn_done r its_reset.pieces its_reset.cut its_reset.played its_reset.acts its_reset.away its_reset.quiet (Give (Reset of)) after resets_left

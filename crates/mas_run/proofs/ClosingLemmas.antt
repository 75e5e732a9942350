-- A line that gave nothing, and found nothing of a batch in flight: what it leaves, by its acts and by where it was cut. One that was cut
-- before its first act, as where there was no memory; and one that only closes.
use Rattle.mas_run.proofs.Names.{IsHonestAs, StaysAs, Carries, IfIdle, ◌≤◌, HasLeftAs, ◌-◌, OtherNotesStay, StepCauses, Admission, All-cons, All-nil, AreBatched, AreFewPieces, AreFoundIn, ArePart, ArePiecesOf, AreVolumesKept, Ask, AtCut, Batched, Book, Bool, Cause, Closing, Complex, Console, CopiesActed, Cut, Dev, Disk, Ends, Entry, Err, Fate, Flying, Fresh, Ghosts as CopyGhosts, Give, Halt, HasCause, HasClosedBy, HeardFirst, IfRuns, IsAsideHalt, IsBroken, IsCutAs, IsCutBy, IsFoundAt, IsHaltBy, IsOwnPiece, IsShapedAs, IsThere, IsTight, LeavesCopies, Left, LeftAt, LineAt, LineDone, List, LosesAs, Member, MemberId, NodeNo, None, OfFirst, Ok, OnOk, Option, Parts, Piece, PlantGhosts, Play, Plays, Queue, Release, Renewed, RenewsAs, Replaced, Resets, Result, SamePapers, SameWires, Saying, SaysIn, Scene, Sight, Spares, State, SteadyGhosts, Step, Stops, TakesOver, Task, Told, View, ViewLine as Line, VolumesStay, Wait, Writing, [], adds_first, admitted, after_stop, all_entries, ap, append-nil, arith, at_line, before_line, by_test, calm, cause_by, clear, closes_with, console, console_now, copies_at, counted, counts_of, ended_as, failed, false, fate_found, holder_of, inl, inr, is_stopped, is_takeover, is_work, journal_of, kept_none, kept_on, kept_then, le_refl, left, left_as, left_by, line_by, named_as, next, nobody, none_left, none_lost, nothing_found, other, pair_state, paper_now, papers_none, parts_of, pieces_as, pieces_of, play_as, play_of, proceeds_of, proceeds_on, queue_met, queue_of, refl, rose_later, run, scene_as, settle, spares_for, spares_none, spares_then, stay_none, stay_then, stopped_in, subst, suc, sym, take, taking, tried, true, waits_in, whole_pieces, wires_none, wires_then, zero, ℕ, ⊎_elim, ◌++◌, ◌+◌, ◌∙◌, ◌∷◌, ◌≡◌, ◌≢◌, ◌⊎◌, ActsAs, Armed, BetweenLines, Counts, Goes, IsMember, LeftBetween, PairState, goes_none, set, slice_get, Halted, ConsoleFault, NoMemory, BothLost}
use Rattle.mas_run.proofs.AfterLemmas.{IsTold, IsAfter, one_own}
use Rattle.member_steps.proofs.KeepLemmas.{copy_causes}
use Rattle.mas_run.proofs.CopiesLemmas.{cause_said, copies_still, step_leaves, copies_of, leaves_same, leaves_then, said_copies}
use Rattle.mas_run.proofs.PassedLemmas.{renews_same}
use Rattle.mas_run.proofs.ArmLemmas.{left_so, done_of, DoneAt}
use Rattle.mas_run.proofs.LeftLemmas.{if_idle, papers_on, stays_any, console_stays, if_runs}
use Rattle.mas_run.proofs.WireLemmas.{carries_none}
use Rattle.member_resets.proofs.Passages.{passage_of}
use Rattle.member_resets.proofs.SettleLemmas.{settle_none}
use Rattle.std.proofs.Math.Seq.{take-nil}
use Rattle.member_resets.proofs.Wiring.{takes_still}
use Rattle.mas_run.proofs.TurnedLemmas.{held_halted}

-- ACTS in which nothing was given or printed

abbrev pub went : Result (Unit {0}) NodeNo
went = Ok tt

-- some, and then others
pub acts_then : (by : MemberId) (a : Admission) (v0 v1 v2 : View) (r : Result (Unit {0}) NodeNo) → ActsAs by a v0 v1 (Ok tt) → ActsAs by a v1 v2 r → ActsAs by a v0 v2 r
acts_then by a v0 v1 v2 r one two = record {
  goes = proceeds_on v0 v1 v2 one.goes two.goes;
  stays = λ d other is. two.stays d other (one.stays d other is);
  arms = λ k. two.arms k ∙ one.arms k;
  spares = spares_then by.0 (stopped_in r) v0 v1 v2 one.spares two.spares;
  stopped = λ is. rose_later (v0.stops by.0) (v1.stops by.0) (v2.stops by.0) (one.goes.stops by.0) (two.stopped is);
  failed = λ is. rose_later (v0.faults Console) (v1.faults Console) (v2.faults Console) (one.goes.faults Console) (two.failed is);
}

-- by the cause of the answer
pub acts_caused : (by : MemberId) (a : Admission) (x y : PairState) (r : Result (Unit {0}) NodeNo) → Goes x.view y.view → Spares by.0 (stopped_in r) x.view y.view → StepCauses r by.0 x y → ActsAs by a x.view y.view r
acts_caused by a x y r goes spares cause =
    let caused : (e : NodeNo) → r ≡ Err e → StepCauses {T = Unit {0}} (Err e) by.0 x y = λ e is. subst (λ (q : Result (Unit {0}) NodeNo). StepCauses q by.0 x y) is cause in record {
      goes = proceeds_of x.view y.view goes;
      stays = λ d other. goes.lost (Disk d);
      arms = goes.arms;
      spares = spares;
      stopped = λ is. (caused Halted is).1;
      failed = λ is. (caused ConsoleFault is).1;
    }

pub record HasMerelyActed {P C : Type 0} (plants : PlantGhosts P) (by : MemberId) (a : Admission) (x y : Parts P C) (result : Result (Unit {0}) NodeNo) : Type 0 where
  pub acts : ActsAs by a (plants.view x.plant) (plants.view y.plant) result
  pub papers : plants.tells → SamePapers (plants.view x.plant) (plants.view y.plant)
  pub wires : plants.tells → SameWires (plants.view x.plant) (plants.view y.plant)
  pub volumes : plants.tells → AreVolumesKept (plants.view x.plant) (plants.view y.plant)
  pub stay : VolumesStay none_lost (plants.view x.plant) (plants.view y.plant)
  pub kept : LeavesCopies plants x y result
  pub notes : OtherNotesStay by x.had y.had

-- and nothing was said, and no device lost by a call
abbrev pub IsApart : {P C : Type 0} → PlantGhosts P → Parts P C → Parts P C → Type 0
IsApart plants x y = plants.tells → (console_now (plants.view y.plant) ≡ console_now (plants.view x.plant)) × ((d : Dev) → (plants.view y.plant).loses d ≡ (plants.view x.plant).loses d)

module _ {P C : Type 0} (plants : PlantGhosts P) (by : MemberId) (a : Admission) where
  abbrev u : Parts P C → View
  u z = plants.view z.plant

  -- none, with an answer that says so
  pub none_merely : (x : Parts P C) (r : Result (Unit {0}) NodeNo) → Spares by.0 (stopped_in r) (u x) (u x) → StepCauses r by.0 (pair_state plants.view x) (pair_state plants.view x) → HasMerelyActed plants by a x x r
  none_merely x r spares cause =
      let acts = acts_caused by a (pair_state plants.view x) (pair_state plants.view x) r (goes_none (u x)) spares cause in
      let kept = leaves_same plants x x r (copies_still plants x x r acts.goes refl refl (λ d. refl) (λ d. refl) (step_leaves plants by.0 x x r cause)) refl (λ is. is) (λ is. is) in
      let notes : OtherNotesStay by x.had x.had = λ j other. refl in
      assumption (acts, kept, notes, papers_none (u x), wires_none (u x), kept_none (u x), stay_none none_lost (u x))

  pub then_merely : (x mid y : Parts P C) (r : Result (Unit {0}) NodeNo) → HasMerelyActed plants by a x mid went → HasMerelyActed plants by a mid y r → HasMerelyActed plants by a x y r
  then_merely x mid y r one two = record {
    acts = acts_then by a (u x) (u mid) (u y) r one.acts two.acts;
    papers = λ t. papers_on (u x) (u mid) (u y) one.acts.goes.later two.acts.goes (one.papers t) (two.papers t);
    wires = λ t. wires_then (u x) (u mid) (u y) (one.wires t) (two.wires t);
    volumes = λ t. kept_then (u y).now (u x) (u mid) (u y) one.acts.goes.later two.acts.goes (one.volumes t) (two.volumes t);
    stay = stay_then none_lost (u x) (u mid) (u y) one.stay two.stay;
    kept = leaves_then plants x mid y r one.kept two.kept;
    notes = λ j other. two.notes j other ∙ one.notes j other;
  }

  -- on the copies alone, by a member
  pub copies_merely : (m : Member) → m.id ≡ by → (x z : Parts P C) (r : Result (Unit {0}) NodeNo) → z.renewals ≡ x.renewals → CopiesActed plants m.id x z r → HasMerelyActed plants by a x z r
  copies_merely m own x z r same acts =
      let cause : StepCauses r m.id.0 (pair_state plants.view x) (pair_state plants.view z) = copy_causes r m.id.0 (pair_state plants.view x) (pair_state plants.view z) acts.on.cause in record {
        acts = subst (λ (k : MemberId). ActsAs k a (u x) (u z) r) own (acts_caused m.id a (pair_state plants.view x) (pair_state plants.view z) r acts.on.course.goes acts.on.spares cause);
        papers = λ t. (acts.on.apart t).papers;
        wires = λ t. (acts.on.apart t).wires;
        volumes = λ t. kept_on (u x) (u z) (acts.on.apart t).others;
        stay = acts.on.course.volumes;
        kept = leaves_same plants x z r (copies_of plants x z r (passage_of x.first_alive z.first_alive x.second_alive z.second_alive (u x) (u z) acts.on.course) (step_leaves plants m.id.0 x z r cause)) same
            acts.on.course.alive1 acts.on.course.alive2;
        notes = subst (λ (k : MemberId). OtherNotesStay k x.had z.had) own acts.notes;
      }

  pub copies_apart : (m : MemberId) (x z : Parts P C) (r : Result (Unit {0}) NodeNo) → CopiesActed plants m x z r → IsApart plants x z
  copies_apart m x z r acts t = ((acts.on.apart t).console, acts.on.loses t)

-- HOW A LINE ENDED with these pieces, that gave nothing

abbrev pub IsNothing : Left → Type 0
IsNothing l = (l.batches ≡ []) × (l.printed ≡ []) × (l.given ≡ [])

pub record HasEnded (k : Result (Unit {0}) NodeNo) (cut : Option Cut) (ps : List Piece) : Type 0 where
  pub there : IsCutBy k ps cut
  pub tight : AtCut (IsTight (ended_as k)) cut ps
  pub broke : AtCut (IsBroken (ended_as k)) cut ps
  pub honest : (per : ℕ) (by : MemberId) (old new : View) (Q : Queue) → AreFoundIn per by old new calm (waits_in (take (whole_pieces cut ps) ps) Q)
  pub heard : (since : ℕ) (by : MemberId) (old new : View) (Q : Queue) → SameWires old new → HeardFirst since by old new calm (waits_in (take (whole_pieces cut ps) ps) Q)
  pub left : (by : MemberId) (play : Play) (count : ℕ) → IsNothing (left_by by cut (record play { pieces = ps }) count)
  pub count : (by : MemberId) (play : Play) (n count : ℕ) → n ≡ count → OnOk k (n ≡ (left_by by cut (record play { pieces = ps }) count).count)

-- ONE PIECE waits for nothing, or once its step is told

module _ (per : ℕ) (by : MemberId) (old new : View) where
  abbrev Honest : Wait → Type 0
  Honest w = IsFoundAt per by old new w.queue w.state (calm w.queue w.state)

  pub told_honest : (n : ℕ) (ps : List Piece) (p : Piece) → ps ≡ p ∷ [] → p.sitting.next ≡ Told → (Q : Queue) → AreFoundIn per by old new calm (waits_in (take n ps) Q)
  told_honest zero ps p is next Q = All-nil Honest
  told_honest (suc n) ps p is next Q =
      let after : Queue = run Q (all_entries p.sitting.batches) in
      let w : Wait = record { queue = after; state = p.sitting.next } in
      subst (λ (qs : List Piece). AreFoundIn per by old new calm (waits_in (take (suc n) qs) Q)) (sym is)
      (subst (λ (qs : List Piece). AreFoundIn per by old new calm (waits_in (p ∷ qs) Q)) (sym (take-nil n))
      (All-cons Honest w [] (subst (λ (s : State). IsFoundAt per by old new after s (calm after s)) (sym next) refl) (All-nil Honest)))

-- a line at a scene that found this of a copy, and was cut so; and with the pieces that the queue gives
abbrev pub line_cut : Scene → ℕ → Step → Renewed → Option Cut → List Piece → LineAt
line_cut S at step found cut ps =
    record { scene = S; number = at; step = step; given = record { sight = record clear { renewed = found; cut = cut }; pieces = ps } }

abbrev pub queue_line : Scene → ℕ → Step → Admission → Renewed → Option Cut → LineAt
queue_line S at step a found cut =
    let sight : Sight = record clear { renewed = found; cut = cut } in
    line_cut S at step found cut (pieces_of S step.by at sight (queue_met S a sight) a)

-- of a batch in flight nothing was found
none_found : (a : Admission) (found : Renewed) (cut : Option Cut) → fate_found a (record clear { renewed = found; cut = cut }) ≡ Flying
none_found q0 found cut = grind arith

module _ {P C : Type 0} (plants : PlantGhosts P) (copies : CopyGhosts C) (told : Type 0) (tells : told → plants.tells) (S : Scene) (at : ℕ) (by : MemberId) (what : Ask) (a : Admission)
    (adm : admitted S.queue.config S.book by what ≡ a) (found : Renewed) (cut : Option Cut) (ps : List Piece) (x y : Parts P C) (result : Result (Unit {0}) NodeNo) where
  abbrev v : Parts P C → View
  v z = plants.view z.plant

  abbrev l : LineAt
  l = line_cut S at (line_by by what) found cut ps

  pub quiet_left : HasMerelyActed plants by a x y result → (told → LosesAs copies.reads (taking (is_takeover a) Flying) None (v x) (v y)) → journal_of y ≡ journal_of x → y.printed ≡ x.printed
      → HasEnded result cut (pieces_as l a) → told ⊎ IsShapedAs l (v x) (v y) a → (told → ArePiecesOf S by at a l.given) → IfRuns result (y.book ≡ (left_as l a).book)
      → (told → console_now (v y) ≡ console_now (v x) ++ (left_as l a).lines) → (told → is_stopped S.book by ≡ false → OnOk result (counts_of y.printed by ≡ (left_as l a).count))
      → RenewsAs a cut found (copies_at plants x) (copies_at plants y) → LeftAt plants copies told S at (line_by by what) x y result
  quiet_left acted loses journal printed ended shaped right book console count renews =
      let none = ended.left by (play_as l a) (S.counts by) in
      let Q : Queue = queue_met S a l.given.sight in
      let still = none_found a found cut in
      let same_paper : told → (m : ℕ) → paper_now (v y) m ≡ paper_now (v x) m = λ t m. acted.papers (tells t) (v y).now acted.acts.goes.later (le_refl (v y).now) m in
      let honest : told → IsHonestAs l a cut (v x) (v y) = λ t. ended.honest S.queue.config.groups by (v x) (v y) Q in
      let stay : told → StaysAs l a cut (v x) (v y) = λ t. stays_any (named_as l a cut) (v x) (v y) acted.stay in
      let tight : IfIdle (is_work a) (AtCut (IsTight (ended_as result)) cut (pieces_as l a)) = if_idle (is_work a) _ ended.tight in
      let moment : ((v x).now ≤ (v x).now) × ((v x).now ≤ (v y).now) = (omega arith, acted.acts.goes.later) in
      let its_journal : journal_of y ≡ settle (fate_found a l.given.sight) (v x).now (journal_of x) ++ [] =
      journal ∙ sym (ap (λ (f : Fate). settle f (v x).now (journal_of x) ++ []) still ∙ append-nil (settle Flying (v x).now (journal_of x)) ∙ settle_none (v x).now (journal_of x)) in
      let batches : AreBatched by (v x).now (v y).now (left_as l a).batches [] = subst (λ (bs : List Batched). AreBatched by (v x).now (v y).now bs []) (sym none.0) tt in
      let paper : told → paper_now (v y) by.0 ≡ paper_now (v x) by.0 ++ (left_as l a).printed = λ t. same_paper t by.0 ∙ sym (append-nil (paper_now (v x) by.0)) ∙ ap (λ (ls : List Line). paper_now (v x) by.0 ++ ls) (sym none.1) in
      let others : told → (m : ℕ) → m ≢ by.0 → paper_now (v y) m ≡ paper_now (v x) m = λ t m other. same_paper t m in
      let counts : told → (m : MemberId) → m ≢ by → counts_of y.printed m ≡ counts_of x.printed m = λ t m other. ap (λ (p : List ℕ). counts_of p m) printed in
      let its_loses : told → LosesAs copies.reads (taking (is_takeover a) (fate_found a l.given.sight)) None (v x) (v y) = λ t. subst (λ (f : Fate). LosesAs copies.reads (taking (is_takeover a) f) None (v x) (v y)) (sym still) (loses t) in
      let wires : told → Carries x.since l a (left_as l a).given (v x) (v y) = λ t. carries_none x.since l a (left_as l a).given (v x) (v y) none.2 (acted.wires (tells t)) (λ line is. ended.heard x.since by (v x) (v y) Q (acted.wires (tells t))) in
      let made : HasLeftAs plants copies told l a x y result =
      search (acted.acts, shaped, right, honest, stay, tight, moment, its_journal, batches, book, console, paper, others, count, counts, its_loses, wires, ended.there, ended.broke, acted.papers, acted.volumes, tells) in
      left_so plants copies told S at by what a l.given x y result adm renews made

-- ONE CUT BEFORE ITS FIRST ACT leaves nothing, and says nothing

first_none : (by : MemberId) (play : Play) (count : ℕ) (ps : List Piece)
    → IsNothing (adds_first by play.locked (Writing 0 None) (none_left by play.book count) ps) × ((adds_first by play.locked (Writing 0 None) (none_left by play.book count) ps).lines ≡ [])
first_none by play count q3 = grind arith

first_halt : (e : NodeNo) → e ≢ ConsoleFault → IsHaltBy e (Writing 0 None)
first_halt q0 may = grind arith

-- of the first batch of its pieces nothing was done
first_part : (ess : List (List Entry)) → ArePart 0 ess
first_part [] = inr refl
first_part (es ∷ ess) = inl (omega arith)

first_so : (e : NodeNo) (cause : Cause) (ps : List Piece) → IsThere (record { sittings = 0; halt = Writing 0 None; cause = cause }) ps × OfFirst (IsTight e (Writing 0 None)) ps × OfFirst (IsBroken e (Writing 0 None)) ps
first_so e cause [] = (inr (refl, refl), tt, tt)
first_so NoMemory cause (p ∷ ps) = (inl (omega arith), first_part p.sitting.batches, tt)
first_so BothLost cause (p ∷ ps) = (inl (omega arith), (first_part p.sitting.batches, tt), tt)
first_so _ cause (p ∷ ps) = (inl (omega arith), tt, tt)

ended_first : (e : NodeNo) → e ≢ ConsoleFault → (ps : List Piece) → HasEnded (Err e) (before_line (cause_by e)) ps
ended_first e may ps = let so = first_so e (cause_by e) ps in record {
  there = record { there = so.0; halt = first_halt e may; cause = refl };
  tight = so.1;
  broke = so.2;
  honest = λ per by old new Q. All-nil (λ (w : Wait). IsFoundAt per by old new w.queue w.state (calm w.queue w.state));
  heard = λ since by old new Q same. tt;
  left = λ by play count. (first_none by play count ps).0;
  count = λ by play n count same. tt;
}

-- PIECES of such a line: those that its queue gives, but none of a task that is no command

abbrev bare_pieces : Scene → MemberId → ℕ → Admission → List Piece
bare_pieces S by at (Plays (Give c)) = pieces_of S by at clear S.queue (Plays (Give c))
bare_pieces S by at (Plays task) = []
bare_pieces S by at a = pieces_of S by at clear S.queue a

bare_shaped : (S : Scene) (at : ℕ) (step : Step) (cause : Cause) (a : Admission) (old new : View) → IsShapedAs (line_cut S at step Replaced (before_line cause) (bare_pieces S step.by at a)) old new a
bare_shaped S at step cause (Plays (Give c)) old new = record { own = one_own (holder_of S step.by at (Plays (Give c))) c _ _; shaped = (_, refl) }
bare_shaped S at step cause (Plays another) old new =
    let h = holder_of S step.by at (Plays another) in
    let few : (task : Task) → AreFewPieces h (Fresh task) nothing_found old new [] =
    λ task. record { few = omega arith; kept = omega arith; says = All-nil (λ p. SaysIn h (Fresh task) nothing_found old new p.sitting) } in
    record { own = All-nil (IsOwnPiece h.by h.step); shaped = few another }
bare_shaped S at step cause (Resets of) old new = (_, refl)
bare_shaped S at step cause (TakesOver of) old new = (_, refl)
bare_shaped S at step cause _ old new = refl

-- THE BOOK that it leaves: a member that holds the lock, and is up, is stopped where it was halted

module _ (by : MemberId) (play : Play) (count : ℕ) where
  inside_book : is_stopped play.book by ≡ false → play.book.holder ≡ by → (halt : Halt) → (IsAsideHalt halt → ⊥) → (locked : Bool) (ps : List Piece)
      → (adds_first by locked halt (none_left by play.book count) ps).book ≡ play.book
  inside_book up mine halt inside locked q5 = grind arith

  -- before its first act
  begun_book : (e : NodeNo) (b : Book) → (e ≡ Halted → (is_stopped play.book by ≡ false) × (play.book.holder ≡ by) × (b ≡ after_stop play.book by))
      → IfRuns {T = Unit {0}} (Err e) (b ≡ (left_by by (before_line (cause_by e)) play count).book)
  begun_book Halted b is =
      let so = is refl in so.2 ∙ ap (λ (c : Book). after_stop c by) (sym (inside_book so.0 so.1 (Writing 0 None) (λ none. none) play.locked play.pieces))
  begun_book _ b is = tt

-- THE ONE PIECE of a line that closes, by where it was cut

module _ (by : MemberId) (at : ℕ) (end : Closing) (rel : Release) where
  abbrev ps : List Piece
  ps = closes_with by at end rel

  -- at its line
  ended_at : (e : NodeNo) (n : ℕ) (tail : Option (List ℕ)) → IsHaltBy e (Saying n tail) → AtCut (IsTight e) (at_line n tail (cause_by e)) ps → AtCut (IsBroken e) (at_line n tail (cause_by e)) ps
      → HasEnded (Err e) (at_line n tail (cause_by e)) ps
  ended_at e n tail halt tight broke =
      let there : IsCutBy {T = Unit {0}} (Err e) (closes_with by at end rel) (at_line n tail (cause_by e)) = record { there = inl (omega arith); halt = halt; cause = refl } in
      let honest : (per : ℕ) (by : MemberId) (old new : View) (Q : Queue) → AreFoundIn per by old new calm (waits_in [] Q) = λ per by old new Q. told_honest per by old new 0 (closes_with by at end rel) _ refl refl Q in
      search (there, tight, broke, honest)

  ended_one : (k : Result (Unit {0}) NodeNo) (cut : Option Cut) → IsCutAs k cut → HasEnded k cut ps
  ended_one (Ok done) cut is = subst (λ (c : Option Cut). HasEnded (Ok tt) c ps) (sym is) (record {
    there = refl;
    tight = tt;
    broke = tt;
    honest = λ per by old new Q. told_honest per by old new 1 ps _ refl refl Q;
    heard = λ since by old new Q same. takes_still old new same;
    left = λ by play count. (refl, refl, refl);
    count = λ by play n count same. same ∙ (let more : count ≡ count + 0 = omega arith in more);
  })
  ended_one (Err ConsoleFault) cut is = subst (λ (c : Option Cut). HasEnded (Err ConsoleFault) c ps) (sym is) (ended_at ConsoleFault 0 None refl tt (omega arith))
  ended_one (Err NoMemory) cut is = subst (λ (c : Option Cut). HasEnded (Err NoMemory) c ps) (sym is) (ended_first NoMemory (λ e. absurd (cc)) ps)
  ended_one (Err Halted) cut is = subst (λ (c : Option Cut). HasEnded (Err Halted) c ps) (sym is.is) (ended_at Halted is.lines is.tail tt tt tt)
  ended_one (Err BothLost) cut is = absurd is

-- some cut of each answer, whatever is told
some_cut : (r : Result (Unit {0}) NodeNo) (m : ℕ) (old new : View) → HasCause r m old new → (cut : Option Cut) × IsCutAs r cut
some_cut (Ok done) m old new cause = (None, refl)
some_cut (Err ConsoleFault) m old new cause = (at_line 0 None Ends, refl)
some_cut (Err NoMemory) m old new cause = (before_line Ends, refl)
some_cut (Err Halted) m old new cause = (at_line 0 None Stops, record { lines = 0; tail = None; few = omega arith; is = refl })
some_cut (Err BothLost) m old new cause = absurd cause

-- an admission by which a line only closes with this, and leaves the lock so
pub record IsCloser (S : Scene) (at : ℕ) (step : Step) (a : Admission) (found : Renewed) (end : Closing) (rel : Release) : Type 0 where
  pub pieces : (play_of S step.by at (record clear { renewed = found }) a).pieces ≡ closes_with step.by at end rel
  pub shaped : (cut : Option Cut) (old new : View) → IsShapedAs (queue_line S at step a found cut) old new a
  pub play : (cut : Option Cut) → play_as (queue_line S at step a found cut) a ≡ play_of S step.by at (record clear { renewed = found }) a

-- WHAT STAYS of a value in which a line was said, and whose member is stopped in the book where it was halted, or gave the lock up

abbrev pub Stays : {P C : Type 0} → Parts P C → Parts P C → Type 0
Stays z w = w ≡ record z { plant = w.plant; book = w.book; reserved = w.reserved }

-- WHAT A CALL THAT CLOSES DID

-- where nobody was stopped the cause is whoever's
cause_any : (r : Result (Unit {0}) NodeNo) (m k : ℕ) (old new : View) → stopped_in r ≡ false → HasCause r m old new → HasCause r k old new
cause_any q0 m k old new up cause = grind arith

module _ {P C : Type 0} (plants : PlantGhosts P) (by : MemberId) (a : Admission) (sayer : MemberId) (x y : Parts P C) (r : Result (Unit {0}) NodeNo)
    (left : Option Cut → Left) (closed : HasClosedBy plants left sayer x y r) (says : (sayer ≡ nobody) ⊎ (sayer ≡ by)) where
  abbrev shown : Parts P C → View
  shown z = plants.view z.plant

  -- the operator is never stopped
  pub none_stopped : sayer ≡ nobody → stopped_in r ≡ false
  none_stopped none = by_test (stopped_in r) (λ is. absurd (let some = closed.spares.operator is in let zero : sayer.0 ≡ 0 = ap (λ (m : MemberId). m.0) none in omega (arith, some, zero))) (λ up. up)

  abbrev Own : MemberId → Type 0
  Own m = HasCause r m.0 (shown x) (shown y) × Spares m.0 (stopped_in r) (shown x) (shown y)

  own : Own by
  own = ⊎_elim
      (λ none. let up = none_stopped none in
      (cause_any r sayer.0 by.0 (shown x) (shown y) up closed.cause, subst (λ (b : Bool). Spares by.0 b (shown x) (shown y)) (sym up) (spares_for by.0 sayer.0 (shown x) (shown y) (subst (λ (b : Bool). Spares sayer.0 b (shown x) (shown y)) up closed.spares))))
      (λ same. subst Own same (closed.cause, closed.spares)) says

  pub merely_closed : Stays x y → HasMerelyActed plants by a x y r
  merely_closed stays =
      let one : y.first_alive ≡ x.first_alive = ap (λ (w : Parts P C). w.first_alive) stays in
      let two : y.second_alive ≡ x.second_alive = ap (λ (w : Parts P C). w.second_alive) stays in
      record {
        acts = acts_caused by a (pair_state plants.view x) (pair_state plants.view y) r closed.acts.goes own.1 (cause_said plants by.0 x y r (one, two) own.0);
        papers = closed.acts.papers;
        wires = closed.acts.wires;
        volumes = λ t. kept_on (shown x) (shown y) (closed.acts.others t);
        stay = console_stays (shown x) (shown y) closed.acts;
        kept = leaves_same plants x y r (said_copies plants by.0 x y r closed.acts one two own.0) (ap (λ (w : Parts P C). w.renewals) stays) (λ is. sym one ∙ is) (λ is. sym two ∙ is);
        notes = λ j other. ap (λ (w : Parts P C). slice_get w.had j) stays;
      }

pub error_same : (d e : NodeNo) → failed d ≡ failed e → d ≡ e
error_same d e is = cc

-- A LINE AS IT WAS ADMITTED, once its test left this book: what it did at a scene

module _ {P C : Type 0} {plants : PlantGhosts P} {steadies : SteadyGhosts C} {copies : CopyGhosts C} (x y : Complex P C plants steadies copies) (at : ℕ) (by : MemberId) (what : Ask) (a : Admission)
    (told : Type 0) (knows : IsTold plants told) (counts : Counts) (armed : List Armed) (adm : admitted (queue_of (parts_of x)).config x.book by what ≡ a) (b : Book) where
  abbrev S : Scene
  S = scene_as (parts_of x) counts armed

  abbrev t : Parts P C
  t = record (parts_of x) { book = b }

  abbrev q : Parts P C
  q = parts_of y

  abbrev w : Parts P C → View
  w z = plants.view z.plant

  -- CUT BEFORE ITS FIRST ACT
  module _ (e : NodeNo) (may : e ≢ ConsoleFault) (acted : HasMerelyActed plants by a t q (failed e)) (loses : plants.tells → LosesAs copies.reads (taking (is_takeover a) Flying) None (w t) (w q))
      (console : plants.tells → console_now (w q) ≡ console_now (w t)) (journal : journal_of q ≡ journal_of t) (printed : q.printed ≡ t.printed)
      (renews : RenewsAs a (before_line (cause_by e)) Replaced (copies_at plants t) (copies_at plants q))
      (book : e ≡ Halted → (is_stopped (tried S.book by a) by ≡ false) × ((tried S.book by a).holder ≡ by) × (q.book ≡ after_stop (tried S.book by a) by)) where
    abbrev begun_line : List Piece → LineAt
    begun_line ps = line_cut S at (line_by by what) Replaced (before_line (cause_by e)) ps

    begins_with : (told → plants.tells) → (ps : List Piece) → told ⊎ IsShapedAs (begun_line ps) (w t) (w q) a → (told → ArePiecesOf S by at a (begun_line ps).given) → LeftAt plants copies told S at (line_by by what) t q (failed e)
    begins_with tells ps shaped right =
        let play : Play = play_as (begun_line ps) a in
        let none = first_none by play (S.counts by) play.pieces in
        quiet_left plants copies told tells S at by what a adm Replaced (before_line (cause_by e)) ps t q (failed e) acted (λ o. loses (tells o)) journal printed (ended_first e may play.pieces) shaped right
        (begun_book by play (S.counts by) e q.book book) (λ o. console (tells o) ∙ sym (append-nil (console_now (w t))) ∙ ap (λ (ls : List Line). console_now (w t) ++ ls) (sym none.1)) (λ o up. tt) renews

    pub begins_left : IsTold plants told → LeftAt plants copies told S at (line_by by what) t q (failed e)
    begins_left (inl none) =
        begins_with (λ o. absurd (none o)) (bare_pieces S by at a) (inr (bare_shaped S at (line_by by what) (cause_by e) a (w t) (w q))) (λ o. absurd (none o))
    begins_left (inr known) = begins_with (λ o. known.1) (queue_line S at (line_by by what) a Replaced (before_line (cause_by e))).given.pieces (inl known.0) (λ o. refl)

    pub begun_did : (ms : List Member) → BetweenLines x ms at → IsMember x.book by → (n : Member) → n.id ≡ by → DoneAt x y (set ms (by.0 - 1) n) at by what told S (failed e)
    begun_did ms is inside n own = record {
      left = λ counted. begins_left knows;
      kept = acted.kept;
      next = λ after ok. absurd (cc);
      halted = λ after down halted.
          let so = book (error_same e Halted halted) in held_halted (parts_of x) y at after by inside down acted.notes n own ms at is (ap (λ (c : Book). c.holder) so.2 ∙ so.1);
    }

  -- CLOSED with this
  module _ (found : Renewed) (end : Closing) (rel : Release) (closer : IsCloser S at (line_by by what) a found end rel) where
    -- what it leaves that is cut so
    abbrev pub closes_so : Option Cut → Left
    closes_so cut = left_by by cut (play_of S by at (record clear { renewed = found }) a) (S.counts by)

    -- A call that closes it, by its member or the operator, after acts in which nothing was said
    module _ (r : Result (Unit {0}) NodeNo) (sayer : MemberId) (z : Parts P C) (took : HasMerelyActed plants by a t z went) (apart : IsApart plants t z) (closed : HasClosedBy plants closes_so sayer z q r)
        (says : (sayer ≡ nobody) ⊎ (sayer ≡ by)) (stays : Stays z q) (ns : List Member) (journal : journal_of q ≡ journal_of t) (printed : q.printed ≡ t.printed)
        (renews : (cut : Option Cut) → RenewsAs a cut found (copies_at plants t) (copies_at plants q)) where
      acted : HasMerelyActed plants by a t q r
      acted = then_merely plants by a t z q r took (merely_closed plants by a sayer z q r closes_so closed says stays)

      closes_cut : (told → plants.tells) → (told → is_stopped S.book by ≡ false → counts_of t.printed by ≡ S.counts by) → (cut : Option Cut) → IsCutAs r cut → (told → console_now (w q) ≡ console_now (w t) ++ (closes_so cut).lines)
          → LeftAt plants copies told S at (line_by by what) t q r
      closes_cut tells counted cut is console =
          let l : LineAt = queue_line S at (line_by by what) a found cut in
          let same : left_as l a ≡ closes_so cut = ap (λ (play : Play). left_by by cut play (S.counts by)) (closer.play cut) in
          let whole : pieces_as l a ≡ closes_with by at end rel = ap (λ (play : Play). play.pieces) (closer.play cut) ∙ closer.pieces in
          let ended : HasEnded r cut (pieces_as l a) = subst (λ (qs : List Piece). HasEnded r cut qs) (sym whole) (ended_one by at end rel r cut is) in
          quiet_left plants copies told tells S at by what a adm found cut l.given.pieces t q r acted (λ o d. let so = apart (tells o) in inl (closed.acts.loses d ∙ so.1 d)) journal printed ended (inr (closer.shaped cut (w t) (w q))) (λ o. refl)
          (if_runs r _ (λ e. closed.book cut is ∙ sym (ap (λ k. k.book) same))) (λ o. console o ∙ ap (λ (ls : List Line). console_now (w t) ++ ls) (sym (ap (λ k. k.lines) same)))
          (λ o up. ended.count by (play_as l a) (counts_of q.printed by) (S.counts by) (ap (λ (p : List ℕ). counts_of p by) printed ∙ counted o up)) (renews cut)

      closes_left : IsTold plants told → (told → is_stopped S.book by ≡ false → counts_of t.printed by ≡ S.counts by) → LeftAt plants copies told S at (line_by by what) t q r
      closes_left (inl none) counted = let some = some_cut r sayer.0 (w z) (w q) closed.cause in closes_cut (λ o. absurd (none o)) counted some.0 some.1 (λ o. absurd (none o))
      closes_left (inr known) counted =
          let stood = closed.console known.1 in
          closes_cut (λ o. known.1) counted stood.cut stood.is_cut (λ o. stood.lines ∙ ap (λ (ls : List Line). ls ++ (closes_so stood.cut).lines) (apart known.1).0)

      pub closed_did : (IsAfter plants copies (parts_of x) q at → r ≡ went → BetweenLines y ns (at + 1))
          → (IsAfter plants copies (parts_of x) q at → is_stopped y.book by ≡ true → r ≡ Err Halted → LeftBetween y ns (at + 1)) → DoneAt x y ns at by what told S r
      closed_did next halted = record { left = closes_left knows; kept = acted.kept; next = next; halted = halted }

-- NO MEMORY: nothing was done, and the run ends in it

abbrev short : Result (Unit {0}) NodeNo
short = failed NoMemory

module _ {P C : Type 0} {plants : PlantGhosts P} {steadies : SteadyGhosts C} {copies : CopyGhosts C} (x y : Complex P C plants steadies copies) (frame : parts_of y ≡ parts_of x)
    (ns : List Member) (at : ℕ) (by : MemberId) (what : Ask) where
  pub short_done : LineDone x y ns at by what short
  short_done =
      let p : Parts P C = parts_of x in
      let a : Admission = admitted (queue_of p).config x.book by what in
      let not_halted : short ≡ Err Halted → ⊥ = λ e. absurd (cc) in
      let acted : HasMerelyActed plants by a p (parts_of y) short = subst (λ (w : Parts P C). HasMerelyActed plants by a p w short) (sym frame) (none_merely plants by a p short (spares_none by.0 (plants.view x.plant)) (inr (refl, refl))) in
      done_of x y ns at by what short (ap (λ (w : Parts P C). w.base) frame) (ap (λ (w : Parts P C). w.since) frame)
      (λ told knows counts armed counted. begins_left x y at by what a told knows counts armed refl x.book NoMemory (λ e. absurd (cc)) acted (λ t d. inl (ap (λ (w : Parts P C). (plants.view w.plant).loses d) frame))
      (λ t. ap (λ (w : Parts P C). console_now (plants.view w.plant)) frame) (ap (λ (w : Parts P C). journal_of w) frame) (ap (λ (w : Parts P C). w.printed) frame)
      (renews_same a (before_line Ends) Replaced (copies_at plants p) (copies_at plants (parts_of y)) (λ dev is. tt) (ap (λ (w : Parts P C). w.renewals) frame)) (λ e. absurd (cc)) knows)
      acted.kept tt (λ e. absurd (not_halted e)) (⊎_elim (λ e. absurd (cc)) (λ e. absurd (not_halted e)))

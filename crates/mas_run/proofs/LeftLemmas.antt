-- A line of a member, in the words of a run: by what it left, and once the operator said that its member was stopped.
use Rattle.mas_run.proofs.Names.{of_if, IsWhy, ℕ, Bool, refl, ◌≡◌, inl, inr, ◌==◌, true, false, List, [], ◌∷◌, ◌++◌, map, append-nil, Option, None, Result, Ok, sym, ◌∙◌, ap, subst, arith, ⊎_elim, ◌⊎◌, ◌≤◌, Some, Err, ◌+◌, OnOk, Spool, Ckpt1, Ckpt2, View, ViewLine as Line, paper_now, World, KeepsCounts, VolumesStay, none_lost, console_now, stay_more, OnConsole, eqb-true, nat_tests, map-append, Fate, Dev, MemberId, Ask, PlantGhosts, Ghosts as CopyGhosts, Parts, NodeNo, next, Goes, Cut, Cause, Scene, Said, cause_of, steps_said_by as said_by, stopped_lines, Given, played_with, ArePiecesOf, IsAskRight, LineAt, admitted_at, pieces_at, fate_found, sayer_of, Piece, Admission, Plays, AdmissionLeaves, CutsAs, IfIdle, IfOfMember, IsPassed, IsWithin, is_takeover, printed_at, taking, IsGiven, named_as, IsNextAct, MayLoseCopy, loses_then, HasLeft, linesleft_left_at as left_at, IsCutBy, is_of_member, Disk, SamePapers, stopped_in, IsOneAct, CouldNotStay, IsWhyLost, Proceeds, IsShapedAs, holder_as, by_order, All-weaker, Finds, units_done, units_left, nothing_found, Holder, State, Fresh, Task, Deck, Give, Work, AreFoundIn, IsFoundAt, Wait, AreShaped, DeckLinesIn, SaysIn, WorkLinesIn, ended_as, LeavesVolumes, no, PairState, goes_none, Account, account_at, IfRuns, AreVolumesKept, IsHonestAs, OnlyStops, Halted, Stop, StopIn, Lose}
use Rattle.member_resets.proofs.Following.{found_in}
use Rattle.member_work.proofs.CauseLemmas.{wider_found, wider_refusal}
use Rattle.member_sittings.specs.Shapes.{SaysAtEnd}

-- where none is lost none but these is
pub stays_any : (but : ℕ → Bool) (old new : View) → VolumesStay none_lost old new → VolumesStay but old new
stays_any but old new is = stay_more none_lost but old new (λ n other. refl) is

-- what is said on the console does nothing to them
pub console_stays : {told : Type 0} (old new : View) → OnConsole told old new → VolumesStay none_lost old new
console_stays old new acts = record { lost = λ n other. acts.lost (Spool n); faults = λ n other. acts.faults (Spool n) }

-- nor does a call on the copies
pub counted_stays : (by : ℕ) (stopped : Bool) (x y : PairState) → KeepsCounts by stopped x y → VolumesStay none_lost x.view y.view
counted_stays by stopped x y counts = record { lost = λ n other. counts.volumes_lost n; faults = λ n other. counts.volumes_faults n }

-- From what a line of a member leaves to what the run says of it: where its member was stopped the operator says so, or
-- the run ends.

-- A LINE OF A MEMBER

pub if_member : (what : Ask) (P : Type 0) → P → IfOfMember what P
if_member q0 q1 p = grind arith

-- the account of a line of a member, by its admission
abbrev pub account_as : LineAt → Account
account_as l = record { line = l; played = played_with l.scene l.step.by l.number (admitted_at l) l.given; cut = l.given.sight.cut; named = named_as l (admitted_at l) l.given.sight.cut; arms = false }

-- what is said of lines of every kind is said of it so
pub record IsOfMember (l : LineAt) : Type 0 where
  pub account : account_at l ≡ account_as l
  pub right : ArePiecesOf l.scene l.step.by l.number (admitted_at l) l.given → IsAskRight l.scene l.step.by l.number l.given l.step.what
  pub leaves : LeavesVolumes l → AdmissionLeaves (admitted_at l)

member_line : (S : Scene) (at : ℕ) (g : Given) (by : MemberId) (what : Ask) → is_of_member what ≡ true → IsOfMember (record { scene = S; number = at; step = record { by = by; what = what }; given = g })
member_line S at g by Stop is = absurd (no false is refl)
member_line S at g by (StopIn what n) is = absurd (no false is refl)
member_line S at g by (Lose dev) is = absurd (no false is refl)
member_line S at g by _ is = record { account = refl; right = λ right. right; leaves = λ leaves. leaves }

pub of_member : (l : LineAt) → is_of_member l.step.what ≡ true → IsOfMember l
of_member l is = member_line l.scene l.number l.given l.step.by l.step.what is

lines_said : (by : MemberId) (ls : List Line) → map (λ (s : Said). s.line) (map (said_by by) ls) ≡ ls
lines_said by [] = refl
lines_said by (l ∷ ls) = ap (λ (more : List Line). l ∷ more) (lines_said by ls)

-- the lines that are said: those that the line left, and that its member was stopped
pub lines_left : (l : LineAt) → map (λ (s : Said). s.line) (account_as l).played.outcome.said
    ≡ (left_at l).lines ++ map (λ (s : Said). s.line) (stopped_lines l.step.by l.number (cause_of l.given.sight.cut))
lines_left l =
    let stopped = stopped_lines l.step.by l.number (cause_of l.given.sight.cut) in
    map-append (λ (s : Said). s.line) (map (said_by (sayer_of l.step.by (admitted_at l))) (left_at l).lines) stopped
    ∙ ap (λ (ls : List Line). ls ++ map (λ (s : Said). s.line) stopped) (lines_said (sayer_of l.step.by (admitted_at l)) (left_at l).lines)

-- what it gave
pub given_by : (told : Type 0) (l : LineAt) → is_of_member l.step.what ≡ true → (old new : View) → told ⊎ IsShapedAs l old new (admitted_at l) → (told → ArePiecesOf l.scene l.step.by l.number (admitted_at l) l.given)
    → IsGiven told l old new
given_by told l member old new shaped right = record { shaped = ⊎_elim inl (λ s. inr (if_member l.step.what _ s)) shaped; right = λ t. (of_member l member).right (right t) }

-- each printer has the lines of the line's member, or none
pub printed_here : {P C : Type 0} (plants : PlantGhosts P) (copies : CopyGhosts C) (told : Type 0) (l : LineAt) (x y : Parts P C) {result : Result (Unit {0}) NodeNo} → HasLeft plants copies told l x y result → told → (m : ℕ)
    → paper_now (plants.view y.plant) m ≡ paper_now (plants.view x.plant) m ++ printed_at (account_as l) m
printed_here plants copies told l x y left t m = of_if (λ (ls : List Line). paper_now (plants.view y.plant) m ≡ paper_now (plants.view x.plant) m ++ ls) (l.step.by.0 == m) (left_at l).printed []
    (λ is. subst (λ (k : ℕ). paper_now (plants.view y.plant) k ≡ paper_now (plants.view x.plant) k ++ (left_at l).printed) (eqb-true l.step.by.0 m is) (left.paper t))
    (λ is. left.other_papers t m (λ e. absurd (let same : (l.step.by.0 == m) ≡ true = grind (arith, nat_tests, e) in cc)) ∙ sym (append-nil (paper_now (plants.view x.plant) m)))

-- what a line that takes the lock over found of a batch in flight
abbrev pub took : LineAt → Option Fate
took l = taking (is_takeover (admitted_at l)) (fate_found (admitted_at l) l.given.sight)

-- BY ITS ANSWER

pub if_ok : (r : Result (Unit {0}) NodeNo) (A : Type 0) → (r ≡ Ok tt → A) → OnOk r A
if_ok q0 q1 f = grind arith

pub if_runs : (r : Result (Unit {0}) NodeNo) (A : Type 0) → ((r ≡ Ok tt) ⊎ (r ≡ Err Halted) → A) → IfRuns r A
if_runs q0 q1 f = grind arith

pub if_idle : (works : Bool) (P : Type 0) → P → IfIdle works P
if_idle q0 q1 p = grind arith

-- A line in which its member was stopped, once the operator has said so.

module _ (old mid new : View) (goes : Goes mid new) where
  pub finds_later : (per : ℕ) (by : MemberId) (finds : Finds) (ws : List Wait) → AreFoundIn per by old mid finds ws → AreFoundIn per by old new finds ws
  finds_later per by finds ws are =
      All-weaker (λ (w : Wait). IsFoundAt per by old mid w.queue w.state (finds w.queue w.state)) (λ (w : Wait). IsFoundAt per by old new w.queue w.state (finds w.queue w.state))
      (λ w is. found_in per old old mid new (goes_none old) goes by w.queue w.state (finds w.queue w.state) is) ws are

  -- lines that are said at a step's end alone
  at_end : (next : State) (F G : List (List ℕ) → Type 0) → ((ls : List (List ℕ)) → F ls → G ls) → (ls : List (List ℕ)) → SaysAtEnd next F ls → SaysAtEnd next G ls
  at_end q0 q1 q2 f ls says = grind arith

  says_later : (h : Holder) (task : Task) (p : Piece) → SaysIn h (Fresh task) nothing_found old mid p.sitting → SaysIn h (Fresh task) nothing_found old new p.sitting
  says_later h (Deck fields text) p says =
      at_end p.sitting.next (DeckLinesIn h nothing_found old mid) (DeckLinesIn h nothing_found old new)
      (λ ls d. (d.0, d.1, d.2, ⊎_elim inl (λ failed. inr (wider_found d.0 old old mid new (goes_none old) goes failed)) d.3)) p.sitting.lines says
  says_later h (Work n) p says =
      let units = units_done (Fresh (Work n)) + units_left (Fresh (Work n)) in
      at_end p.sitting.next (WorkLinesIn h units nothing_found old mid) (WorkLinesIn h units nothing_found old new)
      (λ ls w. (w.0, w.1, ⊎_elim inl (λ refused. inr (wider_refusal h.by old old mid new (goes_none old) goes w.0 refused)) w.2)) p.sitting.lines says
  says_later h _ p says = says

  shape_later : (h : Holder) (task : Task) (ps : List Piece) → AreShaped h (Fresh task) nothing_found old mid ps → AreShaped h (Fresh task) nothing_found old new ps
  shape_later h (Give c) ps is = is
  shape_later h another ps is = record {
    few = is.few;
    kept = is.kept;
    says = All-weaker (λ p. SaysIn h (Fresh another) nothing_found old mid p.sitting) (λ p. SaysIn h (Fresh another) nothing_found old new p.sitting) (says_later h another) ps is.says;
  }

  pub shaped_as_later : (l : LineAt) (a : Admission) → IsShapedAs l old mid a → IsShapedAs l old new a
  shaped_as_later l (Plays task) is = record { own = is.own; shaped = shape_later (holder_as l (Plays task)) task l.given.pieces is.shaped }
  shaped_as_later l _ is = is

-- one act after that in which the member was stopped
pub act_after : (mid new : View) → mid.halt ≡ mid.now → IsOneAct mid new → IsNextAct new
act_after mid new halt act = act.time ∙ ap (λ (t : ℕ). next t) (sym (act.halt ∙ halt))

pub papers_on : (v0 v1 v2 : View) → v0.now ≤ v1.now → Proceeds v1 v2 → SamePapers v0 v1 → SamePapers v1 v2 → SamePapers v0 v2
papers_on v0 v1 v2 later goes one two t from to m = ⊎_elim
    (λ before. ap (λ (w : World). w.paper m) (goes.past t before) ∙ one t from before m)
    (λ after. two t after to m ∙ one v1.now later (let same : v1.now ≤ v1.now = omega arith in same) m)
    (by_order t v1.now)

-- acts that lose nothing by a call leave what was lost before
pub loses_on : (reads : List ℕ → Option (List ℕ)) (v0 v1 v2 : View) → Goes v1 v2 → ((d : Dev) → v2.loses d ≡ v1.loses d) → (took : Option Fate) (d : Dev)
    → (v1.loses d ≡ loses_then None d (v0.loses d)) ⊎ MayLoseCopy reads took d v0 v1 → (v2.loses d ≡ loses_then None d (v0.loses d)) ⊎ MayLoseCopy reads took d v0 v2
loses_on reads v0 v1 v2 goes same took d (inl is) = inl (same d ∙ is)
loses_on reads v0 v1 v2 goes same took d (inr may) = inr (may_on took d may) where
  stay_on : (found : Fate) (dev other : Dev) → CouldNotStay reads found dev other v0 v1 → CouldNotStay reads found dev other v0 v2
  stay_on found dev other s = record {
    pages = s.pages;
    reached = s.reached;
    fated = s.fated;
    near = s.near;
    at = s.at;
    moment = (s.moment.0, let le = s.moment.1 in omega (arith, le, goes.later));
    beside = ap (λ (w : World). reads (w.disk other).bytes) (goes.past s.at s.moment.1) ∙ s.beside;
    room = s.room;
    unfit = s.unfit;
    least = s.least;
  }

  why_on : (found : Fate) (dev other : Dev) → IsWhyLost reads found dev other v0 v1 → IsWhyLost reads found dev other v0 v2
  why_on found dev other (inl none) = inl none
  why_on found dev other (inr (inl rose)) = inr (inl (let more = goes.faults (Disk dev) in omega (arith, rose, more)))
  why_on found dev other (inr (inr stay)) = inr (inr (stay_on found dev other stay))

  may_on : (t : Option Fate) (e : Dev) → MayLoseCopy reads t e v0 v1 → MayLoseCopy reads t e v0 v2
  may_on (Some found) Ckpt1 h = (same Ckpt1 ∙ h.0, goes.lost (Disk Ckpt1) h.1, why_on found Ckpt1 Ckpt2 h.2)
  may_on (Some found) Ckpt2 h = (same Ckpt2 ∙ h.0, goes.lost (Disk Ckpt2) h.1, why_on found Ckpt2 Ckpt1 h.2)
  may_on _ _ h = h

-- A LINE IN WHICH NOBODY WAS STOPPED: it was whole, or the run ended in it

abbrev IsUnhalted : Result (Unit {0}) NodeNo → Type 0
IsUnhalted r = r ≡ Err Halted → ⊥

not_stopped : (r : Result (Unit {0}) NodeNo) → IsUnhalted r → stopped_in r ≡ false
not_stopped q0 other = grind arith

-- where it was cut, and why; and nobody said that its member was stopped
ended_so : (r : Result (Unit {0}) NodeNo) → IsUnhalted r → (by : MemberId) (at : ℕ) (ps : List Piece) (cut : Option Cut) (old new : View) → IsCutBy r ps cut → new.stops by.0 ≡ old.stops by.0
    → CutsAs r by cut old new × IsWithin cut ps × IsWhy r by old new (ended_as r) × (stopped_lines by at (cause_of cut) ≡ [])
ended_so (Ok done) other by at ps None old new is up = (up, tt, refl, refl)
ended_so (Ok done) other by at ps (Some cut) old new is up = absurd (cc)
ended_so (Err e) other by at ps None old new is up = absurd is
ended_so (Err Halted) other by at ps (Some cut) old new is up = absurd (other refl)
ended_so (Err _) other by at ps (Some cut) old new is up =
    ((is.cause, inl (record { why = is.halt; other = λ same. absurd (cc); up = up })), is.there, inl (refl, up), ap (λ (why : Cause). stopped_lines by at (Some why)) is.cause)

pub passed_here : {P C : Type 0} (plants : PlantGhosts P) (copies : CopyGhosts C) (told : Type 0) (l : LineAt) (x y : Parts P C) (r : Result (Unit {0}) NodeNo) → IsUnhalted r → is_of_member l.step.what ≡ true
    → (left : HasLeft plants copies told l x y r) → IsPassed told (account_as l) left.own (plants.view x.plant) (plants.view y.plant) r
passed_here plants copies told l x y r other member left =
    let old = plants.view x.plant in
    let new = plants.view y.plant in
    let so = ended_so r other l.step.by l.number (pieces_at l) l.given.sight.cut old new left.cut (left.acts.spares.stops l.step.by.0 (inr (not_stopped r other))) in
    let given = given_by told l member old new left.shaped left.right in
    let honest : told → IfOfMember l.step.what (IsHonestAs l (admitted_at l) l.given.sight.cut old new) = λ t. if_member l.step.what _ (left.honest t) in
    let spares : OnlyStops l.step.by old new = λ m differs. left.acts.spares.stops m (inl differs) in
    let console : told → console_now new ≡ console_now old ++ map (λ (s : Said). s.line) (account_as l).played.outcome.said = λ t. left.console t ∙ ap (λ (ls : List Line). console_now old ++ ls)
    (sym (lines_left l ∙ ap (λ (ss : List Said). (left_at l).lines ++ map (λ (s : Said). s.line) ss) so.3 ∙ append-nil (left_at l).lines)) in
    let volumes : told → LeavesVolumes l → AreVolumesKept old new = λ t leaves. left.volumes t ((of_member l member).leaves leaves) in
    search (so, given, honest, spares, console, printed_here plants copies told l x y left, volumes, left.stay, left.broke, left.dry, left.acts.stays, left.acts.arms, left.acts.failed, left)

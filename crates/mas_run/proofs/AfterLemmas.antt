-- What is known of the value after a line, by what the line left: no later step is told, and all batches are of its step or of earlier ones.
use Rattle.mas_run.proofs.Names.{Known, Admission, All, All-append, All-cons, All-head, All-nil, All-tail, All-take, All-weaker, AreBatched, AreOf, AreOfStep, Ask, Batch, Batched, BetweenLines, Book, Bool, Closing, Command, Complex, Config, Cut, EachSays, Entry, Err, Fate, Found, Fresh, Ghosts as CopyGhosts, Given, HasUntold, Holder, IsBetween, IsCutBy, IsMember, IsOfEarlier, IsOwnPiece, IsShapedAs, LeftAt, ViewLine as Line, LineAt, LineIsLeft, LinesLeftIsCutIn, List, Member, MemberId, NodeNo, None, Ok, Option, Parts, Piece, PlantGhosts, Play, Plays, Proceeds, Queue, Refused, Resets, Result, Scene, Sight, Since, Some, StandsIn, State, SteadyGhosts, TakesOver, TellNone, Told, Unplayed, View, [], admitted_at, admitted_since, all_entries, ap, append-nil, arith, as_history, asked, batches_are, closing_of, console_now, count_then, counts_of, end_of, entry_with, false, fate_found, holder_as, holder_of, holder_then, if◌then◌else◌, in_flight, inl, inr, inside_since, is_locked, is_member, is_stopped, journal_of, kept_all, linesleft_left_at as left_at, left_by, left_tells, length, line_by, line_since, lines_of, no_member, nobody, none_left, none_since, not, parts_of, piece_at, piece_of, pieces_at, pieces_found, pieces_from, pieces_of, play_as, play_stops, play_with, queue_met, queue_of, refl, reply_of, run, runs_keep_configuration, scene_as, seated, settle, settled_at, settled_entries, sit, steps_most, subst, suc, sym, task_most, true, unless_told, unlocked_book, untold_then, with_fate, with_last, with_last-append, zero, ℕ, ⊎_elim, ◌++◌, ◌+◌, ◌<◌, ◌∙◌, ◌∷◌, ◌≡◌, ◌≢◌, ◌≤◌, ◌⊎◌, by_test, Locks, Frees, Halted, Reset, ReplyClosing, Down, PlainReply}
use Rattle.step_turns.proofs.Causes.{lines_are_caused}
use Rattle.step_turns.proofs.Sittings.{lines_are_said_at_the_end}
use Rattle.run_turns.proofs.Told.{told_or}
use Rattle.member_sittings.specs.Ends.{ends_in}
use Rattle.member_resets.proofs.Halting.{all_back, all_front}
use Rattle.member_resets.proofs.TakenOnLemmas.{journal_holds}
use Rattle.std.proofs.lemmas.List.Elements.{All-map}
use Rattle.mas_run.proofs.JournalLemmas.{history_own}
use Rattle.mas_types.specs.declared.commands.Reply.{Reply}

-- A SITTING says the lines of a closing as its step is told, and none before

closed_of : (by : MemberId) (at : ℕ) (end : Closing) → AreOfStep by at (lines_of by at end)
closed_of by at (ReplyClosing r) = reply_of by at r
closed_of by at another = closing_of by at another

sit_of : (Q : Queue) (h : Holder) (s : State) (found : Found) → s ≢ Told → AreOfStep h.by h.step (sit Q h s found).lines
sit_of Q h s found untold = ⊎_elim
    (λ told. let c = lines_are_caused Q h s found untold told in subst (AreOfStep h.by h.step) (sym c.2) (closed_of h.by h.step c.0))
    (λ more. subst (AreOfStep h.by h.step) (sym ((lines_are_said_at_the_end Q h s found).1 more)) tt)
    (told_or (sit Q h s found).next)

-- THE PIECES OF A TASK

unless_says : (by : MemberId) (at : ℕ) (s : State) (ps : List Piece) → (s ≢ Told → EachSays by at ps) → EachSays by at (unless_told s ps)
unless_says by at q2 ps each = grind arith

from_says : (more : ℕ) (sight : Sight) (count : ℕ) (Q : Queue) (h : Holder) (s : State) → s ≢ Told → EachSays h.by h.step (pieces_from more sight count Q h s)
from_says zero sight count Q h s untold = tt
from_says (suc more) sight count Q h s untold =
    let p = piece_at sight count Q h s in
    let es = all_entries p.sitting.batches in (
      sit_of Q h s (sight.finds Q s) untold,
      unless_says h.by h.step p.sitting.next _
          (λ next. from_says more sight (count_then h.by es count + length p.printed) (run Q es) (holder_then Q h es) p.sitting.next next),
    )

-- THE PIECES OF A LINE, as its queue gives them

line_says : (S : Scene) (by : MemberId) (at : ℕ) (sight : Sight) (Q : Queue) (a : Admission) → EachSays by at (pieces_of S by at sight Q a)
line_says S by at sight Q (Plays task) = from_says (task_most task) sight (S.counts by) Q (holder_of S by at (Plays task)) (Fresh task) (λ e. absurd (cc))
line_says S by at sight Q Unplayed = tt
line_says S by at sight Q Locks = (closing_of by at (ReplyClosing PlainReply), tt)
line_says S by at sight Q Frees = (closing_of by at (ReplyClosing PlainReply), tt)
line_says S by at sight Q _ = (closing_of by at _, tt)

-- and those that it has then, which are these or none
found_holds : (F : List Piece → Type 0) → F [] → (locked : Bool) (flight : Option (List Entry)) (ps : List Piece) → F ps → F (pieces_found locked flight ps)
found_holds q0 none q2 flight ps is = grind arith

-- THE ENTRIES of batches that a line left

module _ (by : MemberId) (at : ℕ) where
  abbrev IsOwn : Batched → Type 0
  IsOwn x = All (λ (e : Entry). e.step < at + 1) x.entries

  own_entries : (es : List Entry) → AreOf by at es → All (λ (e : Entry). e.step < at + 1) es
  own_entries es of = All-weaker (λ (e : Entry). (e.by ≡ by) × (e.step ≡ at)) (λ (e : Entry). e.step < at + 1) (λ e so. let same = so.1 in omega (arith, same)) es of

  earlier_own : (bs : List Batch) → All IsOwn (as_history bs) → All (IsOfEarlier (at + 1)) bs
  earlier_own [] own = All-nil (IsOfEarlier (at + 1))
  earlier_own (b ∷ bs) own =
      All-cons (IsOfEarlier (at + 1)) b bs (All-head IsOwn (with_fate b.fate b.entries) (as_history bs) own) (earlier_own bs (All-tail IsOwn (with_fate b.fate b.entries) (as_history bs) own))

  left_earlier : (cut : Option Cut) (play : Play) (count from now : ℕ) (bs : List Batch) → All (IsOwnPiece by at) play.pieces → AreBatched by from now (left_by by cut play count).batches bs
      → All (IsOfEarlier (at + 1)) bs
  left_earlier cut play count from now bs of are = earlier_own bs (subst (λ (xs : List Batched). All IsOwn xs) (sym (history_own by from now (left_by by cut play count).batches bs are))
      (batches_are by IsOwn (AreOf by at) own_entries cut (λ k is n b halt es own. All-take (λ (e : Entry). e.step < at + 1) b.entries es (own_entries es own)) play count of))

-- THE PIECES OF A LINE have entries of its step alone

-- one that gives a command, and one that only closes
pub one_own : (h : Holder) (c : Command) (r : Reply) (ls : List (List ℕ)) → All (IsOwnPiece h.by h.step) (piece_of (ends_in h ((entry_with h.by h.step c r ∷ []) ∷ []) Told ls) false [] ∷ [])
one_own h c r ls = All-cons (IsOwnPiece h.by h.step) _ [] (All-cons (AreOf h.by h.step) _ [] (All-cons (λ e. (e.by ≡ h.by) × (e.step ≡ h.step)) _ [] (refl, refl) (All-nil _)) (All-nil _)) (All-nil _)

shaped_own : (l : LineAt) (a : Admission) (old new : View) → IsShapedAs l old new a → All (IsOwnPiece l.step.by l.number) l.given.pieces
shaped_own l (Plays task) old new is = is.own
shaped_own l (Resets of) old new is = subst (λ (ps : List Piece). All (IsOwnPiece l.step.by l.number) ps) (sym is.1) (one_own (holder_as l (Resets of)) (Reset of) is.0 _)
shaped_own l (TakesOver of) old new is = subst (λ (ps : List Piece). All (IsOwnPiece l.step.by l.number) ps) (sym is.1) (one_own (holder_as l (TakesOver of)) (Reset of) is.0 _)
shaped_own l Unplayed old new is = subst (λ (ps : List Piece). All (IsOwnPiece l.step.by l.number) ps) (sym is) (All-nil (IsOwnPiece l.step.by l.number))
shaped_own l _ old new is =
    subst (λ (ps : List Piece). All (IsOwnPiece l.step.by l.number) ps) (sym is) (All-cons (IsOwnPiece l.step.by l.number) _ [] (All-nil (AreOf l.step.by l.number)) (All-nil (IsOwnPiece l.step.by l.number)))

-- BATCHES OF EARLIER LINES

-- batches of earlier lines than one are of earlier lines than a later one
earlier_to : (at to : ℕ) → at ≤ to → (bs : List Batch) → All (IsOfEarlier at) bs → All (IsOfEarlier to) bs
earlier_to at to on bs are = All-weaker (IsOfEarlier at) (IsOfEarlier to) (λ b of. All-weaker (λ (e : Entry). e.step < at) (λ (e : Entry). e.step < to) (λ e less. omega (arith, less, on)) b.entries of) bs are

-- and so are these with what was found of one in flight, and more batches after them
earlier_then : (at : ℕ) (found : Fate) (now : ℕ) (bs was more : List Batch) → bs ≡ settle found now was ++ more → All (IsOfEarlier at) was → All (IsOfEarlier (at + 1)) more → All (IsOfEarlier (at + 1)) bs
earlier_then at found now bs was more is before own =
    subst (λ (js : List Batch). All (IsOfEarlier (at + 1)) js) (sym is) (All-append (IsOfEarlier (at + 1)) (settle found now was) more
    (All-map (IsOfEarlier (at + 1)) (settled_at found now) was (All-weaker (IsOfEarlier (at + 1)) (λ (b : Batch). IsOfEarlier (at + 1) (settled_at found now b))
    (λ b of. subst (λ (es : List Entry). All (λ (e : Entry). e.step < at + 1) es) (sym (settled_entries found now b)) of) was (earlier_to at (at + 1) (omega arith) was before))) own)

-- of the journal's entries those of a batch in flight come last, and its place has none
pub earlier_left : (k : ℕ) (bs : List Batch) (placed : Bool) (b : Book) (o : Option Batch) → StandsIn bs placed b o → All (IsOfEarlier k) (end_of placed o bs)
    → All (IsOfEarlier k) (bs ++ in_flight o)
earlier_left k bs placed b None stands are =
    subst (λ (l : List Batch). All (IsOfEarlier k) l) (ap (λ (p : Bool). end_of p None bs) stands ∙ sym (append-nil bs)) are
earlier_left k bs placed b (Some c) stands are =
    let e = stands.0 in
    let here : All (IsOfEarlier k) (e.before ++ c ∷ []) = subst (λ (l : List Batch). All (IsOfEarlier k) l) (ap (with_last c) e.is ∙ with_last-append c e.before e.place) are in
    let none : IsOfEarlier k e.place = subst (λ (es : List Entry). All (λ (n : Entry). n.step < k) es) (sym e.free.empty) (All-nil (λ (n : Entry). n.step < k)) in
    let placed : All (IsOfEarlier k) (e.before ++ e.place ∷ []) = All-append (IsOfEarlier k) e.before (e.place ∷ []) (all_front (IsOfEarlier k) e.before (c ∷ []) here) (All-cons (IsOfEarlier k) e.place [] none (All-nil (IsOfEarlier k))) in
    subst (λ (l : List Batch). All (IsOfEarlier k) (l ++ c ∷ [])) (sym e.is) (All-append (IsOfEarlier k) (e.before ++ e.place ∷ []) (c ∷ []) placed (all_back (IsOfEarlier k) e.before (c ∷ []) here))

-- THE SCENE that a value shows: its queue has the configuration of its base

pub same_config : {P C : Type 0} (x : Parts P C) → (queue_of x).config ≡ x.base.config
same_config x = (runs_keep_configuration x.base (kept_all x.batches)).config

-- WHETHER CONTENT IS TOLD, of a plant that tells it

abbrev pub IsTold : {P : Type 0} → PlantGhosts P → Type 0 → Type 0
IsTold plants told = (told → ⊥) ⊎ (told × plants.tells)

pub knows : {P : Type 0} (plants : PlantGhosts P) (all : Bool) → (Known all → plants.tells) → IsTold plants (Known all)
knows plants q1 tells = grind arith

-- THE BOOK from before a line of a member on

pub left_since : (l : LineAt) → IsMember l.scene.book l.step.by → Since l.scene.book (left_at l).book
left_since l inside = line_since l.step.by l.scene.book (admitted_at l) (play_with l.scene l.step.by (admitted_at l) l.given) (l.scene.counts l.step.by) l.given.sight.cut refl inside

-- a line with an error was cut so
pub cut_some : (e : NodeNo) (ps : List Piece) (c : Option Cut) → IsCutBy {T = Unit {0}} (Err e) ps c → (cut : Cut) × (c ≡ Some cut) × LinesLeftIsCutIn e ps cut
cut_some e ps q2 so = grind arith

-- WHAT IS KNOWN AFTER A LINE of this number

pub record IsAfter {P C : Type 0} (plants : PlantGhosts P) (copies : CopyGhosts C) (x y : Parts P C) (at : ℕ) : Type 0 where
  pub base : y.base ≡ x.base
  pub began : y.since ≡ x.since
  pub since : Since x.book y.book
  pub goes : Proceeds (plants.view x.plant) (plants.view y.plant)
  pub untold : (k : MemberId) (later : ℕ) → at < later → later ≤ steps_most → HasUntold plants copies y k later
  pub earlier : All (IsOfEarlier (at + 1)) (journal_of y)
  pub few : at ≤ steps_most

-- from a value before the line, or after it
module _ {P C : Type 0} (plants : PlantGhosts P) (copies : CopyGhosts C) (x y : Parts P C) (base : y.base ≡ x.base) (began : y.since ≡ x.since) (goes : Proceeds (plants.view x.plant) (plants.view y.plant))
    {ms : List Member} {was : ℕ} (is : IsBetween plants copies x ms was) (at : ℕ) (on : was ≤ at + 1)
    (lines : plants.tells → (ls : List Line) × (console_now (plants.view y.plant) ≡ console_now (plants.view x.plant) ++ ls) × TellNone at ls) where
  untold_said : (k : MemberId) (later : ℕ) → at < later → later ≤ steps_most → HasUntold plants copies y k later
  untold_said k later less small = λ tells.
      let said = lines tells in
      untold_then plants copies x y base began is.begun goes.past said.0 (λ t. said.1) k later (said.2 later less small) (is.untold k later (omega (arith, less, on)) small) tells

  -- a line that gave nothing
  pub after_said : journal_of y ≡ journal_of x → Since x.book y.book → at ≤ steps_most → IsAfter plants copies x y at
  after_said journal since few =
      let earlier : All (IsOfEarlier (at + 1)) (journal_of y) = subst (λ (bs : List Batch). All (IsOfEarlier (at + 1)) bs) (sym journal)
      (earlier_to was (at + 1) on (journal_of x) (journal_holds (IsOfEarlier was) x.batches x.placed x.book x.current is.stands is.earlier)) in
      record { base = base; began = began; since = since; goes = goes; untold = untold_said; earlier = earlier; few = few }

-- A LINE OF A MEMBER, by what it left

abbrev pub scene_at : {P C : Type 0} → Parts P C → Scene
scene_at x = scene_as x (counts_of x.printed) []

module _ {P C : Type 0} {plants : PlantGhosts P} {steadies : SteadyGhosts C} {copies : CopyGhosts C} (x y : Complex P C plants steadies copies) (base : y.base ≡ x.base) (began : y.since ≡ x.since) {ms : List Member} {at : ℕ}
    (few : at ≤ steps_most) (is : BetweenLines x ms at) (by : MemberId) (what : Ask) (r : Result (Unit {0}) NodeNo) (left : (told : Type 0) → IsTold plants told → LineIsLeft told at (line_by by what) x y r) where
  abbrev p : Parts P C
  p = parts_of x

  abbrev q : Parts P C
  q = parts_of y

  abbrev At : Type 0 → Result (Unit {0}) NodeNo → Type 0
  At told k = LeftAt plants copies told (scene_at p) at (line_by by what) p q k

  abbrev line : Given → LineAt
  line g = record { scene = scene_at p; number = at; step = line_by by what; given = g }

  bare : At ⊥ r
  bare = left ⊥ (inl (λ t. t)) (counts_of p.printed) [] (λ t. absurd t)

  says : At (Unit {0}) r → (ls : List Line) × (console_now (plants.view q.plant) ≡ console_now (plants.view p.plant) ++ ls) × TellNone at ls
  says a =
      let l = line a.given in
      let b = admitted_at l in
      let s = a.given.sight in
      let each : EachSays by at a.given.pieces = subst (λ (ps : List Piece). EachSays by at ps) (sym (a.left.right tt)) (line_says l.scene by at s (queue_met l.scene b s) b) in
      ((left_at l).lines, a.left.console tt, left_tells by at s.cut (play_as l b) (l.scene.counts by) (found_holds (EachSays by at) tt (is_locked b) _ a.given.pieces each))

  own : All (IsOfEarlier (at + 1)) bare.left.own
  own =
      let l = line bare.given in
      let b = admitted_at l in
      let its = shaped_own l b (plants.view p.plant) (plants.view q.plant) (⊎_elim (λ none. absurd none) (λ so. so) bare.left.shaped) in
      left_earlier by at bare.given.sight.cut (play_as l b) (l.scene.counts by) (plants.view p.plant).now (plants.view q.plant).now bare.left.own
      (found_holds (All (IsOwnPiece by at)) (All-nil (IsOwnPiece by at)) (is_locked b) _ bare.given.pieces its) bare.left.batches

  after : Since x.book y.book → IsAfter plants copies p q at
  after since =
      let untold = untold_said plants copies p q base began bare.left.acts.goes is at (omega arith) (λ t. says (left (Unit {0}) (inr (tt, t)) (counts_of p.printed) [] (λ o m up. refl))) in
      let earlier = earlier_then at (fate_found (admitted_at (line bare.given)) bare.given.sight) bare.left.at (journal_of q) (journal_of p) bare.left.own bare.left.journal
      (journal_holds (IsOfEarlier at) p.batches p.placed p.book p.current is.stands is.earlier) own in
      assumption (base, began, since, bare.left.acts.goes, untold, earlier, few)

  -- who is no member is refused, and the book stays as it was
  pub after_ok : r ≡ Ok tt → IsAfter plants copies p q at
  after_ok ok =
      let a : At ⊥ (Ok tt) = subst (λ (k : Result (Unit {0}) NodeNo). At ⊥ k) ok bare in
      let l = line a.given in
      let S = l.scene in
      let booked = is.booked ∙ ap (λ (c : Config). c.members) (sym (same_config p)) in
      let since : Since S.book (left_at l).book = by_test (is_member S.queue.config by) (λ some. left_since l (seated S.queue.config S.book by booked some))
      (λ none. subst (λ (b : Book). Since S.book b) (sym (ap (λ (c : Option Cut). (left_by by c (play_with S by (admitted_at l) l.given) (S.counts by)).book) a.left.cut
      ∙ ap (λ (m : Bool). (left_by by None (play_with S by (if not m then Refused nobody no_member else if is_stopped S.book by then Refused nobody Down else asked S.queue.config S.book by what) l.given) (S.counts by)).book) none
      ∙ unlocked_book by (none_left by S.book (S.counts by)) (play_with S by (Refused nobody no_member) l.given).pieces)) (none_since S.book)) in
      after (subst (λ (b : Book). Since x.book b) (sym a.left.book) since)

  -- a member that was halted in its line is stopped in the book
  pub after_halted : r ≡ Err Halted → IsMember x.book by → IsAfter plants copies p q at × (is_stopped y.book by ≡ true)
  after_halted halted inside =
      let a : At ⊥ (Err Halted) = subst (λ (k : Result (Unit {0}) NodeNo). At ⊥ k) halted bare in
      let l = line a.given in
      let play = play_with l.scene by (admitted_at l) l.given in
      let seated = inside_since l.scene.book play.book by (admitted_since by (admitted_at l) l.scene.book inside) inside in
      let cut = cut_some Halted (pieces_at l) l.given.sight.cut a.left.cut in (
        after (subst (λ (b : Book). Since x.book b) (sym a.left.book) (left_since l inside)),
        ap (λ (b : Book). is_stopped b by) a.left.book ∙ play_stops by play (l.scene.counts by) seated l.given.sight.cut cut.0 cut.1 cut.2.cause,
      )

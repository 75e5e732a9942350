-- What a line of a member leaves before the operator says that its member was stopped, if it was.
use Rattle.mas_run.specs.Names.{Armed, Dev, MemberId, Batch, Book, is_stopped, Console, PlantGhosts, View, paper_now, Rose, Ghosts as CopyGhosts, SteadyGhosts, Complex, Renewals, SamePapers, counts_of, Parts, parts_of, NodeNo, console_now, journal_of, Step, AreBatched, AtCut, IsBroken, IsHaltBy, IsTight, cause_by, Cut, Admission, admitted, ArePiecesOf, Given, Piece, fate_found, Scene, settle, IfRuns, ended_as, Proceeds, StaysLost, AreVolumesKept}
use Rattle.std.specs.Prelude.{◌≡◌, ◌≢◌, ◌⊎◌, ℕ, ◌≤◌, false, List, ◌++◌, Option, Some, None, Result, Ok, Err, OnOk}
use Rattle.member_node.specs.declared.member.NodeNo.TheVariants as no_node
use Rattle.member_node.specs.Spares.{Spares, stopped_in}
use Rattle.run_turns.specs.Cuts.{Left, left_by}
use Rattle.mas_types.specs.declared.journals.Entry.{Entry}
use Rattle.paper_laws.specs.Counts.{Counts}
use Rattle.member_sittings.specs.Whole.{queue_of}
use Rattle.mas_run.specs.LinesAt.{LineAt, admitted_at, pieces_as, play_as}
use Rattle.mas_run.specs.Lines.{AdmissionLeaves, IfIdle, IsHonestAs, IsThere, LosesAs, PrintsNone, StaysAs, is_replaced, is_takeover, is_work, taking}
use Rattle.mas_run.specs.Renewing.{CopiesAt, RenewsAs}
use Rattle.mas_run.specs.Shapes.{IsShapedAs}
use Rattle.mas_run.specs.Wires.{Carries}

-- WHERE IT WAS CUT, by its answer

pub record IsCutIn (e : NodeNo) (ps : List Piece) (cut : Cut) : Type 0 where
  pub there : IsThere cut ps
  pub halt : IsHaltBy e cut.halt
  pub cause : cut.cause ≡ cause_by e

abbrev pub IsCutBy : {T : Type 0} → Result T NodeNo → List Piece → Option Cut → Type 0
IsCutBy (Ok done) ps cut = cut ≡ None
IsCutBy (Err e) ps None = ⊥
IsCutBy (Err e) ps (Some cut) = IsCutIn e ps cut

-- WHAT IT LEFT

abbrev pub left_as : LineAt → Admission → Left
left_as l a = left_by l.step.by l.given.sight.cut (play_as l a) (l.scene.counts l.step.by)

abbrev pub left_at : LineAt → Left
left_at l = left_as l (admitted_at l)

-- what is seen of the shared value before a line, and after it
pub record Seen : Type 0 where
  pub view : View
  pub since : ℕ
  pub journal : List Batch
  pub printed : List ℕ
  pub renewals : Renewals

abbrev pub copies_seen : Seen → CopiesAt
copies_seen x = record { renewals = x.renewals; view = x.view }

-- What a line of a member did to the plant, whatever it gave: nobody was stopped but its member, and it only where the
-- answer says so.
pub record ActsAs (by : MemberId) (a : Admission) (old new : View) (result : Result (Unit {0}) NodeNo) : Type 0 where
  pub goes : Proceeds old new
  pub stays : (d : Dev) → is_replaced d a ≡ false → StaysLost d old new
  pub arms : (m : ℕ) → new.arms m ≡ old.arms m
  pub spares : Spares by.0 (stopped_in result) old new
  pub stopped : result ≡ Err no_node.Halted → Rose (old.stops by.0) (new.stops by.0)
  pub failed : result ≡ Err no_node.ConsoleFault → Rose (old.faults Console) (new.faults Console)

module _ (reads : List ℕ → Option (List ℕ)) where
  -- The line that was admitted so, on the value from before it was tested to after it was played. Where the answer is
  -- Halted its member is stopped in the book, and nothing was said of that yet.
  pub record LeavesAs (told : Type 0) (l : LineAt) (a : Admission) (x y : Seen) (after : Book)
      (result : Result (Unit {0}) NodeNo) : Type 0 where
    pub acts : ActsAs l.step.by a x.view y.view result
    pub shaped : told ⊎ IsShapedAs l x.view y.view a
    pub right : told → ArePiecesOf l.scene l.step.by l.number a l.given
    pub honest : told → IsHonestAs l a l.given.sight.cut x.view y.view
    pub stay : told → StaysAs l a l.given.sight.cut x.view y.view
    pub cut : IsCutBy result (pieces_as l a) l.given.sight.cut
    pub tight : IfIdle (is_work a) (AtCut (IsTight (ended_as result)) l.given.sight.cut (pieces_as l a))
    pub broke : told → AtCut (IsBroken (ended_as result)) l.given.sight.cut (pieces_as l a)
    -- the journal, with what was found of a batch in flight, and the book, unless the run ends here
    pub own : List Batch
    pub at : ℕ
    pub moment : (x.view.now ≤ at) × (at ≤ y.view.now)
    pub journal : y.journal ≡ settle (fate_found a l.given.sight) at x.journal ++ own
    pub batches : AreBatched l.step.by x.view.now y.view.now (left_as l a).batches own
    pub book : IfRuns result (after ≡ (left_as l a).book)
    -- the console, the printers, and the counts of printed lines of members that aren't stopped
    pub console : told → console_now y.view ≡ console_now x.view ++ (left_as l a).lines
    pub paper : told → paper_now y.view l.step.by.0 ≡ paper_now x.view l.step.by.0 ++ (left_as l a).printed
    pub other_papers : told → (m : ℕ) → m ≢ l.step.by.0 → paper_now y.view m ≡ paper_now x.view m
    pub dry : told → PrintsNone a → SamePapers x.view y.view
    pub count : told → is_stopped l.scene.book l.step.by ≡ false
        → OnOk result (counts_of y.printed l.step.by ≡ (left_as l a).count)
    pub other_counts : told → (m : MemberId) → m ≢ l.step.by → counts_of y.printed m ≡ counts_of x.printed m
    pub loses : told → LosesAs reads (taking (is_takeover a) (fate_found a l.given.sight)) None x.view y.view
    pub volumes : told → AdmissionLeaves a → AreVolumesKept x.view y.view
    -- what it gave and took on a line to another node
    pub wires : told → Carries x.since l a (left_as l a).given x.view y.view

  -- a line of this number, at this scene
  pub record LeavesAt (told : Type 0) (S : Scene) (at : ℕ) (step : Step) (x y : Seen) (after : Book)
      (result : Result (Unit {0}) NodeNo) : Type 0 where
    pub given : Given
    pub left : LeavesAs told (record { scene = S; number = at; step = step; given = given })
        (admitted S.queue.config S.book step.by step.what) x y after result
    pub renews : RenewsAs (admitted S.queue.config S.book step.by step.what) given.sight.cut given.sight.renewed
        (copies_seen x) (copies_seen y)

module _ {P C : Type 0} (plants : PlantGhosts P) (copies : CopyGhosts C) where
  abbrev v : Parts P C → View
  v x = plants.view x.plant

  abbrev pub seen_of : Parts P C → Seen
  seen_of x = record {
    view = v x;
    since = x.since;
    journal = journal_of x;
    printed = x.printed;
    renewals = x.renewals;
  }

  abbrev pub HasLeftAs : Type 0 → LineAt → Admission → Parts P C → Parts P C → Result (Unit {0}) NodeNo → Type 0
  HasLeftAs told l a x y result = LeavesAs copies.reads told l a (seen_of x) (seen_of y) y.book result

  abbrev pub HasLeft : Type 0 → LineAt → Parts P C → Parts P C → Result (Unit {0}) NodeNo → Type 0
  HasLeft told l x y result = HasLeftAs told l (admitted_at l) x y result

  abbrev pub LeftAt : Type 0 → Scene → ℕ → Step → Parts P C → Parts P C → Result (Unit {0}) NodeNo → Type 0
  LeftAt told S at step x y result = LeavesAt copies.reads told S at step (seen_of x) (seen_of y) y.book result

-- THE SCENE that a value shows

-- what is in flight of a batch, if one is
abbrev pub flown_of : Option Batch → Option (List Entry)
flown_of None = None
flown_of (Some c) = Some c.entries

-- where members printed so many lines, and these stops are armed
abbrev pub scene_as : {P C : Type 0} → Parts P C → Counts → List Armed → Scene
scene_as x counts armed = record {
  queue = queue_of x;
  book = x.book;
  flight = flown_of x.current;
  counts = counts;
  armed = armed;
}

-- who isn't stopped printed so many
abbrev pub AreCounted : {P C : Type 0} → Parts P C → Counts → Type 0
AreCounted x counts = (m : MemberId) → is_stopped x.book m ≡ false → counts_of x.printed m ≡ counts m

-- OVER THE SHARED VALUE

module _ {P C : Type 0} {plants : PlantGhosts P} {steadies : SteadyGhosts C} {copies : CopyGhosts C} where
  -- a line of this number, at each scene that the value shows before it is tested
  abbrev pub LineIsLeft : Type 0 → ℕ → Step → Complex P C plants steadies copies → Complex P C plants steadies copies
      → Result (Unit {0}) NodeNo → Type 0
  LineIsLeft told at step x y result = (counts : Counts) (armed : List Armed) → (told → AreCounted (parts_of x) counts)
      → LeftAt plants copies told (scene_as (parts_of x) counts armed) at step (parts_of x) (parts_of y) result

-- What a sitting did, for every answer.
use Rattle.member_sittings.specs.Names.{TellKept, MemberId, Batch, Entry, View, PlantGhosts, Ghosts as CopyGhosts, Complex, SteadyGhosts, begun, end_of, SamePapers, Parts, parts_of, with_copies, Member, NodeNo, StepCauses, HasAll, AreOf, all_entries, Sitting, sit, Found, Holder, State, Away, Fresh, Told, Deck, nothing_found}
use Rattle.std.specs.Prelude.{◌≡◌, ℕ, ◌+◌, ◌*◌, ◌≤◌, ◌^◌, List, [], ◌++◌, length, All, Result, Err, IfOk}
use Rattle.mas_types.specs.declared.ids.Dev.{Dev}
use Rattle.spool_plant.specs.Acts.{SameWires}
use Rattle.member_node.specs.Calls.{Course, IsOnlyOn, console_now}
use Rattle.member_node.specs.Spares.{Spares, stopped_in}
use Rattle.member_steps.specs.Counting.{HasCounted}
use Rattle.member_steps.specs.Noting.{OtherNotesStay}
use Rattle.mas_complex.specs.CallCounts.{pair_state}
use Rattle.member_decks.specs.Keeping.{GivesUpLeaves, IsOnCopies}
use Rattle.step_turns.specs.declared.states.Aside.{Aside}
use Rattle.member_sittings.specs.declared.ends.SittingEnd.{SittingEnd}
use Rattle.member_sittings.specs.Asides.{WaitsRightly}
use Rattle.member_sittings.specs.Ends.{Ending, IsQuiet, ended}
use Rattle.member_sittings.specs.Left.{HasLeft, HasSaid, Reach, ReachesBy}
use Rattle.member_sittings.specs.Shapes.{IsShaped}
use Rattle.member_sittings.specs.Tight.{IfNoWork, IsTightBy}
use Rattle.member_sittings.specs.Whole.{IsLeftIn, IsToKeep, queue_of}

-- What a sitting begins with: its member, which holds the lock, the step's state, and what was found in the acts that
-- this waited for.
pub record Start : Type 0 where
  pub holder : Holder
  pub state : State
  pub found : Found

-- a step's first sitting, or one after its hold was spent, which finds nothing
abbrev pub begins : Holder → State → Start
begins h s = record { holder = h; state = s; found = nothing_found }

-- a sitting after acts that its step waited for, in which this was found
abbrev pub resumes : Holder → Aside → Found → Start
resumes h aside found = record { holder = h; state = Away aside; found = found }

-- The parts as they are, with the lock's book, the base and the first moment as they were: a sitting changes none of
-- these.
abbrev pub sat_in : {P C : Type 0} → Parts P C → Parts P C → Parts P C
sat_in is was = record is
    { book = was.book; base = was.base; since = was.since; renewals = was.renewals }

-- What a member changes that takes its seat: the plant, the copies, and what was noted.
abbrev pub seated_in : {P C : Type 0} → Parts P C → Parts P C → Parts P C
seated_in is was = record (with_copies is was) { had = is.had }

-- where a sitting of a command, or of a deck, leaves its step
abbrev pub GoesOn : State → Member → State → Type 0
GoesOn (Fresh (Deck fields text)) m next = WaitsRightly m next
GoesOn _ m next = next ≡ Told

-- the journal, with a batch in flight at its end
abbrev pub journal_of : {P C : Type 0} → Parts P C → List Batch
journal_of x = end_of x.placed x.current x.batches

-- what a sitting answers: its next state, how many commands it gave, and what becomes of the lock
pub record IsEndOf (t : Sitting) (e : SittingEnd) : Type 0 where
  pub next : e.next ≡ t.next
  pub given : e.given ≡ length (all_entries t.batches)
  pub release : e.release ≡ t.release

module _ {P C : Type 0} (plants : PlantGhosts P) where
  abbrev v : Parts P C → View
  v x = plants.view x.plant

  -- Acts of a member on the copies and on the console, with the cause of their answer. Nothing is printed, no volume
  -- changes, nothing moves on a line to another node, and no copy is lost by a call. The member is stopped only where
  -- the answer is Halted. What each other member noted stays.
  pub record HasActed {T : Type 0} (by : MemberId) (old new : Parts P C) (result : Result T NodeNo) : Type 0 where
    pub course : Course (pair_state plants.view old) (pair_state plants.view new)
    pub loses : plants.tells → (d : Dev) → (v new).loses d ≡ (v old).loses d
    pub others : plants.tells → IsOnlyOn (v old) (v new)
    pub papers : plants.tells → SamePapers (v old) (v new)
    pub wires : plants.tells → SameWires (v old) (v new)
    pub spares : Spares by.0 (stopped_in result) (v old) (v new)
    pub cause : StepCauses result by.0 (pair_state plants.view old) (pair_state plants.view new)
    pub notes : OtherNotesStay by old.had new.had

  -- the batches are kept, one after another, since the sitting began
  abbrev pub AreKeptIn : MemberId → Sitting → Parts P C → Parts P C → Type 0
  AreKeptIn by t old new = HasAll by (v old).now (v new).now t.batches old.batches (journal_of new)

  -- the lines that were said, by the answer, and none before the batches were kept
  abbrev pub LinesAreSaid : {T : Type 0} → MemberId → Sitting → Parts P C → Parts P C → Result T NodeNo → Type 0
  LinesAreSaid by t old new result =
      HasSaid (AreKeptIn by t old new) t.lines (console_now (v old)) (console_now (v new)) result

  -- Acts of a sitting with these batches, next state and lines. They add to the journal what was kept, as far as the
  -- sitting came, and what is in flight. No other member's count of printed lines differs; its own is as its entries
  -- leave it.
  pub record IsSat (by : MemberId) (t : Sitting) (old new : Parts P C) (result : Result SittingEnd NodeNo) : Type 0
    where
      pub acts : HasActed by old new result
      pub reach : Reach
      pub more : List Batch
      pub journal : journal_of new ≡ old.batches ++ more
      pub left : HasLeft by (v old).now (v new).now t.batches reach more
      pub reached : ReachesBy result t.batches reach
      pub console : plants.tells → LinesAreSaid by t old new result
      pub counts : HasCounted by (all_entries t.batches) old.printed new.printed result
      pub ends : IfOk result (λ e. IsEndOf t e)

  -- Acts of a sitting of one part: after an error its batch isn't kept in part, unless memory wanted.
  pub record IsSatAs (by : MemberId) (t : Sitting) (old new : Parts P C) (result : Result SittingEnd NodeNo) : Type 0
    where
      pub sat : IsSat by t old new result
      pub tight : IsTightBy result t.batches sat.reach

  -- A sitting that began so. It has the shape of one from its state. Where content is told it is the one that the queue
  -- gives which the member found.
  pub record Sat (s : Start) (old new : Parts P C) (result : Result SittingEnd NodeNo) : Type 0 where
    pub sitting : Sitting
    pub is : plants.tells → sitting ≡ sit (queue_of old) s.holder s.state s.found
    pub of : All (AreOf s.holder.by s.holder.step) sitting.batches
    pub shaped : IsShaped s.holder s.state s.found sitting
    pub sat : IsSat s.holder.by sitting old new result
    pub tight : IfNoWork s.state (IsTightBy result sitting.batches sat.reach)

  -- acts on the copies alone, which leave what each other member noted
  pub record CopiesActed {T : Type 0} (by : MemberId) (old new : Parts P C) (result : Result T NodeNo) : Type 0 where
    pub on : IsOnCopies plants.tells by.0 (pair_state plants.view old) (pair_state plants.view new) result
    pub notes : OtherNotesStay by old.had new.had

  -- Memory wanted in the middle of a sitting: of its next batch these first entries are kept if there was memory for
  -- that, or are in flight.
  pub record HasCut (by : MemberId) (es : List Entry) (old new : Parts P C) (why : NodeNo) : Type 0 where
    pub acts : CopiesActed {T = Unit {0}} by old new (Err why)
    pub counts : HasCounted {T = Unit {0}} by [] old.printed new.printed (Err why)
    pub leaves : GivesUpLeaves why old.batches (journal_of new) (begun (v old).now by es) (v new).now

-- levels and orders after so many batches
module _ {P C : Type 0} where
  pub record HasGrown (batches : ℕ) (x y : Parts P C) (m n : Member) : Type 0 where
    pub order : n.checkpoint.tables.order ≤ m.checkpoint.tables.order + 2 ^ 19 * batches
    pub high : n.checkpoint.level ≤ m.checkpoint.level + batches
    pub reached : y.level ≤ x.level + batches

module _ {P C : Type 0} (plants : PlantGhosts P) (copies : CopyGhosts C) where
  -- A sitting that ended so leaves its member at the shared value; it used the levels and orders of one batch.
  pub record IsSatOn (x y : Parts P C) (m n : Member) (at : ℕ) (e : SittingEnd) : Type 0 where
    pub sits : IsLeftIn plants copies e.next y n at
    pub grown : HasGrown 1 x y m n

  -- A sitting of a command or of a deck that began so. It leaves its member at the shared value, with the groups for a
  -- text for which the step waits.
  pub record SitsFrom (s : Start) (x y : Parts P C) (m n : Member) (result : Result SittingEnd NodeNo) : Type 0 where
    pub frame : y ≡ sat_in y x
    pub id : n.id ≡ m.id
    pub sat : Sat plants s x y result
    pub again : IfOk result (IsSatOn x y m n s.holder.step)
    pub goes : IfOk result (λ e. GoesOn s.state n e.next)

  -- A member may keep its batch and end its sitting so. What the lines tell is kept already, as far as it was given in
  -- earlier sittings.
  pub record IsToEnd (e : Ending) (x : Parts P C) (m : Member) : Type 0 where
    pub may : IsToKeep plants copies x m e.holder
    pub kept : plants.tells → TellKept e.lines x.batches (plants.view x.plant).now
    pub quiet : IsQuiet e.next e.lines

  -- a sitting that kept its member's batch, if anything, and ended so
  pub record EndsAs (e : Ending) (x y : Parts P C) (m n : Member) (result : Result SittingEnd NodeNo) : Type 0 where
    pub frame : y ≡ sat_in y x
    pub id : n.id ≡ m.id
    pub tables : n.checkpoint.tables ≡ m.checkpoint.tables
    pub sat : IsSatAs plants e.holder.by (ended e m.batch) x y result
    pub again : IfOk result (IsSatOn x y m n e.holder.step)

  -- a sitting that is out of memory, and keeps what its member gave, if it can
  pub record EndsShort (by : MemberId) (x y : Parts P C) (m n : Member) (why : NodeNo) : Type 0 where
    pub frame : y ≡ sat_in y x
    pub id : n.id ≡ m.id
    pub cut : HasCut plants by m.batch x y why

-- OVER THE SHARED VALUE

module _ {P C : Type 0} {plants : PlantGhosts P} {steadies : SteadyGhosts C} {copies : CopyGhosts C} where
  abbrev pub HasSat : Start → Complex P C plants steadies copies → Complex P C plants steadies copies
      → Result SittingEnd NodeNo → Type 0
  HasSat s x y result = Sat plants s (parts_of x) (parts_of y) result

  abbrev pub SitsOn : Complex P C plants steadies copies → Complex P C plants steadies copies → Member → Member → ℕ
      → SittingEnd → Type 0
  SitsOn x y m n at e = IsSatOn plants copies (parts_of x) (parts_of y) m n at e

  abbrev pub Sits : Start → Complex P C plants steadies copies → Complex P C plants steadies copies → Member → Member
      → Result SittingEnd NodeNo → Type 0
  Sits s x y m n result = SitsFrom plants copies s (parts_of x) (parts_of y) m n result

  abbrev pub MayEnd : Ending → Complex P C plants steadies copies → Member → Type 0
  MayEnd e x m = IsToEnd plants copies e (parts_of x) m

  abbrev pub EndsSitting : Ending → Complex P C plants steadies copies → Complex P C plants steadies copies → Member
      → Member → Result SittingEnd NodeNo → Type 0
  EndsSitting e x y m n result = EndsAs plants copies e (parts_of x) (parts_of y) m n result

  abbrev pub CutsOff : MemberId → Complex P C plants steadies copies → Complex P C plants steadies copies → Member
      → Member → NodeNo → Type 0
  CutsOff by x y m n why = EndsShort plants copies by (parts_of x) (parts_of y) m n why

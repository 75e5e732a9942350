-- What a line leaves that only closes, for every answer, in the words of scripts that several members play.
use Rattle.std.specs.Prelude.{◌≡◌, ◌⊎◌, ℕ, ◌≤◌, false, true, List, [], ◌++◌, map, Option, Some, None, Result, Ok, Err}
use Rattle.mas_types.specs.declared.answers.Closing.{Closing}
use Rattle.mas_types.specs.declared.ids.MemberId.{MemberId}
use Rattle.mas_types.specs.Ids.{nobody}
use Rattle.lock_cycle.specs.Books.{Book, IsMember, after_free, after_stop, is_stopped}
use Rattle.spool_plant.specs.View.{Line, View}
use Rattle.spool_plant.specs.Acts.{Rose, next}
use Rattle.spool_plant.specs.declared.plant.Part.TheVariants.{Console}
use Rattle.spool_plant.specs.declared.plant.Plant.{Ghosts as PlantGhosts}
use Rattle.ckpt_copy.specs.declared.copying.Copying.{Ghosts as CopyGhosts}
use Rattle.ckpt_form.specs.declared.steady.Steady.{Ghosts as SteadyGhosts}
use Rattle.mas_complex.specs.declared.complex.Complex.{Complex}
use Rattle.mas_complex.specs.Locking.{reserved_after_stop}
use Rattle.mas_complex.specs.Parts.{Parts, parts_of}
use Rattle.member_node.specs.declared.member.NodeNo.{NodeNo}
use Rattle.member_node.specs.declared.member.NodeNo.TheVariants.{BothLost, ConsoleFault, Halted, NoMemory}
use Rattle.member_node.specs.Calls.{console_now}
use Rattle.member_node.specs.Spares.{Spares, stopped_in}
use Rattle.member_steps.specs.Saying.{OnConsole}
use Rattle.step_turns.specs.Sittings.{released}
use Rattle.step_turns.specs.declared.states.Holder.{Holder}
use Rattle.step_turns.specs.declared.states.Release.{Release}
use Rattle.step_turns.specs.declared.states.State.TheVariants.{Told}
use Rattle.run_turns.specs.Admissions.{Admission}
use Rattle.run_turns.specs.Cuts.{Left, left_by}
use Rattle.run_turns.specs.Pieces.{closes_with, is_locked, play_of, released_by}
use Rattle.run_turns.specs.Scenes.{Scene}
use Rattle.run_turns.specs.Steps.{stopped_lines}
use Rattle.run_turns.specs.Sights.{Cause, Cut, Ends, Saying, Stops, Writing, clear}

-- WHO SAYS A LINE: its member, which is up, or the operator

abbrev pub IsSayer : Book → MemberId → MemberId → Type 0
IsSayer b sayer by = (sayer ≡ nobody) ⊎ ((sayer ≡ by) × IsMember b by × (is_stopped b by ≡ false))

-- WHERE A LINE WAS CUT

-- before its only line, or at it: so many lines stand, and perhaps a torn one
abbrev pub before_line : Cause → Option Cut
before_line cause = Some (record { sittings = 0; halt = Writing 0 None; cause = cause })

abbrev pub at_line : ℕ → Option (List ℕ) → Cause → Option Cut
at_line n tail cause = Some (record { sittings = 0; halt = Saying n tail; cause = cause })

-- its member was stopped as it said the line: the line stands whole, or torn, or not at all
pub record IsHaltedAtLine (cut : Option Cut) : Type 0 where
  pub lines : ℕ
  pub tail : Option (List ℕ)
  pub few : lines ≤ 1
  pub is : cut ≡ at_line lines tail Stops

-- by the answer
abbrev pub IsCutAs : {T : Type 0} → Result T NodeNo → Option Cut → Type 0
IsCutAs (Ok value) cut = cut ≡ None
IsCutAs (Err ConsoleFault) cut = cut ≡ at_line 0 None Ends
IsCutAs (Err NoMemory) cut = cut ≡ before_line Ends
IsCutAs (Err Halted) cut = IsHaltedAtLine cut
IsCutAs (Err BothLost) cut = ⊥

-- the answer of a call that was done, and of one that failed
abbrev pub done : Result (Unit {0}) NodeNo
done = Ok tt

abbrev pub failed : NodeNo → Result (Unit {0}) NodeNo
failed why = Err why

-- the cause of the answer
abbrev pub HasCause : {T : Type 0} → Result T NodeNo → ℕ → View → View → Type 0
HasCause (Ok value) sayer old new = Unit {0}
HasCause (Err ConsoleFault) sayer old new = Rose (old.faults Console) (new.faults Console)
HasCause (Err NoMemory) sayer old new = new ≡ old
HasCause (Err Halted) sayer old new = Rose (old.stops sayer) (new.stops sayer)
HasCause (Err BothLost) sayer old new = ⊥

-- WHAT IS LEFT

-- a member that was halted in its line is stopped in the book, and what it had reserved is given up
abbrev pub stopped_so : {P C T : Type 0} → Result T NodeNo → MemberId → Parts P C → Parts P C
stopped_so (Err Halted) by x = record x
    { book = after_stop x.book by; reserved = reserved_after_stop by x.reserved }
stopped_so (Err BothLost) by x = x
stopped_so (Err ConsoleFault) by x = x
stopped_so (Err NoMemory) by x = x
stopped_so (Ok value) by x = x

-- the lock is given up once the line stands
abbrev pub freed_by : {P C T : Type 0} → Result T NodeNo → MemberId → Parts P C → Parts P C
freed_by (Ok value) by x = record x { book = after_free x.book by false; reserved = None }
freed_by (Err why) by x = stopped_so {T = Unit {0}} (Err why) by x

-- the line stands, and the lock is left so, or kept; or its member was stopped
abbrev pub ended_by : {P C T : Type 0} → Result T NodeNo → MemberId → Release → Parts P C → Parts P C
ended_by (Ok value) by release x = record x { book = released_by release x.book by }
ended_by (Err why) by release x = stopped_so {T = Unit {0}} (Err why) by x

-- what stands of the line that says that a member stopped
abbrev pub stopped_said : {T : Type 0} → Result T NodeNo → MemberId → ℕ → List Line
stopped_said (Ok value) by at = map (λ said. said.line) (stopped_lines by at (Some Stops))
stopped_said (Err why) by at = []

-- a line as it was tested at a scene: the lock was tried for, and who has it finds nothing in flight
pub record IsTested (S : Scene) (by : MemberId) (a : Admission) (b : Book) : Type 0 where
  pub book : (play_of S by 0 clear a).book ≡ b
  pub flight : is_locked a ≡ true → S.flight ≡ None

-- what a line leaves that was cut so
abbrev pub left_at : Scene → MemberId → ℕ → Admission → Option Cut → Left
left_at S by at a cut = left_by by cut (play_of S by at clear a) (S.counts by)

-- what a line of the lock's holder leaves that was cut so and closes with this, from a book on, while nothing flies
abbrev pub holds_at : MemberId → ℕ → Closing → Scene → Book → Release → Option Cut → Left
holds_at by at end S b release cut = left_by by cut (record {
  sayer = by;
  pieces = closes_with by at end release;
  book = b;
  locked = true;
  queue = S.queue;
  flight = None;
}) (S.counts by)

-- one act was made, and in it nobody was stopped
pub record IsOneAct (old new : View) : Type 0 where
  pub time : new.now ≡ next old.now
  pub halt : new.halt ≡ old.halt

-- a call that makes one act, or none where there was no memory for its line
abbrev pub ActsOnce : {T : Type 0} → Result T NodeNo → View → View → Type 0
ActsOnce (Ok value) old new = IsOneAct old new
ActsOnce (Err ConsoleFault) old new = IsOneAct old new
ActsOnce (Err NoMemory) old new = new ≡ old
ActsOnce (Err Halted) old new = ⊥
ActsOnce (Err BothLost) old new = ⊥

module _ {P C : Type 0} (plants : PlantGhosts P) where
  abbrev v : Parts P C → View
  v x = plants.view x.plant

  -- where content is told the console has the lines that a cut leaves which the answer allows, by what each cut leaves
  pub record HasStoodBy (left : Option Cut → Left) (x y : Parts P C) (result : Result (Unit {0}) NodeNo) : Type 0
    where
      pub cut : Option Cut
      pub is_cut : IsCutAs result cut
      pub lines : console_now (v y) ≡ console_now (v x) ++ (left cut).lines

  -- Acts on the console alone, for a line at a scene, by the member that says it: no copy is read or lost, nothing is
  -- printed, and nobody is stopped but that member, and it only where the answer says so. The book is the one that the
  -- line leaves, and where content is told the console has its lines.
  pub record HasClosedBy (left : Option Cut → Left) (sayer : MemberId) (x y : Parts P C)
      (result : Result (Unit {0}) NodeNo) : Type 0 where
    pub acts : OnConsole plants.tells (v x) (v y)
    pub spares : Spares sayer.0 (stopped_in result) (v x) (v y)
    pub cause : HasCause result sayer.0 (v x) (v y)
    pub book : (cut : Option Cut) → IsCutAs result cut → y.book ≡ (left cut).book
    pub console : plants.tells → HasStoodBy left x y result

  -- a member that holds the lock said its line so, which changed nothing else, and left the lock so, or kept it
  abbrev pub HasSaid : (Option Cut → Left) → MemberId → Release → Parts P C → Parts P C → Result (Unit {0}) NodeNo
      → Type 0
  HasSaid left by release x y result = HasClosedBy left by x y result
      × (y ≡ ended_by result by release (record x { plant = y.plant }))

  -- what a line that finds nothing says and leaves
  abbrev pub HasStood : Scene → MemberId → ℕ → Admission → Parts P C → Parts P C → Result (Unit {0}) NodeNo → Type 0
  HasStood S by at a x y result = HasStoodBy (left_at S by at a) x y result

  abbrev pub HasClosed : Scene → MemberId → ℕ → Admission → MemberId → Parts P C → Parts P C
      → Result (Unit {0}) NodeNo → Type 0
  HasClosed S by at a sayer x y result = HasClosedBy (left_at S by at a) sayer x y result

-- OVER THE SHARED VALUE

module _ {P C : Type 0} {plants : PlantGhosts P} {steadies : SteadyGhosts C} {copies : CopyGhosts C} where
  -- a line that only closes, by whoever says it, at any scene at which it was tested so
  abbrev pub Closes : MemberId → ℕ → Admission → MemberId → Complex P C plants steadies copies
      → Complex P C plants steadies copies → Result (Unit {0}) NodeNo → Type 0
  Closes by at a sayer x y result = (S : Scene) → IsTested S by a x.book
      → HasClosed plants S by at a sayer (parts_of x) (parts_of y) result

  -- a line of the lock's holder that closes with this while nothing flies, at any scene; its step gave no command
  abbrev pub ClosesHeld : MemberId → Holder → Closing → Complex P C plants steadies copies
      → Complex P C plants steadies copies → Result (Unit {0}) NodeNo → Type 0
  ClosesHeld by h end x y result = (S : Scene) → HasClosedBy plants
      (holds_at by h.step end S x.book (released h.grant h.hold 0 Told)) by (parts_of x) (parts_of y) result

  -- A line that says that its member stopped in its step, by the operator: one act, on the console, in which nobody is
  -- stopped; or none where there was no memory. The line stands where the answer is Ok, and else nothing was said.
  pub record SaysStopped (by : MemberId) (at : ℕ) (x y : Complex P C plants steadies copies)
      (result : Result (Unit {0}) NodeNo) : Type 0 where
    pub acts : OnConsole plants.tells (plants.view x.plant) (plants.view y.plant)
    pub spares : Spares 0 false (plants.view x.plant) (plants.view y.plant)
    pub acted : ActsOnce result (plants.view x.plant) (plants.view y.plant)
    pub cause : HasCause result 0 (plants.view x.plant) (plants.view y.plant)
    pub unhalted : stopped_in result ≡ false
    pub console : plants.tells → console_now (plants.view y.plant) ≡ console_now (plants.view x.plant)
        ++ stopped_said result by at

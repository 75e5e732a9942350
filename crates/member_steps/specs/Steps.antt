-- A member's step that gives a command, by its answer.
use Rattle.std.specs.Prelude.{◌≡◌, ◌⊎◌, ℕ, ◌≤◌, ◌<◌, Bool, false, List, [], ◌∷◌, length, All, Option, None, Result, Ok, Err}
use Rattle.mas_types.specs.declared.ids.Dev.{Dev}
use Rattle.mas_types.specs.declared.ids.MemberId.{MemberId}
use Rattle.mas_types.specs.declared.ids.Page.{Page}
use Rattle.mas_types.specs.declared.commands.Command.{Command}
use Rattle.mas_types.specs.declared.commands.Reply.{Reply}
use Rattle.mas_types.specs.declared.journals.Batch.{Batch}
use Rattle.mas_types.specs.declared.journals.Entry.{Entry}
use Rattle.mas_types.specs.declared.journals.Fate.TheVariants.{Kept}
use Rattle.mas_types.specs.declared.queues.Queue.{Queue}
use Rattle.spool_plant.specs.declared.plant.Part.TheVariants.{Console}
use Rattle.spool_plant.specs.Acts.{Rose, SameWires}
use Rattle.duplex_pair.specs.Halves.{IsBothLost}
use Rattle.ckpt_tables.specs.declared.tables.Tables.{Tables}
use Rattle.queue_telling.specs.Orders.{HaveOrders}
use Rattle.queue_telling.specs.Telling.{Tell, TellSound}
use Rattle.member_node.specs.Standing.{AreFit}
use Rattle.mas_complex.specs.Journals.{kept_all}
use Rattle.mas_complex.specs.Meaning.{step, run}
use Rattle.mas_complex.specs.Paper.{SamePapers}
use Rattle.mas_complex.specs.Parts.{Parts}
use Rattle.mas_complex.specs.CallCounts.{PairState}
use Rattle.member_node.specs.declared.checkpoint.Checkpoint.{Checkpoint}
use Rattle.member_node.specs.declared.member.NodeNo.{NodeNo}
use Rattle.member_node.specs.declared.member.NodeNo.TheVariants.{BothLost, Halted, ConsoleFault, NoMemory}
use Rattle.member_node.specs.Calls.{Course, IsLeft, IsOnlyOn, console_now}
use Rattle.member_node.specs.Drawn.{AreDrawn}
use Rattle.member_node.specs.Spares.{Spares, stopped_in}
use Rattle.mas_types.specs.Closings.{reply_lines}
use Rattle.member_node.specs.Writes.{HasKept, HasFlying, JournalState}
use Rattle.member_steps.specs.Saying.{HasSaid}

-- WHAT A STEP GIVES

-- the reply that a command has at a queue
abbrev pub reply_to : Queue → MemberId → Command → Reply
reply_to Q by c = (step Q by c).1

-- the entry of a command that a member gives in a step
abbrev pub entry_of : Queue → MemberId → ℕ → Command → Entry
entry_of Q by at c = record { by = by; step = at; command = c; reply = reply_to Q by c }

-- the lines with which the step closes
abbrev pub step_lines : Queue → MemberId → ℕ → Command → List (List ℕ)
step_lines Q by at c = reply_lines by at (reply_to Q by c)

-- BETWEEN STEPS

-- A member at the lock, whatever it knows of the copies: no batch is in flight or has its place, it has written what it
-- did, and it has room for as many pages as its checkpoint has.
pub record IsAtLock (current : Option Batch) (placed : Bool) (batch : List Entry) (k : Checkpoint)
    (room : List Page) : Type 0 where
  pub none : current ≡ None
  pub unplaced : placed ≡ false
  pub nothing : batch ≡ []
  pub drawn : AreDrawn k.tables k.level k.levels k.pages
  pub many : length room ≡ length k.pages

-- whatever tables tell the queue tell one with the sound parts: it has these, except its texts perhaps
abbrev pub IsToldSound : Queue → Type 0
IsToldSound Q = (t : Tables) → Tell t Q → TellSound t

-- A member in a step, which knows the copies: no batch is in flight or has its place, and where content is told its
-- checkpoint tells the queue after the kept batches, which has the sound parts, and its tables have no order twice.
pub record IsBetween {P C : Type 0} (tells : Type 0) (x : Parts P C) (batch : List Entry) (k : Checkpoint) : Type 0
  where
    pub none : x.current ≡ None
    pub unplaced : x.placed ≡ false
    pub same_level : tells → x.level ≡ k.level
    pub nothing : batch ≡ []
    pub drawn : AreDrawn k.tables k.level k.levels k.pages
    pub queue : tells → Tell k.tables (run x.base (kept_all x.batches))
    pub fit : AreFit k.tables
    pub orders : tells → HaveOrders k.tables
    pub sound : tells → TellSound k.tables

-- the batch is kept by now
abbrev pub IsKeptBy : ℕ → Batch → Type 0
IsKeptBy now b = (b.fate ≡ Kept) × (b.last ≤ now)

-- each batch is kept by now
abbrev pub AreAllKept : List Batch → ℕ → Type 0
AreAllKept batches now = All (λ b. IsKeptBy now b × (b.first ≤ b.last)) batches

-- each of the entries that the member gave is of a step before this one
abbrev pub AreEarlier : MemberId → ℕ → List Entry → Type 0
AreEarlier by at entries = All (λ e. e.by ≡ by → e.step < at) entries

-- Each batch is kept by now that has an entry of this step of the member, or of a later one: so a line of the step may
-- be said. Other batches may have been dropped.
abbrev pub AreKeptFrom : MemberId → ℕ → List Batch → ℕ → Type 0
AreKeptFrom by at batches now = All (λ b. IsKeptBy now b ⊎ AreEarlier by at b.entries) batches

-- A step that gives a command, whatever its reply is, by the entry and the lines that this reply makes. Where content
-- is told it is the reply that the command has at the queue.
abbrev pub entry_with : MemberId → ℕ → Command → Reply → Entry
entry_with by at c r = record { by = by; step = at; command = c; reply = r }

-- the lines and the batch are those of some reply
abbrev pub IsGiven : MemberId → ℕ → Command → List (List ℕ) → List Entry → Type 0
IsGiven by at c lines batch = (r : Reply) × (lines ≡ reply_lines by at r) × (batch ≡ entry_with by at c r ∷ [])

-- WHAT A STEP LEAVES

-- the cause of an answer, and which copies count as alive after it
abbrev pub StepCauses : {T : Type 0} → Result T NodeNo → ℕ → PairState → PairState → Type 0
StepCauses (Ok done) by old new = IsLeft old.first new.first old.second new.second
StepCauses (Err NoMemory) by old new = IsLeft old.first new.first old.second new.second
StepCauses (Err BothLost) by old new = IsBothLost new.first new.second
StepCauses (Err ConsoleFault) by old new = IsLeft old.first new.first old.second new.second
    × Rose (old.view.faults Console) (new.view.faults Console)
StepCauses (Err Halted) by old new = IsLeft old.first new.first old.second new.second
    × Rose (old.view.stops by) (new.view.stops by)

-- The batch is kept where all lines are said, or where the console failed at one. Out of memory it isn't begun, and
-- where both copies were lost it is in flight. Where the member was stopped it is in flight, or kept.
abbrev pub StepLeaves : {T : Type 0} → Result T NodeNo → List Batch → List Batch → Batch → ℕ → Type 0
StepLeaves (Ok done) front batches b now = HasKept front batches b now
StepLeaves (Err NoMemory) front batches b now = batches ≡ front
StepLeaves (Err BothLost) front batches b now = HasFlying front batches b
StepLeaves (Err ConsoleFault) front batches b now = HasKept front batches b now
StepLeaves (Err Halted) front batches b now = HasFlying front batches b ⊎ HasKept front batches b now

-- A step whose commands are this batch, and which closes with these lines, after the batches of a journal. Nothing is
-- printed in it, and nothing moves on the wires.
pub record IsStep {T : Type 0} (told : Type 0) (lines : List (List ℕ)) (b : Batch) (old new : JournalState)
    (result : Result T NodeNo) : Type 0 where
  pub course : Course old.pair new.pair
  pub loses : told → (d : Dev) → new.pair.view.loses d ≡ old.pair.view.loses d
  pub cause : StepCauses result b.by.0 old.pair new.pair
  pub spares : Spares b.by.0 (stopped_in result) old.pair.view new.pair.view
  pub journal : StepLeaves result old.batches new.batches b new.pair.view.now
  pub others : told → IsOnlyOn old.pair.view new.pair.view
  pub papers : told → SamePapers old.pair.view new.pair.view
  pub wires : told → SameWires old.pair.view new.pair.view
  pub console : told → HasSaid (HasKept old.batches new.batches b new.pair.view.now) lines (console_now old.pair.view)
      (console_now new.pair.view) result

-- Lines that a member says one after another.
use Rattle.std.specs.Prelude.{◌≡◌, ◌⊎◌, ℕ, ◌+◌, ◌≤◌, ◌<◌, false, List, [], ◌∷◌, ◌++◌, length, map, take, All, Option, Some, None, Result, Ok, Err}
use Rattle.mas_types.specs.declared.ids.Dev.{Dev}
use Rattle.mas_types.specs.declared.ids.MemberId.{MemberId}
use Rattle.mas_types.specs.declared.journals.Batch.{Batch}
use Rattle.spool_plant.specs.declared.plant.Part.TheVariants.{Disk, Console}
use Rattle.spool_plant.specs.View.{View, Line, disk_now}
use Rattle.spool_plant.specs.Acts.{Goes, Rose, SameWires}
use Rattle.mas_complex.specs.Headline.{whole}
use Rattle.mas_complex.specs.Journals.{StepIsKept}
use Rattle.mas_complex.specs.Meaning.{Closes}
use Rattle.mas_complex.specs.Paper.{SamePapers}
use Rattle.member_node.specs.declared.member.NodeNo.{NodeNo}
use Rattle.member_node.specs.declared.member.NodeNo.TheVariants.{BothLost, Halted, ConsoleFault, NoMemory}
use Rattle.member_node.specs.Calls.{IsOnlyOn, console_now}
use Rattle.member_node.specs.Spares.{Spares, stopped_in}

-- each step that one of the lines tells is kept by now
abbrev pub TellKept : List (List ℕ) → List Batch → ℕ → Type 0
TellKept lines batches now = All (λ line. (m : MemberId) (s : ℕ) → Closes line m s → StepIsKept batches now m s) lines

abbrev pub torn : List ℕ → Line
torn text = record { text = text; whole = false }

-- what was said of lines: so many whole, and this text torn after them
pub record Said : Type 0 where
  pub lines : ℕ
  pub torn : Option (List ℕ)

abbrev pub said_nothing : Said
said_nothing = record { lines = 0; torn = None }

abbrev pub torn_line : Option (List ℕ) → List Line
torn_line None = []
torn_line (Some text) = torn text ∷ []

abbrev pub said_of : Said → List (List ℕ) → List Line
said_of s lines = map whole (take s.lines lines) ++ torn_line s.torn

-- What was said of the lines, by the answer: all of them, or those before the one at which the console failed or the
-- member was stopped.
abbrev pub SaidBy : {T : Type 0} → Result T NodeNo → List (List ℕ) → Said → Type 0
SaidBy (Ok done) lines s = s ≡ record { lines = length lines; torn = None }
SaidBy (Err NoMemory) lines s = s ≡ said_nothing
SaidBy (Err BothLost) lines s = s ≡ said_nothing
SaidBy (Err ConsoleFault) lines s = (s.lines < length lines) × (s.torn ≡ None)
SaidBy (Err Halted) lines s = s.lines + length (torn_line s.torn) ≤ length lines

-- Of these lines some were said by the answer, and none before this held.
pub record HasSaid {T : Type 0} (kept : Type 0) (lines : List (List ℕ)) (was now : List Line)
    (result : Result T NodeNo) : Type 0 where
  pub said : Said
  pub is : now ≡ was ++ said_of said lines
  pub by_answer : SaidBy result lines said
  pub once_kept : (said ≡ said_nothing) ⊎ kept

-- the cause of an answer
abbrev pub SayCauses : {T : Type 0} → Result T NodeNo → ℕ → View → View → Type 0
SayCauses (Ok done) by old new = Unit {0}
SayCauses (Err ConsoleFault) by old new = Rose (old.faults Console) (new.faults Console)
SayCauses (Err Halted) by old new = Rose (old.stops by) (new.stops by)
SayCauses (Err BothLost) by old new = ⊥
SayCauses (Err NoMemory) by old new = ⊥

-- Acts on the console: no device is lost and none fails, and where content is told, each holds at each moment what it
-- held, and so does each printer. Nothing has moved on the wires.
pub record OnConsole (told : Type 0) (old new : View) : Type 0 where
  pub goes : Goes old new
  pub lost : (d : Dev) → new.lost (Disk d) ≡ old.lost (Disk d)
  pub faults : (d : Dev) → new.faults (Disk d) ≡ old.faults (Disk d)
  pub loses : (d : Dev) → new.loses d ≡ old.loses d
  pub disks : told → (d : Dev) → disk_now new d ≡ disk_now old d
  pub others : told → IsOnlyOn old new
  pub papers : told → SamePapers old new
  pub wires : told → SameWires old new

-- The lines were said one after another, up to one that couldn't be.
pub record HaveSaid {T : Type 0} (told : Type 0) (by : ℕ) (lines : List (List ℕ)) (old new : View)
    (result : Result T NodeNo) : Type 0 where
  pub acts : OnConsole told old new
  pub cause : SayCauses result by old new
  pub spares : Spares by (stopped_in result) old new
  pub console : told → HasSaid (Unit {0}) lines (console_now old) (console_now new) result
  -- a member is stopped only at a line
  pub some : result ≡ Err Halted → 1 ≤ length lines

-- What the acts of a step found, and where its member halted, if it did.
use Rattle.std.specs.Prelude.{ℕ, List, Option, None}
use Rattle.mas_types.specs.declared.journals.Fate.{Fate}
use Rattle.mas_types.specs.declared.journals.Fate.TheVariants.{Flying}
use Rattle.step_turns.specs.Courses.{Finds}
use Rattle.step_turns.specs.Examples.{calm}

-- WHERE A STEP WAS CUT

-- of a batch that its member was about to keep: its first entries, so many, and what had become of them when the step
-- was cut
pub record Begun : Type 0 where
  pub entries : ℕ
  pub fate : Fate

-- Under the lock, before the lines: so many batches of the sitting were kept, and one more was begun, perhaps. Or at
-- the lines with which the step closes, of which so many stand, and perhaps a torn one after them. Or in the acts that
-- follow the sitting, in which so many lines were printed, and perhaps a torn one, or so many bytes given on a line.
pub data Halt : Type 0 where
  Writing : ℕ → Option Begun → Halt
  Saying : ℕ → Option (List ℕ) → Halt
  Waiting : ℕ → Option (List ℕ) → Halt

-- the step's member stopped, or the run ended in the step
pub data Cause : Type 0 where
  Stops : Cause
  Ends : Cause

-- Where a step was cut: so many of its sittings are whole, with the acts that follow them; the next one was cut.
pub record Cut : Type 0 where
  pub sittings : ℕ
  pub halt : Halt
  pub cause : Cause

-- WHAT A STEP FOUND

-- what became of a copy that was to be replaced: it was; or it wasn't lost; or the new device was lost in it
pub data Renewed : Type 0 where
  Replaced : Renewed
  NotLost : Renewed
  LostAgain : Renewed

-- what its acts found, how many lines of a chunk the printer took, or bytes of a frame the line, that was then found
-- lost, what a takeover found of the batch in flight, nothing yet being Flying, what became of a copy that was to be
-- replaced, and where the step was cut, if it was
pub record Sight : Type 0 where
  pub finds : Finds
  pub inked : ℕ
  pub flight : Fate
  pub renewed : Renewed
  pub cut : Option Cut

-- each text as the queue has it, nothing lost, a copy replaced that was to be, and no cut
abbrev pub clear : Sight
clear = record { finds = calm; inked = 0; flight = Flying; renewed = Replaced; cut = None }

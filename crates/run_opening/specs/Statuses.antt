-- The status with which a run ends, and what caused it.
use Rattle.std.specs.Prelude.{◌≡◌, Bool, true, false, Result, Ok, Err}
use Rattle.mas_types.specs.declared.ids.Dev.TheVariants.{Ckpt1, Ckpt2}
use Rattle.mas_types.specs.declared.answers.Status.{Status}
use Rattle.mas_types.specs.declared.answers.Status.TheVariants as status
use Rattle.spool_plant.specs.declared.plant.Part.{Part}
use Rattle.spool_plant.specs.declared.plant.Part.TheVariants.{Disk, Console}
use Rattle.spool_plant.specs.View.{View}
use Rattle.spool_plant.specs.Acts.{Rose}
use Rattle.member_node.specs.declared.member.NodeNo.{NodeNo}
use Rattle.member_node.specs.declared.member.NodeNo.TheVariants as no_node
use Rattle.member_node.specs.Calls.{WasLost}

-- a part is named only where its faults rose, and both copies only where each was lost, by a fault or by a call
pub record IsCaused (answer : Status) (old new : View) : Type 0 where
  pub failed1 : answer ≡ status.BothLost → WasLost Ckpt1 old new
  pub failed2 : answer ≡ status.BothLost → WasLost Ckpt2 old new
  pub console : answer ≡ status.ConsoleFault → Rose (old.faults Console) (new.faults Console)

-- Of a run that hasn't begun: what is lost stays lost, and with BothLost both copies' devices are lost.
pub record LeavesLost (answer : Status) (old new : View) : Type 0 where
  pub stays : (p : Part) → old.lost p ≡ true → new.lost p ≡ true
  pub both : answer ≡ status.BothLost → (new.lost (Disk Ckpt1) ≡ true) × (new.lost (Disk Ckpt2) ≡ true)

-- the status of a run that has begun and ended with this answer of its steps
abbrev pub status_of : {T : Type 0} → Result T NodeNo → Status
status_of (Ok done) = status.Done
status_of (Err no_node.NoMemory) = status.NoMemory
status_of (Err no_node.BothLost) = status.BothLost
status_of (Err no_node.ConsoleFault) = status.ConsoleFault
status_of (Err no_node.Halted) = status.Done

-- a run that has begun ends with one of these
abbrev pub is_of_play : Status → Bool
is_of_play status.Done = true
is_of_play status.BothLost = true
is_of_play status.ConsoleFault = true
is_of_play status.NoMemory = true
is_of_play _ = false

-- the status says what the words or the script lack
abbrev pub is_of_text : Status → Bool
is_of_text status.Words = true
is_of_text (status.BadLine line cause) = true
is_of_text status.TooLong = true
is_of_text _ = false

-- no script is played: the words or the script are refused, or the script can't be read
abbrev pub is_unplayed : Status → Bool
is_unplayed status.SourceFault = true
is_unplayed answer = is_of_text answer

-- the causes of an answer over a stretch of a run, where these copies counted as alive before it
pub record IsCausedFrom (one two : Bool) (answer : Status) (old new : View) : Type 0 where
  pub failed1 : answer ≡ status.BothLost → one ≡ true → WasLost Ckpt1 old new
  pub failed2 : answer ≡ status.BothLost → two ≡ true → WasLost Ckpt2 old new
  pub console : answer ≡ status.ConsoleFault → Rose (old.faults Console) (new.faults Console)

-- How the program ends: its exit code and what it writes to standard error, and what a check of the checkpoint says.
use Rattle.std.specs.Prelude.{ℕ, List, [], ◌∷◌, decimal, codes, Option, Some, None}
use Rattle.mas_types.specs.declared.answers.LineCause.{LineCause}
use Rattle.mas_types.specs.declared.answers.LineCause.TheVariants as cause
use Rattle.mas_types.specs.declared.answers.CopyState.{CopyState}
use Rattle.mas_types.specs.declared.answers.CopyState.TheVariants as copy
use Rattle.mas_types.specs.declared.answers.Status.{Status}
use Rattle.mas_types.specs.declared.answers.Status.TheVariants as status
use Rattle.mas_types.specs.declared.answers.FaultKind.{FaultKind}
use Rattle.mas_types.specs.declared.answers.FaultKind.TheVariants as fault
use Rattle.mas_types.specs.declared.answers.Verdict.{Verdict}
use Rattle.mas_types.specs.declared.answers.Verdict.TheVariants as verdict
use Rattle.mas_types.specs.Closings.{device_word}
use Rattle.mas_types.specs.Shown.{words}

-- THE STATUS

abbrev pub line_cause_word : LineCause → List ℕ
line_cause_word cause.Text = codes "TEXT"
line_cause_word cause.Late = codes "LATE"
line_cause_word cause.Warm = codes "WARM"
line_cause_word cause.Config = codes "CONFIG"
line_cause_word cause.Only = codes "ONLY"
line_cause_word cause.Member = codes "MEMBER"
line_cause_word cause.Race = codes "RACE"
line_cause_word cause.Verb = codes "VERB"
line_cause_word cause.Number = codes "NUMBER"
line_cause_word cause.Command = codes "COMMAND"
line_cause_word cause.End = codes "END"
line_cause_word cause.Steps = codes "STEPS"
line_cause_word cause.NotBuilt = codes "NOTBUILT"

abbrev pub copy_word : CopyState → List ℕ
copy_word copy.Lost = codes "LOST"
copy_word copy.Unread = codes "UNREAD"
copy_word copy.Unsound = codes "UNSOUND"

-- the exit code of the program
abbrev pub status_code : Status → ℕ
status_code status.Done = 0
status_code status.Words = 1
status_code (status.BadLine line why) = 2
status_code status.TooLong = 2
status_code status.SourceFault = 3
status_code (status.NotFormatted first second) = 4
status_code status.BothLost = 5
status_code status.ConsoleFault = 6
status_code (status.DeviceSize dev size) = 7
status_code status.NoMemory = 8

-- the status in words
abbrev pub status_text : Status → List ℕ
status_text status.Done = []
status_text status.Words = codes "WORDS"
status_text (status.BadLine line why) = words (codes "LINE" ∷ decimal line ∷ line_cause_word why ∷ [])
status_text status.TooLong = codes "SCRIPT TOO LONG"
status_text status.SourceFault = codes "SOURCE FAULT"
status_text (status.NotFormatted first second) = words (codes "NOT FORMATTED" ∷ copy_word first ∷ copy_word second ∷ [])
status_text status.BothLost = codes "BOTH LOST"
status_text status.ConsoleFault = codes "CONSOLE FAULT"
status_text (status.DeviceSize dev size) = words (codes "DEVICE" ∷ device_word dev ∷ codes "SIZE" ∷ decimal size ∷ [])
status_text status.NoMemory = codes "NO MEMORY"

-- the line on standard error, none where all is done
abbrev pub status_line : Status → Option (List ℕ)
status_line status.Done = None
status_line why = Some (words (codes "MAS" ∷ status_text why ∷ []))

-- THE CHECK OF A CHECKPOINT

abbrev pub fault_word : FaultKind → List ℕ
fault_word fault.Page = codes "PAGE"
fault_word fault.Number = codes "NUMBER"
fault_word fault.Owner = codes "OWNER"
fault_word fault.Place = codes "PLACE"
fault_word fault.Text = codes "TEXT"

-- the line of a check: SOUND, or the kind of the fault and its page, slot or group
abbrev pub verdict_line : Verdict → List ℕ
verdict_line verdict.Sound = codes "SOUND"
verdict_line (verdict.Fault kind place) = words (codes "FAULT" ∷ fault_word kind ∷ decimal place ∷ [])

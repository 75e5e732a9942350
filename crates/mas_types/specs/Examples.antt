-- Worked examples of lines: how each closing, refusal, reply, status and fault is written.
use Rattle.std.specs.Prelude.{◌≡◌, ℕ, true, false, List, [], ◌∷◌, map, codes, None, Some}
use Rattle.mas_types.specs.declared.ids.MemberId.{MemberId}
use Rattle.mas_types.specs.declared.ids.JobNo.{JobNo}
use Rattle.mas_types.specs.declared.ids.OutNo.{OutNo}
use Rattle.mas_types.specs.declared.ids.Name8.{Name8}
use Rattle.mas_types.specs.declared.ids.Dev.TheVariants as dev
use Rattle.mas_types.specs.declared.jobs.Phase.TheVariants as phase
use Rattle.mas_types.specs.declared.jobs.Text.TheVariants.{Whole, Gone}
use Rattle.mas_types.specs.declared.jobs.Job.{Job}
use Rattle.mas_types.specs.declared.jobs.Output.{Output}
use Rattle.mas_types.specs.declared.queues.Owner.TheVariants as owner
use Rattle.mas_types.specs.declared.commands.Command.TheVariants as command
use Rattle.mas_types.specs.declared.commands.Refusal.TheVariants as refusal
use Rattle.mas_types.specs.declared.commands.Reply.TheVariants as reply
use Rattle.mas_types.specs.declared.journals.Fate.TheVariants as fate
use Rattle.mas_types.specs.declared.journals.Entry.{Entry}
use Rattle.mas_types.specs.declared.answers.CardCause.TheVariants as cards
use Rattle.mas_types.specs.declared.answers.Closing.TheVariants as closing
use Rattle.mas_types.specs.declared.answers.CopyState.TheVariants as copy
use Rattle.mas_types.specs.declared.answers.FaultKind.TheVariants as fault
use Rattle.mas_types.specs.declared.answers.JclCause.TheVariants as jcl
use Rattle.mas_types.specs.declared.answers.LineCause.TheVariants as cause
use Rattle.mas_types.specs.declared.answers.Status.TheVariants as status
use Rattle.mas_types.specs.declared.answers.Verdict.TheVariants as verdict
use Rattle.mas_types.specs.Closings.{closing_line, closing_text, card_cause_text, detail_line, refusal_text}
use Rattle.mas_types.specs.Histories.{history}
use Rattle.mas_types.specs.Names.{name_text, padded}
use Rattle.mas_types.specs.Numerals.{in_digits, key_of}
use Rattle.mas_types.specs.Printed.{jcl_error_line, printed_line}
use Rattle.mas_types.specs.Records.{records_in}
use Rattle.mas_types.specs.Shown.{job_line, member_line, output_line, volume_line}
use Rattle.mas_types.specs.Starts.{default_setting}
use Rattle.mas_types.specs.Statuses.{line_cause_word, status_line, verdict_line}

abbrev pub sysa : MemberId
sysa = record { 0 = 1 }

abbrev pub sysh : MemberId
sysh = record { 0 = 8 }

abbrev pub operator : MemberId
operator = record { 0 = 0 }

abbrev pub job : ℕ → JobNo
job n = record { 0 = n }

abbrev pub index : ℕ → OutNo
index i = record { 0 = i }

abbrev pub name : List ℕ → Name8
name text = record { 0 = padded text }

-- NUMBERS AND NAMES

abbrev pub NumbersAreWritten : Type 0
NumbersAreWritten =
    (in_digits 5 1 ∷ in_digits 5 99999 ∷ in_digits 5 100000 ∷ in_digits 2 0 ∷ in_digits 2 7 ∷ in_digits 2 100
    ∷ key_of 1 ∷ key_of 99999 ∷ key_of 100000 ∷ key_of 1000000 ∷ [])
    ≡ (codes "00001" ∷ codes "99999" ∷ codes "100000" ∷ codes "00" ∷ codes "07" ∷ codes "100"
    ∷ codes "JOB00001" ∷ codes "JOB99999" ∷ codes "J0100000" ∷ codes "J01000000" ∷ [])

-- only the blanks at the end of a name are padding
abbrev pub NamesAreWritten : Type 0
NamesAreWritten =
    map name_text (name (codes "LOCAL") ∷ name (codes "ABCDEFGH") ∷ name (codes "A B") ∷ name [] ∷ [])
    ≡ (codes "LOCAL" ∷ codes "ABCDEFGH" ∷ codes "A B" ∷ [] ∷ [])

-- CLOSINGS

abbrev pub ClosingsAreWritten : Type 0
ClosingsAreWritten =
    map closing_text (
    closing.Reply reply.Plain ∷ closing.Reply (reply.Job (job 1)) ∷ closing.Reply (reply.Output (job 12) (index 3))
    ∷ closing.Reply (reply.Count 25) ∷ closing.Reply (reply.Shown ([] ∷ [] ∷ []))
    ∷ closing.Reply (reply.No refusal.NoJob)
    ∷ closing.DoneUnits 9 ∷ closing.Busy sysa ∷ closing.Dormant 3 ∷ closing.Down ∷ closing.Stopped
    ∷ closing.Up sysh ∷ closing.ResetOf sysa ∷ closing.NotHolder ∷ closing.BadCard 1 cards.Name ∷ closing.SpoolLost 1
    ∷ closing.PrinterLost ∷ closing.LineLost 8 ∷ closing.NoText (record { 0 = 511 }) ∷ closing.NotLost dev.Ckpt2
    ∷ closing.CkptLost dev.Ckpt1 ∷ closing.Line 2 10 ∷ [])
    ≡ (
    codes "OK" ∷ codes "OK JOB00001" ∷ codes "OK JOB00012.03"
    ∷ codes "OK 25" ∷ codes "OK 2" ∷ codes "NO NO JOB"
    ∷ codes "OK DONE 9" ∷ codes "BUSY SYSA" ∷ codes "DORMANT 3" ∷ codes "DOWN" ∷ codes "STOPPED"
    ∷ codes "NO UP SYSH" ∷ codes "OK SYSA" ∷ codes "NO NOT HOLDER" ∷ codes "NO BAD CARD 1 NAME" ∷ codes "NO SPOOL LOST 1"
    ∷ codes "NO PRINTER LOST" ∷ codes "NO LINE LOST 8" ∷ codes "NO TEXT 511" ∷ codes "NO NOT LOST CKPT2"
    ∷ codes "NO CKPT LOST CKPT1" ∷ codes "OK SENT 2 GOT 10" ∷ [])

abbrev pub RefusalsAreWritten : Type 0
RefusalsAreWritten =
    map refusal_text (
    refusal.JobsFull ∷ refusal.OutputsFull ∷ refusal.SpoolFull ∷ refusal.NoJob ∷ refusal.NoOutput ∷ refusal.InUse sysh
    ∷ refusal.InUse operator ∷ refusal.WrongPhase phase.Input ∷ refusal.WrongPhase phase.Convert
    ∷ refusal.WrongPhase phase.Execute ∷ refusal.WrongPhase phase.Output ∷ refusal.WrongPhase phase.Hardcopy
    ∷ refusal.WrongPhase phase.Purge ∷ refusal.WrongPhase phase.Xmit ∷ refusal.Nothing ∷ refusal.NoMember
    ∷ refusal.NoNode ∷ refusal.Again 1 ∷ refusal.Gap 3 1 ∷ [])
    ≡ (
    codes "JOBS FULL" ∷ codes "OUTPUTS FULL" ∷ codes "SPOOL FULL" ∷ codes "NO JOB" ∷ codes "NO OUTPUT" ∷ codes "IN USE SYSH"
    ∷ codes "IN USE OPER" ∷ codes "PHASE INPUT" ∷ codes "PHASE CONVERT"
    ∷ codes "PHASE EXECUTE" ∷ codes "PHASE OUTPUT" ∷ codes "PHASE HARDCOPY"
    ∷ codes "PHASE PURGE" ∷ codes "PHASE XMIT" ∷ codes "NOTHING" ∷ codes "NO MEMBER"
    ∷ codes "NO NODE" ∷ codes "AGAIN 1" ∷ codes "GAP 3 1" ∷ [])

abbrev pub CardCausesAreWritten : Type 0
CardCausesAreWritten =
    map card_cause_text (
    cards.Text ∷ cards.Many ∷ cards.After ∷ cards.First ∷ cards.Name ∷ cards.Operand ∷ cards.Jes ∷ cards.Place ∷ [])
    ≡ (
    codes "TEXT" ∷ codes "MANY" ∷ codes "AFTER" ∷ codes "FIRST" ∷ codes "NAME" ∷ codes "OPERAND" ∷ codes "JES" ∷ codes "PLACE" ∷ [])

abbrev pub ClosingLinesAreWritten : Type 0
ClosingLinesAreWritten =
    (closing_line sysa 1 (closing.Reply (reply.Job (job 1))) ∷ closing_line operator 99999 closing.Down
    ∷ closing_line sysh 123456 (closing.Busy sysa) ∷ [])
    ≡ (codes "SYSA 00001 OK JOB00001" ∷ codes "OPER 99999 DOWN" ∷ codes "SYSH 123456 BUSY SYSA" ∷ [])

-- DISPLAYS

abbrev pub a_job : Job
a_job = record {
  number = job 2;
  fields = record {
    name = name (codes "N");
    class = record { 0 = 65 };
    msgclass = record { 0 = 65 };
    prio = record { 0 = 5 };
    held = false;
    scan = false;
    restart = true;
    dest = name (codes "LOCAL");
    node = name (codes "HERE");
    origin = name (codes "HERE");
  };
  phase = phase.Convert;
  cancelled = false;
  busy = sysa;
  text = Whole [];
}

abbrev pub an_output : Output
an_output = record {
  job = job 1;
  index = index 1;
  class = record { 0 = 65 };
  dest = name (codes "LOCAL");
  forms = name (codes "STD");
  copies = 1;
  held = true;
  busy = operator;
  mark = 10;
  text = Gone (record { 0 = 3 }) 25;
}

abbrev pub DisplaysAreWritten : Type 0
DisplaysAreWritten =
    (detail_line sysa 2 (job_line a_job) ∷ output_line an_output
    ∷ volume_line 1 (owner.Free ∷ owner.Member sysa ∷ owner.Free ∷ []) 2 ∷ member_line 2 default_setting ∷ [])
    ≡ (codes "SYSA 00002 - JOB00002 N A 05 CONVERT SYSA -" ∷ codes "JOB00001.01 A LOCAL STD 1 25 10 - HELD"
    ∷ codes "VOL1 FREE 1 OF 2"
    ∷ codes "SYSB INIT=ABCDEFGHIJKLMNOPQRSTUVWXYZ0123456789 PRT=ABCDEFGHIJKLMNOPQRSTUVWXYZ0123456789 F=STD L=20" ∷ [])

-- HISTORIES AND PAPER

abbrev pub restart : Entry
restart = record { by = operator; step = 0; command = command.Restart; reply = reply.Plain }

abbrev pub take : Entry
take = record { by = sysa; step = 1; command = command.Take 2; reply = reply.Count 2 }

abbrev pub hold : Entry
hold = record { by = sysa; step = 2; command = command.Hold (job 7); reply = reply.No refusal.NoJob }

-- only what was kept is in the history
abbrev pub HistoriesAreWritten : Type 0
HistoriesAreWritten =
    history (record {
      batches =
          record { first = 0; last = 9; by = operator; fate = fate.Kept; entries = restart ∷ [] }
          ∷ record { first = 9; last = 12; by = sysa; fate = fate.Dropped; entries = take ∷ [] }
          ∷ record { first = 12; last = 20; by = sysa; fate = fate.Kept; entries = take ∷ hold ∷ [] } ∷ [];
    })
    ≡ (codes "H 1 OPER 00000 RESTART OK" ∷ codes "H 2 SYSA 00001 TAKE 2" ∷ codes "H 3 SYSA 00002 HOLD NO NO JOB" ∷ codes "H END 3" ∷ [])

-- the copies of an output follow one another
abbrev pub PaperIsWritten : Type 0
PaperIsWritten =
    (printed_line (job 1) (index 1) 1 (codes "HELLO" ∷ codes "YOU" ∷ []) ∷ printed_line (job 1) (index 1) 4 (codes "HELLO" ∷ codes "YOU" ∷ [])
    ∷ printed_line (job 1) (index 2) 1 ([] ∷ []) ∷ jcl_error_line 2 jcl.Pgm ∷ [])
    ≡ (codes "JOB00001.01 00000001 HELLO" ∷ codes "JOB00001.01 00000004 YOU" ∷ codes "JOB00001.02 00000001 " ∷ codes "JCL ERROR CARD 2 PGM" ∷ [])

-- STATUSES AND FAULTS

abbrev pub StatusesAreWritten : Type 0
StatusesAreWritten =
    map status_line (
    status.Done ∷ status.Words ∷ status.BadLine 7 cause.Command ∷ status.TooLong ∷ status.SourceFault
    ∷ status.NotFormatted copy.Unread copy.Unsound ∷ status.BothLost ∷ status.ConsoleFault
    ∷ status.DeviceSize (dev.Spool 2) 4096
    ∷ status.NoMemory ∷ [])
    ≡ (
    None ∷ Some (codes "MAS WORDS") ∷ Some (codes "MAS LINE 7 COMMAND") ∷ Some (codes "MAS SCRIPT TOO LONG") ∷ Some (codes "MAS SOURCE FAULT")
    ∷ Some (codes "MAS NOT FORMATTED UNREAD UNSOUND") ∷ Some (codes "MAS BOTH LOST") ∷ Some (codes "MAS CONSOLE FAULT")
    ∷ Some (codes "MAS DEVICE SPOOL2 SIZE 4096") ∷ Some (codes "MAS NO MEMORY") ∷ [])

abbrev pub LineCausesAreWritten : Type 0
LineCausesAreWritten =
    map line_cause_word (
    cause.Text ∷ cause.Late ∷ cause.Warm ∷ cause.Config ∷ cause.Only ∷ cause.Member ∷ cause.Race ∷ cause.Verb
    ∷ cause.Number
    ∷ cause.Command ∷ cause.End ∷ cause.Steps ∷ cause.NotBuilt ∷ [])
    ≡ (
    codes "TEXT" ∷ codes "LATE" ∷ codes "WARM" ∷ codes "CONFIG" ∷ codes "ONLY" ∷ codes "MEMBER" ∷ codes "RACE" ∷ codes "VERB" ∷ codes "NUMBER"
    ∷ codes "COMMAND" ∷ codes "END" ∷ codes "STEPS" ∷ codes "NOTBUILT" ∷ [])

abbrev pub VerdictsAreWritten : Type 0
VerdictsAreWritten =
    map verdict_line (
    verdict.Sound ∷ verdict.Fault fault.Page 0 ∷ verdict.Fault fault.Number 1 ∷ verdict.Fault fault.Owner 2
    ∷ verdict.Fault fault.Place 3
    ∷ verdict.Fault fault.Text 4 ∷ [])
    ≡ (
    codes "SOUND" ∷ codes "FAULT PAGE 0" ∷ codes "FAULT NUMBER 1" ∷ codes "FAULT OWNER 2" ∷ codes "FAULT PLACE 3"
    ∷ codes "FAULT TEXT 4" ∷ [])

-- SPOOL TEXT: a length byte that is too great, a record that is cut off, and a byte that is no text byte are no records

abbrev pub RecordsAreRead : Type 0
RecordsAreRead =
    map records_in (
    (2 ∷ 65 ∷ 66 ∷ 0 ∷ 255 ∷ 0 ∷ 0 ∷ []) ∷ (255 ∷ 133 ∷ []) ∷ (133 ∷ 255 ∷ []) ∷ (2 ∷ 65 ∷ []) ∷ (1 ∷ 10 ∷ 255 ∷ [])
    ∷ (1 ∷ 65 ∷ []) ∷ [])
    ≡ (Some (codes "AB" ∷ [] ∷ []) ∷ Some [] ∷ None ∷ None ∷ None ∷ None ∷ [])

-- ALL OF THEM

pub record LinesAreWritten : Type 0 where
  pub numbers : NumbersAreWritten
  pub names : NamesAreWritten
  pub closings : ClosingsAreWritten
  pub refusals : RefusalsAreWritten
  pub card_causes : CardCausesAreWritten
  pub closing_lines : ClosingLinesAreWritten
  pub displays : DisplaysAreWritten
  pub histories : HistoriesAreWritten
  pub paper : PaperIsWritten
  pub statuses : StatusesAreWritten
  pub line_causes : LineCausesAreWritten
  pub verdicts : VerdictsAreWritten
  pub records : RecordsAreRead

-- What the steps of a job do.
use Rattle.std.specs.Prelude.{ℕ, ◌==◌, ◌≤◌, Bool, true, false, not, if◌then◌else◌, Option, Some, None, is_none, List, [], ◌∷◌, ◌++◌, length, find, codes, max, All}
use Rattle.std.specs.Str.{bytes_eq}
use Rattle.mas_types.specs.declared.jobs.OutSpec.{OutSpec}
use Rattle.mas_types.specs.Fit.{IsOutSpec}
use Rattle.mas_types.specs.Limits.{index_most}
use Rattle.mas_types.specs.Lists.{first_some}
use Rattle.jcl_convert.specs.declared.steps.Dd.{Dd}
use Rattle.jcl_convert.specs.declared.steps.DdKind.{DdKind}
use Rattle.jcl_convert.specs.declared.steps.DdKind.TheVariants as dd
use Rattle.jcl_convert.specs.declared.steps.Program.TheVariants as program
use Rattle.jcl_convert.specs.declared.steps.Program.{Program}
use Rattle.jcl_convert.specs.declared.steps.Step.{Step}
use Rattle.jcl_convert.specs.Steps.{is_sysout}
use Rattle.job_exec.specs.declared.running.Message.{Message}
use Rattle.job_exec.specs.declared.running.Message.TheVariants as message

-- DD STATEMENTS

abbrev pub is_named : List ℕ → Dd → Bool
is_named name d = bytes_eq d.name.0 name

-- the first DD of a name
abbrev pub dd_named : List Dd → List ℕ → Option Dd
dd_named dds name = find (is_named name) dds

abbrev pub are_cards : DdKind → Bool
are_cards dd.Dummy = false
are_cards (dd.Cards lines) = true
are_cards (dd.Sysout class dest forms copies held) = false

-- cards, at least one, or an output
abbrev pub is_not_empty : DdKind → Bool
is_not_empty dd.Dummy = false
is_not_empty (dd.Cards lines) = not (length lines == 0)
is_not_empty (dd.Sysout class dest forms copies held) = true

-- whether a DD that is there is of a kind
abbrev pub is_of : (DdKind → Bool) → Option Dd → Bool
is_of test None = false
is_of test (Some d) = test d.kind

-- the lines that a DD is read as
abbrev pub lines_in : DdKind → List (List ℕ)
lines_in dd.Dummy = []
lines_in (dd.Cards lines) = lines
lines_in (dd.Sysout class dest forms copies held) = []

abbrev pub lines_of : Option Dd → List (List ℕ)
lines_of None = []
lines_of (Some d) = lines_in d.kind

-- the output of lines that are written to a DD: none where there is no line, and where it is no SYSOUT
abbrev pub output_on : DdKind → List (List ℕ) → List OutSpec
output_on dd.Dummy lines = []
output_on (dd.Cards cards) lines = []
output_on (dd.Sysout class dest forms copies held) [] = []
output_on (dd.Sysout class dest forms copies held) (line ∷ lines) = record {
  class = class;
  dest = dest;
  forms = forms;
  copies = copies;
  held = held;
  text = line ∷ lines;
} ∷ []

abbrev pub written_to : Option Dd → List (List ℕ) → List OutSpec
written_to None lines = []
written_to (Some d) lines = output_on d.kind lines

-- IEBGENER

abbrev pub on : Bool → Message → Option Message
on test why = if test then Some why else None

-- the first test that holds, of SYSIN, SYSUT1 and SYSUT2
abbrev pub message_of : Option Dd → Option Dd → Option Dd → Option Message
message_of sysin sysut1 sysut2 = first_some (
    on (is_of is_not_empty sysin) message.SysinNotEmpty
    ∷ on (is_none sysut1) message.MissingSysut1
    ∷ on (is_of is_sysout sysut1) message.WrongSysut1
    ∷ on (is_none sysut2) message.MissingSysut2
    ∷ on (is_of are_cards sysut2) message.WrongSysut2 ∷ [])

abbrev pub message_text : Message → List ℕ
message_text message.SysinNotEmpty = codes "SYSIN NOT EMPTY"
message_text message.MissingSysut1 = codes "MISSING DD SYSUT1"
message_text message.WrongSysut1 = codes "WRONG DD SYSUT1"
message_text message.MissingSysut2 = codes "MISSING DD SYSUT2"
message_text message.WrongSysut2 = codes "WRONG DD SYSUT2"

-- the condition code of a step that does not copy
abbrev pub code_not_copied : ℕ
code_not_copied = 12

-- the test that holds of the DDs of a step
abbrev pub message_on : List Dd → Option Message
message_on dds = message_of (dd_named dds (codes "SYSIN   ")) (dd_named dds (codes "SYSUT1  ")) (dd_named dds (codes "SYSUT2  "))

-- the outputs of a step: a message's line goes to SYSPRINT; without a message the cards of SYSUT1 go to SYSUT2
abbrev pub outputs_by : Option Message → List Dd → List OutSpec
outputs_by (Some why) dds = written_to (dd_named dds (codes "SYSPRINT")) (message_text why ∷ [])
outputs_by None dds = written_to (dd_named dds (codes "SYSUT2  ")) (lines_of (dd_named dds (codes "SYSUT1  ")))

abbrev pub code_by : Option Message → ℕ
code_by (Some why) = code_not_copied
code_by None = 0

abbrev pub generated : List Dd → List OutSpec
generated dds = outputs_by (message_on dds) dds

abbrev pub generated_code : List Dd → ℕ
generated_code dds = code_by (message_on dds)

-- STEPS

abbrev pub outputs_of_program : Program → List Dd → List OutSpec
outputs_of_program program.Br14 dds = []
outputs_of_program program.Gener dds = generated dds

abbrev pub code_of_program : Program → List Dd → ℕ
code_of_program program.Br14 dds = 0
code_of_program program.Gener dds = generated_code dds

abbrev pub outputs_of_step : Step → List OutSpec
outputs_of_step step = outputs_of_program step.program step.dds

abbrev pub code_of_step : Step → ℕ
code_of_step step = code_of_program step.program step.dds

-- the outputs of all steps, one after another
abbrev pub outputs_of : List Step → List OutSpec
outputs_of [] = []
outputs_of (step ∷ steps) = outputs_of_step step ++ outputs_of steps

-- the greatest condition code
abbrev pub code_of : List Step → ℕ
code_of [] = 0
code_of (step ∷ steps) = max (code_of_step step) (code_of steps)

-- outputs that a job may have
pub record AreOutputs (outputs : List OutSpec) : Type 0 where
  pub few : length outputs ≤ index_most
  pub each : All IsOutSpec outputs

-- Which texts are commands: the table of spellings.
use Rattle.std.specs.Prelude.{◌≡◌, ℕ, ◌-◌, ◌≤◌, ◌==◌, true, if◌then◌else◌, List, [], ◌∷◌, ◌++◌, length, map, take}
use Rattle.std.specs.List.{concat, AllZip, slice_index}
use Rattle.mas_types.specs.declared.ids.JobNo.{JobNo}
use Rattle.mas_types.specs.declared.ids.OutNo.{OutNo}
use Rattle.mas_types.specs.declared.ids.Class.{Class}
use Rattle.mas_types.specs.declared.ids.Name8.{Name8}
use Rattle.mas_types.specs.declared.commands.Command.{Command}
use Rattle.mas_types.specs.declared.commands.Command.TheVariants as command
use Rattle.mas_types.specs.declared.commands.What.TheVariants as what
use Rattle.mas_types.specs.Names.{is_name_text, padded}
use Rattle.mas_types.specs.Numerals.{value_of}
use Rattle.mas_types.specs.Starts.{blank_name}
use Rattle.operator_cmds.specs.declared.forms.Form.{Form}
use Rattle.operator_cmds.specs.declared.forms.Form.TheVariants as form
use Rattle.operator_cmds.specs.declared.places.Numbers.{Numbers}
use Rattle.operator_cmds.specs.Forms.{form_text}
use Rattle.operator_cmds.specs.Places.{is_number, job_numbers, index_numbers, prio_numbers, line_numbers, mark_numbers, place_of, stands_in}

-- THE TEXTS IN THE PLACES OF A FORM

-- each text may stand in its place
abbrev pub AreParts : List ℕ → List (List ℕ) → Type 0
AreParts places parts = AllZip (λ l part. stands_in (place_of l) part ≡ true) places parts

-- the text in the place of a letter
abbrev pub in_place : List ℕ → List (List ℕ) → ℕ → List ℕ
in_place [] parts letter = []
in_place (l ∷ places) [] letter = []
in_place (l ∷ places) (part ∷ parts) letter = if l == letter then part else in_place places parts letter

-- WHAT THEY SAY. A text that may not stand in its place says nothing: a number 0, a blank name

abbrev pub number_of : Numbers → List ℕ → ℕ
number_of numbers text = if is_number numbers text then value_of text else 0

abbrev pub job_of : (ℕ → List ℕ) → JobNo
job_of texts = record { 0 = number_of job_numbers (texts 110) }

abbrev pub index_of : (ℕ → List ℕ) → OutNo
index_of texts = record { 0 = number_of index_numbers (texts 107) }

abbrev pub class_of : (ℕ → List ℕ) → Class
class_of texts = record { 0 = slice_index (texts 99) 0 }

abbrev pub classes_in : List ℕ → List Class
classes_in text = map (λ b. record { 0 = b }) text

abbrev pub forms_of : (ℕ → List ℕ) → Name8
forms_of texts = if is_name_text (texts 102) then record { 0 = padded (texts 102) } else blank_name

-- THE TABLE: the command of a form, with these texts in the places of its letters
abbrev pub command_of : Form → (ℕ → List ℕ) → Command
command_of form.Hold texts = command.Hold (job_of texts)
command_of form.Release texts = command.Release (job_of texts)
command_of form.Cancel texts = command.Cancel (job_of texts)
command_of form.SetPrio texts = command.SetPrio (job_of texts) (record { 0 = number_of prio_numbers (texts 112) })
command_of form.SetClass texts = command.SetClass (job_of texts) (class_of texts)
command_of form.Out texts = command.Out (job_of texts)
command_of form.CancelOut texts = command.CancelOut (job_of texts) (index_of texts)
command_of form.SetOut texts = command.SetOut (job_of texts) (index_of texts) (class_of texts)
command_of form.ShowJob texts = command.Show (what.Job (job_of texts))
command_of form.ShowQueue texts = command.Show what.Queue
command_of form.ShowOutputs texts = command.Show what.Outputs
command_of form.ShowSpool texts = command.Show what.Spool
command_of form.ShowMembers texts = command.Show what.Members
command_of form.SetInit texts = command.SetInit (classes_in (texts 115))
command_of form.SetPrt texts = command.SetPrt (classes_in (texts 115)) (forms_of texts)
    (number_of line_numbers (texts 108))
command_of form.Back texts = command.Back (number_of mark_numbers (texts 98))
command_of form.Forward texts = command.Forward (number_of mark_numbers (texts 98))
command_of form.Reset texts = command.Reset (record { 0 = slice_index (texts 109) 0 - 64 })

-- the text is how the command is typed: a form with a text in the place of each letter
pub record IsSpelling (typed : Command) (text : List ℕ) : Type 0 where
  pub kind : Form
  pub parts : List (List ℕ)
  pub each : AreParts (form_text kind) parts
  pub whole : text ≡ concat parts
  pub says : typed ≡ command_of kind (in_place (form_text kind) parts)

-- BEGINNINGS

-- the text can be gone on with to a command
pub record BeginsCommand (text : List ℕ) : Type 0 where
  pub more : List ℕ
  pub typed : Command
  pub spelled : IsSpelling typed (text ++ more)

-- the longest front of the text that begins a command has so many bytes
pub record IsLongestBeginning (text : List ℕ) (n : ℕ) : Type 0 where
  pub within : n ≤ length text
  pub begins : BeginsCommand (take n text)
  pub longest : (m : ℕ) → m ≤ length text → BeginsCommand (take m text) → m ≤ n

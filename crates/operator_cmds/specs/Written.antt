-- How a command is written.
use Rattle.std.specs.Prelude.{◌≡◌, ℕ, ◌+◌, ◌==◌, nat_le, Bool, true, false, ◌&&◌, if◌then◌else◌, List, [], ◌∷◌, ◌++◌, map, decimal, Option, Some, None, Result, MatchResult}
use Rattle.std.specs.List.{concat}
use Rattle.std.specs.Option.{option_map_or}
use Rattle.std.specs.Str.{bytes_eq}
use Rattle.mas_types.specs.declared.ids.Class.{Class}
use Rattle.mas_types.specs.declared.ids.Name8.{Name8}
use Rattle.mas_types.specs.declared.commands.Command.{Command}
use Rattle.mas_types.specs.declared.commands.Command.TheVariants as command
use Rattle.mas_types.specs.declared.commands.What.TheVariants as what
use Rattle.mas_types.specs.Limits.{members_most}
use Rattle.mas_types.specs.Names.{is_name_text, name_text, padded}
use Rattle.mas_types.specs.Shown.{classes_text}
use Rattle.mas_types.specs.Starts.{blank_name}
use Rattle.operator_cmds.specs.declared.forms.Form.{Form}
use Rattle.operator_cmds.specs.declared.forms.Form.TheVariants as form
use Rattle.operator_cmds.specs.declared.places.Numbers.{Numbers}
use Rattle.operator_cmds.specs.declared.places.Place.TheVariants as place
use Rattle.operator_cmds.specs.declared.writing.WriteNo.{WriteNo}
use Rattle.operator_cmds.specs.declared.writing.WriteNo.TheVariants.{NotTyped, NoMemory}
use Rattle.operator_cmds.specs.Forms.{form_text}
use Rattle.operator_cmds.specs.Places.{job_numbers, index_numbers, prio_numbers, line_numbers, mark_numbers, are_classes, stands_in}

-- THE FORM OF A COMMAND, none of what only steps of the program give
abbrev pub form_of : Command → Option Form
form_of (command.Hold job) = Some form.Hold
form_of (command.Release job) = Some form.Release
form_of (command.Cancel job) = Some form.Cancel
form_of (command.SetPrio job prio) = Some form.SetPrio
form_of (command.SetClass job class) = Some form.SetClass
form_of (command.Out job) = Some form.Out
form_of (command.CancelOut job index) = Some form.CancelOut
form_of (command.SetOut job index class) = Some form.SetOut
form_of (command.Show (what.Job job)) = Some form.ShowJob
form_of (command.Show what.Queue) = Some form.ShowQueue
form_of (command.Show what.Outputs) = Some form.ShowOutputs
form_of (command.Show what.Spool) = Some form.ShowSpool
form_of (command.Show what.Members) = Some form.ShowMembers
form_of (command.SetInit classes) = Some form.SetInit
form_of (command.SetPrt classes forms lines) = Some form.SetPrt
form_of (command.Back lines) = Some form.Back
form_of (command.Forward lines) = Some form.Forward
form_of (command.Reset m) = Some form.Reset
form_of _ = None

-- WHAT A COMMAND CARRIES, 0 or nothing where it carries none

abbrev pub job_in : Command → ℕ
job_in (command.Hold job) = job.0
job_in (command.Release job) = job.0
job_in (command.Cancel job) = job.0
job_in (command.SetPrio job prio) = job.0
job_in (command.SetClass job class) = job.0
job_in (command.Out job) = job.0
job_in (command.CancelOut job index) = job.0
job_in (command.SetOut job index class) = job.0
job_in (command.Show (what.Job job)) = job.0
job_in _ = 0

abbrev pub index_in : Command → ℕ
index_in (command.CancelOut job index) = index.0
index_in (command.SetOut job index class) = index.0
index_in _ = 0

abbrev pub prio_in : Command → ℕ
prio_in (command.SetPrio job prio) = prio.0
prio_in _ = 0

abbrev pub class_in : Command → ℕ
class_in (command.SetClass job class) = class.0
class_in (command.SetOut job index class) = class.0
class_in _ = 0

abbrev pub classes_of : Command → List Class
classes_of (command.SetInit classes) = classes
classes_of (command.SetPrt classes forms lines) = classes
classes_of _ = []

abbrev pub forms_in : Command → Name8
forms_in (command.SetPrt classes forms lines) = forms
forms_in _ = blank_name

abbrev pub lines_in : Command → ℕ
lines_in (command.SetPrt classes forms lines) = lines
lines_in _ = 0

abbrev pub marks_in : Command → ℕ
marks_in (command.Back lines) = lines
marks_in (command.Forward lines) = lines
marks_in _ = 0

abbrev pub member_in : Command → ℕ
member_in (command.Reset m) = m.0
member_in _ = 0

-- THE TEXT IN THE PLACE OF A LETTER

abbrev pub written : Command → ℕ → List ℕ
written c letter =
    if letter == 110 then decimal (job_in c)
    else if letter == 107 then decimal (index_in c)
    else if letter == 112 then decimal (prio_in c)
    else if letter == 108 then decimal (lines_in c)
    else if letter == 98 then decimal (marks_in c)
    else if letter == 99 then class_in c ∷ []
    else if letter == 115 then classes_text (classes_of c)
    else if letter == 102 then name_text (forms_in c)
    else if letter == 109 then (64 + member_in c) ∷ []
    else letter ∷ []

abbrev pub is_within : Numbers → ℕ → Bool
is_within numbers n = nat_le numbers.least n && nat_le n numbers.most

-- the name is that of its text
abbrev pub is_written_name : Name8 → Bool
is_written_name name = is_name_text (name_text name) && bytes_eq (padded (name_text name)) name.0

-- what the command carries for the letter has a text
abbrev pub may_write : Command → ℕ → Bool
may_write c letter =
    if letter == 110 then is_within job_numbers (job_in c)
    else if letter == 107 then is_within index_numbers (index_in c)
    else if letter == 112 then is_within prio_numbers (prio_in c)
    else if letter == 108 then is_within line_numbers (lines_in c)
    else if letter == 98 then is_within mark_numbers (marks_in c)
    else if letter == 99 then stands_in place.Class (class_in c ∷ [])
    else if letter == 115 then are_classes (classes_text (classes_of c))
    else if letter == 102 then is_written_name (forms_in c)
    else if letter == 109 then nat_le 1 (member_in c) && nat_le (member_in c) members_most
    else true

-- the command in its form, its numbers without leading zeros
abbrev pub written_text : Command → List ℕ
written_text c = option_map_or (λ f. concat (map (written c) (form_text f))) (form_of c) []

-- WRITING

-- a text that may not be written is refused; an answer of out of memory says nothing
abbrev pub IsRefused : WriteNo → Bool → Type 0
IsRefused NotTyped may = may ≡ false
IsRefused NoMemory may = Unit {0}

-- the text is added where it may be written
abbrev pub Adds : {A : Type 0} → Result A WriteNo → Bool → List ℕ → List ℕ → List ℕ → Type 0
Adds r may old new text = MatchResult r (λ done. (may ≡ true) × (new ≡ old ++ text)) (λ no. IsRefused no may)

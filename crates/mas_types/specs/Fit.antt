-- Which names, texts, settings and commands are within the limits.
use Rattle.std.specs.Prelude.{◌≡◌, ℕ, ◌%◌, ◌≤◌, nat_le, Bool, true, false, ◌&&◌, ◌||◌, List, [], ◌∷◌, length, All}
use Rattle.std.specs.List.{list_all, list_any}
use Rattle.mas_types.specs.declared.ids.Class.{Class}
use Rattle.mas_types.specs.declared.ids.Name8.{Name8}
use Rattle.mas_types.specs.declared.ids.Prio.{Prio}
use Rattle.mas_types.specs.declared.jobs.JobFields.{JobFields}
use Rattle.mas_types.specs.declared.jobs.OutSpec.{OutSpec}
use Rattle.mas_types.specs.declared.jobs.Text.{Text}
use Rattle.mas_types.specs.declared.jobs.Text.TheVariants.{Whole, Gone}
use Rattle.mas_types.specs.declared.queues.Config.{Config}
use Rattle.mas_types.specs.declared.queues.Setting.{Setting}
use Rattle.mas_types.specs.declared.commands.Command.{Command}
use Rattle.mas_types.specs.declared.commands.Command.TheVariants as command
use Rattle.mas_types.specs.Ids.{same_class}
use Rattle.mas_types.specs.Limits.{members_most, jobs_least, jobs_most, jobs_step, outputs_least, outputs_most, outputs_step, volumes_most, groups_most, hold_most, dormancy_most, wires_most, prio_most, classes_most, index_most, text_lines_most, line_bytes, printer_lines_most}
use Rattle.mas_types.specs.Names.{is_name_text, padded}

-- no item is the same as a later one
abbrev pub AreDistinct : {A : Type 0} → (A → A → Bool) → List A → Type 0
AreDistinct same [] = Unit {0}
AreDistinct same (x ∷ xs) = (list_any (same x) xs ≡ false) × AreDistinct same xs

-- NAMES, CLASSES AND NUMBERS

-- a name as a text gives it
abbrev pub IsName : Name8 → Type 0
IsName name = (text : List ℕ) × (is_name_text text ≡ true) × (name.0 ≡ padded text)

-- a digit or a capital letter
abbrev pub is_class_byte : ℕ → Bool
is_class_byte b = (nat_le 65 b && nat_le b 90) || (nat_le 48 b && nat_le b 57)

abbrev pub IsClass : Class → Type 0
IsClass c = is_class_byte c.0 ≡ true

-- 1 to 36 different classes
pub record AreClasses (classes : List Class) : Type 0 where
  pub some : 1 ≤ length classes
  pub few : length classes ≤ classes_most
  pub each : All IsClass classes
  pub distinct : AreDistinct same_class classes

abbrev pub IsPrio : Prio → Type 0
IsPrio p = p.0 ≤ prio_most

-- one of the lines to other nodes
abbrev pub IsLine : ℕ → Type 0
IsLine l = (1 ≤ l) × (l ≤ wires_most)

-- the index of an output
abbrev pub IsIndex : ℕ → Type 0
IsIndex i = (1 ≤ i) × (i ≤ index_most)

-- how many lines a printer prints at a time
abbrev pub ArePrinterLines : ℕ → Type 0
ArePrinterLines lines = (1 ≤ lines) × (lines ≤ printer_lines_most)

-- TEXTS

-- 0x20 to 0x7E
abbrev pub is_text_byte : ℕ → Bool
is_text_byte b = nat_le 32 b && nat_le b 126

abbrev pub is_text_line : List ℕ → Bool
is_text_line line = list_all is_text_byte line

-- the lines of a text: at most 9,999 lines of at most 132 text bytes
pub record AreLines (lines : List (List ℕ)) : Type 0 where
  pub few : length lines ≤ text_lines_most
  pub short : All (λ line. length line ≤ line_bytes) lines
  pub text : All (λ line. is_text_line line ≡ true) lines

abbrev pub IsText : Text → Type 0
IsText (Whole lines) = AreLines lines
IsText (Gone group count) = count ≤ text_lines_most

-- JOBS, OUTPUTS, SETTINGS AND THE CONFIGURATION

pub record IsJobFields (j : JobFields) : Type 0 where
  pub name : IsName j.name
  pub class : IsClass j.class
  pub msgclass : IsClass j.msgclass
  pub prio : IsPrio j.prio
  pub dest : IsName j.dest
  pub node : IsName j.node
  pub origin : IsName j.origin

pub record IsOutSpec (s : OutSpec) : Type 0 where
  pub class : IsClass s.class
  pub dest : IsName s.dest
  pub forms : IsName s.forms
  pub copies : 1 ≤ s.copies
  pub lines : 1 ≤ length s.text
  pub text : AreLines s.text

pub record IsSetting (s : Setting) : Type 0 where
  pub init : AreClasses s.init
  pub prt : AreClasses s.prt
  pub forms : IsName s.forms
  pub lines : ArePrinterLines s.lines

pub record IsConfig (c : Config) : Type 0 where
  pub members : (1 ≤ c.members) × (c.members ≤ members_most)
  pub jobs : (jobs_least ≤ c.jobs) × (c.jobs ≤ jobs_most) × (c.jobs % jobs_step ≡ 0)
  pub outputs : (outputs_least ≤ c.outputs) × (c.outputs ≤ outputs_most) × (c.outputs % outputs_step ≡ 0)
  pub volumes : (1 ≤ c.volumes) × (c.volumes ≤ volumes_most)
  pub groups : (1 ≤ c.groups) × (c.groups ≤ groups_most)
  pub hold : (1 ≤ c.hold) × (c.hold ≤ hold_most)
  pub dormancy : c.dormancy ≤ dormancy_most
  pub node : IsName c.node

-- COMMANDS

-- what a command carries is within the limits
abbrev pub IsFit : Command → Type 0
IsFit (command.Begin fields) = IsJobFields fields
IsFit (command.Enter job text) = AreLines text
IsFit (command.Ended job specs) = (length specs ≤ index_most) × All IsOutSpec specs
IsFit (command.Mark job index at) = IsIndex index.0
IsFit (command.Done job index) = IsIndex index.0
IsFit (command.SetPrio job prio) = IsPrio prio
IsFit (command.SetClass job class) = IsClass class
IsFit (command.CancelOut job index) = IsIndex index.0
IsFit (command.SetOut job index class) = IsIndex index.0 × IsClass class
IsFit (command.SetInit classes) = AreClasses classes
IsFit (command.SetPrt classes forms lines) = AreClasses classes × IsName forms × ArePrinterLines lines
IsFit (command.Load line) = IsLine line
IsFit (command.Sent line number) = IsLine line
IsFit (command.Got line number job text) = IsLine line × AreLines text
IsFit _ = Unit {0}

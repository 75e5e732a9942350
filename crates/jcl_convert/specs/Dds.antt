-- DD statements.
use Rattle.std.specs.Prelude.{ℕ, ◌-◌, ◌==◌, nat_eq, nat_le, is_some, Bool, true, false, ◌&&◌, ◌||◌, if◌then◌else◌, Option, Some, None, Result, Ok, Err, List, [], ◌∷◌, length, take, drop, slice_index, codes, option_and_then}
use Rattle.std.specs.List.{list_any, list_all, starts_with}
use Rattle.std.specs.Str.{bytes_eq}
use Rattle.mas_types.specs.declared.answers.JclCause.{JclCause}
use Rattle.mas_types.specs.declared.answers.JclCause.TheVariants as cause
use Rattle.mas_types.specs.declared.ids.Class.{Class}
use Rattle.mas_types.specs.declared.ids.Name8.{Name8}
use Rattle.mas_types.specs.declared.jobs.JobFields.{JobFields}
use Rattle.mas_types.specs.Fit.{is_class_byte}
use Rattle.mas_types.specs.Lists.{tail}
use Rattle.mas_types.specs.Numerals.{is_numeral, value_of}
use Rattle.card_reader.specs.declared.statements.Operands.{Operands}
use Rattle.card_reader.specs.Jes.{name8_of}
use Rattle.card_reader.specs.Operands.{first_operand, operands_of}
use Rattle.card_reader.specs.Statements.{mark_of}
use Rattle.jcl_convert.specs.declared.dds.DdForm.{DdForm}
use Rattle.jcl_convert.specs.declared.dds.DdForm.TheVariants as form
use Rattle.jcl_convert.specs.declared.dds.SysoutForm.{SysoutForm}
use Rattle.jcl_convert.specs.Execs.{names_data_set, are_whole}

-- operands that are accepted with any value
abbrev pub is_passed_over : List ℕ → Bool
is_passed_over operand = starts_with nat_eq operand (codes "DCB=") || starts_with nat_eq operand (codes "OUTLIM=")

-- what may stand behind `*` and `DATA`
abbrev pub is_data_operand : List ℕ → Bool
is_data_operand operand = is_passed_over operand || is_some (mark_of operand)

-- the forms of an output that names none
abbrev pub std : Name8
std = record { 0 = codes "STD     " }

-- a class, where `*` means the message class
abbrev pub sysout_class : JobFields → ℕ → Option Class
sysout_class job b =
    if b == 42 then Some job.msgclass
    else if is_class_byte b then Some (record { 0 = b })
    else None

abbrev pub with_class : SysoutForm → Option Class → Option Name8 → Option SysoutForm
with_class so_far None forms = None
with_class so_far (Some class) None = None
with_class so_far (Some class) (Some forms) = Some (record so_far { is_given = true; class = class; forms = forms })

-- `(c,,forms)`
abbrev pub is_with_forms : List ℕ → Bool
is_with_forms value = nat_le 5 (length value) && (slice_index value 0 == 40) && (slice_index value 2 == 44) &&
    (slice_index value 3 == 44) && (slice_index value (length value - 1) == 41)

-- `SYSOUT=c` or `SYSOUT=(c,,forms)`
abbrev pub sysout_taken : JobFields → SysoutForm → List ℕ → Option SysoutForm
sysout_taken job so_far value =
    if length value == 1 then with_class so_far (sysout_class job (slice_index value 0)) (Some std)
    else if is_with_forms value then with_class so_far (sysout_class job (slice_index value 1))
    (name8_of (drop 4 (take (length value - 1) value)))
    else None

-- 1 to 255
abbrev pub copies_of : List ℕ → Option ℕ
copies_of value = if is_numeral value && nat_le (value_of value) 255 && nat_le 1 (value_of value) then Some
    (value_of value) else None

abbrev pub held_of : List ℕ → Option Bool
held_of value =
    if bytes_eq value (codes "YES") then Some true
    else if bytes_eq value (codes "NO") then Some false
    else None

abbrev pub with_dest : SysoutForm → Option Name8 → Option SysoutForm
with_dest so_far None = None
with_dest so_far (Some dest) = Some (record so_far { dest = dest })

abbrev pub with_copies : SysoutForm → Option ℕ → Option SysoutForm
with_copies so_far None = None
with_copies so_far (Some copies) = Some (record so_far { copies = copies })

abbrev pub with_hold : SysoutForm → Option Bool → Option SysoutForm
with_hold so_far None = None
with_hold so_far (Some held) = Some (record so_far { held = held })

-- COPIES, HOLD, and the keywords with any value
abbrev pub other_operand_taken : SysoutForm → List ℕ → Option SysoutForm
other_operand_taken so_far operand =
    if starts_with nat_eq operand (codes "COPIES=") then with_copies so_far (copies_of (drop 7 operand))
    else if starts_with nat_eq operand (codes "HOLD=") then with_hold so_far (held_of (drop 5 operand))
    else if is_passed_over operand then Some so_far
    else None

-- one operand of a DD with SYSOUT: of two with one key the later counts
abbrev pub dd_operand_taken : JobFields → SysoutForm → List ℕ → Option SysoutForm
dd_operand_taken job so_far operand =
    if starts_with nat_eq operand (codes "SYSOUT=") then sysout_taken job so_far (drop 7 operand)
    else if starts_with nat_eq operand (codes "DEST=") then with_dest so_far (name8_of (drop 5 operand))
    else other_operand_taken so_far operand

abbrev pub dd_operands_taken : JobFields → SysoutForm → List (List ℕ) → Option SysoutForm
dd_operands_taken job so_far [] = Some so_far
dd_operands_taken job so_far (operand ∷ operands) = option_and_then (λ more. dd_operands_taken job more operands)
    (dd_operand_taken job so_far operand)

-- the job's print destination, forms STD, one copy, not held
abbrev pub no_sysout : JobFields → SysoutForm
no_sysout job = record {
  is_given = false;
  class = job.msgclass;
  forms = std;
  dest = job.dest;
  copies = 1;
  held
      = false;
}

-- a DD without SYSOUT= has no such form
abbrev pub with_sysout : Option SysoutForm → Option DdForm
with_sysout None = None
with_sysout (Some sysout) = if sysout.is_given then Some (form.Sysout sysout) else None

abbrev pub sysout_of : JobFields → List ℕ → Option DdForm
sysout_of job field = with_sysout (dd_operands_taken job (no_sysout job) (operands_of field))

abbrev pub begins_data : List ℕ → Bool
begins_data first = bytes_eq first (codes "*") || bytes_eq first (codes "DATA")

abbrev pub form_if : Bool → DdForm → Option DdForm
form_if is f = if is then Some f else None

-- `*` or `DATA` with DLM=xx, `DUMMY`, or SYSOUT=
abbrev pub form_of : JobFields → List ℕ → Option DdForm
form_of job field =
    if begins_data (first_operand field) then form_if (list_all is_data_operand (tail (operands_of field)))
    form.InStream
    else if bytes_eq (first_operand field) (codes "DUMMY") then form_if (list_all is_passed_over (tail (operands_of field))) form.Dummy
    else sysout_of job field

abbrev pub form_or : JclCause → Option DdForm → Result DdForm JclCause
form_or why None = Err why
form_or why (Some is) = Ok is

-- what a DD statement says, or the first cause that refuses its operands
abbrev pub dd_of : JobFields → Operands → Result DdForm JclCause
dd_of job operands =
    if list_any names_data_set (operands_of operands.text) then Err cause.Dsn
    else if are_whole operands then form_or cause.Operand (form_of job operands.text)
    else Err cause.Operand

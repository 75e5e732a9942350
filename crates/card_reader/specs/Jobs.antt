-- The operands of a JOB statement.
use Rattle.std.specs.Prelude.{ℕ, ◌+◌, nat_eq, nat_le, Bool, true, false, ◌&&◌, ◌||◌, if◌then◌else◌, Option, Some, None, List, [], ◌∷◌, drop, codes, option_and_then}
use Rattle.std.specs.List.{starts_with}
use Rattle.std.specs.Str.{bytes_eq}
use Rattle.mas_types.specs.declared.ids.Class.{Class}
use Rattle.mas_types.specs.declared.ids.Prio.{Prio}
use Rattle.mas_types.specs.Fit.{is_class_byte}
use Rattle.card_reader.specs.declared.jobs.JobOperands.{JobOperands}
use Rattle.card_reader.specs.declared.statements.Operands.{Operands}
use Rattle.card_reader.specs.Jes.{prio_of}
use Rattle.card_reader.specs.Operands.{operands_of, is_balanced, is_keyword}

-- a class of one byte
abbrev pub class_of : List ℕ → Option Class
class_of (b ∷ []) = if is_class_byte b then Some (record { 0 = b }) else None
class_of other = None

-- class A, message class A and priority 5
abbrev pub default_operands : JobOperands
default_operands = record {
  class = record { 0 = 65 };
  msgclass = record { 0 = 65 };
  prio = record { 0 = 5 };
  held = false;
  scan = false;
  positional = 0;
  keyed = false;
}

abbrev pub class_taken : JobOperands → Option Class → Option JobOperands
class_taken so_far None = None
class_taken so_far (Some class) = Some (record so_far { class = class })

abbrev pub msgclass_taken : JobOperands → Option Class → Option JobOperands
msgclass_taken so_far None = None
msgclass_taken so_far (Some class) = Some (record so_far { msgclass = class })

abbrev pub prio_taken : JobOperands → Option Prio → Option JobOperands
prio_taken so_far None = None
prio_taken so_far (Some prio) = Some (record so_far { prio = prio })

-- TYPRUN=HOLD holds the job, TYPRUN=SCAN only converts it
abbrev pub typrun_taken : JobOperands → List ℕ → Option JobOperands
typrun_taken so_far value =
    if bytes_eq value (codes "HOLD") then Some (record so_far { held = true })
    else if bytes_eq value (codes "SCAN") then Some (record so_far { scan = true })
    else None

-- keywords that are accepted with any value
abbrev pub is_passed_over : List ℕ → Bool
is_passed_over operand =
    starts_with nat_eq operand (codes "MSGLEVEL=") || starts_with nat_eq operand (codes "NOTIFY=")
    || starts_with nat_eq operand (codes "REGION=") || starts_with nat_eq operand (codes "TIME=")
    || starts_with nat_eq operand (codes "USER=")

abbrev pub with_key : JobOperands → JobOperands
with_key so_far = record so_far { keyed = true }

-- PRTY, TYPRUN, and the keywords with any value
abbrev pub other_keyword_taken : JobOperands → List ℕ → Option JobOperands
other_keyword_taken so_far operand =
    if starts_with nat_eq operand (codes "PRTY=") then prio_taken so_far (prio_of (drop 5 operand))
    else if starts_with nat_eq operand (codes "TYPRUN=") then typrun_taken so_far (drop 7 operand)
    else if is_passed_over operand then Some so_far
    else None

-- a keyword: of two with one key the later counts
abbrev pub keyword_taken : JobOperands → List ℕ → Option JobOperands
keyword_taken so_far operand =
    if starts_with nat_eq operand (codes "CLASS=") then class_taken (with_key so_far) (class_of (drop 6 operand))
    else if starts_with nat_eq operand (codes "MSGCLASS=") then msgclass_taken (with_key so_far) (class_of (drop 9 operand))
    else other_keyword_taken (with_key so_far) operand

-- accounting information and the programmer's name stand before the keywords
abbrev pub positional_taken : JobOperands → Option JobOperands
positional_taken so_far = if so_far.keyed || nat_le 2 so_far.positional then None else Some
    (record so_far { positional = so_far.positional + 1 })

abbrev pub operand_taken : JobOperands → List ℕ → Option JobOperands
operand_taken so_far operand = if is_keyword operand then keyword_taken so_far operand else positional_taken so_far

-- what operands say behind others
abbrev pub operands_taken : JobOperands → List (List ℕ) → Option JobOperands
operands_taken so_far [] = Some so_far
operands_taken so_far (operand ∷ operands) = option_and_then (λ more. operands_taken more operands)
    (operand_taken so_far operand)

-- what the operands of a JOB statement say, none where they are none
abbrev pub job_operands_of : Operands → Option JobOperands
job_operands_of operands =
    if operands.whole && is_balanced operands.text then operands_taken default_operands (operands_of operands.text) else
    None

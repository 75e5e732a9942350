-- EXEC statements.
use Rattle.std.specs.Prelude.{ℕ, nat_eq, Bool, ◌&&◌, ◌||◌, if◌then◌else◌, Option, Some, None, Result, Ok, Err, List, drop, codes}
use Rattle.std.specs.List.{list_any, list_all, starts_with}
use Rattle.std.specs.Str.{bytes_eq}
use Rattle.mas_types.specs.declared.answers.JclCause.{JclCause}
use Rattle.mas_types.specs.declared.answers.JclCause.TheVariants as cause
use Rattle.mas_types.specs.Lists.{tail}
use Rattle.card_reader.specs.declared.statements.Operands.{Operands}
use Rattle.card_reader.specs.Operands.{first_operand, operands_of, is_balanced}
use Rattle.jcl_convert.specs.declared.steps.Program.{Program}
use Rattle.jcl_convert.specs.declared.steps.Program.TheVariants as program

abbrev pub names_data_set : List ℕ → Bool
names_data_set operand = starts_with nat_eq operand (codes "DSN=") || starts_with nat_eq operand (codes "DSNAME=")

-- operands that are accepted with any value
abbrev pub is_exec_operand : List ℕ → Bool
is_exec_operand operand = starts_with nat_eq operand (codes "PARM=") || starts_with nat_eq operand (codes "REGION=") || starts_with nat_eq operand (codes "TIME=")

abbrev pub program_of : List ℕ → Option Program
program_of name =
    if bytes_eq name (codes "IEFBR14") then Some program.Br14
    else if bytes_eq name (codes "IEBGENER") then Some program.Gener
    else None

-- each string ends on its card, parentheses balance, and no continuation is missing
abbrev pub are_whole : Operands → Bool
are_whole operands = operands.whole && is_balanced operands.text

abbrev pub exec_of_program : Option Program → Operands → Result Program JclCause
exec_of_program None operands = Err cause.Pgm
exec_of_program (Some known) operands =
    if list_any names_data_set (operands_of operands.text) then Err cause.Dsn
    else if are_whole operands && list_all is_exec_operand (tail (operands_of operands.text)) then Ok known
    else Err cause.Operand

-- the program of an EXEC statement, whose first operand is `PGM=name`, or the first cause that refuses it
abbrev pub exec_of : Operands → Result Program JclCause
exec_of operands =
    if starts_with nat_eq (first_operand operands.text) (codes "PGM=") then exec_of_program (program_of (drop 4 (first_operand operands.text))) operands
    else Err cause.Proc

-- The stored text of a job as its steps, or the least card that is refused and why.
use Rattle.std.specs.Prelude.{◌≡◌, ℕ, ◌+◌, ◌-◌, ◌^◌, ◌==◌, nat_le, min, Bool, true, false, not, ◌&&◌, if◌then◌else◌, Option, Some, None, Result, Ok, Err, List, [], ◌∷◌, ◌++◌, length, take, drop}
use Rattle.mas_types.specs.declared.answers.JclCause.{JclCause}
use Rattle.mas_types.specs.declared.answers.JclCause.TheVariants as cause
use Rattle.mas_types.specs.declared.ids.Name8.{Name8}
use Rattle.mas_types.specs.declared.jobs.JobFields.{JobFields}
use Rattle.mas_types.specs.Limits.{job_steps_most, index_most}
use Rattle.mas_types.specs.Lists.{change_at}
use Rattle.card_reader.specs.Jes.{name8_of}
use Rattle.card_reader.specs.declared.cards.Kind.{Kind}
use Rattle.card_reader.specs.declared.cards.Kind.TheVariants as kind
use Rattle.card_reader.specs.declared.cards.Operation.{Operation}
use Rattle.card_reader.specs.declared.cards.Operation.TheVariants as operation
use Rattle.card_reader.specs.declared.statements.Operands.{Operands}
use Rattle.card_reader.specs.Cards.{kind_of, name_of, operation_of, is_statement_name}
use Rattle.card_reader.specs.Statements.{Item, items_of, operands_from, statement_data}
use Rattle.jcl_convert.specs.declared.convert_text.Converted.{Converted}
use Rattle.jcl_convert.specs.declared.convert_text.JclNo.{JclNo}
use Rattle.jcl_convert.specs.declared.convert_text.JclNo.TheVariants as no
use Rattle.jcl_convert.specs.declared.statements.Line.{Line}
use Rattle.jcl_convert.specs.declared.statements.Line.TheVariants as line
use Rattle.jcl_convert.specs.declared.convert_text.Refused.{Refused}
use Rattle.jcl_convert.specs.declared.dds.DdForm.{DdForm}
use Rattle.jcl_convert.specs.declared.dds.DdForm.TheVariants as form
use Rattle.jcl_convert.specs.declared.steps.Dd.{Dd}
use Rattle.jcl_convert.specs.declared.steps.DdKind.{DdKind}
use Rattle.jcl_convert.specs.declared.steps.DdKind.TheVariants as dd
use Rattle.jcl_convert.specs.declared.steps.Program.{Program}
use Rattle.jcl_convert.specs.declared.steps.Step.{Step}
use Rattle.jcl_convert.specs.Execs.{exec_of}
use Rattle.jcl_convert.specs.Dds.{dd_of}

-- STATEMENTS

abbrev pub exec_line : Result Program JclCause → Result Line JclCause
exec_line (Err why) = Err why
exec_line (Ok program) = Ok (line.Exec program)

abbrev pub exec_line_of : Operands → Result Line JclCause
exec_line_of operands = exec_line (exec_of operands)

-- the name on a DD
abbrev pub dd_name_of : List ℕ → Option Name8
dd_name_of name = if is_statement_name name then name8_of name else None

abbrev pub dd_line : Option Name8 → Result DdForm JclCause → Result Line JclCause
dd_line None said = Err cause.Name
dd_line (Some name) (Err why) = Err why
dd_line (Some name) (Ok is) = Ok (line.Dd name is)

abbrev pub dd_line_of : JobFields → List ℕ → Operands → Result Line JclCause
dd_line_of job name operands = dd_line (dd_name_of name) (dd_of job operands)

-- a name that is there, and is none
abbrev pub has_bad_name : List ℕ → Bool
has_bad_name name = not (length name == 0) && not (is_statement_name name)

-- what a statement says, or the first cause that refuses it: only a DD has to have a name
abbrev pub line_by : JobFields → Operation → List ℕ → Operands → Result Line JclCause
line_by job operation.Job name operands = Ok line.Job
line_by job operation.Exec name operands = if has_bad_name name then Err cause.Name else exec_line_of operands
line_by job operation.Dd name operands = dd_line_of job name operands
line_by job operation.Other name operands = if has_bad_name name then Err cause.Name else Err cause.Operation

abbrev pub line_of : JobFields → List ℕ → List (List ℕ) → Result Line JclCause
line_of job card behind = line_by job (operation_of card) (name_of card) (operands_from (card ∷ behind))

-- the cards of data behind a statement
abbrev pub data_of : List ℕ → List (List ℕ) → List (List ℕ)
data_of card behind = take (statement_data card (operands_from (card ∷ behind)) behind).cards
    (drop (operands_from (card ∷ behind)).cards behind)

-- STEPS

abbrev pub is_sysout : DdForm → Bool
is_sysout (form.Sysout sysout) = true
is_sysout form.InStream = false
is_sysout form.Dummy = false

-- what a DD stands for, with these cards of data behind it
abbrev pub kind_with : DdForm → List (List ℕ) → DdKind
kind_with form.Dummy lines = dd.Dummy
kind_with form.InStream lines = dd.Cards lines
kind_with (form.Sysout sysout) lines = dd.Sysout sysout.class sysout.dest sysout.forms sysout.copies sysout.held

-- a DD belongs to the last EXEC before it
abbrev pub with_dd : Dd → List Step → List Step
with_dd d steps = change_at (length steps - 1) (λ step. record { program = step.program; dds = step.dds ++ d ∷ [] })
    steps

abbrev pub nothing_converted : Converted
nothing_converted = record { steps = []; sysouts = 0 }

-- an EXEC behind others, which is not the 65th
abbrev pub exec_added : Converted → Program → Result Converted JclCause
exec_added so_far program =
    if nat_le job_steps_most (length so_far.steps) then Err cause.Many
    else Ok (record { steps = so_far.steps ++ record { program = program; dds = [] } ∷ []; sysouts = so_far.sysouts })

-- the cause that refuses a DD in its place: it stands before the first EXEC, or is the 33rd with SYSOUT of the job
abbrev pub dd_refused : Converted → Bool → Option JclCause
dd_refused so_far sysout =
    if length so_far.steps == 0 then Some cause.Place
    else if sysout && nat_le index_most so_far.sysouts then Some cause.Many
    else None

abbrev pub dd_added : Converted → Dd → Bool → Converted
dd_added so_far d sysout = record
    { steps = with_dd d so_far.steps; sysouts = if sysout then so_far.sysouts + 1 else so_far.sysouts }

abbrev pub dd_added_unless : Option JclCause → Converted → Dd → Bool → Result Converted JclCause
dd_added_unless None so_far d sysout = Ok (dd_added so_far d sysout)
dd_added_unless (Some why) so_far d sysout = Err why

-- a statement behind others, or the cause that refuses it in its place
abbrev pub line_added : Converted → Line → List (List ℕ) → Result Converted JclCause
line_added so_far line.Job lines = Ok so_far
line_added so_far (line.Exec program) lines = exec_added so_far program
line_added so_far (line.Dd name is) lines = dd_added_unless (dd_refused so_far (is_sysout is)) so_far
    (record { name = name; kind = kind_with is lines }) (is_sysout is)

abbrev pub statement_added : Converted → Result Line JclCause → List (List ℕ) → Result Converted JclCause
statement_added so_far (Err why) lines = Err why
statement_added so_far (Ok is) lines = line_added so_far is lines

-- a card that is read by itself: what is neither a statement nor a `/*` card is stray
abbrev pub card_added : JobFields → Converted → List ℕ → List (List ℕ) → Kind → Result Converted JclCause
card_added job so_far card behind kind.Stray = Err cause.Stray
card_added job so_far card behind kind.Statement = statement_added so_far (line_of job card behind)
    (data_of card behind)
card_added job so_far card behind kind.Comment = Ok so_far
card_added job so_far card behind kind.Null = Ok so_far
card_added job so_far card behind kind.Delimiter = Ok so_far
card_added job so_far card behind kind.Jes = Ok so_far

abbrev pub at_card : ℕ → Result Converted JclCause → Result Converted Refused
at_card n (Err why) = Err (record { card = n; cause = why })
at_card n (Ok more) = Ok more

abbrev pub converted_then : (Converted → Result Converted Refused) → Result Converted Refused → Result Converted Refused
converted_then next (Err worse) = Err worse
converted_then next (Ok more) = next more

-- the conversion of these cards, after others that were converted
abbrev pub converted_after : JobFields → Converted → List Item → Result Converted Refused
converted_after job so_far [] = Ok so_far
converted_after job so_far (item ∷ items) =
    converted_then (λ more. converted_after job more items)
    (at_card item.number (card_added job so_far item.card item.behind (kind_of item.card)))

-- a text's steps, or the least card that is refused and the first cause that applies to it
abbrev pub converted : JobFields → List (List ℕ) → Result Converted Refused
converted job text = converted_after job nothing_converted (items_of text)

-- ANSWERS

-- no cause and what is then converted, or the cause
abbrev pub Adds : Option JclCause → Result Converted JclCause → Converted → Type 0
Adds None said after = said ≡ Ok after
Adds (Some why) said after = said ≡ Err why

-- the answer is these steps, with some number of SYSOUT statements
abbrev pub Converts : Result Converted Refused → List Step → Type 0
Converts said steps = (sysouts : ℕ) × (said ≡ Ok (record { steps = steps; sysouts = sysouts }))

-- the answer refuses this card for this cause; the card's number is capped at the greatest of 32 bits
abbrev pub Refuses : Result Converted Refused → JclNo → Type 0
Refuses said (no.JclError card why) = (n : ℕ) × (said ≡ Err (record { card = n; cause = why }))
    × (card ≡ min n (2 ^ 32 - 1))
Refuses said no.NoMemory = Unit {0}

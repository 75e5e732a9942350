-- The outputs of a job are within its limits.
use Rattle.std.proofs.Common.{◌≡◌, ℕ, ◌+◌, ◌≤◌, Bool, true, false, cond, if◌then◌else◌, Option, Some, None, List, [], ◌∷◌, length, refl, arith, length-append}
use Rattle.std.specs.Prelude.{All}
use Rattle.std.proofs.lemmas.List.Elements.{All-nil, All-cons, All-head, All-tail, All-append}
use Rattle.mas_types.specs.declared.jobs.JobFields.{JobFields}
use Rattle.mas_types.specs.Fit.{IsJobFields, IsOutSpec, AreLines, is_text_line}
use Rattle.mas_types.specs.Limits.{line_bytes}
use Rattle.jcl_convert.specs.declared.steps.Dd.{Dd}
use Rattle.jcl_convert.specs.declared.steps.DdKind.{DdKind}
use Rattle.jcl_convert.specs.declared.steps.DdKind.TheVariants as dd
use Rattle.jcl_convert.specs.declared.steps.Program.{Program}
use Rattle.jcl_convert.specs.declared.steps.Program.TheVariants as program
use Rattle.jcl_convert.specs.declared.steps.Step.{Step}
use Rattle.jcl_convert.specs.Steps.{IsDd, IsDdKind, IsStep, AreSteps, is_sysout, sysouts, sysouts_among}
use Rattle.job_exec.specs.declared.running.Message.{Message}
use Rattle.job_exec.specs.declared.running.Message.TheVariants as message
use Rattle.job_exec.specs.Listing.{listing_of}
use Rattle.job_exec.specs.Running.{AreOutputs, is_named, dd_named, output_on, written_to, lines_in, lines_of, message_on, message_text, outputs_by, outputs_of_program, outputs_of_step, outputs_of}

-- HOW MANY

one_output : (k : DdKind) (lines : List (List ℕ)) → length (output_on k lines) ≤ (if is_sysout k then 1 else 0)
one_output dd.Dummy lines = omega arith
one_output (dd.Cards cards) lines = omega arith
one_output (dd.Sysout class dest forms copies held) [] = omega arith
one_output (dd.Sysout class dest forms copies held) (line ∷ lines) = omega arith

first_written : (v : Bool) (d : Dd) (found : Option Dd) (lines : List (List ℕ)) (more : ℕ) → length (output_on d.kind lines) ≤ (if is_sysout d.kind then 1 else 0) → length (written_to found lines) ≤ more → length (written_to (cond v (Some d) found) lines) ≤ (if is_sysout d.kind then 1 else 0) + more
first_written true d found lines more one rest = omega arith
first_written false d found lines more one rest = omega arith

few_written : (name : List ℕ) (lines : List (List ℕ)) (dds : List Dd) → length (written_to (dd_named dds name) lines) ≤ sysouts_among dds
few_written name lines [] = omega arith
few_written name lines (d ∷ dds) = first_written (is_named name d) d (dd_named dds name) lines (sysouts_among dds) (one_output d.kind lines) (few_written name lines dds)

few_by : (found : Option Message) (dds : List Dd) → length (outputs_by found dds) ≤ sysouts_among dds
few_by None dds = few_written _ _ dds
few_by (Some why) dds = few_written _ _ dds

few_of_program : (p : Program) (dds : List Dd) → length (outputs_of_program p dds) ≤ sysouts_among dds
few_of_program program.Br14 dds = omega arith
few_of_program program.Gener dds = few_by (message_on dds) dds

few_outputs : (steps : List Step) → length (outputs_of steps) ≤ sysouts steps
few_outputs [] = omega arith
few_outputs (step ∷ steps) =
    let one : length (outputs_of_step step) ≤ sysouts_among step.dds = few_of_program step.program step.dds in
    let rest : length (outputs_of steps) ≤ sysouts steps = few_outputs steps in
    rw (length-append (outputs_of_step step) (outputs_of steps)) (omega arith)

-- OF WHICH KIND

output_fits : (k : DdKind) (lines : List (List ℕ)) → IsDdKind k → AreLines lines → All IsOutSpec (output_on k lines)
output_fits dd.Dummy lines fits text = All-nil IsOutSpec
output_fits (dd.Cards cards) lines fits text = All-nil IsOutSpec
output_fits (dd.Sysout class dest forms copies held) [] fits text = All-nil IsOutSpec
output_fits (dd.Sysout class dest forms copies held) (line ∷ lines) fits text =
    let some : 1 ≤ length (line ∷ lines) = omega arith in
    All-cons IsOutSpec _ [] (record { class = fits.0; dest = fits.1; forms = fits.2; copies = fits.3; lines = some; text = text }) (All-nil IsOutSpec)

first_fits : (v : Bool) (d : Dd) (found : Option Dd) (lines : List (List ℕ)) → All IsOutSpec (output_on d.kind lines) → All IsOutSpec (written_to found lines) → All IsOutSpec (written_to (cond v (Some d) found) lines)
first_fits true d found lines one rest = one
first_fits false d found lines one rest = rest

written_fits : (name : List ℕ) (lines : List (List ℕ)) (dds : List Dd) → All IsDd dds → AreLines lines → All IsOutSpec (written_to (dd_named dds name) lines)
written_fits name lines [] each text = All-nil IsOutSpec
written_fits name lines (d ∷ dds) each text =
    first_fits (is_named name d) d (dd_named dds name) lines (output_fits d.kind lines (All-head IsDd d dds each).kind text) (written_fits name lines dds (All-tail IsDd d dds each) text)

no_lines : AreLines []
no_lines = record { few = omega arith; short = All-nil _; text = All-nil _ }

pub one_line : (line : List ℕ) → length line ≤ line_bytes → is_text_line line ≡ true → AreLines (line ∷ [])
one_line line short text = record { few = omega arith; short = All-cons (λ (l : List ℕ). length l ≤ line_bytes) line [] short (All-nil _); text = All-cons (λ (l : List ℕ). is_text_line l ≡ true) line [] text (All-nil _) }

message_lines : (why : Message) → AreLines (message_text why ∷ [])
message_lines message.SysinNotEmpty = one_line _ (omega arith) refl
message_lines message.MissingSysut1 = one_line _ (omega arith) refl
message_lines message.WrongSysut1 = one_line _ (omega arith) refl
message_lines message.MissingSysut2 = one_line _ (omega arith) refl
message_lines message.WrongSysut2 = one_line _ (omega arith) refl

kind_lines : (k : DdKind) → IsDdKind k → AreLines (lines_in k)
kind_lines dd.Dummy fits = no_lines
kind_lines (dd.Cards lines) fits = fits
kind_lines (dd.Sysout class dest forms copies held) fits = no_lines

first_lines : (v : Bool) (d : Dd) (found : Option Dd) → AreLines (lines_in d.kind) → AreLines (lines_of found) → AreLines (lines_of (cond v (Some d) found))
first_lines true d found one rest = one
first_lines false d found one rest = rest

read_lines : (name : List ℕ) (dds : List Dd) → All IsDd dds → AreLines (lines_of (dd_named dds name))
read_lines name [] each = no_lines
read_lines name (d ∷ dds) each = first_lines (is_named name d) d (dd_named dds name) (kind_lines d.kind (All-head IsDd d dds each).kind) (read_lines name dds (All-tail IsDd d dds each))

by_fits : (found : Option Message) (dds : List Dd) → All IsDd dds → All IsOutSpec (outputs_by found dds)
by_fits None dds each = written_fits _ _ dds each (read_lines _ dds each)
by_fits (Some why) dds each = written_fits _ _ dds each (message_lines why)

program_fits : (p : Program) (dds : List Dd) → All IsDd dds → All IsOutSpec (outputs_of_program p dds)
program_fits program.Br14 dds each = All-nil IsOutSpec
program_fits program.Gener dds each = by_fits (message_on dds) dds each

each_fits : (steps : List Step) → All IsStep steps → All IsOutSpec (outputs_of steps)
each_fits [] each = All-nil IsOutSpec
each_fits (step ∷ steps) each =
    All-append IsOutSpec (outputs_of_step step) (outputs_of steps) (program_fits step.program step.dds (All-head IsStep step steps each)) (each_fits steps (All-tail IsStep step steps each))

pub outputs_fit : (steps : List Step) → AreSteps steps → AreOutputs (outputs_of steps)
outputs_fit steps fits = let few : length (outputs_of steps) ≤ sysouts steps = few_outputs steps in record { few = omega (arith, fits.outputs); each = each_fits steps fits.each }

-- LISTINGS

pub listing_fits : (job : JobFields) (line : List ℕ) → IsJobFields job → length line ≤ line_bytes → is_text_line line ≡ true → AreOutputs (listing_of job line ∷ [])
listing_fits job line fits short text = record {
  few = omega arith;
  each = All-cons IsOutSpec _ [] (record { class = fits.msgclass; dest = fits.dest; forms = (83 ∷ 84 ∷ 68 ∷ [], refl, refl); copies = omega arith; lines = omega arith; text = one_line line short text }) (All-nil IsOutSpec);
}

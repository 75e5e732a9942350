-- What stands on paper.
use Rattle.std.specs.Prelude.{ℕ, ◌-◌, ◌%◌, List, [], ◌∷◌, length, slice_index_or, decimal, codes}
use Rattle.mas_types.specs.declared.ids.JobNo.{JobNo}
use Rattle.mas_types.specs.declared.ids.OutNo.{OutNo}
use Rattle.mas_types.specs.declared.answers.JclCause.{JclCause}
use Rattle.mas_types.specs.declared.answers.JclCause.TheVariants as jcl
use Rattle.mas_types.specs.Numerals.{in_digits}
use Rattle.mas_types.specs.Shown.{words, output_key}

-- the text of a line of an output, counted from 1: the copies of its lines follow one another
abbrev pub text_at : List (List ℕ) → ℕ → List ℕ
text_at lines i = slice_index_or lines ((i - 1) % length lines) []

-- a line on paper: its output, its number in eight digits, and its text
abbrev pub printed_line : JobNo → OutNo → ℕ → List (List ℕ) → List ℕ
printed_line job index i lines = words (output_key job index ∷ in_digits 8 i ∷ text_at lines i ∷ [])

-- THE LISTING OF A JOB THAT DOES NOT RUN

abbrev pub jcl_cause_word : JclCause → List ℕ
jcl_cause_word jcl.Name = codes "NAME"
jcl_cause_word jcl.Operation = codes "OPERATION"
jcl_cause_word jcl.Proc = codes "PROC"
jcl_cause_word jcl.Pgm = codes "PGM"
jcl_cause_word jcl.Dsn = codes "DSN"
jcl_cause_word jcl.Operand = codes "OPERAND"
jcl_cause_word jcl.Stray = codes "STRAY"
jcl_cause_word jcl.Place = codes "PLACE"
jcl_cause_word jcl.Many = codes "MANY"

-- the line of a job with a JCL error, at a card counted from 1
abbrev pub jcl_error_line : ℕ → JclCause → List ℕ
jcl_error_line card cause = words (codes "JCL ERROR CARD" ∷ decimal card ∷ jcl_cause_word cause ∷ [])

-- the line of a job that is only scanned, and has no error
abbrev pub no_error_line : List ℕ
no_error_line = codes "NO ERROR"

-- A stored text as the statements of a job, and as its steps.
use Rattle.std.specs.Prelude.{◌≡◌, ℕ, ◌≤◌, Option, Some, None, Result, Ok, Err, List, [], ◌∷◌, ◌++◌, length}
use Rattle.mas_types.specs.declared.answers.JclCause.{JclCause}
use Rattle.mas_types.specs.declared.jobs.JobFields.{JobFields}
use Rattle.mas_types.specs.Limits.{job_steps_most, index_most}
use Rattle.card_reader.specs.declared.cards.Kind.{Kind}
use Rattle.card_reader.specs.declared.cards.Kind.TheVariants as kind
use Rattle.card_reader.specs.Cards.{kind_of}
use Rattle.card_reader.specs.Statements.{Item, items_of}
use Rattle.jcl_convert.specs.declared.steps.Dd.{Dd}
use Rattle.jcl_convert.specs.declared.steps.Step.{Step}
use Rattle.jcl_convert.specs.Steps.{sysouts}
use Rattle.jcl_convert.specs.declared.statements.Line.{Line}
use Rattle.jcl_convert.specs.declared.statements.Line.TheVariants as line
use Rattle.jcl_convert.specs.Jcl.{line_of, data_of, kind_with}

-- a statement, and the cards of data behind it
pub record Statement : Type 0 where
  pub line : Line
  pub cards : List (List ℕ)

abbrev pub statement_if : Result Line JclCause → List (List ℕ) → Option (List Statement)
statement_if (Err why) cards = None
statement_if (Ok is) cards = Some (record { line = is; cards = cards } ∷ [])

-- The statement that stands on a card, if one does. A stray card is none, and is not passed over.
abbrev pub statement_on : JobFields → Kind → List ℕ → List (List ℕ) → Option (List Statement)
statement_on job kind.Stray card behind = None
statement_on job kind.Statement card behind = statement_if (line_of job card behind) (data_of card behind)
statement_on job kind.Comment card behind = Some []
statement_on job kind.Null card behind = Some []
statement_on job kind.Delimiter card behind = Some []
statement_on job kind.Jes card behind = Some []

abbrev pub joined : Option (List Statement) → Option (List Statement) → Option (List Statement)
joined None others = None
joined (Some statements) None = None
joined (Some statements) (Some others) = Some (statements ++ others)

-- the statements of cards that are read by themselves, where none is refused
abbrev pub statements_on : JobFields → List Item → Option (List Statement)
statements_on job [] = Some []
statements_on job (item ∷ items) = joined (statement_on job (kind_of item.card) item.card item.behind)
    (statements_on job items)

-- the DDs before the first EXEC
abbrev pub leading_by : Line → List (List ℕ) → List Dd → List Dd
leading_by line.Job cards dds = dds
leading_by (line.Exec program) cards dds = []
leading_by (line.Dd name is) cards dds = record { name = name; kind = kind_with is cards } ∷ dds

abbrev pub leading_dds : List Statement → List Dd
leading_dds [] = []
leading_dds (statement ∷ statements) = leading_by statement.line statement.cards (leading_dds statements)

-- each EXEC begins a step, to which the DDs up to the next one belong
abbrev pub steps_by : Line → List Dd → List Step → List Step
steps_by line.Job dds steps = steps
steps_by (line.Exec program) dds steps = record { program = program; dds = dds } ∷ steps
steps_by (line.Dd name is) dds steps = steps

abbrev pub steps_of : List Statement → List Step
steps_of [] = []
steps_of (statement ∷ statements) = steps_by statement.line (leading_dds statements) (steps_of statements)

-- Each card outside data is read, no DD stands before the first EXEC, and there are at most 64 steps and, among their
-- DDs, 32 with SYSOUT.
pub record IsText (job : JobFields) (text : List (List ℕ)) (steps : List Step) : Type 0 where
  pub statements : List Statement
  pub read : statements_on job (items_of text) ≡ Some statements
  pub placed : leading_dds statements ≡ []
  pub says : steps ≡ steps_of statements
  pub few : length steps ≤ job_steps_most
  pub outputs : sysouts steps ≤ index_most

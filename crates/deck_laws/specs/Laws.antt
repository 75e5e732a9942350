-- What is true of all decks and of their stored texts.
use Rattle.std.specs.Prelude.{◌≡◌, ◌↔◌, ℕ, Ok, List}
use Rattle.mas_types.specs.declared.ids.Name8.{Name8}
use Rattle.mas_types.specs.declared.jobs.JobFields.{JobFields}
use Rattle.card_reader.specs.Decks.{read_as}
use Rattle.mas_types.specs.Fit.{IsJobFields, AreLines}
use Rattle.jcl_convert.specs.declared.steps.Step.{Step}
use Rattle.jcl_convert.specs.Steps.{AreSteps}
use Rattle.jcl_convert.specs.Jcl.{converted, Converts}
use Rattle.deck_laws.specs.Grammar.{AreCards, IsJob}
use Rattle.deck_laws.specs.Steps.{IsText}

-- a deck gives a job with these fields exactly where its cards are in the grammar and say them
abbrev pub ReadsJobs : Type 0
ReadsJobs = (own : Name8) (cards : List (List ℕ)) (fields : JobFields)
    → (read_as own cards ≡ Ok fields) ↔ (AreCards cards × IsJob own cards fields)

-- a text is converted to these steps exactly where its statements are in the grammar and say them
abbrev pub ConvertsTexts : Type 0
ConvertsTexts = (job : JobFields) (text : List (List ℕ)) (steps : List Step)
    → Converts (converted job text) steps ↔ IsText job text steps

-- what a text within the limits is converted to is within those of a job
abbrev pub KeepsLimits : Type 0
KeepsLimits = (job : JobFields) (text : List (List ℕ)) (steps : List Step) → IsJobFields job → AreLines text
    → Converts (converted job text) steps → AreSteps steps

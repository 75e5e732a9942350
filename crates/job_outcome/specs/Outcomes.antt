-- What becomes of a job whose text was read.
use Rattle.std.specs.Prelude.{ℕ, Bool, true, false, List, [], ◌∷◌, Option, Some, None}
use Rattle.mas_types.specs.declared.answers.Closing.TheVariants as closing
use Rattle.mas_types.specs.declared.jobs.JobFields.{JobFields}
use Rattle.mas_types.specs.Closings.{AreMembersNamed}
use Rattle.mas_types.specs.Fit.{AreLines}
use Rattle.job_exec.specs.Listing.{listing_of}
use Rattle.job_exec.specs.Running.{AreOutputs}
use Rattle.job_outcome.specs.declared.outcomes.Outcome.{Outcome}
use Rattle.job_outcome.specs.declared.outcomes.Outcome.TheVariants as outcome
use Rattle.job_outcome.specs.declared.outcomes.Read.{Read}
use Rattle.job_outcome.specs.declared.outcomes.Read.TheVariants as read
use Rattle.job_outcome.specs.Meaning.{listed, meaning}

-- a job that is converted: it goes on, or ends with what is listed
abbrev pub converted_as : JobFields → Option (List ℕ) → Outcome
converted_as job (Some line) = outcome.End (listing_of job line ∷ [])
converted_as job None = outcome.Convert

abbrev pub outcome_of_text : Bool → JobFields → List (List ℕ) → Outcome
outcome_of_text true job text = outcome.End (meaning job text)
outcome_of_text false job text = converted_as job (listed job text)

-- the outcome of a job that is run, or else converted: without its text the unit is refused
abbrev pub outcome_of : Bool → JobFields → Read → Outcome
outcome_of runs job (read.Lines text) = outcome_of_text runs job text
outcome_of runs job (read.Gone group) = outcome.Stop (closing.NoText group)
outcome_of runs job (read.Lost volume) = outcome.Stop (closing.SpoolLost volume)

-- lines that were read are within the limits
abbrev pub IsReadable : Read → Type 0
IsReadable (read.Lines lines) = AreLines lines
IsReadable (read.Gone group) = Unit {0}
IsReadable (read.Lost volume) = Unit {0}

-- the outputs with which a job ends are within the limits
abbrev pub AreFitOutputs : Outcome → Type 0
AreFitOutputs outcome.Convert = Unit {0}
AreFitOutputs (outcome.End specs) = AreOutputs specs
AreFitOutputs (outcome.Stop end) = Unit {0}

-- the members that a refusal names are within the limits
abbrev pub IsNamedOutcome : Outcome → Type 0
IsNamedOutcome (outcome.Stop end) = AreMembersNamed end
IsNamedOutcome _ = Unit {0}

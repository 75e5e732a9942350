-- Which steps are within the limits of a job.
use Rattle.std.specs.Prelude.{ℕ, ◌+◌, ◌≤◌, Bool, true, false, List, [], ◌∷◌, length, All, if◌then◌else◌}
use Rattle.mas_types.specs.Fit.{IsName, IsClass, AreLines}
use Rattle.mas_types.specs.Limits.{job_steps_most, index_most}
use Rattle.jcl_convert.specs.declared.steps.Dd.{Dd}
use Rattle.jcl_convert.specs.declared.steps.DdKind.{DdKind}
use Rattle.jcl_convert.specs.declared.steps.DdKind.TheVariants as dd
use Rattle.jcl_convert.specs.declared.steps.Step.{Step}

-- what a DD stands for: cards are a text, and an output has at least one copy
abbrev pub IsDdKind : DdKind → Type 0
IsDdKind dd.Dummy = Unit {0}
IsDdKind (dd.Cards lines) = AreLines lines
IsDdKind (dd.Sysout class dest forms copies held) = IsClass class × IsName dest × IsName forms × (1 ≤ copies)

pub record IsDd (d : Dd) : Type 0 where
  pub name : IsName d.name
  pub kind : IsDdKind d.kind

abbrev pub IsStep : Step → Type 0
IsStep step = All IsDd step.dds

abbrev pub is_sysout : DdKind → Bool
is_sysout dd.Dummy = false
is_sysout (dd.Cards lines) = false
is_sysout (dd.Sysout class dest forms copies held) = true

-- the number of DD statements with SYSOUT
abbrev pub sysouts_among : List Dd → ℕ
sysouts_among [] = 0
sysouts_among (d ∷ dds) = (if is_sysout d.kind then 1 else 0) + sysouts_among dds

-- the number of DD statements with SYSOUT in all steps
abbrev pub sysouts : List Step → ℕ
sysouts [] = 0
sysouts (step ∷ steps) = sysouts_among step.dds + sysouts steps

-- the steps of a job: at most 64, with at most 32 DD statements with SYSOUT
pub record AreSteps (steps : List Step) : Type 0 where
  pub few : length steps ≤ job_steps_most
  pub each : All IsStep steps
  pub outputs : sysouts steps ≤ index_most

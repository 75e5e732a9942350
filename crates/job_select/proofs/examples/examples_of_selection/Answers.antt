use Rattle.std.proofs.Common.{◌≡◌, List, [], ◌∷◌, Option, Some, refl, sym, subst, ◌∙◌}
use Rattle.std.specs.Prelude.{ℕ, option_map}
use Rattle.mas_types.specs.declared.ids.Class.{Class}
use Rattle.mas_types.specs.declared.jobs.Job.{Job}
use Rattle.mas_types.specs.Selection.{for_convert}
use Rattle.lay_bytes.specs.declared.records.JobRec.{JobRec}
use Rattle.lay_bytes.specs.declared.records.OutRec.{OutRec}
use Rattle.job_queue.specs.Jobs.{AreJobs}
use Rattle.output_queue.specs.Outputs.{AreOutputs}
use Rattle.job_select.specs.declared.index.Index.{Index}
use Rattle.job_select.specs.Indexes.{StandsFor, for_classes}
use Rattle.job_select.specs.Examples.{queue_of, slots_of, IsOfTwo, Converts, Executes, b_before_a}
use Rattle.job_select.proofs.examples.examples_of_selection.Goals as goal

stands : (first second : Job) (index : Index) → AreJobs (slots_of first second) (first ∷ second ∷ []) → IsOfTwo first second index → StandsFor index (queue_of (first ∷ second ∷ []))
stands first second index are is = record {
  jobs = subst (λ (slots : List (Option JobRec)). AreJobs slots (first ∷ second ∷ [])) (sym is.jobs) are;
  outputs = subst (λ (slots : List (Option OutRec)). AreOutputs slots []) (sym is.outputs) refl;
}

converts : (first second : Job) (n : ℕ) → AreJobs (slots_of first second) (first ∷ second ∷ [])
    → option_map (λ (j : Job). j.number) (for_convert (queue_of (first ∷ second ∷ []))) ≡ Some (record { 0 = n }) → Converts first second n
converts first second n are selected index answer is clause = clause (queue_of (first ∷ second ∷ [])) (stands first second index are is) ∙ selected

executes : (classes : List Class) (first second : Job) (n : ℕ) → AreJobs (slots_of first second) (first ∷ second ∷ [])
    → option_map (λ (j : Job). j.number) (for_classes classes (queue_of (first ∷ second ∷ []))) ≡ Some (record { 0 = n }) → Executes classes first second n
executes classes first second n are selected index answer is clause = clause (queue_of (first ∷ second ∷ [])) (stands first second index are is) ∙ selected

pub returns : goal.returns
returns c = record {
  first = converts _ _ 1 refl refl;
  greatest_priority = converts _ _ 2 refl refl;
  held = converts _ _ 1 refl refl;
  first_class = executes b_before_a _ _ 2 refl refl;
  greatest_in_class = executes b_before_a _ _ 2 refl refl;
}

-- Whether any job is in a phase, by a look at the slots.
use Rattle.std.specs.Prelude.{◌≡◌, ◌<◌, ℕ, Bool, false, List, Option, Some, None, slice_get}
use Rattle.std.specs.Option.{option_map_or}
use Rattle.mas_types.specs.declared.jobs.Phase.{Phase}
use Rattle.lay_bytes.specs.declared.records.JobRec.{JobRec}
use Rattle.job_queue.specs.Jobs.{in_phase}

-- the job of a slot is in the phase
abbrev pub stands_in : Phase → Option JobRec → Bool
stands_in phase slot = option_map_or (λ r. in_phase phase r.phase) slot false

-- where the answer is no, none of the first k slots has a job in the phase
abbrev pub Tells : Phase → List (Option JobRec) → ℕ → Bool → Type 0
Tells phase slots k answer = answer ≡ false → (j : ℕ) (y : JobRec) → j < k → slice_get slots j ≡ Some (Some y)
    → in_phase phase y.phase ≡ false

use Rattle.std.proofs.Common.{◌≡◌, ◌++◌, drop, max}
use Rattle.job_exec.specs.Running.{outputs_of, code_of}
use Rattle.job_exec.proofs.running.run_steps.Given as goal

-- what was done and what is left make up the whole
abbrev pub invariant-loop-step : goal.invariant-loop-step
invariant-loop-step l = record {
  outputs : l.outputs ++ outputs_of (drop l.step-index l.step-items) ≡ outputs_of l.fn.steps;
  code : max l.code (code_of (drop l.step-index l.step-items)) ≡ code_of l.fn.steps;
}

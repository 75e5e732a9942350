use Rattle.std.proofs.Common.{◌≡◌, arith}
use Rattle.std.proofs.lemmas.Grind.{common_steps}
use Rattle.job_exec.specs.Running.{outputs_of}
use Rattle.job_exec.proofs.Fits.{outputs_fit}
use Rattle.job_exec.proofs.running.run_steps.Goals as goal

pub returns-clause-fits : goal.returns-clause-fits
returns-clause-fits c fits =
    let whole : c.loop-step.outputs ≡ outputs_of c.args.steps.now = grind (arith, common_steps) in
    rw whole (outputs_fit c.args.steps.now fits)

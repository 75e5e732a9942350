use Rattle.std.proofs.Common.{◌≡◌, Some, find, sym}
use Rattle.mas_types.specs.Queue.{has_number}
use Rattle.mas_types.specs.Sound.{IsSoundJob}
use Rattle.run_cases.proofs.Found.{find_holds}
use Rattle.run_cases.proofs.whole.ends.Goals as goal

pub outputs_of-requires : goal.outputs_of-requires
outputs_of-requires c =
    let Q = c.args.queue.now in
    let found : find (has_number c.args.job) Q.jobs ≡ Some c.in-Some.found.now = sym c.in-Some.ensures in
    (find_holds (IsSoundJob Q.config) (has_number c.args.job) Q.jobs c.in-Some.found.now c.requires.jobs found).text

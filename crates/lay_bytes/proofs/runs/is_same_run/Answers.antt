use Rattle.std.proofs.Common.{◌+◌, ◌≤◌}
use Rattle.lay_bytes.proofs.RunLemmas.{run_compared}
use Rattle.lay_bytes.proofs.runs.is_same_run.Goals as goal

pub returns : goal.returns
returns c =
    let room : c.args.at + 64 ≤ 4096 = c.requires in
    run_compared c.args.at c.args.a.now c.args.b.now c.told-a c.told-b room

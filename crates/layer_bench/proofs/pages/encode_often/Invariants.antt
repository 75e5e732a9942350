use Rattle.std.proofs.Common.{◌≤◌}
use Rattle.layer_bench.proofs.pages.encode_often.Given as goal

abbrev pub invariant-loop-time : goal.invariant-loop-time
invariant-loop-time l = l.others ≤ l.time

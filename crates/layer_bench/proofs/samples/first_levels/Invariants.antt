use Rattle.std.proofs.Common.{◌≡◌, length}
use Rattle.layer_bench.proofs.samples.first_levels.Given as goal

abbrev pub invariant-loop-page : goal.invariant-loop-page
invariant-loop-page l = length l.levels ≡ l._page

use Rattle.std.proofs.Common.{◌≡◌}
use Rattle.ckpt_pages.specs.Starts.{first_levels}
use Rattle.member_node.proofs.checkpoint.first_levels.Given as goal

abbrev pub invariant-loop-page : goal.invariant-loop-page
invariant-loop-page l = l.levels ≡ first_levels l._page

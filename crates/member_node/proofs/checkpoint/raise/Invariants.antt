use Rattle.std.proofs.Common.{◌≡◌, take}
use Rattle.member_node.specs.Drawn.{raised}
use Rattle.member_node.proofs.checkpoint.raise.Given as goal

abbrev pub invariant-loop-page : goal.invariant-loop-page
invariant-loop-page l = l.levels ≡ raised (take l.page-index l.pages) l.level l.initial.levels

use Rattle.std.proofs.Common.{◌≡◌, ◌+◌, [], take, drop}
use Rattle.gen_work.specs.Summaries.{printed_behind}
use Rattle.gen_work.proofs.summaries.printed.Given as goal

-- what is left is added
abbrev pub invariant-loop-at : goal.invariant-loop-at
invariant-loop-at l = l.lines + printed_behind (take l.at l.all) (drop l.at l.all) ≡ printed_behind [] l.all

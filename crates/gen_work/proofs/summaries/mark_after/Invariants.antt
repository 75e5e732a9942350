use Rattle.std.proofs.Common.{◌≡◌, drop}
use Rattle.gen_work.specs.Summaries.{mark_after}
use Rattle.gen_work.proofs.summaries.mark_after.Given as goal

-- what is left decides
abbrev pub invariant-loop-one : goal.invariant-loop-one
invariant-loop-one l = mark_after l.n l.i l.mark (drop l.one-index l.before) ≡ mark_after l.n l.i 0 l.before

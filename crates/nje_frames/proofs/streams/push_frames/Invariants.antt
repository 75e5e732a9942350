use Rattle.std.proofs.Common.{length}
use Rattle.nje_frames.proofs.StreamSteps.{HasPushed}
use Rattle.nje_frames.proofs.streams.push_frames.Given as goal

-- what was added so far, and what is left
abbrev pub invariant-loop-start : goal.invariant-loop-start
invariant-loop-start l = HasPushed l.bytes l.rest l.fn.out l.out

abbrev pub decreases-loop-start : goal.decreases-loop-start
decreases-loop-start l = length l.rest

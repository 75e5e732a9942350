use Rattle.std.proofs.Common.{◌≡◌, length, take}
use Rattle.step_turns.specs.Serving.{taken_most}
use Rattle.member_frames.proofs.arrivals.heard.Given as goal

abbrev pub decreases-loop-first : goal.decreases-loop-first
decreases-loop-first l = length l.first

-- the first frames are those that came
abbrev pub invariant-loop-first : goal.invariant-loop-first
invariant-loop-first l = take taken_most l.first ≡ take taken_most l.initial.first

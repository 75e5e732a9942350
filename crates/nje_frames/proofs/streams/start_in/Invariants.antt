use Rattle.std.proofs.Common.{◌≡◌, true, take}
use Rattle.std.specs.Prelude.{not}
use Rattle.std.specs.List.{list_all}
use Rattle.nje_frames.specs.Streams.{is_start}
use Rattle.nje_frames.proofs.streams.start_in.Given as goal

-- no byte so far is one
abbrev pub invariant-loop-at : goal.invariant-loop-at
invariant-loop-at l = list_all (λ b. not (is_start b)) (take l.at l.bytes) ≡ true

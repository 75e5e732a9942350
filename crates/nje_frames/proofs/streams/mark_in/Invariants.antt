use Rattle.std.proofs.Common.{◌≡◌, true, take}
use Rattle.std.specs.Prelude.{not}
use Rattle.std.specs.List.{list_all}
use Rattle.nje_frames.specs.Streams.{is_mark}
use Rattle.nje_frames.proofs.streams.mark_in.Given as goal

-- no byte so far is one
abbrev pub invariant-loop-at : goal.invariant-loop-at
invariant-loop-at l = list_all (λ b. not (is_mark b)) (take l.at l.bytes) ≡ true

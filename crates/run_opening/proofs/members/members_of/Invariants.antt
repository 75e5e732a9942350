use Rattle.std.proofs.Common.{◌≡◌, length}
use Rattle.run_opening.specs.Fresh.{AreFreshFrom}
use Rattle.run_opening.proofs.members.members_of.Given as goal

-- the members so far are the first ones
abbrev pub invariant-loop-before : goal.invariant-loop-before
invariant-loop-before l =
    record {
      many : length l.members ≡ l.before;
      each : AreFreshFrom l.config 1 l.members;
    }

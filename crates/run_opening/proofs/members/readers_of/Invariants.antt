use Rattle.std.proofs.Common.{◌≡◌, [], Some, All, length}
use Rattle.run_opening.proofs.members.readers_of.Given as goal

-- so many are new
abbrev pub invariant-loop-before : goal.invariant-loop-before
invariant-loop-before l =
    record {
      many : length l.readers ≡ l._before;
      new : All (λ reader. reader ≡ Some []) l.readers;
    }

use Rattle.std.proofs.Common.{arith}
use Rattle.spool_disk.proofs.Restart.{zeros_at}
use Rattle.spool_disk.proofs.incoming.Incoming.new.Goals as goal

pub invariant_of-result-clause-within : goal.invariant_of-result-clause-within
invariant_of-result-clause-within c w = omega (arith, zeros_at 256 w c.in_ok-taken.taken.items (c.in_ok-taken.ensures.items_if_clones_equal (λ y e. e)))

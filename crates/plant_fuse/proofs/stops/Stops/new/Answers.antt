use Rattle.std.proofs.Common.{arith}
use Rattle.spool_disk.proofs.Restart.{zero_at}
use Rattle.plant_fuse.proofs.stops.Stops.new.Goals as goal

pub invariant_of-result-clause-fits : goal.invariant_of-result-clause-fits
invariant_of-result-clause-fits c m = omega (arith, zero_at 256 m)

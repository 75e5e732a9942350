use Rattle.std.proofs.Common.{refl, arith}
use Rattle.std.specs.Prelude.{codes}
use Rattle.layer_bench.proofs.queues.config.Goals as goal

pub returns : goal.returns
returns c = record {
  members = (omega arith, omega arith);
  jobs = c.room.ensures;
  outputs = (omega arith, omega arith, refl);
  volumes = (omega arith, omega arith);
  groups = (omega arith, omega arith);
  hold = (omega arith, omega arith);
  dormancy = omega arith;
  node = (codes "HERE", refl, refl);
}

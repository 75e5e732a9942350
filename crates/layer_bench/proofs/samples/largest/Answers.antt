use Rattle.std.proofs.Common.{refl, arith}
use Rattle.std.specs.Prelude.{codes}
use Rattle.layer_bench.proofs.samples.largest.Goals as goal

pub returns-clause-config : goal.returns-clause-config
returns-clause-config c = record {
  members = (omega arith, omega arith);
  jobs = (omega arith, omega arith, refl);
  outputs = (omega arith, omega arith, refl);
  volumes = (omega arith, omega arith);
  groups = (omega arith, omega arith);
  hold = (omega arith, omega arith);
  dormancy = omega arith;
  node = (codes "HERE", refl, refl);
}

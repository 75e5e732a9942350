use Rattle.std.proofs.Common.{arith}
use Rattle.ckpt_pages.specs.Kinds.{level_takes}
use Rattle.ckpt_pages.proofs.kinds.LevelEntry.read.Goals as goal

pub returns-clause-found : goal.returns-clause-found
returns-clause-found c = level_takes c.args.bytes.now c.read_u64.result c.requires (λ i. omega (arith, c.type_inv.bytes i)) c.read_u64.type_inv c.read_u64.ensures

use Rattle.std.proofs.Common.{arith}
use Rattle.ckpt_pages.specs.Kinds.{level_takes}
use Rattle.ckpt_pages.proofs.kinds.LevelEntry.is_entry.Goals as goal

pub returns-clause-good : goal.returns-clause-good
returns-clause-good c h =
    let p = level_takes c.args.bytes.now c.read_u64-level.result c.requires (λ i. omega (arith, c.type_inv.bytes i)) c.read_u64-level.type_inv c.read_u64-level.ensures in
    (c.read_u64-level.result, p.0, p.1)

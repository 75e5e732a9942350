use Rattle.std.proofs.Common.{take}
use Rattle.ckpt_pages.specs.Keys.{AreGroupKeys}
use Rattle.ckpt_pages.proofs.keys.GroupKeys.of.Given as goal

abbrev pub invariant-loop-owner : goal.invariant-loop-owner
invariant-loop-owner l = AreGroupKeys l.keys (take l.owner-index l.owners)

use Rattle.std.proofs.Common.{take}
use Rattle.ckpt_pages.specs.Keys.{ArePlaceKeys}
use Rattle.ckpt_pages.proofs.keys.PlaceKeys.of.Given as goal

abbrev pub invariant-loop-owner : goal.invariant-loop-owner
invariant-loop-owner l = ArePlaceKeys l.keys (take l.owner-index l.owners)

use Rattle.std.proofs.Common.{take}
use Rattle.track_texts.specs.Index.{AreTextGroups}
use Rattle.track_texts.proofs.index.TextGroups.of.Given as goal

-- the groups so far are added
abbrev pub invariant-loop-at : goal.invariant-loop-at
invariant-loop-at l = AreTextGroups l.texts (take l.at l.owners)

use Rattle.std.proofs.Common.{◌≡◌, [], take, drop}
use Rattle.ckpt_pages.specs.Keys.{ArePlaceKeys}
use Rattle.ckpt_pages.specs.Sound.{first_wrong, is_wrong_place}
use Rattle.ckpt_pages.proofs.indexed.first_wrong_place.Given as goal

abbrev pub invariant-loop-i : goal.invariant-loop-i
invariant-loop-i l = record {
  first : first_wrong (is_wrong_place l.tables) (take l.i l.owners) l.i (drop l.i l.owners) ≡ first_wrong (is_wrong_place l.tables) [] 0 l.owners;
  keys : ArePlaceKeys l.before (take l.i l.owners);
}

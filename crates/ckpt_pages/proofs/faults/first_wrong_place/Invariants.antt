use Rattle.std.proofs.Common.{◌≡◌, [], take, drop}
use Rattle.ckpt_pages.specs.Sound.{first_wrong, is_wrong_place}
use Rattle.ckpt_pages.proofs.faults.first_wrong_place.Given as goal

abbrev pub invariant-loop-i : goal.invariant-loop-i
invariant-loop-i l = first_wrong (is_wrong_place l.tables) (take l.i l.tables.owners) l.i (drop l.i l.tables.owners) ≡ first_wrong (is_wrong_place l.tables) [] 0 l.tables.owners

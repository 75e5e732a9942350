use Rattle.std.proofs.Common.{◌≡◌, [], take, drop}
use Rattle.ckpt_pages.specs.Sound.{first_wrong, is_wrong_owner}
use Rattle.ckpt_pages.proofs.indexed.first_wrong_owner.Given as goal

abbrev pub invariant-loop-i : goal.invariant-loop-i
invariant-loop-i l =
    first_wrong (λ before g. is_wrong_owner l.tables g) (take l.i l.owners) l.i (drop l.i l.owners) ≡ first_wrong (λ before g. is_wrong_owner l.tables g) [] 0 l.owners

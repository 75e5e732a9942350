use Rattle.std.proofs.Common.{◌≡◌, [], take, drop}
use Rattle.ckpt_pages.specs.Sound.{first_wrong}
use Rattle.mas_check.specs.Groups.{is_wrong_group}
use Rattle.mas_check.proofs.groups.first_wrong_group.Given as goal

abbrev pub invariant-loop-i : goal.invariant-loop-i
invariant-loop-i l =
    first_wrong (λ before g. is_wrong_group l.tables l.groups g) (take l.i l.groups) l.i (drop l.i l.groups) ≡ first_wrong (λ before g. is_wrong_group l.tables l.groups g) [] 0 l.groups

use Rattle.std.proofs.Common.{◌≡◌, drop}
use Rattle.mas_check.specs.Groups.{prints_in}
use Rattle.mas_check.proofs.groups.prints_in.Given as goal

abbrev pub invariant-loop-slot : goal.invariant-loop-slot
invariant-loop-slot l = prints_in l.number l.index (drop l.slot-index l.slots) ≡ prints_in l.number l.index l.slots

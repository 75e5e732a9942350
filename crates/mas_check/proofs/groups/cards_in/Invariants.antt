use Rattle.std.proofs.Common.{◌≡◌, drop}
use Rattle.mas_check.specs.Groups.{cards_in}
use Rattle.mas_check.proofs.groups.cards_in.Given as goal

abbrev pub invariant-loop-slot : goal.invariant-loop-slot
invariant-loop-slot l = cards_in l.number (drop l.slot-index l.slots) ≡ cards_in l.number l.slots

use Rattle.std.proofs.Common.{◌≡◌, take}
use Rattle.operator_cmds.specs.Spellings.{classes_in}
use Rattle.operator_cmds.proofs.reading.classes_of.Given as goal

-- the classes of the bytes so far
abbrev pub invariant-loop-byte : goal.invariant-loop-byte
invariant-loop-byte l = l.classes ≡ classes_in (take l.byte-index l.part)

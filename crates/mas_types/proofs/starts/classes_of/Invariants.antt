use Rattle.std.proofs.Common.{◌≡◌, take}
use Rattle.mas_types.specs.Starts.{classes_of}
use Rattle.mas_types.proofs.starts.classes_of.Given as goal

-- the classes so far are listed
abbrev pub invariant-loop-byte : goal.invariant-loop-byte
invariant-loop-byte l = l.classes ≡ classes_of (take l.byte-index l.text)

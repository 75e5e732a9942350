use Rattle.std.proofs.Common.{◌≡◌, ◌++◌, take}
use Rattle.spool_disk.proofs.lines.push_all.Given as goal

abbrev pub invariant-loop-byte : goal.invariant-loop-byte
invariant-loop-byte l = l.list ≡ l.initial.list ++ take l.byte-index l.bytes

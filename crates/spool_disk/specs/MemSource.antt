-- What a source in memory has left, has given, and where its fault is planned.
use Rattle.std.specs.Prelude.{ℕ, Option, List, drop}
use Rattle.spool_disk.specs.declared.source.MemSource.{MemSource}

abbrev pub left_of : MemSource → List ℕ
left_of s = drop s.at s.bytes

abbrev pub given_of : MemSource → ℕ
given_of s = s.at

abbrev pub fault_of : MemSource → Option ℕ
fault_of s = s.fail_at

use Rattle.std.proofs.Common.{◌≡◌, ◌+◌, ◌*◌, ◌/◌, drop}
use Rattle.mas_types.specs.LineBytes.{lines_bytes}
use Rattle.mas_types.proofs.texts.Lines.bytes_from.Given as goal

-- the bytes that are left are those of the lines after the lines passed
abbrev pub invariant-loop-passed : goal.invariant-loop-passed
invariant-loop-passed l = l.rest ≡ lines_bytes (drop (32 * (l.at / 32) + l._passed) l.self)

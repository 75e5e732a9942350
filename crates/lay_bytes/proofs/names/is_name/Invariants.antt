use Rattle.std.proofs.Common.{◌≡◌, ◌≤◌, ◌<◌, ◌-◌, true, length, drop}
use Rattle.std.specs.List.{slice_index}
use Rattle.mas_types.specs.Names.{is_name_byte, is_padded}
use Rattle.lay_bytes.proofs.names.is_name.Given as goal

abbrev pub decreases-loop-i : goal.decreases-loop-i
decreases-loop-i l = length l.bytes - l.i

abbrev pub invariant-loop-i : goal.invariant-loop-i
invariant-loop-i l = (l.i ≤ length l.bytes) × (is_padded (drop l.i l.bytes) ≡ is_padded l.bytes) × (0 < l.i → is_name_byte (slice_index l.bytes 0) ≡ true)

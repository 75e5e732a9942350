use Rattle.std.proofs.Common.{◌≡◌, ◌≤◌, ◌-◌, ◌++◌, length}
use Rattle.script_input.proofs.reading.read_source.Given as goal

-- what was read and what is left are what was left
abbrev pub invariant-loop-bytes : goal.invariant-loop-bytes
invariant-loop-bytes g l = record {
  whole : g.S.Source.tells → l.bytes ++ g.S.Source.left l.source ≡ g.S.Source.left l.fn.source;
  within : length l.bytes ≤ 16777217;
  faults : g.S.Source.faults l.fn.source ≤ g.S.Source.faults l.source;
  room : length l.piece.items ≡ 65536;
}

abbrev pub decreases-loop-bytes : goal.decreases-loop-bytes
decreases-loop-bytes g l = 16777217 - length l.bytes

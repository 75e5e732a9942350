use Rattle.std.proofs.Common.{◌≡◌, ◌<◌, ◌≤◌, ◌++◌, take, drop, length, ℕ, List}
use Rattle.std.specs.List.{All}
use Rattle.mas_types.specs.LinesLeft.{left_in}
use Rattle.mas_types.specs.Limits.{page_bytes, line_bytes}
use Rattle.mas_types.specs.Records.{records_of}
use Rattle.spool_text.specs.Texts.{grouped_after, lines_in, lines_at}
use Rattle.spool_text.proofs.packing.put_records.Given as goal

-- the records so far, and those of the lines that still go into the group
abbrev pub invariant-loop-line : goal.invariant-loop-line
invariant-loop-line l = record {
  room : l.used < page_bytes;
  short : All (λ (line : List ℕ). length line ≤ line_bytes) (left_in l.line-iterator);
  records : take l.used l.into ++ records_of (lines_in 0 (grouped_after l.used (left_in l.line-iterator))) ≡ records_of (lines_at 0 (drop l.first l.lines));
}

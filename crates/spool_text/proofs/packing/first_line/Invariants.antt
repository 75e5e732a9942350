use Rattle.std.proofs.Common.{◌≡◌, ◌≤◌, ◌<◌, drop}
use Rattle.mas_types.specs.Limits.{page_bytes}
use Rattle.mas_types.specs.Owners.{groups_after}
use Rattle.spool_text.specs.Texts.{grouped_after, lines_in, lines_at}
use Rattle.spool_text.proofs.packing.first_line.Given as goal

-- the group that is sought is, of the rest, the one that so many more are before
abbrev pub invariant-loop-at : goal.invariant-loop-at
invariant-loop-at l = record {
  room : l.used ≤ page_bytes;
  later : 1 ≤ l.more;
  there : l.more < groups_after l.used (drop l.at l.lines);
  same : lines_in l.more (grouped_after l.used (drop l.at l.lines)) ≡ lines_at l.group l.lines;
}

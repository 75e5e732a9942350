use Rattle.std.proofs.Common.{◌≡◌, ◌++◌, take}
use Rattle.spool_disk.specs.Deeds.{lines_of}
use Rattle.spool_disk.specs.Entries.{kept_in, deeds_of}
use Rattle.spool_disk.specs.Whole.{whole_lines}
use Rattle.spool_disk.proofs.lines.add_wholes.Given as goal

abbrev pub invariant-loop-entry : goal.invariant-loop-entry
invariant-loop-entry l = record {
  used : l.from ≡ kept_in (take l.entry-index l.log);
  lines : l.lines ≡ l.initial.lines ++ whole_lines (lines_of l.place (deeds_of (take l.entry-index l.log) l.arena));
}

use Rattle.std.proofs.Common.{◌≡◌, ◌++◌, ℕ, length, take}
use Rattle.spool_disk.specs.Deeds.{lines_of}
use Rattle.spool_disk.specs.Entries.{kept_in, deeds_of}
use Rattle.spool_disk.proofs.crash.add_lines.Given as goal

abbrev pub invariant-loop-entry : goal.invariant-loop-entry
invariant-loop-entry l = record {
  used : l.from ≡ kept_in (take l.entry-index l.log);
  lines : (place : ℕ) → lines_of place (deeds_of l.said.items l.text.items) ≡ lines_of place (deeds_of l.initial.said.items l.initial.text.items) ++ lines_of place (deeds_of (take l.entry-index l.log) l.arena);
  fits : kept_in l.said.items ≡ length l.text.items;
}

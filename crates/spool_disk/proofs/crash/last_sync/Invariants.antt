use Rattle.std.proofs.Common.{◌≤◌, take, drop}
use Rattle.spool_disk.specs.Settled.{IsQuiet, EndsSynced}
use Rattle.spool_disk.proofs.crash.last_sync.Given as goal

abbrev pub invariant-loop-i : goal.invariant-loop-i
invariant-loop-i l = record {
  within : l.last ≤ l.i;
  ends : EndsSynced l.slot (take l.last l.log);
  quiet : IsQuiet l.slot (drop l.last (take l.i l.log));
}

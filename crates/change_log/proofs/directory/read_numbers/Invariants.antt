use Rattle.std.proofs.Common.{◌≡◌, take, drop, length}
use Rattle.mas_types.specs.Limits.{pages_most}
use Rattle.change_log.specs.Directories.{words}
use Rattle.change_log.proofs.directory.read_numbers.Given as goal

abbrev pub invariant-loop-i : goal.invariant-loop-i
invariant-loop-i l = record {
  size : length l.numbers ≡ pages_most;
  read : take l.i l.numbers ≡ words l.i (drop 16 l.block);
}

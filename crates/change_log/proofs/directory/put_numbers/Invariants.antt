use Rattle.std.proofs.Common.{◌≡◌, ◌+◌, ◌*◌, ◌++◌, take, drop}
use Rattle.change_log.specs.Directories.{word_bytes}
use Rattle.change_log.proofs.directory.put_numbers.Given as goal

abbrev pub invariant-loop-i : goal.invariant-loop-i
invariant-loop-i l = l.into ≡ take 16 l.fn.into ++ word_bytes (take l.i l.numbers) ++ drop (16 + 2 * l.i) l.fn.into

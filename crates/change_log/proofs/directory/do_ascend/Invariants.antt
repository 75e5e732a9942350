use Rattle.std.proofs.Common.{◌≡◌, drop}
use Rattle.change_log.specs.Directories.{ascend}
use Rattle.change_log.proofs.directory.do_ascend.Given as goal

abbrev pub invariant-loop-number : goal.invariant-loop-number
invariant-loop-number l = ascend l.bound l.last (drop l.number-index l.numbers) ≡ ascend l.bound l.first l.numbers

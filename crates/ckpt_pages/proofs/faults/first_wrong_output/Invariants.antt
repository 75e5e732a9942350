use Rattle.std.proofs.Common.{◌≡◌, ◌+◌, [], take, drop, length}
use Rattle.ckpt_pages.specs.Sound.{first_wrong, is_wrong_output_slot}
use Rattle.ckpt_pages.proofs.faults.first_wrong_output.Given as goal

abbrev pub invariant-loop-i : goal.invariant-loop-i
invariant-loop-i l =
    first_wrong (is_wrong_output_slot l.tables) (take l.i l.tables.outputs) (length l.tables.jobs + l.i) (drop l.i l.tables.outputs) ≡ first_wrong (is_wrong_output_slot l.tables) [] (length l.tables.jobs) l.tables.outputs

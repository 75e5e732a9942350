use Rattle.std.proofs.Common.{◌≡◌, ◌+◌, [], take, drop, length}
use Rattle.ckpt_pages.specs.Keys.{AreOutputKeys}
use Rattle.ckpt_pages.specs.Sound.{first_wrong, is_wrong_output_slot}
use Rattle.ckpt_pages.proofs.indexed.first_wrong_output.Given as goal

abbrev pub invariant-loop-i : goal.invariant-loop-i
invariant-loop-i l = record {
  first :
      first_wrong (is_wrong_output_slot l.tables) (take l.i l.slots) (length l.tables.jobs + l.i) (drop l.i l.slots)
      ≡ first_wrong (is_wrong_output_slot l.tables) [] (length l.tables.jobs) l.slots;
  keys : AreOutputKeys l.outputs (take l.i l.slots);
}

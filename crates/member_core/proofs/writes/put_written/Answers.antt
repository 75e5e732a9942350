use Rattle.std.proofs.Common.{◌≤◌, length, sym, arith}
use Rattle.member_core.specs.Events.{has_written, written_stage}
use Rattle.member_core.proofs.Places.{change_past, change_found}
use Rattle.member_core.proofs.writes.put_written.Goals as goal

pub returns-then-m-len : goal.returns-then-m-len
returns-then-m-len c =
    rw (c.written_stage-stage.ensures, c.new.ensures)
    (sym (change_found (has_written (written_stage c.args.m)) c.args.m.0 c.args.members.now c.item_mut-member.result.now c.item_mut-member.ensures.value))

pub returns-else-m-len : goal.returns-else-m-len
returns-else-m-len c = let past : length c.args.members.now ≤ c.args.m.0 = omega arith in sym (change_past (has_written (written_stage c.args.m)) c.args.m.0 c.args.members.now past)

use Rattle.std.proofs.Common.{◌≡◌, ◌+◌, take, true, false, arith}
use Rattle.operator_cmds.specs.Walks.{may_begin}
use Rattle.operator_cmds.proofs.Reaching.{reach_more, reach_ends}
use Rattle.operator_cmds.proofs.walks.reach.Goals as goal

pub loop-n-preserved : goal.loop-n-preserved
loop-n-preserved c =
    let begins : may_begin c.args.place (take (c.loop-n.n + 1) c.args.text.now) ≡ true = cc in
    record {
      within = omega arith;
      left = omega (arith, reach_more c.args.place c.args.text.now c.loop-n.n (omega arith) begins, c.loop-n.invariant.left);
    }

pub returns-else-may_begin-clause-value : goal.returns-else-may_begin-clause-value
returns-else-may_begin-clause-value c =
    let ends : may_begin c.args.place (take (c.loop-n.n + 1) c.args.text.now) ≡ false = cc in
    omega (arith, reach_ends c.args.place c.args.text.now c.loop-n.n (omega arith) ends, c.loop-n.invariant.left)

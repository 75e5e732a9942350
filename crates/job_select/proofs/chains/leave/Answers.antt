use Rattle.job_select.proofs.MoveLemmas.{leaves_same, leaves_other}
use Rattle.job_select.proofs.chains.leave.Goals as goal

pub returns-then-is_same : goal.returns-then-is_same
returns-then-is_same c = leaves_same c.args.slot c.args.from c.args.to c.args.chains.now (c.is_same.ensures.same c.if-is_same.true)

pub returns : goal.returns
returns c =
    leaves_other c.args.slot c.args.from c.args.to c.args.chains.now c.leave_one.new.chains (c.is_same.ensures.apart c.if-is_same.false)
    c.leave_one.ensures

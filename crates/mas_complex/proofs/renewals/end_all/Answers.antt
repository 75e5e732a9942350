use Rattle.mas_complex.proofs.Answering.{◌<◌, length, arith, Renewal, ended_at, change_here}
use Rattle.mas_complex.proofs.renewals.end_all.Goals as goal

pub loop-renewal-preserved : goal.loop-renewal-preserved
loop-renewal-preserved c =
    change_here c.loop-renewal.renewals c.loop-renewal.renewal-index (omega arith) (λ (r : Renewal). ended_at c.args.now r) _ _ _ c.loop-renewal.invariant c.end.ensures

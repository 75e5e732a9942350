use Rattle.std.proofs.Common.{◌≤◌, arith}
use Rattle.queue_effect.proofs.GroupLemmas.{groups_small}
use Rattle.queue_effect.proofs.Marking.{then_touched}
use Rattle.queue_effect.proofs.input.enter_job.Goals as goal

pub hand_out-requires-clause-few : goal.hand_out-requires-clause-few
hand_out-requires-clause-few c =
    let small : c.groups_needed.result ≤ 10000 = rw c.groups_needed.ensures (groups_small c.args.text.now c.requires.text) in
    omega arith

pub returns-clause-touches : goal.returns-clause-touches
returns-clause-touches c = then_touched _ _ _ _ _ _ c.put_job.ensures.touches (c.put_job.ensures.fit c.args.found.now.item c.requires.here (c.entered_record-entered.ensures.fit c.args.tables.now.order)) c.hand_out.ensures.touches

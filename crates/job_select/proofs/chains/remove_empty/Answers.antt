use Rattle.job_select.proofs.MoveLemmas.{removed_empty}
use Rattle.job_select.proofs.chains.remove_empty.Goals as goal

pub returns : goal.returns
returns c =
    removed_empty c.args.chains.now c.swap_remove-removed.new.self c.args.chain c.requires c.swap_remove-removed.ensures.updates.1
    c.swap_remove-removed.ensures.updates.2

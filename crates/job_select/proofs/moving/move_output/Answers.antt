use Rattle.job_select.proofs.MoveLemmas.{joined_left, moves_as, stands_as}
use Rattle.job_select.proofs.moving.move_output.Goals as goal

pub join-requires : goal.join-requires
join-requires c = stands_as c.args.chains.now c.args.slot c.chain_of_output-chain.result _ c.chain_of_output-chain.ensures c.requires

pub returns-clause-ok : goal.returns-clause-ok
returns-clause-ok c =
    moves_as c.args.chains.now c.leave.new.chains c.args.slot c.chain_of_output-chain.result _ c.chain_of_output-new_chain.result _
    c.chain_of_output-chain.ensures c.chain_of_output-new_chain.ensures
    (joined_left c.args.slot c.chain_of_output-chain.result c.chain_of_output-new_chain.result c.args.chains.now c.join.new.chains c.leave.new.chains
    c.in_ok-join.ensures.ok c.leave.ensures)

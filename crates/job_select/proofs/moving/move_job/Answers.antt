use Rattle.job_select.proofs.MoveLemmas.{joined_left, joined_undone, moves_as, stands_as}
use Rattle.job_select.proofs.moving.move_job.Goals as goal

pub join-requires : goal.join-requires
join-requires c = stands_as c.args.numbers.now c.args.slot c.chain_of_number-number.result _ c.chain_of_number-number.ensures c.requires.number

pub join-requires-2 : goal.join-requires-2
join-requires-2 c = stands_as c.args.chains.now c.args.slot c.chain_of_job-chain.result _ c.chain_of_job-chain.ensures c.requires.chain

pub returns-in-Ok-clause-numbers : goal.returns-in-Ok-clause-numbers
returns-in-Ok-clause-numbers c =
    moves_as c.args.numbers.now c.leave.new.chains c.args.slot c.chain_of_number-number.result _ c.chain_of_number-new_number.result _
    c.chain_of_number-number.ensures c.chain_of_number-new_number.ensures
    (joined_left c.args.slot c.chain_of_number-number.result c.chain_of_number-new_number.result c.args.numbers.now c.join.new.chains c.leave.new.chains
    c.in_ok-join.ensures.ok c.leave.ensures)

pub returns-in-Ok-clause-chains : goal.returns-in-Ok-clause-chains
returns-in-Ok-clause-chains c =
    moves_as c.args.chains.now c.leave-in-Ok.new.chains c.args.slot c.chain_of_job-chain.result _ c.chain_of_job-new_chain.result _
    c.chain_of_job-chain.ensures c.chain_of_job-new_chain.ensures
    (joined_left c.args.slot c.chain_of_job-chain.result c.chain_of_job-new_chain.result c.args.chains.now c.join-2.new.chains c.leave-in-Ok.new.chains
    c.in-Ok.ensures.ok c.leave-in-Ok.ensures)

pub returns-in-Err-clause-no_number : goal.returns-in-Err-clause-no_number
returns-in-Err-clause-no_number c =
    joined_undone c.args.slot c.chain_of_number-number.result c.chain_of_number-new_number.result c.args.numbers.now c.join.new.chains c.leave-in-Err.new.chains
    (stands_as c.args.numbers.now c.args.slot c.chain_of_number-number.result _ c.chain_of_number-number.ensures c.requires.number)
    c.in_ok-join.ensures.ok c.leave-in-Err.ensures

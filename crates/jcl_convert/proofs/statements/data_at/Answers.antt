use Rattle.std.proofs.Common.{◌≡◌, ◌+◌, ◌≤◌, drop, arith, rules}
use Rattle.card_reader.specs.Cards.{operation_of}
use Rattle.card_reader.specs.Statements.{ending_of}
use Rattle.jcl_convert.proofs.Data.{data_known, data_behind-fewer}
use Rattle.jcl_convert.proofs.statements.data_at.Goals as goal

pub overflow_add-from-3 : goal.overflow_add-from-3
overflow_add-from-3 c =
    let fewer : c.data_from-found.result.cards ≤ c.data_from-found.result.taken = rw c.data_from-found.ensures.value (data_behind-fewer c.ending_of-ending.result (drop (c.args.at + 1 + c.in_ok-operands.operands.cards) c.args.text.now)) in
    omega arith

pub part_of-requires-clause-within : goal.part_of-requires-clause-within
part_of-requires-clause-within c =
    let fewer : c.data_from-found.result.cards ≤ c.data_from-found.result.taken = rw c.data_from-found.ensures.value (data_behind-fewer c.ending_of-ending.result (drop (c.args.at + 1 + c.in_ok-operands.operands.cards) c.args.text.now)) in
    omega arith

pub returns : goal.returns
returns c =
    let ending : c.ending_of-ending.result ≡ ending_of (operation_of c.args.card.now) c.in_ok-operands.operands.text = search rules in
    rw (data_known c.args.text.now c.args.at c.args.card.now c.in_ok-operands.operands c.ending_of-ending.result c.data_from-found.result c.in_ok-operands.ensures.value ending c.data_from-found.ensures.value) at c.part_of.ensures

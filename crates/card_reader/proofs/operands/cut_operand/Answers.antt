use Rattle.std.proofs.Common.{◌+◌}
use Rattle.card_reader.proofs.Fronts.{rest_cut}
use Rattle.card_reader.proofs.Parts.{parts_cut}
use Rattle.card_reader.proofs.operands.cut_operand.Goals as goal

pub returns-then-n-text-clause-parts : goal.returns-then-n-text-clause-parts
returns-then-n-text-clause-parts c =
    rw (rest_cut (c.operand_length-n.result + 1) c.args.text.now) (parts_cut c.args.text.now c.operand_length-n.result c.operand_length-n.ensures c.if-n-text.true)

use Rattle.jcl_convert.proofs.Data.{tail_cut}
use Rattle.jcl_convert.proofs.dds.operands_behind.Goals as goal

pub returns : goal.returns
returns c = tail_cut c.args.field.now c.cut_operand.result.0.now c.cut_operand.result.1 c.cut_operand.ensures.parts

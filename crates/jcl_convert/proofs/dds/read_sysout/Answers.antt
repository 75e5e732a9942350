use Rattle.std.proofs.Common.{refl}
use Rattle.card_reader.proofs.Parts.{operands_some}
use Rattle.jcl_convert.proofs.dds.read_sysout.Goals as goal

pub loop-rest-init : goal.loop-rest-init
loop-rest-init c = rw (operands_some c.args.field.now c.requires, c.no_sysout-so_far.ensures) refl

use Rattle.operator_cmds.proofs.Computing.{computed_spelled, spelled_computed}
use Rattle.operator_cmds.proofs.laws.law_of_commands.Goals as goal

pub returns : goal.returns
returns c text typed = (computed_spelled text typed, spelled_computed text typed)

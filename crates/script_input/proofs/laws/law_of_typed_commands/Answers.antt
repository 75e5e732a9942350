use Rattle.script_input.proofs.TypeLemmas.{types_commands}
use Rattle.script_input.proofs.laws.law_of_typed_commands.Goals as goal

pub returns : goal.returns
returns c = types_commands c.law_of_scripts.ensures

use Rattle.script_laws.proofs.ScriptFits.{script-within}
use Rattle.script_laws.proofs.law_of_limits.Goals as goal

pub returns : goal.returns
returns c = script-within c.law_of_commands.ensures

use Rattle.gate_turns.proofs.Acted.{says_may}
use Rattle.gate_turns.proofs.Actors.{lines_named, says_for}
use Rattle.gate_turns.proofs.Quiet.{says_change}
use Rattle.gate_turns.proofs.laws.law_of_lines.Goals as goal

pub returns : goal.returns
returns c = record { says = says_may; said_for = says_for; change = says_change; named = lines_named }

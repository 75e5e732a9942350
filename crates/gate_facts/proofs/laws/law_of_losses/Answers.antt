use Rattle.gate_facts.proofs.Losses.{holders_spared, lost_again, nobody_else, losses_known}
use Rattle.gate_facts.proofs.laws.law_of_losses.Goals as goal

pub returns : goal.returns
returns c = record { spared = holders_spared; again = lost_again; nobody_else = nobody_else; known = losses_known }

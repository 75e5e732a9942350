use Rattle.gate_facts.proofs.Turns.{others_know, left_known}
use Rattle.gate_facts.proofs.laws.law_of_turns.Goals as goal

pub returns : goal.returns
returns c = record { others = others_know; itself = left_known }

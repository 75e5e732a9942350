use Rattle.gate_turns.proofs.TellLemmas.{closing_told, told_closing}
use Rattle.gate_turns.proofs.laws.law_of_told_steps.Goals as goal

pub returns : goal.returns
returns c = record {
  closings = closing_told;
  only = λ m line some. let told = told_closing m line some in record { end = told.0; telling = told.1; is = told.2 };
}

use Rattle.paper_laws.proofs.Effects.{commands_take}
use Rattle.paper_laws.proofs.Entries.{entries_take}
use Rattle.paper_laws.proofs.outputs.law_of_outputs.Goals as goal

pub returns : goal.returns
returns c = record {
  commands = commands_take;
  entries = entries_take;
}

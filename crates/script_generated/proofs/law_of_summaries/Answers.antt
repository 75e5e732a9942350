use Rattle.script_generated.proofs.Tables.{sums_are}
use Rattle.script_generated.proofs.law_of_summaries.Goals as goal

pub returns : goal.returns
returns c = sums_are

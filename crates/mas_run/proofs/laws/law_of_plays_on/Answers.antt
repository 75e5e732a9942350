-- A member was not stopped.
use Rattle.mas_run.proofs.CalmRunLemmas.{plays_on}
use Rattle.mas_run.proofs.laws.law_of_plays_on.Goals as goal

pub returns : goal.returns
returns c = record { bare = plays_on ⊥; told = plays_on (Unit {0}) }

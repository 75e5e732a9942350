use Rattle.nje_store.proofs.WireLemmas.{keeps_custody, judges_as_got, gets_each_once}
use Rattle.nje_store.proofs.laws.law_of_custody.Goals as goal

pub returns-clause-judged : goal.returns-clause-judged
returns-clause-judged c = judges_as_got

pub returns-clause-kept : goal.returns-clause-kept
returns-clause-kept c = keeps_custody

pub returns-clause-once : goal.returns-clause-once
returns-clause-once c = gets_each_once

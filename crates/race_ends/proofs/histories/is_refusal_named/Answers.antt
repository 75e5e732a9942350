use Rattle.race_ends.proofs.HistoryLemmas.{other_refusal}
use Rattle.race_ends.proofs.histories.is_refusal_named.Goals as goal

pub returns-in_default : goal.returns-in_default
returns-in_default c is = other_refusal c.args.why.now c.in_default.not-InUse

use Rattle.race_ends.proofs.HistoryLemmas.{other_reply}
use Rattle.race_ends.proofs.histories.is_reply_named.Goals as goal

pub returns-in_default : goal.returns-in_default
returns-in_default c is = other_reply c.args.reply.now c.in_default.not-No

use Rattle.change_log.specs.LogImages.{stands_now, stands_reads}
use Rattle.change_log.proofs.laws.law_of_logs_at_rest.Goals as goal

pub returns : goal.returns
returns c n lists pages disk stands = (stands_now n lists pages disk stands, stands_reads n lists pages disk stands)

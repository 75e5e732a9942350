use Rattle.ckpt_pages.proofs.DecodingLemmas.{one_value, one_queue}
use Rattle.ckpt_pages.proofs.decoding.law_of_checkpoints.Goals as goal

pub returns-clause-tables : goal.returns-clause-tables
returns-clause-tables c = one_value

pub returns-clause-queue : goal.returns-clause-queue
returns-clause-queue c = one_queue

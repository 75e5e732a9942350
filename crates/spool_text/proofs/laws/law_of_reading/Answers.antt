use Rattle.spool_text.proofs.RecordLemmas.{held_from_read, read_from_held}
use Rattle.spool_text.proofs.laws.law_of_reading.Goals as goal

pub returns : goal.returns
returns c = λ group lines. (held_from_read group lines, read_from_held group lines)

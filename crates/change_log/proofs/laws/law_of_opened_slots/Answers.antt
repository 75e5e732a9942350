use Rattle.change_log.specs.LogImages.{opening_reads}
use Rattle.change_log.proofs.laws.law_of_opened_slots.Goals as goal

pub returns : goal.returns
returns c n s numbers lists was next disk inside any turning above was_size next_size here there =
    opening_reads n s numbers lists was next disk inside any turning above was_size next_size here there

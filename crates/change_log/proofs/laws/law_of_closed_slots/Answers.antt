use Rattle.change_log.specs.LogImages.{closing_reads}
use Rattle.change_log.proofs.laws.law_of_closed_slots.Goals as goal

pub returns : goal.returns
returns c n s numbers lists pages disk inside any turning lists_them below size here home =
    closing_reads n s numbers lists pages disk inside any turning lists_them below size here home

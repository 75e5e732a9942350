use Rattle.std.proofs.Common.{◌∙◌, ℕ, length, ap, sym}
use Rattle.ckpt_tables.specs.Pages.{page_in}
use Rattle.member_node.proofs.WantedLemmas.{levels_many}
use Rattle.member_node.proofs.BatchLemmas.{refilled}
use Rattle.member_node.proofs.reading.take_levels.Goals as goal

pub write_levels-requires-clause-many : goal.write_levels-requires-clause-many
write_levels-requires-clause-many c = ap (length {A = ℕ}) c.as_mut_slice.ensures.value ∙ c.requires.many

pub returns : goal.returns
returns c =
    let many = ap (length {A = ℕ}) c.write_levels.ensures ∙ levels_many (page_in c.args.pages.now 0) (length c.args.pages.now) ∙ sym c.requires.many in
    refilled c.args.levels.now c.write_levels.new.levels many ∙ c.write_levels.ensures

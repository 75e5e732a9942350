use Rattle.member_node.proofs.CourseLemmas.{no as not_both}
use Rattle.member_node.proofs.MirrorLemmas.{drawn_all, mirror_all}
use Rattle.member_node.proofs.member.Member.with.Goals as goal

pub invariant_of-result-clause-mirrored : goal.invariant_of-result-clause-mirrored
invariant_of-result-clause-mirrored c = mirror_all _ _ _ c.all.ensures

pub invariant_of-result-clause-unchanged : goal.invariant_of-result-clause-unchanged
invariant_of-result-clause-unchanged c = drawn_all c.all-2.result.pages c.args.checkpoint.tables c.args.checkpoint.levels c.args.checkpoint.pages c.all-2.ensures c.requires

pub invariant_of-result-clause-indexed : goal.invariant_of-result-clause-indexed
invariant_of-result-clause-indexed c current = absurd (not_both c.none.result.current current c.none.ensures)

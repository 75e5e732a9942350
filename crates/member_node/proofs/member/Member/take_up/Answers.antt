use Rattle.std.proofs.Common.{sym}
use Rattle.member_node.proofs.member.Member.take_up.Goals as goal

-- what the room was is its own, and what was its own is the room
pub invariant_of-self-clause-mirrored : goal.invariant_of-self-clause-mirrored
invariant_of-self-clause-mirrored c =
    rw (c.replace.ensures.value, c.replace.ensures.after, c.replace-read.ensures.value) (λ q from few to1 to2 off. sym (c.args.self.now.mirrored q from few to2 to1 off))

pub invariant_of-self-clause-unchanged : goal.invariant_of-self-clause-unchanged
invariant_of-self-clause-unchanged c = rw (c.replace.ensures.after, c.replace-read.ensures.value) (λ p lt off. c.requires.drawn p lt)

pub invariant_of-self-clause-ordered : goal.invariant_of-self-clause-ordered
invariant_of-self-clause-ordered c read = c.requires.low

pub invariant_of-self-clause-indexed : goal.invariant_of-self-clause-indexed
invariant_of-self-clause-indexed c = c.build.ensures

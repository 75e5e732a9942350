use Rattle.std.proofs.Common.{◌≡◌, ◌∙◌, ◌≤◌, length, sym, subst}
use Rattle.mas_types.specs.Limits.{pages_most}
use Rattle.member_node.specs.declared.member.Member.{Member}
use Rattle.member_racing.specs.Opened.{IsBlankFor}
use Rattle.member_racing.proofs.taking.part_beside.Goals as goal

pub with-requires : goal.with-requires
with-requires c = subst (λ (n : Member). length n.checkpoint.pages ≤ pages_most) (sym c.replace-checkpoint.ensures.value) c.requires.pages

pub returns-clause-other : goal.returns-clause-other
returns-clause-other c =
    let b = c.in_ok-blank.ensures in
    let blank : Member = c.in_ok-blank.blank in
    let same : c.replace-other.result ≡ blank = c.replace-other.ensures.value ∙ c.replace-checkpoint.ensures.after in
    subst (λ (o : Member). IsBlankFor c.args.member.now o) (sym same)
    (record { anew = record { id = b.id; batch = b.batch; room = b.room; fresh = b.fresh }; config = b.config; drawn = b.drawn })

use Rattle.member_work.proofs.Names.{◌∙◌, ap, sym, Bool, [], if◌then◌else◌, groups_of_outputs}
use Rattle.member_work.proofs.giving.groups_for_end.Goals as goal

pub returns-then-is_cancelled-clause-groups : goal.returns-then-is_cancelled-clause-groups
returns-then-is_cancelled-clause-groups c Q told =
    sym (ap (λ (b : Bool). groups_of_outputs (if b then [] else c.args.specs.now)) (sym (c.is_cancelled.ensures Q told) ∙ c.if-is_cancelled.true))

pub returns-clause-groups : goal.returns-clause-groups
returns-clause-groups c Q told =
    c.groups_of_outputs.ensures.groups ∙ sym (ap (λ (b : Bool). groups_of_outputs (if b then [] else c.args.specs.now)) (sym (c.is_cancelled.ensures Q told) ∙ c.if-is_cancelled.false))

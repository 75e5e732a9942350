use Rattle.std.proofs.Common.{◌∙◌, get_or, None, sym}
use Rattle.mas_types.specs.declared.queues.Owner.TheVariants as owner
use Rattle.ckpt_pages.proofs.KeyLemmas.{step_on, stop_here}
use Rattle.mas_check.specs.declared.groups.Group.{Group}
use Rattle.mas_check.specs.Groups.{is_wrong_group}
use Rattle.mas_check.proofs.TallyLemmas.{wrong_group}
use Rattle.mas_check.proofs.groups.first_wrong_group.Goals as goal

abbrev none : Group
none = record { owner = owner.Free; records = None }

pub loop-i-preserved : goal.loop-i-preserved
loop-i-preserved c =
    let t = c.args.tables.now in
    let groups = c.args.groups.now in
    let same = wrong_group t c.in_ok-tallies.tallies groups c.in_ok-tallies.ensures (get_or groups c.loop-i.i none) in
    step_on (λ before g. is_wrong_group t groups g) groups c.loop-i.i c.loop-i.i none _ c.loop-i-test.true c.loop-i.invariant (sym same ∙ sym c.is_wrong_group.ensures ∙ c.if-is_wrong_group.false)

pub returns-then-is_wrong_group-clause-first : goal.returns-then-is_wrong_group-clause-first
returns-then-is_wrong_group-clause-first c =
    let t = c.args.tables.now in
    let groups = c.args.groups.now in
    let same = wrong_group t c.in_ok-tallies.tallies groups c.in_ok-tallies.ensures (get_or groups c.loop-i.i none) in
    stop_here (λ before g. is_wrong_group t groups g) groups c.loop-i.i c.loop-i.i none _ c.loop-i-test.true c.loop-i.invariant (sym same ∙ sym c.is_wrong_group.ensures ∙ c.if-is_wrong_group.true)

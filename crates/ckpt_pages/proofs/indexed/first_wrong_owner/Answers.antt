use Rattle.std.proofs.Common.{◌≡◌, ◌∙◌, [], List, None, Some, get_or, sym, subst}
use Rattle.mas_types.specs.declared.queues.Owner.{Owner}
use Rattle.mas_types.specs.declared.queues.Owner.TheVariants as owner
use Rattle.ckpt_pages.specs.Sound.{first_wrong, is_wrong_owner}
use Rattle.ckpt_pages.proofs.KeyLemmas.{wrong_owner, step_on, stop_here, none_wrong}
use Rattle.ckpt_pages.proofs.indexed.first_wrong_owner.Goals as goal

pub loop-i-preserved : goal.loop-i-preserved
loop-i-preserved c =
    let t = c.args.tables.now in
    let same = wrong_owner t c.args.jobs.now c.args.outputs.now c.requires (get_or c.as_slice-owners.result.now c.loop-i.i owner.Free) in
    step_on (λ before g. is_wrong_owner t g) c.as_slice-owners.result.now c.loop-i.i c.loop-i.i owner.Free _ c.loop-i-test.true c.loop-i.invariant (sym same ∙ sym c.is_wrong_owner.ensures ∙ c.if-is_wrong_owner.false)

pub returns-then-is_wrong_owner-clause-first : goal.returns-then-is_wrong_owner-clause-first
returns-then-is_wrong_owner-clause-first c =
    let t = c.args.tables.now in
    let same = wrong_owner t c.args.jobs.now c.args.outputs.now c.requires (get_or c.as_slice-owners.result.now c.loop-i.i owner.Free) in
    subst (λ (os : List Owner). Some c.loop-i.i ≡ first_wrong (λ before g. is_wrong_owner t g) [] 0 os) c.as_slice-owners.ensures
    (stop_here (λ before g. is_wrong_owner t g) c.as_slice-owners.result.now c.loop-i.i c.loop-i.i owner.Free _ c.loop-i-test.true c.loop-i.invariant (sym same ∙ sym c.is_wrong_owner.ensures ∙ c.if-is_wrong_owner.true))

pub returns-clause-first : goal.returns-clause-first
returns-clause-first c =
    let t = c.args.tables.now in
    subst (λ (os : List Owner). None ≡ first_wrong (λ before g. is_wrong_owner t g) [] 0 os) c.as_slice-owners.ensures
    (none_wrong (λ before g. is_wrong_owner t g) c.as_slice-owners.result.now c.loop-i.i c.loop-i.i _ c.loop-i-test.false c.loop-i.invariant)

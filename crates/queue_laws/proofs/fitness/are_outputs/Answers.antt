use Rattle.std.proofs.Common.{◌≤◌, List, take, get_or, length, All, refl, sym, ◌∙◌, subst}
use Rattle.std.proofs.lemmas.List.{take_more, take_all}
use Rattle.std.proofs.lemmas.List.Elements.{All-push}
use Rattle.mas_types.specs.declared.jobs.OutSpec.{OutSpec}
use Rattle.mas_types.specs.Fit.{IsOutSpec}
use Rattle.queue_laws.proofs.fitness.are_outputs.Goals as goal

pub loop-spec-preserved : goal.loop-spec-preserved
loop-spec-preserved c =
    let specs : List OutSpec = c.as_slice-specs.result.now in
    let at = c.loop-spec.spec-index in
    let here : IsOutSpec (get_or c.as_slice-specs.result.now c.loop-spec.spec-index c.spec-item.result) = subst IsOutSpec c.spec-item.is (c.is_output.ensures.0 c.if-not-is_output.false) in
    subst (λ (xs : List OutSpec). All IsOutSpec xs) (sym (take_more specs at c.spec-item.result c.loop-spec-test.true))
    (All-push IsOutSpec (take at specs) (get_or specs at c.spec-item.result) c.loop-spec.invariant here)

pub returns : goal.returns
returns c =
    let specs : List OutSpec = c.as_slice-specs.result.now in
    let whole = take_all c.loop-spec.spec-index c.as_slice-specs.result.now c.loop-spec-test.false ∙ c.as_slice-specs.ensures in
    let few : length c.args.specs.now ≤ 32 = rw (← c.as_slice-specs.ensures) c.if-specs.false in
    (λ yes. (few, subst (λ (xs : List OutSpec). All IsOutSpec xs) whole c.loop-spec.invariant), λ fit. refl)

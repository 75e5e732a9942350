use Rattle.std.proofs.Common.{◌≡◌, ◌∙◌, [], List, None, Some, refl, take, sym, subst}
use Rattle.std.proofs.lemmas.List.{take_more}
use Rattle.mas_types.specs.declared.queues.Owner.{Owner}
use Rattle.ckpt_pages.specs.Keys.{ArePlaceKeys}
use Rattle.ckpt_pages.specs.Sound.{first_wrong, is_wrong_place}
use Rattle.ckpt_pages.proofs.KeyLemmas.{wrong_place, step_on, stop_here, none_wrong}
use Rattle.ckpt_pages.proofs.indexed.first_wrong_place.Goals as goal

pub loop-i-init : goal.loop-i-init
loop-i-init c = record { first = refl; keys = c.new-before.ensures }

pub loop-i-preserved : goal.loop-i-preserved
loop-i-preserved c =
    let t = c.args.tables.now in
    let owners = c.as_slice-owners.result.now in
    let i = c.loop-i.i in
    let inv = c.loop-i.invariant in
    let all = subst (λ (os : List Owner). ArePlaceKeys c.in_ok-all.all os) c.as_slice-owners.ensures c.in_ok-all.ensures in
    let same = wrong_place t c.in_ok-all.all c.loop-i.before (take i owners) _ all inv.keys in
    record {
      first = step_on (is_wrong_place t) owners i i _ _ c.loop-i-test.true inv.first (sym same ∙ sym c.is_wrong_place.ensures ∙ c.if-is_wrong_place.false);
      keys = subst (λ (os : List Owner). ArePlaceKeys c.add.new.self os) (sym (take_more owners i _ c.loop-i-test.true)) (c.in_ok-add.ensures (take i owners) inv.keys);
    }

pub returns-then-is_wrong_place-clause-first : goal.returns-then-is_wrong_place-clause-first
returns-then-is_wrong_place-clause-first c =
    let t = c.args.tables.now in
    let owners = c.as_slice-owners.result.now in
    let i = c.loop-i.i in
    let inv = c.loop-i.invariant in
    let all = subst (λ (os : List Owner). ArePlaceKeys c.in_ok-all.all os) c.as_slice-owners.ensures c.in_ok-all.ensures in
    let same = wrong_place t c.in_ok-all.all c.loop-i.before (take i owners) _ all inv.keys in
    subst (λ (os : List Owner). Some i ≡ first_wrong (is_wrong_place t) [] 0 os) c.as_slice-owners.ensures
    (stop_here (is_wrong_place t) owners i i _ _ c.loop-i-test.true inv.first (sym same ∙ sym c.is_wrong_place.ensures ∙ c.if-is_wrong_place.true))

pub returns-clause-first : goal.returns-clause-first
returns-clause-first c =
    let t = c.args.tables.now in
    subst (λ (os : List Owner). None ≡ first_wrong (is_wrong_place t) [] 0 os) c.as_slice-owners.ensures
    (none_wrong (is_wrong_place t) c.as_slice-owners.result.now c.loop-i.i c.loop-i.i _ c.loop-i-test.false c.loop-i.invariant.first)

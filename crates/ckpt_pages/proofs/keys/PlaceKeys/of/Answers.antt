use Rattle.std.proofs.Common.{List, sym, subst, take}
use Rattle.std.proofs.lemmas.List.{take_more, take_all}
use Rattle.mas_types.specs.declared.queues.Owner.{Owner}
use Rattle.ckpt_pages.specs.Keys.{ArePlaceKeys}
use Rattle.ckpt_pages.proofs.keys.PlaceKeys.of.Goals as goal

pub loop-owner-preserved : goal.loop-owner-preserved
loop-owner-preserved c =
    let owners = c.args.owners.now in
    let i = c.loop-owner.owner-index in
    subst (λ (os : List Owner). ArePlaceKeys c.add.new.self os) (sym (take_more owners i _ c.loop-owner-test.true)) (c.in_ok-add.ensures (take i owners) c.loop-owner.invariant)

pub returns : goal.returns
returns c = subst (λ (os : List Owner). ArePlaceKeys c.loop-owner.keys os) (take_all c.loop-owner.owner-index c.args.owners.now c.loop-owner-test.false) c.loop-owner.invariant

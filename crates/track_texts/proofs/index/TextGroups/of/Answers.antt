use Rattle.std.proofs.Common.{◌≡◌, List, length, sym, subst, take, arith}
use Rattle.std.proofs.lemmas.List.{take_more, take_all, length-take-le}
use Rattle.mas_types.specs.declared.queues.Owner.{Owner}
use Rattle.track_texts.specs.Index.{AreTextGroups}
use Rattle.track_texts.proofs.index.TextGroups.of.Goals as goal

pub loop-at-preserved : goal.loop-at-preserved
loop-at-preserved c =
    let owners = c.args.owners.now in
    let i = c.loop-at.at in
    let long : length (take i owners) ≡ i = length-take-le i owners (omega (arith, c.loop-at-test.true)) in
    subst (λ (os : List Owner). AreTextGroups c.add.new.self os) (sym (take_more owners i _ c.loop-at-test.true)) (c.in_ok-add.ensures (take i owners) long c.loop-at.invariant)

pub returns : goal.returns
returns c = subst (λ (os : List Owner). AreTextGroups c.loop-at.texts os) (take_all c.loop-at.at c.args.owners.now c.loop-at-test.false) c.loop-at.invariant

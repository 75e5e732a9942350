use Rattle.std.proofs.Common.{List, sym, subst, take, arith}
use Rattle.std.proofs.lemmas.List.{take_more, take_all}
use Rattle.mas_check.specs.declared.groups.Group.{Group}
use Rattle.mas_check.specs.Tallies.{AreTallies}
use Rattle.mas_check.proofs.tallies.Tallies.of.Goals as goal

pub add-requires : goal.add-requires
add-requires c = λ o. omega (arith, c.loop-group.invariant.few o)

pub loop-group-preserved : goal.loop-group-preserved
loop-group-preserved c =
    let groups = c.args.groups.now in
    let i = c.loop-group.group-index in
    record {
      are = subst (λ (gs : List Group). AreTallies c.add.new.self gs) (sym (take_more groups i _ c.loop-group-test.true)) (c.in_ok-add.ensures.counted (take i groups) c.loop-group.invariant.are);
      few = λ o. omega (arith, c.loop-group.invariant.few o, c.in_ok-add.ensures.few o);
    }

pub returns : goal.returns
returns c = subst (λ (gs : List Group). AreTallies c.loop-group.tallies gs) (take_all c.loop-group.group-index c.args.groups.now c.loop-group-test.false) c.loop-group.invariant.are

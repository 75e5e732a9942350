use Rattle.std.proofs.Common.{◌≡◌, ◌==◌, true, ◌∙◌, sym, arith}
use Rattle.std.proofs.lemmas.Bool.Decides.{nat_tests}
use Rattle.nje_net.proofs.Ways.{first_here}
use Rattle.nje_net.proofs.paths.loop_of.Goals as goal

pub returns-else-item-at : goal.returns-else-item-at
returns-else-item-at c =
    let is : (c.item.result.now == c.args.at) ≡ true = grind (arith, nat_tests) in
    sym (first_here c.args.at c.loop-nodes.nodes c.item.result.now c.item.ensures is) ∙ c.loop-nodes.invariant

use Rattle.std.proofs.Common.{◌≡◌, ℕ, ◌+◌, ◌-◌, ◌<◌, true, false, List, length, ◌∙◌, sym, subst}
use Rattle.std.specs.List.{AllByRecursion}
use Rattle.mas_types.specs.Fit.{AreDistinct}
use Rattle.nje_net.specs.Nets.{is_node}
use Rattle.nje_net.specs.Paths.{IsWay, is_named, leads_on, same_node, was_passed}
use Rattle.nje_net.proofs.Tests.{all_push}
use Rattle.nje_net.proofs.Ways.{way_push, distinct_push, next_is_node, few_passed, walk_falls}
use Rattle.nje_net.proofs.paths.walk.Goals as goal

pub walk-smaller : goal.walk-smaller
walk-smaller c =
    let n : ℕ = length c.args.net.now.nodes in
    let few = few_passed c.args.net.now c.walk.passed c.walk.invariant.different c.walk.invariant.nodes in
    let P : List ℕ → Type 0 = λ xs. (n + 1) - length xs < (n + 1) - length c.walk.passed in
    subst P (sym c.in_ok-push-2.ensures.ok) (walk_falls c.args.net.now c.walk.passed c.walk.at few)

pub walk-preserved : goal.walk-preserved
walk-preserved c =
    let now = c.walk.invariant in
    let named : is_named c.args.net.now c.args.to c.walk.at ≡ false = sym c.is_named.ensures ∙ c.if-is_named.false in
    let new : was_passed c.walk.passed c.walk.at ≡ false = sym c.was_passed.ensures ∙ c.if-was_passed.false in
    let leads : leads_on c.args.net.now c.args.to c.walk.at ≡ true = sym c.leads_on.ensures ∙ c.if-not-leads_on.false in
    let pushed = c.in_ok-push-2.ensures.ok in
    let P : List ℕ → Type 0 = λ xs. IsWay c.args.net.now c.args.to c.args.from xs c.next_node-at.result in
    let Q : List ℕ → Type 0 = λ xs. AreDistinct same_node xs in
    let R : List ℕ → Type 0 = λ xs. AllByRecursion (λ (m : ℕ). is_node c.args.net.now m ≡ true) xs in
    let S : ℕ → Type 0 = λ m. is_node c.args.net.now m ≡ true in
    let further = way_push c.args.net.now c.args.to c.args.from c.walk.passed c.walk.at now.way named leads in
    record {
      way = subst P (sym pushed) (rw (c.next_node-at.ensures) further);
      different = subst Q (sym pushed) (distinct_push c.walk.passed c.walk.at now.different new);
      nodes = subst R (sym pushed) (all_push S c.walk.passed c.walk.at now.nodes now.there);
      there = subst S (sym c.next_node-at.ensures) (next_is_node c.args.net.now c.requires.ok c.args.to c.walk.at now.there leads);
    }

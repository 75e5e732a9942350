-- Nodes that aren't there.
use Rattle.std.proofs.Common.{◌≡◌, ℕ, zero, suc, ◌<◌, true, false, nat_le, [], length, refl, sym, subst, arith}
use Rattle.std.proofs.lemmas.Bool.Decides.{nat_tests}
use Rattle.nje_net.specs.declared.nets.NetNode.{NetNode}
use Rattle.nje_net.specs.declared.nets.Net.{Net}
use Rattle.nje_net.specs.Nets.{no_end, no_node, node_at, is_node, end_in, end_at}
use Rattle.nje_net.proofs.Tests.{test_cases, and_both, both_ways}
use Rattle.nje_net.proofs.Items.{item_over}

missing : (net : Net) (n : ℕ) → is_node net n ≡ false → node_at net n ≡ no_node
missing net zero h = refl
missing net (suc i) h =
    test_cases (nat_le (suc i) (length net.nodes)) (node_at net (suc i) ≡ no_node)
    (λ e.
    let low : nat_le 1 (suc i) ≡ true = grind (arith, nat_tests) in
    both_ways (is_node net (suc i)) (and_both (nat_le 1 (suc i)) (nat_le (suc i) (length net.nodes)) low e) h)
    (λ e. let past : length net.nodes < suc i = grind (arith, nat_tests) in item_over no_node (suc i) net.nodes past)

nowhere : (l : ℕ) → end_in [] l ≡ no_end
nowhere zero = refl
nowhere (suc i) = refl

pub end_missing : (net : Net) (n l : ℕ) → is_node net n ≡ false → end_at net n l ≡ no_end
end_missing net n l h = subst (λ (x : NetNode). end_in x.ends l ≡ no_end) (sym (missing net n h)) (nowhere l)

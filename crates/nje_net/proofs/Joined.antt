-- Lines between nodes of a net: each end that leads to a node is led back to.
use Rattle.std.proofs.Common.{◌≡◌, ℕ, zero, suc, ◌≤◌, Bool, true, false, not, ◌&&◌, ◌==◌, nat_le, [], length, refl, arith}
use Rattle.std.specs.List.{list_all}
use Rattle.std.proofs.lemmas.Bool.Decides.{nat_tests}
use Rattle.mas_types.specs.Limits.{wires_most}
use Rattle.nje_net.specs.declared.nets.End.{End}
use Rattle.nje_net.specs.declared.nets.NetNode.{NetNode}
use Rattle.nje_net.specs.declared.nets.Net.{Net}
use Rattle.nje_net.specs.Numbered.{all_numbered, are_different}
use Rattle.nje_net.specs.Nets.{nodes_most, no_end, no_node, node_at, is_node, is_line, end_in, end_at, is_none, is_end, is_joined, is_led, are_routes, is_node_right, is_net, name_of_node}
use Rattle.nje_net.proofs.Tests.{and_left, and_right, not_true, same_number}
use Rattle.nje_net.proofs.Items.{item_within, all_numbered_at}

pub node_inside : (net : Net) (n : ℕ) → is_node net n ≡ true → (1 ≤ n) × (n ≤ length net.nodes)
node_inside net n h =
    let low : nat_le 1 n ≡ true = and_left (nat_le 1 n) (nat_le n (length net.nodes)) h in
    let high : nat_le n (length net.nodes) ≡ true = and_right (nat_le 1 n) (nat_le n (length net.nodes)) h in
    (grind (arith, nat_tests), grind (arith, nat_tests))

pub inside_node : (net : Net) (n : ℕ) → 1 ≤ n → n ≤ length net.nodes → is_node net n ≡ true
inside_node net n low high = grind (arith, nat_tests)

module _ (net : Net) (ok : is_net net ≡ true) where
  pub nodes_right : all_numbered (is_node_right net) net.nodes ≡ true
  nodes_right =
      and_right (are_different name_of_node net.nodes) _
      (and_right (nat_le (length net.nodes) nodes_most) _
      (and_right (nat_le 1 (length net.nodes)) _ ok))

  pub node_right : (n : ℕ) → is_node net n ≡ true → is_node_right net n (node_at net n) ≡ true
  node_right n there = let inside = node_inside net n there in all_numbered_at no_node (is_node_right net) n net.nodes nodes_right inside.0 inside.1

  ends_joined : (n : ℕ) → is_node net n ≡ true → all_numbered (is_joined net n) (node_at net n).ends ≡ true
  ends_joined n there =
      and_left (all_numbered (is_joined net n) (node_at net n).ends) _
      (and_right (length (node_at net n).ends == wires_most) _ (and_right (are_routes (node_at net n)) _ (node_right n there)))

  pub routes_led : (n : ℕ) → is_node net n ≡ true → list_all (is_led (node_at net n).ends) (node_at net n).routes ≡ true
  routes_led n there =
      and_right (all_numbered (is_joined net n) (node_at net n).ends) _
      (and_right (length (node_at net n).ends == wires_most) _ (and_right (are_routes (node_at net n)) _ (node_right n there)))

  -- a line that leads somewhere is a node's
  pub line_of_node : (n l : ℕ) → is_none (end_at net n l) ≡ false → is_node net n ≡ true
  line_of_node n l some =
      let test : NetNode → Bool = λ node. is_none (end_in node.ends l) in
      let inside = item_within no_node test (nowhere l) n net.nodes some in
      inside_node net n inside.0 inside.1
    where
      nowhere : (l : ℕ) → is_none (end_in [] l) ≡ true
      nowhere zero = refl
      nowhere (suc i) = refl

  -- what `is_joined` says of a line that leads somewhere
  pub joined : (n l : ℕ) → is_none (end_at net n l) ≡ false → is_joined net n l (end_at net n l) ≡ true
  joined n l some =
      let there = line_of_node n l some in
      let inside = item_within no_end is_none refl l (node_at net n).ends some in
      all_numbered_at no_end (is_joined net n) l (node_at net n).ends (ends_joined n there) inside.0 inside.1

-- an end that is found where it is looked for
pub end_is : (n l : ℕ) (e : End) → is_end n l e ≡ true → (e.node ≡ n) × (e.line ≡ l)
end_is n l e h = (same_number e.node n (and_left (e.node == n) (e.line == l) h), same_number e.line l (and_right (e.node == n) (e.line == l) h))

-- the end to which a line leads is a line of a node, and leads back
pub record IsOther (net : Net) (n l : ℕ) (e : End) : Type 0 where
  pub node : is_node net e.node ≡ true
  pub line : is_line e.line ≡ true
  pub back_node : (end_at net e.node e.line).node ≡ n
  pub back_line : (end_at net e.node e.line).line ≡ l
  pub other : is_end n l e ≡ false

pub other_parts : (net : Net) (n l : ℕ) (e : End) → is_none e ≡ false → is_joined net n l e ≡ true → IsOther net n l e
other_parts net n l e some h =
    let all : (is_node net e.node && (is_line e.line && (is_end n l (end_at net e.node e.line) && not (is_end n l e)))) ≡ true = rw some at h in
    let lines : (is_line e.line && (is_end n l (end_at net e.node e.line) && not (is_end n l e))) ≡ true = and_right (is_node net e.node) _ all in
    let back : (is_end n l (end_at net e.node e.line) && not (is_end n l e)) ≡ true = and_right (is_line e.line) _ lines in
    let led = end_is n l (end_at net e.node e.line) (and_left (is_end n l (end_at net e.node e.line)) _ back) in
    record {
      node = and_left (is_node net e.node) _ all;
      line = and_left (is_line e.line) _ lines;
      back_node = led.0;
      back_line = led.1;
      other = not_true (is_end n l e) (and_right (is_end n l (end_at net e.node e.line)) _ back);
    }

pub other_end : (net : Net) → is_net net ≡ true → (n l : ℕ) → is_none (end_at net n l) ≡ false → IsOther net n l (end_at net n l)
other_end net ok n l some = other_parts net n l (end_at net n l) some (joined net ok n l some)

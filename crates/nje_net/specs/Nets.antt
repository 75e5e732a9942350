-- Nodes, the lines between them, and the routes by which a node sends on.
use Rattle.std.specs.Prelude.{ℕ, nat_le, ◌==◌, Bool, not, ◌&&◌, ◌||◌, List, [], length}
use Rattle.std.specs.List.{list_all, list_any}
use Rattle.mas_types.specs.declared.ids.Name8.{Name8}
use Rattle.mas_types.specs.declared.queues.Route.{Route}
use Rattle.mas_types.specs.Ids.{same_name}
use Rattle.mas_types.specs.Limits.{routes_most, wires_most}
use Rattle.nje_net.specs.declared.nets.End.{End}
use Rattle.nje_net.specs.declared.nets.NetNode.{NetNode}
use Rattle.nje_net.specs.declared.nets.Net.{Net}
use Rattle.nje_net.specs.Numbered.{item, all_numbered, are_different}

-- the most nodes of a net
abbrev pub nodes_most : ℕ
nodes_most = 64

-- the end of a line that leads nowhere
abbrev pub no_end : End
no_end = record { node = 0; line = 0 }

-- a node that isn't there
abbrev pub no_node : NetNode
no_node = record { name = record { 0 = [] }; routes = []; ends = [] }

abbrev pub node_at : Net → ℕ → NetNode
node_at net n = item no_node n net.nodes

abbrev pub is_node : Net → ℕ → Bool
is_node net n = nat_le 1 n && nat_le n (length net.nodes)

abbrev pub is_line : ℕ → Bool
is_line l = nat_le 1 l && nat_le l wires_most

-- where the line of a node ends: the node there, and its number of the line
abbrev pub end_in : List End → ℕ → End
end_in ends l = item no_end l ends

abbrev pub end_at : Net → ℕ → ℕ → End
end_at net n l = end_in (node_at net n).ends l

-- the end leads to no node
abbrev pub is_none : End → Bool
is_none e = e.node == 0

abbrev pub is_end : ℕ → ℕ → End → Bool
is_end n l e = (e.node == n) && (e.line == l)

-- ROUTES

abbrev pub name_of_node : NetNode → Name8
name_of_node node = node.name

abbrev pub name_of_route : Route → Name8
name_of_route r = r.name

-- one of the routes has the name
abbrev pub has_route : List Route → Name8 → Bool
has_route routes dest = list_any (λ r. same_name r.name dest) routes

-- a route of the name goes by the line
abbrev pub goes_by : List Route → ℕ → Name8 → Bool
goes_by routes l dest = list_any (λ r. (r.line == l) && same_name r.name dest) routes

-- the node has the name, or a route for it
abbrev pub takes : NetNode → Name8 → Bool
takes node dest = same_name node.name dest || has_route node.routes dest

-- A NET

-- line l of node n leads nowhere, or to a line of a node that leads back to it and is another one
abbrev pub is_joined : Net → ℕ → ℕ → End → Bool
is_joined net n l e =
    is_none e || (is_node net e.node &&
    (is_line e.line && (is_end n l (end_at net e.node e.line) && not (is_end n l e))))

-- the line of the route leads to a node
abbrev pub is_led : List End → Route → Bool
is_led ends r = is_line r.line && not (is_none (end_in ends r.line))

-- at most 63 routes, whose names are different from each other and from the node's own
abbrev pub are_routes : NetNode → Bool
are_routes node =
    nat_le (length node.routes) routes_most &&
    (are_different name_of_route node.routes && not (has_route node.routes node.name))

-- node n with its routes and its eight lines
abbrev pub is_node_right : Net → ℕ → NetNode → Bool
is_node_right net n node =
    are_routes node
    && ((length node.ends == wires_most) &&
    (all_numbered (is_joined net n) node.ends && list_all (is_led node.ends) node.routes))

-- 1 to 64 nodes of different names, each of them right
abbrev pub is_net : Net → Bool
is_net net =
    nat_le 1 (length net.nodes)
    && (nat_le (length net.nodes) nodes_most &&
    (are_different name_of_node net.nodes && all_numbered (is_node_right net) net.nodes))

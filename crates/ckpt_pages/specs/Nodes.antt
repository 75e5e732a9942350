-- What page 2 says.
use Rattle.std.specs.Prelude.{◌≡◌, ℕ, ◌≤◌, List, [], ◌∷◌, ◌++◌, length, map, replicate, All}
use Rattle.std.specs.List.{concat}
use Rattle.mas_types.specs.declared.ids.Name8.{Name8}
use Rattle.mas_types.specs.declared.queues.LineCount.{LineCount}
use Rattle.mas_types.specs.declared.queues.Route.{Route}
use Rattle.mas_types.specs.Fit.{IsName}
use Rattle.mas_types.specs.Limits.{routes_most, wires_most}
use Rattle.ckpt_pages.specs.declared.nodes.Nodes.{Nodes}
use Rattle.ckpt_tables.specs.Shape.{IsRoute, IsLineCount}
use Rattle.ckpt_tables.specs.Pages.{filled, line_entry, route_entry}

-- the own name and the number of routes, one after another
abbrev pub names_of : Name8 → ℕ → List (List ℕ)
names_of node count = node.0 ∷ (count ∷ []) ∷ replicate 119 0 ∷ []

-- the bytes of page 2
abbrev pub node_page : Name8 → List LineCount → List Route → List ℕ
node_page node lines routes = filled
    (concat (names_of node (length routes)) ∷ (map line_entry lines ++ (replicate 768 0 ∷ map route_entry routes)))

-- page 2 says these nodes
pub record AreNodes (page : List ℕ) (n : Nodes) : Type 0 where
  pub node : IsName n.node
  pub count : length n.lines ≡ wires_most
  pub lines : All IsLineCount n.lines
  pub few : length n.routes ≤ routes_most
  pub routes : All IsRoute n.routes
  pub is : page ≡ node_page n.node n.lines n.routes

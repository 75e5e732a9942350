-- The path by which jobs go from a node to the one of a name.
use Rattle.std.specs.Prelude.{◌≡◌, ◌⊎◌, ℕ, ◌==◌, Bool, true, false, if◌then◌else◌, List, [], ◌∷◌, ◌++◌, Option, Some, None, find, Result, Err}
use Rattle.std.specs.List.{list_any}
use Rattle.mas_types.specs.declared.ids.Name8.{Name8}
use Rattle.mas_types.specs.declared.queues.Route.{Route}
use Rattle.mas_types.specs.Fit.{AreDistinct}
use Rattle.mas_types.specs.Ids.{same_name}
use Rattle.nje_net.specs.declared.nets.Net.{Net}
use Rattle.nje_net.specs.declared.paths.PathNo.{PathNo}
use Rattle.nje_net.specs.declared.paths.PathNo.TheVariants as why
use Rattle.nje_net.specs.Nets.{node_at, end_at, has_route}

-- the node has the name
abbrev pub is_named : Net → Name8 → ℕ → Bool
is_named net to n = same_name (node_at net n).name to

-- the node has a route for the name
abbrev pub leads_on : Net → Name8 → ℕ → Bool
leads_on net to n = has_route (node_at net n).routes to

abbrev pub line_of_route : Option Route → ℕ
line_of_route None = 0
line_of_route (Some r) = r.line

-- the line of the first route of the name, 0 where there is none
abbrev pub route_line : List Route → Name8 → ℕ
route_line routes to = line_of_route (find (λ r. same_name r.name to) routes)

-- the node to which that line leads
abbrev pub next_node : Net → Name8 → ℕ → ℕ
next_node net to n = (end_at net n (route_line (node_at net n).routes to)).node

abbrev pub is_number : ℕ → ℕ → Bool
is_number n m = m == n

abbrev pub was_passed : List ℕ → ℕ → Bool
was_passed passed n = list_any (is_number n) passed

-- the nodes from the first time on that the node was passed
abbrev pub from_first : ℕ → List ℕ → List ℕ
from_first n [] = []
from_first n (m ∷ passed) = if is_number n m then m ∷ passed else from_first n passed

-- The way from one node to another over those passed, in their order: none of them has the name, and each has a route
-- for it that leads to the one after it.
abbrev pub IsWay : Net → Name8 → ℕ → List ℕ → ℕ → Type 0
IsWay net to from [] n = n ≡ from
IsWay net to from (m ∷ passed) n =
    (m ≡ from) × ((is_named net to m ≡ false)
    × ((leads_on net to m ≡ true) × IsWay net to (next_node net to m) passed n))

abbrev pub same_node : ℕ → ℕ → Bool
same_node n m = m == n

-- over different nodes the way comes to a node, and the nodes passed are these
pub record ComesTo (net : Net) (to : Name8) (from : ℕ) (passed : List ℕ) (n : ℕ) : Type 0 where
  pub way : IsWay net to from passed n
  pub different : AreDistinct same_node passed

-- the way comes to the node of the name: these are the nodes passed and that node
abbrev pub IsPath : Net → Name8 → ℕ → List ℕ → Type 0
IsPath net to from nodes =
    (passed : List ℕ) × ((n : ℕ) × (ComesTo net to from passed n
    × ((is_named net to n ≡ true) × (nodes ≡ passed ++ n ∷ []))))

-- the way comes to a node that was passed: these are the nodes from its first passing on
abbrev pub IsLoop : Net → Name8 → ℕ → List ℕ → Type 0
IsLoop net to from nodes =
    (passed : List ℕ) × ((n : ℕ) × (ComesTo net to from passed n
    × ((was_passed passed n ≡ true) × (nodes ≡ from_first n passed))))

-- the way comes to a node that has no route for the name, has another name and was not passed
abbrev pub IsEnd : Net → Name8 → ℕ → ℕ → Type 0
IsEnd net to from n =
    (passed : List ℕ) × (ComesTo net to from passed n
    × ((is_named net to n ≡ false) × ((was_passed passed n ≡ false) × (leads_on net to n ≡ false))))

-- WHAT `path` ANSWERS

-- why there is no path
abbrev pub WhyNoPath : Net → Name8 → ℕ → PathNo → Type 0
WhyNoPath net to from (why.Loop nodes) = IsLoop net to from nodes
WhyNoPath net to from (why.NoRoute n) = IsEnd net to from n
WhyNoPath net to from why.NoMemory = Unit {0}

-- the result is this answer, or out of memory
abbrev pub IsUnlessMemory : Result (List ℕ) PathNo → Result (List ℕ) PathNo → Type 0
IsUnlessMemory answer result = (result ≡ answer) ⊎ (result ≡ Err why.NoMemory)

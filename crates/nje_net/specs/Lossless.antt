-- What no event of a net can undo: each job arrives at most once, at its node, and until then some node holds it.
use Rattle.std.specs.Prelude.{◌≡◌, ℕ, ◌<◌, ◌≤◌, ◌==◌, Bool, true, false, List, [], ◌∷◌, ◌++◌, Some, length, if◌then◌else◌}
use Rattle.std.specs.List.{AllByRecursion, list_any}
use Rattle.mas_types.specs.declared.ids.Name8.{Name8}
use Rattle.mas_types.specs.Fit.{AreDistinct}
use Rattle.nje_net.specs.declared.nets.Net.{Net}
use Rattle.nje_net.specs.declared.worlds.Held.{Held}
use Rattle.nje_net.specs.declared.worlds.Arrived.{Arrived}
use Rattle.nje_net.specs.declared.worlds.NetLine.{NetLine}
use Rattle.nje_net.specs.declared.worlds.NetWorld.{NetWorld}
use Rattle.nje_net.specs.declared.worlds.NetEvent.{NetEvent}
use Rattle.nje_net.specs.declared.worlds.NetEvent.TheVariants as event
use Rattle.nje_net.specs.Numbered.{numbered}
use Rattle.nje_net.specs.Nets.{node_at, is_node}
use Rattle.nje_net.specs.Events.{may_take}

-- the node that the job of an event is for, where a job is entered
abbrev pub dest_entered : Net → NetEvent → List Name8
dest_entered net (event.Enter n dest) = if may_take net n dest then dest ∷ [] else []
dest_entered net _ = []

-- the nodes that the jobs are for, in the order in which they are entered: job 1 is for the first
abbrev pub dests_entered : Net → List NetEvent → List Name8
dests_entered net [] = []
dests_entered net (e ∷ es) = dest_entered net e ++ dests_entered net es

abbrev pub has_id : ℕ → Arrived → Bool
has_id id a = a.id == id

abbrev pub is_job : ℕ → Held → Bool
is_job id h = h.id == id

abbrev pub same_job : Arrived → Arrived → Bool
same_job a b = b.id == a.id

abbrev pub has_arrived : NetWorld → ℕ → Bool
has_arrived w id = list_any (has_id id) w.arrived

-- some node holds the job
abbrev pub is_held_somewhere : NetWorld → ℕ → Bool
is_held_somewhere w id = list_any (list_any (is_job id)) w.held

-- the job arrived at the node that it is for
abbrev pub IsAtItsNode : Net → List Name8 → Arrived → Type 0
IsAtItsNode net dests a = (is_node net a.node ≡ true) × (numbered a.id dests ≡ Some (node_at net a.node).name)

-- the job is held for the node that it is for
abbrev pub IsForItsNode : List Name8 → Held → Type 0
IsForItsNode dests h = numbered h.id dests ≡ Some h.dest

pub record NoneIsLost (net : Net) (dests : List Name8) (w : NetWorld) : Type 0 where
  -- the jobs entered are as many as the destinations
  pub entered : w.entered ≡ length dests
  -- no job arrives twice
  pub once : AreDistinct same_job w.arrived
  -- each job that arrives does so at its node
  pub there : AllByRecursion (IsAtItsNode net dests) w.arrived
  -- each job that was entered and hasn't arrived is held by some node
  pub held : (id : ℕ) → 1 ≤ id → id ≤ w.entered → has_arrived w id ≡ false → is_held_somewhere w id ≡ true
  -- each job that is held was entered, and is held for its node
  pub known : AllByRecursion (AllByRecursion (IsForItsNode dests)) w.held

-- HOW FAR THE NUMBERS HAVE COME

abbrev pub IsLineBelow : ℕ → NetLine → Type 0
IsLineBelow bound x = (x.sent < bound) × (x.got < bound)

-- each number that grows is below the bound
abbrev pub IsBelow : ℕ → NetWorld → Type 0
IsBelow bound w = (w.entered < bound) × AllByRecursion (AllByRecursion (IsLineBelow bound)) w.lines

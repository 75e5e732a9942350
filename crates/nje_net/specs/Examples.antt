-- Worked examples: three nodes in a row.
use Rattle.std.specs.Prelude.{◌≡◌, ℕ, true, List, [], ◌∷◌, ◌++◌, codes}
use Rattle.mas_types.specs.declared.ids.Name8.{Name8}
use Rattle.mas_types.specs.declared.queues.Route.{Route}
use Rattle.mas_types.specs.Names.{padded}
use Rattle.nje_net.specs.declared.nets.End.{End}
use Rattle.nje_net.specs.declared.nets.Net.{Net}
use Rattle.nje_net.specs.declared.worlds.Held.{Held}
use Rattle.nje_net.specs.declared.worlds.NetWorld.{NetWorld}
use Rattle.nje_net.specs.declared.worlds.NetEvent.{NetEvent}
use Rattle.nje_net.specs.declared.worlds.NetEvent.TheVariants as event
use Rattle.nje_net.specs.Nets.{is_net, no_end}
use Rattle.nje_net.specs.Worlds.{start}
use Rattle.nje_net.specs.Events.{runs, arrived_at}
use Rattle.nje_net.specs.Paths.{IsPath, IsLoop, IsEnd}

abbrev pub name : List ℕ → Name8
name text = record { 0 = padded text }

abbrev pub far : Name8
far = name (codes "C")

abbrev pub to_end : ℕ → ℕ → End
to_end n l = record { node = n; line = l }

-- the eight lines of a node, of which two may lead somewhere
abbrev pub ends : End → End → List End
ends first second = first ∷ second ∷ no_end ∷ no_end ∷ no_end ∷ no_end ∷ no_end ∷ no_end ∷ []

abbrev pub route : ℕ → Route
route l = record { name = far; line = l }

-- A's line 1 leads to B, B's line 2 to C; A sends to C by line 1, B by the routes given
abbrev pub row_of_three : List Route → Net
row_of_three routes = record {
  nodes =
      record { name = name (codes "A"); routes = route 1 ∷ []; ends = ends (to_end 2 1) no_end }
      ∷ record { name = name (codes "B"); routes = routes; ends = ends (to_end 1 1) (to_end 3 1) }
      ∷ record { name = far; routes = []; ends = ends (to_end 2 2) no_end } ∷ [];
}

abbrev pub net : Net
net = row_of_three (route 2 ∷ [])

-- a job goes from A over B to C; the frame from A comes twice
abbrev pub carried : List NetEvent
carried =
    event.Enter 1 far ∷ event.Load 1 1 ∷ event.Give 1 1 ∷ event.Frame 1 ∷ event.Frame 1
    ∷ event.Load 2 2 ∷ event.Give 2 2 ∷ event.Frame 2 ∷ []

-- the acknowledgements of both frames from A, and of the one from B
abbrev pub acknowledged : List NetEvent
acknowledged = event.Ack 1 ∷ event.Ack 2 ∷ event.Ack 3 ∷ []

abbrev pub after_events : List NetEvent → NetWorld
after_events events = runs net (start net) events

abbrev pub job_on : ℕ → List Held
job_on l = record { id = 1; dest = far; line = l } ∷ []

-- the job has arrived once, and A and B each hold it still
abbrev pub BothHoldIt : Type 0
BothHoldIt =
    ((after_events carried).arrived ≡ arrived_at 1 3 ∷ [])
    × ((after_events carried).held ≡ job_on 1 ∷ job_on 2 ∷ [] ∷ [])

-- after the acknowledgements nobody holds anything
abbrev pub NobodyHoldsIt : Type 0
NobodyHoldsIt =
    ((after_events (carried ++ acknowledged)).arrived ≡ arrived_at 1 3 ∷ [])
    × ((after_events (carried ++ acknowledged)).held ≡ [] ∷ [] ∷ [] ∷ [])

-- the three are nets: B sends on to C, back to A, or not at all
abbrev pub looped : Net
looped = row_of_three (route 1 ∷ [])

abbrev pub cut : Net
cut = row_of_three []

abbrev pub AreNets : Type 0
AreNets = (is_net net ≡ true) × ((is_net looped ≡ true) × (is_net cut ≡ true))

-- the paths from A to C
abbrev pub PathsToC : Type 0
PathsToC = IsPath net far 1 (1 ∷ 2 ∷ 3 ∷ []) × (IsLoop looped far 1 (1 ∷ 2 ∷ []) × IsEnd cut far 1 2)

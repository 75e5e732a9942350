-- What the nodes of a net hold, what their lines have come to, and all that was ever given to the lines.
use Rattle.std.specs.Prelude.{ℕ, List, [], length, replicate}
use Rattle.mas_types.specs.Limits.{wires_most}
use Rattle.nje_net.specs.declared.nets.Net.{Net}
use Rattle.nje_net.specs.declared.worlds.Held.{Held}
use Rattle.nje_net.specs.declared.worlds.NetLine.{NetLine}
use Rattle.nje_net.specs.declared.worlds.NetWorld.{NetWorld}
use Rattle.nje_net.specs.Numbered.{item, change_item}

-- a line over which nothing went
abbrev pub no_line : NetLine
no_line = record { sent = 0; got = 0; current = 0 }

abbrev pub line_in : List (List NetLine) → ℕ → ℕ → NetLine
line_in lines n l = item no_line l (item [] n lines)

abbrev pub line_at : NetWorld → ℕ → ℕ → NetLine
line_at w n l = line_in w.lines n l

-- the lines, where line l of node n is another one
abbrev pub put_line : ℕ → ℕ → NetLine → List (List NetLine) → List (List NetLine)
put_line n l x lines = change_item n (change_item l (λ was. x)) lines

abbrev pub held_in : List (List Held) → ℕ → List Held
held_in held n = item [] n held

-- the jobs that node n holds, in the order in which they came
abbrev pub held_at : NetWorld → ℕ → List Held
held_at w n = held_in w.held n

-- the lines of a node over which nothing went
abbrev pub idle_lines : List NetLine
idle_lines = replicate wires_most no_line

-- a net in which nothing has happened yet
abbrev pub start : Net → NetWorld
start net = record {
  entered = 0;
  held = replicate (length net.nodes) [];
  lines = replicate (length net.nodes) idle_lines;
  frames = [];
  acks = [];
  arrived = [];
}

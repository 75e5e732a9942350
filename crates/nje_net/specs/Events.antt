-- What each event does. An event that isn't possible changes nothing.
use Rattle.std.specs.Prelude.{ℕ, ◌+◌, ◌==◌, nat_le, Bool, not, ◌&&◌, if◌then◌else◌, List, [], ◌∷◌, ◌++◌, Option, Some, None, find}
use Rattle.mas_types.specs.declared.ids.Name8.{Name8}
use Rattle.mas_types.specs.declared.queues.Route.{Route}
use Rattle.mas_types.specs.Ids.{same_name}
use Rattle.mas_types.specs.Lists.{change_first, without_first}
use Rattle.nje_net.specs.declared.nets.End.{End}
use Rattle.nje_net.specs.declared.nets.Net.{Net}
use Rattle.nje_net.specs.declared.worlds.Held.{Held}
use Rattle.nje_net.specs.declared.worlds.NetFrame.{NetFrame}
use Rattle.nje_net.specs.declared.worlds.NetAck.{NetAck}
use Rattle.nje_net.specs.declared.worlds.Arrived.{Arrived}
use Rattle.nje_net.specs.declared.worlds.NetLine.{NetLine}
use Rattle.nje_net.specs.declared.worlds.NetWorld.{NetWorld}
use Rattle.nje_net.specs.declared.worlds.NetEvent.{NetEvent}
use Rattle.nje_net.specs.declared.worlds.NetEvent.TheVariants as event
use Rattle.nje_net.specs.Numbered.{numbered, change_item}
use Rattle.nje_net.specs.Nets.{node_at, is_node, is_line, is_none, end_at, goes_by, takes}
use Rattle.nje_net.specs.Worlds.{line_at, put_line, held_at}

-- A JOB AT A NODE

abbrev pub arrived_at : ℕ → ℕ → Arrived
arrived_at id n = record { id = id; node = n }

-- a job that waits for a line
abbrev pub waiting_job : ℕ → Name8 → Held
waiting_job id dest = record { id = id; dest = dest; line = 0 }

abbrev pub arrives : ℕ → ℕ → NetWorld → NetWorld
arrives id n w = record w { arrived = w.arrived ++ arrived_at id n ∷ [] }

abbrev pub with_job : Held → List Held → List Held
with_job h hs = hs ++ h ∷ []

abbrev pub is_held : ℕ → Held → NetWorld → NetWorld
is_held n h w = record w { held = change_item n (with_job h) w.held }

-- at the node of its name a job arrives, at another one it waits
abbrev pub job_at : Net → ℕ → ℕ → Name8 → NetWorld → NetWorld
job_at net n id dest w =
    if same_name (node_at net n).name dest then arrives id n w else is_held n (waiting_job id dest) w

-- ENTER: a job for a node is entered at node n

-- the node is there, and has the name or a route for it
abbrev pub may_take : Net → ℕ → Name8 → Bool
may_take net n dest = is_node net n && takes (node_at net n) dest

abbrev pub enter : Net → NetWorld → ℕ → Name8 → NetWorld
enter net w n dest =
    if may_take net n dest then record (job_at net n (w.entered + 1) dest w) { entered = w.entered + 1 } else w

-- LOAD: the first job that waits and whose route goes by the line becomes current there

abbrev pub waits_for : List Route → ℕ → Held → Bool
waits_for routes l h = (h.line == 0) && goes_by routes l h.dest

abbrev pub on_line : ℕ → Held → Held
on_line l h = record h { line = l }

abbrev pub id_of_job : Option Held → ℕ
id_of_job None = 0
id_of_job (Some h) = h.id

-- the id of the first job that the test picks, 0 where there is none
abbrev pub first_id : (Held → Bool) → List Held → ℕ
first_id test hs = id_of_job (find test hs)

abbrev pub can_load : Net → NetWorld → ℕ → ℕ → Bool
can_load net w n l = is_node net n && (is_line l && ((line_at w n l).current == 0))

abbrev pub has_current : ℕ → NetLine → NetLine
has_current id x = record x { current = id }

abbrev pub loaded : List Route → NetWorld → ℕ → ℕ → NetWorld
loaded routes w n l = record w {
  held = change_item n (change_first (waits_for routes l) (on_line l)) w.held;
  lines = put_line n l (has_current (first_id (waits_for routes l) (held_at w n)) (line_at w n l)) w.lines;
}

abbrev pub load : Net → NetWorld → ℕ → ℕ → NetWorld
load net w n l = if can_load net w n l then loaded (node_at net n).routes w n l else w

-- GIVE: the current job of the line is given to it, with the number after the last one that was acknowledged

abbrev pub is_on : ℕ → Held → Bool
is_on l h = h.line == l

abbrev pub frame_of : ℕ → ℕ → ℕ → Held → NetFrame
frame_of n l number h = record { node = n; line = l; number = number; id = h.id; dest = h.dest }

abbrev pub frames_of : ℕ → ℕ → ℕ → Option Held → List NetFrame
frames_of n l number None = []
frames_of n l number (Some h) = frame_of n l number h ∷ []

abbrev pub has_job : NetLine → Bool
has_job x = not (x.current == 0)

abbrev pub give : NetWorld → ℕ → ℕ → NetWorld
give w n l =
    if has_job (line_at w n l)
    then record w { frames = w.frames ++ frames_of n l ((line_at w n l).sent + 1) (find (is_on l) (held_at w n)) }
    else w

-- FRAME: a frame comes to the other end of its line

-- a number up to the last one that was got comes again, and the one after that is the next
abbrev pub is_again : ℕ → NetLine → Bool
is_again number x = nat_le number x.got

abbrev pub is_next : ℕ → NetLine → Bool
is_next number x = number == x.got + 1

abbrev pub ack_of : End → ℕ → NetAck
ack_of e number = record { node = e.node; line = e.line; number = number }

abbrev pub acknowledges : End → ℕ → NetWorld → NetWorld
acknowledges e number w = record w { acks = w.acks ++ ack_of e number ∷ [] }

abbrev pub has_got : NetLine → NetLine
has_got x = record x { got = x.got + 1 }

-- the line's end has got one more
abbrev pub gets : End → NetLine → NetWorld → NetWorld
gets e x w = record w { lines = put_line e.node e.line (has_got x) w.lines }

-- the next job is taken over, unless the node neither has its name nor a route for it
abbrev pub take_over : Net → NetWorld → NetFrame → End → NetWorld
take_over net w f e =
    if may_take net e.node f.dest
    then gets e (line_at w e.node e.line) (job_at net e.node f.id f.dest (acknowledges e f.number w))
    else w

-- what comes again is acknowledged again
abbrev pub receive : Net → NetWorld → NetFrame → End → NetWorld
receive net w f e =
    if is_again f.number (line_at w e.node e.line) then acknowledges e f.number w
    else (if is_next f.number (line_at w e.node e.line) then take_over net w f e else w)

abbrev pub frame_comes_to : Net → NetWorld → NetFrame → End → NetWorld
frame_comes_to net w f e = if is_none e then w else receive net w f e

abbrev pub frame_comes : Net → NetWorld → Option NetFrame → NetWorld
frame_comes net w None = w
frame_comes net w (Some f) = frame_comes_to net w f (end_at net f.node f.line)

-- ACK: an acknowledgement comes to the other end of its line; if it is of the current job, the node holds that job no
-- longer

abbrev pub is_of_current : ℕ → NetLine → Bool
is_of_current number x = (number == x.sent + 1) && has_job x

abbrev pub has_sent : NetLine → NetLine
has_sent x = record x { sent = x.sent + 1; current = 0 }

abbrev pub sends : End → NetLine → NetWorld → NetWorld
sends e x w = record w {
  held = change_item e.node (without_first (is_on e.line)) w.held;
  lines = put_line e.node e.line (has_sent x) w.lines;
}

abbrev pub ack_comes_to : NetWorld → ℕ → End → NetWorld
ack_comes_to w number e =
    if is_of_current number (line_at w e.node e.line) then sends e (line_at w e.node e.line) w else w

abbrev pub ack_comes : Net → NetWorld → Option NetAck → NetWorld
ack_comes net w None = w
ack_comes net w (Some a) = ack_comes_to w a.number (end_at net a.node a.line)

-- ALL OF THEM

-- the world after an event, the same one where it isn't possible
abbrev pub moved : Net → NetWorld → NetEvent → NetWorld
moved net w (event.Enter n dest) = enter net w n dest
moved net w (event.Load n l) = load net w n l
moved net w (event.Give n l) = give w n l
moved net w (event.Frame i) = frame_comes net w (numbered i w.frames)
moved net w (event.Ack i) = ack_comes net w (numbered i w.acks)

abbrev pub runs : Net → NetWorld → List NetEvent → NetWorld
runs net w [] = w
runs net w (e ∷ es) = runs net (moved net w e) es

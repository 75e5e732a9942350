-- Worked examples: scripts that serve a line to another node, what they say, and what they give on it.
use Rattle.std.specs.Prelude.{◌≡◌, ℕ, List, [], ◌∷◌, ◌++◌, map, take, codes, Some, None}
use Rattle.mas_types.specs.declared.commands.What.TheVariants as what
use Rattle.mas_types.specs.declared.journals.Fate.TheVariants.{Flying}
use Rattle.mas_types.specs.declared.queues.Queue.{Queue}
use Rattle.mas_types.specs.Shown.{shown as shown_queue}
use Rattle.queue_laws.specs.Examples.Lines.{with_route}
use Rattle.queue_laws.specs.Examples.Small.{member, name}
use Rattle.nje_frames.specs.declared.frames.Frame.{Frame}
use Rattle.nje_frames.specs.declared.frames.Frame.TheVariants as frame
use Rattle.nje_frames.specs.Examples.{first_ack, first_job_bytes}
use Rattle.nje_frames.specs.Streams.{frames_in}
use Rattle.script_lang.specs.declared.types.Ask.TheVariants as ask
use Rattle.script_lang.specs.declared.types.Step.{Step}
use Rattle.step_turns.specs.LineExamples.{far_node, far_text, hears}
use Rattle.run_turns.specs.Cuts.{whole}
use Rattle.run_turns.specs.Examples.{line}
use Rattle.run_turns.specs.Runs.{console, given_on, outcomes_of, scene_after}
use Rattle.run_turns.specs.Scenes.{scene_of}
use Rattle.run_turns.specs.Sights.{Halt, Sight, Stops, Waiting, Writing, clear}

-- a step that finds these frames on its line
abbrev pub hearing : List Frame → Sight
hearing frames = record clear { finds = hears frames }

-- a run says these lines, each of them whole
abbrev pub SaysOf : Queue → List Sight → List Step → List (List ℕ) → Type 0
SaysOf Q sights lines texts = map (λ s. s.line) (console (outcomes_of Q sights lines)) ≡ map whole texts

-- the first member gives these bytes on line 1
abbrev pub GivesOf : Queue → List Sight → List Step → List ℕ → Type 0
GivesOf Q sights lines bytes = given_on (member 1) 1 lines (outcomes_of Q sights lines) ≡ bytes

-- A JOB GOES to node FAR, whose acknowledgement waits: its frame is given, and it left
abbrev pub send_lines : List Step
send_lines = line 1 (ask.Deck far_text) ∷ line 1 (ask.Line 1) ∷ []

abbrev pub send_sights : List Sight
send_sights = clear ∷ hearing (frame.Ack 1 ∷ []) ∷ []

abbrev pub JobIsSentOn : Type 0
JobIsSentOn =
    SaysOf with_route send_sights send_lines
    (codes "SYSA 00001 OK JOB00001" ∷ codes "SYSA 00002 OK SENT 1 GOT 0" ∷ [])
    × GivesOf with_route send_sights send_lines first_job_bytes

-- A JOB COMES to node FAR, its frame twice: it is got once and acknowledged twice, and is to be converted
abbrev pub serve_line : List Step
serve_line = line 1 (ask.Line 1) ∷ []

abbrev pub heard_twice : List Sight
heard_twice = hearing (frames_in (first_job_bytes ++ first_job_bytes)) ∷ []

abbrev pub queue_left : Queue → List Sight → List Step → Queue
queue_left Q sights lines = (scene_after (scene_of Q) 1 sights lines).queue

abbrev pub JobIsGotOnce : Type 0
JobIsGotOnce =
    SaysOf (far_node 512) heard_twice serve_line (codes "SYSA 00001 OK SENT 0 GOT 1" ∷ [])
    × GivesOf (far_node 512) heard_twice serve_line (first_ack ++ first_ack)
    × (shown_queue (queue_left (far_node 512) heard_twice serve_line) what.Queue ≡ codes "JOB00001 X A 05 CONVERT - -" ∷ [])
    × (map (λ j. j.fields.origin) (queue_left (far_node 512) heard_twice serve_line).jobs ≡ name (codes "HERE") ∷ [])

-- THE MEMBER STOPS as it gives the acknowledgement: the job is kept, and the other end gives its frame again
abbrev pub stops_at : ℕ → Halt → Sight
stops_at sittings halt =
    record (hearing (frames_in first_job_bytes)) { cut = Some (record { sittings = sittings; halt = halt; cause = Stops }) }

abbrev pub StopAtTheAck : Type 0
StopAtTheAck =
    SaysOf (far_node 512) (stops_at 2 (Waiting 5 None) ∷ []) serve_line (codes "SYSA 00001 STOPPED" ∷ [])
    × GivesOf (far_node 512) (stops_at 2 (Waiting 5 None) ∷ []) serve_line (take 5 first_ack)
    × (shown_queue (queue_left (far_node 512) (stops_at 2 (Waiting 5 None) ∷ []) serve_line) what.Queue
    ≡ codes "JOB00001 X A 05 CONVERT - -" ∷ [])

-- it stops before the job is kept as got: nothing is acknowledged
abbrev pub unkept_got : Sight
unkept_got = stops_at 2 (Writing 0 (Some (record { entries = 1; fate = Flying })))

abbrev pub StopBeforeTheAck : Type 0
StopBeforeTheAck =
    SaysOf (far_node 512) (unkept_got ∷ []) serve_line (codes "SYSA 00001 STOPPED" ∷ [])
    × GivesOf (far_node 512) (unkept_got ∷ []) serve_line []
    × (shown_queue (queue_left (far_node 512) (unkept_got ∷ []) serve_line) what.Queue
    ≡ codes "JOB00001 X A 05 INPUT SYSA -" ∷ [])

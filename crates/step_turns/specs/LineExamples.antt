-- Worked examples: how a step is cut that serves a line.
use Rattle.std.specs.Prelude.{◌≡◌, ℕ, true, List, [], ◌∷◌, map, codes, Option, Some, None}
use Rattle.mas_types.specs.declared.commands.Command.TheVariants as command
use Rattle.mas_types.specs.declared.commands.What.TheVariants as what
use Rattle.mas_types.specs.declared.ids.Name8.{Name8}
use Rattle.mas_types.specs.declared.queues.Queue.{Queue}
use Rattle.mas_types.specs.Run.{run}
use Rattle.mas_types.specs.Shown.{shown as shown_queue}
use Rattle.mas_types.specs.Starts.{default_config}
use Rattle.queue_laws.specs.Examples.Lines.{for_far, with_route}
use Rattle.queue_laws.specs.Examples.Small.{deck_of, empty, fields_of, job, member, name, queue_after}
use Rattle.job_outcome.specs.declared.outcomes.Read.TheVariants as read
use Rattle.nje_frames.specs.declared.frames.Frame.{Frame}
use Rattle.nje_frames.specs.declared.frames.Frame.TheVariants as frame
use Rattle.nje_frames.specs.Examples.{first_ack, first_job, first_job_bytes}
use Rattle.nje_frames.specs.Grammar.{number_greatest}
use Rattle.step_turns.specs.Courses.{Finds, all_batches, all_lines, sittings}
use Rattle.step_turns.specs.Entries.{all_entries}
use Rattle.step_turns.specs.Examples.{Shown, by_lock, calm, for_step, is, shown}
use Rattle.step_turns.specs.Serving.{bytes_given}
use Rattle.step_turns.specs.Sittings.{sit}
use Rattle.step_turns.specs.States.{Acknowledge, Away, Exchange, Found, Fresh, Inner, Keep, Line, Offer, Outer, Service, SpoolArrival, Told}

-- WHAT IS FOUND: these frames came over the line, each text is as the queue has it, and nothing is lost
abbrev pub hears : List Frame → Finds
hears frames Q (Away (Exchange l offer)) = record (calm Q (Away (Exchange l offer))) { frames = frames }
hears frames Q s = calm Q s

-- the line is lost in the exchange, or where an acknowledgement is given
abbrev pub loses_line : List Frame → Finds
loses_line frames Q s = record (hears frames Q s) { wire = true }

-- so many sittings of a step that serves line 1 give these batches and leave these states, and these lines are said
abbrev pub Serves : ℕ → Finds → Queue → List Shown → List (List ℕ) → Type 0
Serves n finds Q sats lines =
    (map shown (sittings n finds Q (for_step 64) (Fresh (Line 1))) ≡ sats)
    × (all_lines (sittings n finds Q (for_step 64) (Fresh (Line 1))) ≡ lines)

abbrev pub served : ℕ → ℕ → List Frame → Service
served sent got frames = record { line = 1; sent = sent; got = got; frames = frames }

-- A JOB GOES

abbrev pub far_text : List (List ℕ)
far_text = codes "//X JOB" ∷ codes "/*ROUTE XEQ FAR" ∷ []

-- the queue of node HERE, with one job for node FAR
abbrev pub to_far : Queue
to_far = queue_after with_route (deck_of 1 1 for_far far_text)

abbrev pub far_offer : Offer
far_offer = record { job = job 1; number = 1; origin = name (codes "HERE"); node = name (codes "FAR") }

abbrev pub loads : Option Offer → Shown
loads offer = is ((command.Load 1 ∷ []) ∷ []) (Away (Exchange 1 offer)) Inner

-- its frame is given, and its acknowledgement comes
abbrev pub JobIsSent : Type 0
JobIsSent =
    Serves 2 (hears (frame.Ack 1 ∷ [])) to_far
    (loads (Some far_offer) ∷ is ((command.Sent 1 1 ∷ []) ∷ []) Told Outer ∷ [])
    (codes "SYSA 00001 OK SENT 1 GOT 0" ∷ [])

-- none comes: the job stays current, and is offered again by the next step
abbrev pub JobStays : Type 0
JobStays = Serves 2 (hears []) to_far (loads (Some far_offer) ∷ is [] Told Outer ∷ [])
    (codes "SYSA 00001 OK SENT 0 GOT 0" ∷ [])

abbrev pub FrameIsGiven : Type 0
FrameIsGiven = bytes_given (Away (Exchange 1 (Some far_offer))) (read.Lines far_text) ≡ first_job_bytes

-- where the line's numbers are used up, none is offered
abbrev pub with_counts : ℕ → ℕ → Queue → Queue
with_counts sent got Q = record Q { lines = record { sent = sent; got = got; current = job 0 } ∷ [] }

abbrev pub LastNumberIsKept : Type 0
LastNumberIsKept = Serves 2 (hears []) (with_counts number_greatest 0 to_far) (loads None ∷ is [] Told Outer ∷ [])
    (codes "SYSA 00001 OK SENT 0 GOT 0" ∷ [])

-- A JOB COMES

-- the empty queue of node FAR, with so many groups
abbrev pub far_node : ℕ → Queue
far_node groups = empty (record default_config { node = name (codes "FAR"); groups = groups })

abbrev pub opens : List Frame → Shown
opens frames = is ((command.Begin for_far ∷ command.Take 1 ∷ []) ∷ [])
    (Away (SpoolArrival 1 (job 1) far_text (served 0 0 frames))) Inner

abbrev pub gets : List Frame → Shown
gets frames = is ((command.Got 1 1 (job 1) far_text ∷ []) ∷ []) (Away (Acknowledge (Some 1) (served 0 1 frames))) Inner

-- its frame comes twice: it is got once, and acknowledged twice
abbrev pub JobComesTwice : Type 0
JobComesTwice =
    Serves 5 (hears (first_job ∷ first_job ∷ [])) (far_node 512)
    (loads None ∷ opens (first_job ∷ []) ∷ gets (first_job ∷ [])
    ∷ is [] (Away (Acknowledge (Some 1) (served 0 1 []))) Inner
    ∷ is [] Told Outer ∷ [])
    (codes "SYSA 00001 OK SENT 0 GOT 1" ∷ [])

abbrev pub AckIsGiven : Type 0
AckIsGiven = bytes_given (Away (Acknowledge (Some 1) (served 0 1 []))) (read.Lines []) ≡ first_ack

-- it is to be converted there, and comes from node HERE
abbrev pub after_line : ℕ → Finds → Queue → Queue
after_line n finds Q = run Q (all_entries (all_batches (sittings n finds Q (for_step 64) (Fresh (Line 1)))))

abbrev pub JobIsThere : Type 0
JobIsThere =
    (shown_queue (after_line 5 (hears (first_job ∷ first_job ∷ [])) (far_node 512)) what.Queue
    ≡ codes "JOB00001 X A 05 CONVERT - -" ∷ [])
    × (map (λ j. j.fields.origin) (after_line 5 (hears (first_job ∷ [])) (far_node 512)).jobs
    ≡ name (codes "HERE") ∷ [])

-- under LOCK the sittings are the same, and the lock is never given up
abbrev pub JobComesUnderLock : Type 0
JobComesUnderLock =
    map (λ t. t.release) (sittings 4 (hears (first_job ∷ [])) (far_node 512) (by_lock 64) (Fresh (Line 1)))
    ≡ Keep ∷ Keep ∷ Keep ∷ Keep ∷ []

-- a job's first commands begin a sitting: the lock is given up after the command before them
abbrev pub JobAfterAck : Type 0
JobAfterAck =
    Serves 5 (hears (frame.Ack 1 ∷ first_job ∷ [])) (far_node 512)
    (loads None ∷ is ((command.Sent 1 1 ∷ []) ∷ []) (Away (Acknowledge None (served 0 0 (first_job ∷ [])))) Inner
    ∷ opens [] ∷ gets [] ∷ is [] Told Outer ∷ [])
    (codes "SYSA 00001 OK SENT 0 GOT 1" ∷ [])

-- WHAT IS NOT GOT

abbrev pub job_frame : ℕ → Name8 → List (List ℕ) → Frame
job_frame number node text = frame.Job number (name (codes "HERE")) node text

-- a number is left out: nothing is given
abbrev pub GapIsPassedOver : Type 0
GapIsPassedOver =
    Serves 2 (hears (job_frame 3 (name (codes "FAR")) far_text ∷ [])) (far_node 512)
    (loads None ∷ is [] Told Outer ∷ [])
    (codes "SYSA 00001 OK SENT 0 GOT 0" ∷ [])

-- its cards are refused
abbrev pub BadCardClosesTheLine : Type 0
BadCardClosesTheLine =
    Serves 2 (hears (job_frame 1 (name (codes "FAR")) (codes "//1A JOB" ∷ []) ∷ first_job ∷ [])) (far_node 512)
    (loads None ∷ is [] Told Outer ∷ [])
    (codes "SYSA 00001 NO BAD CARD 1 NAME" ∷ [])

-- no route leads to its node: Begin is refused, and what follows isn't handled
abbrev pub UnknownNodeClosesTheLine : Type 0
UnknownNodeClosesTheLine =
    Serves 2 (hears (job_frame 1 (name (codes "NEAR")) (codes "//X JOB" ∷ []) ∷ frame.Ack 1 ∷ [])) (far_node 512)
    (loads None
    ∷ is ((command.Begin (record (fields_of (codes "X")) { node = name (codes "NEAR") }) ∷ []) ∷ []) Told Outer
    ∷ [])
    (codes "SYSA 00001 NO NO NODE" ∷ [])

-- no group is free: the job is dropped
abbrev pub FullSpoolClosesTheLine : Type 0
FullSpoolClosesTheLine =
    Serves 2 (hears (first_job ∷ [])) (queue_after (far_node 1) ((member 2, command.Take 1) ∷ []))
    (loads None ∷ is ((command.Begin for_far ∷ command.Take 1 ∷ command.Drop (job 1) ∷ []) ∷ []) Told Outer ∷ [])
    (codes "SYSA 00001 NO SPOOL FULL" ∷ [])

-- the volume of its group is lost: the job is dropped
abbrev pub loses_arrival : Finds
loses_arrival Q (Away (SpoolArrival number n text s)) = record (calm Q Told) { lost = Some 1 }
loses_arrival Q s = hears (first_job ∷ []) Q s

abbrev pub LostVolumeClosesTheLine : Type 0
LostVolumeClosesTheLine =
    Serves 3 loses_arrival (far_node 512)
    (loads None ∷ opens [] ∷ is ((command.Drop (job 1) ∷ []) ∷ []) Told Outer ∷ [])
    (codes "SYSA 00001 NO SPOOL LOST 1" ∷ [])

-- another member got the number while the text was written: the job is dropped
abbrev pub OtherMemberGetsIt : Type 0
OtherMemberGetsIt =
    let begun = after_line 2 (hears (first_job ∷ [])) (far_node 512) in
    let t = sit (with_counts 0 1 begun) (for_step 64) (Away (SpoolArrival 1 (job 1) far_text (served 0 0 [])))
    (calm begun Told) in
    (shown t ≡ is ((command.Got 1 1 (job 1) far_text ∷ command.Drop (job 1) ∷ []) ∷ []) Told Outer)
    × (t.lines ≡ codes "SYSA 00001 NO AGAIN 1" ∷ [])

-- WHAT CLOSES THE STEP otherwise

-- the line fails before any frame is handled
abbrev pub LostLineTakesNothing : Type 0
LostLineTakesNothing =
    Serves 2 (loses_line (frame.Ack 1 ∷ [])) to_far (loads (Some far_offer) ∷ is [] Told Outer ∷ [])
    (codes "SYSA 00001 NO LINE LOST 1" ∷ [])

-- it fails at the acknowledgement: the job is got already
abbrev pub loses_ack : Finds
loses_ack Q (Away (Acknowledge number s)) = record (calm Q Told) { wire = true }
loses_ack Q s = hears (first_job ∷ first_job ∷ []) Q s

abbrev pub LostLineKeepsTheJob : Type 0
LostLineKeepsTheJob =
    Serves 4 loses_ack (far_node 512)
    (loads None ∷ opens (first_job ∷ []) ∷ gets (first_job ∷ []) ∷ is [] Told Outer ∷ [])
    (codes "SYSA 00001 NO LINE LOST 1" ∷ [])

-- the text of the job that is offered is gone, or on a lost volume
abbrev pub reads_so : Found → Finds
reads_so found Q s = found

abbrev pub GoneTextClosesTheLine : Type 0
GoneTextClosesTheLine =
    (Serves 2 (reads_so (record (calm to_far Told) { read = read.Gone (record { 0 = 7 }) })) to_far
    (loads (Some far_offer) ∷ is [] Told Outer ∷ [])
    (codes "SYSA 00001 NO TEXT 7" ∷ []))
    × (Serves 2 (reads_so (record (calm to_far Told) { read = read.Lost 1 })) to_far
    (loads (Some far_offer) ∷ is [] Told Outer ∷ [])
    (codes "SYSA 00001 NO SPOOL LOST 1" ∷ []))

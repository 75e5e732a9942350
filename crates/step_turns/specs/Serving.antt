-- What a step gives that serves a line to another node. A job is loaded where none is current on the line, its frame is
-- given, and then the bytes that wait are taken. Each frame that these complete is handled in order. An acknowledgement
-- is handled by Sent. A job frame with the next number is handled by Begin, Take of its groups, its text, Got, and then
-- its acknowledgement. For one that was got before the acknowledgement is given again. For one that leaves numbers out
-- nothing is given. After a refused command, or where a text, a volume or the line is lost, the step closes with that,
-- and the frames that are left aren't handled.
use Rattle.std.specs.Prelude.{ℕ, zero, suc, ◌+◌, nat_lt, Bool, true, false, if◌then◌else◌, List, [], ◌∷◌, take, Option, Some, None, option_map, Result, Ok, Err}
use Rattle.std.specs.Option.{option_map_or}
use Rattle.mas_types.specs.declared.answers.Closing.{Closing}
use Rattle.mas_types.specs.declared.answers.Closing.TheVariants as closing
use Rattle.mas_types.specs.declared.commands.Command.{Command}
use Rattle.mas_types.specs.declared.commands.Command.TheVariants as command
use Rattle.mas_types.specs.declared.commands.Reply.{Reply}
use Rattle.mas_types.specs.declared.commands.Reply.TheVariants as reply
use Rattle.mas_types.specs.declared.ids.JobNo.{JobNo}
use Rattle.mas_types.specs.declared.ids.MemberId.{MemberId}
use Rattle.mas_types.specs.declared.ids.Name8.{Name8}
use Rattle.mas_types.specs.declared.jobs.Job.{Job}
use Rattle.mas_types.specs.declared.jobs.JobFields.{JobFields}
use Rattle.mas_types.specs.declared.journals.Entry.{Entry}
use Rattle.mas_types.specs.declared.queues.Queue.{Queue}
use Rattle.mas_types.specs.Closings.{closing_line, reply_lines}
use Rattle.mas_types.specs.Commands.Wire.{got_on, sent_on}
use Rattle.mas_types.specs.Owners.{groups_needed}
use Rattle.mas_types.specs.Queue.{job_at}
use Rattle.mas_types.specs.Run.{run}
use Rattle.queue_laws.specs.Laws.{is_refusal}
use Rattle.card_reader.specs.declared.decks.Refused.{Refused}
use Rattle.card_reader.specs.Decks.{read_as, text_of}
use Rattle.job_outcome.specs.declared.outcomes.Read.{Read}
use Rattle.job_outcome.specs.declared.outcomes.Read.TheVariants as read
use Rattle.nje_frames.specs.declared.frames.Frame.{Frame}
use Rattle.nje_frames.specs.declared.frames.Frame.TheVariants as frame
use Rattle.nje_frames.specs.Grammar.{frame_text, number_greatest}
use Rattle.nje_store.specs.declared.custody.Custody.{Custody}
use Rattle.nje_store.specs.declared.custody.Custody.TheVariants as custody
use Rattle.nje_store.specs.Custody.{custody_of}
use Rattle.step_turns.specs.Entries.{closing_reply, given_in, reply_to}
use Rattle.step_turns.specs.Decks.{job_opened, opening}
use Rattle.step_turns.specs.States.{Acknowledge, Aside, Away, Exchange, Found, Offer, Service, SpoolArrival, State}
use Rattle.step_turns.specs.TurnParts.{Turn, after_part, leaves, says}

-- THE LINE

-- the bytes that a step takes from a line, at most
abbrev pub taken_most : ℕ
taken_most = 65536

-- the frames that came; no more come than bytes are taken
abbrev pub heard : Found → List Frame
heard found = take taken_most found.frames

-- a step that has handled no frame yet
abbrev pub serves_first : ℕ → Service
serves_first l = record { line = l; sent = 0; got = 0; frames = [] }

abbrev pub with_frames : List Frame → Service → Service
with_frames fs s = record s { frames = fs }

-- THE JOB THAT IS CURRENT

-- as its frame names it, under the next number of the line
abbrev pub offer_of : ℕ → JobNo → Job → Offer
offer_of sent n j = record { job = n; number = sent + 1; origin = j.fields.origin; node = j.fields.node }

-- none is offered once the line's numbers are used up
abbrev pub offer_at : Queue → ℕ → JobNo → Option Offer
offer_at Q l n = if nat_lt (sent_on Q l) number_greatest then option_map (offer_of (sent_on Q l) n) (job_at Q n)
    else None

-- the job that a Load answered
abbrev pub offered : Queue → ℕ → Reply → Option Offer
offered Q l (reply.Job n) = offer_at Q l n
offered Q l _ = None

-- WHAT CLOSES THE STEP before it has handled a frame: the text of the job that is offered is gone, or lies on a lost
-- volume; or the line is lost

abbrev pub unread : Option Offer → Read → Option Closing
unread None r = None
unread (Some o) (read.Lines text) = None
unread (Some o) (read.Gone group) = Some (closing.NoText group)
unread (Some o) (read.Lost volume) = Some (closing.SpoolLost volume)

abbrev pub unless_cut : ℕ → Bool → Option Closing → Option Closing
unless_cut l lost (Some end) = Some end
unless_cut l true None = Some (closing.LineLost l)
unless_cut l false None = None

abbrev pub exchange_end : Option Offer → ℕ → Found → Option Closing
exchange_end offer l found = unless_cut l found.wire (unread offer found.read)

-- A JOB THAT CAME

pub record Arrival : Type 0 where
  pub number : ℕ
  pub origin : Name8
  pub node : Name8
  pub text : List (List ℕ)

abbrev pub frame_for : Arrival → Frame
frame_for a = frame.Job a.number a.origin a.node a.text

-- what its cards say, at the nodes that its frame names
abbrev pub arrived : Arrival → JobFields → JobFields
arrived a fields = record fields { origin = a.origin; node = a.node }

-- a Sent that isn't refused counts as a job that left
abbrev pub counts_sent : Reply → Service → Service
counts_sent r s = record s { sent = s.sent + (if is_refusal r then 0 else 1) }

abbrev pub counts_got : Service → Service
counts_got s = record s { got = s.got + 1 }

-- WHAT IS GIVEN ON THE LINE in the acts that a state waits for, by how a text was read, where nothing cuts them

abbrev pub frame_given : Aside → Read → Option Frame
frame_given (Exchange l (Some o)) (read.Lines text) = Some (frame.Job o.number o.origin o.node text)
frame_given (Acknowledge (Some number) s) r = Some (frame.Ack number)
frame_given _ _ = None

abbrev pub bytes_given : State → Read → List ℕ
bytes_given (Away a) r = option_map_or frame_text (frame_given a r) []
bytes_given _ r = []

-- how the frames that are left are served: at a queue, with so many commands given in the sitting
abbrev pub Serves : Type 0
Serves = Service → Queue → ℕ → Turn

module _ (by : MemberId) (at : ℕ) where
  abbrev gives : Queue → List Command → List Entry
  gives Q cs = given_in Q by at cs

  abbrev ends_as : Closing → Turn
  ends_as end = says (closing_line by at end ∷ [])

  abbrev waits_for : Aside → Turn
  waits_for a = leaves (Away a)

  -- THE FIRST SITTING

  abbrev pub line_begins : Queue → ℕ → Turn
  line_begins Q l =
      let es = gives Q (command.Load l ∷ []) in
      after_part es (waits_for (Exchange l (offered (run Q es) l (reply_to Q by (command.Load l)))))

  -- A FRAME

  -- an acknowledgement
  abbrev pub sends : ℕ → Serves → Serves
  sends number more s Q given =
      let c = command.Sent s.line number in
      after_part (gives Q (c ∷ []))
      (more (counts_sent (reply_to Q by c) s) (run Q (gives Q (c ∷ []))) (suc given))

  -- a job that gets its groups, or is refused them
  abbrev pub opens : Option JobNo → List Entry → Arrival → Service → Turn
  opens (Some n) es a s = after_part es (waits_for (SpoolArrival a.number n (text_of a.text) s))
  opens None es a s = after_part es (says (reply_lines by at (closing_reply es)))

  -- a job whose cards say this, or are refused
  abbrev pub reads : Result JobFields Refused → Arrival → Service → Queue → Turn
  reads (Err bad) a s Q = ends_as (closing.BadCard bad.card bad.cause)
  reads (Ok fields) a s Q =
      let groups = groups_needed (text_of a.text) in
      opens (job_opened Q by (arrived a fields) groups) (gives Q (opening Q by (arrived a fields) groups)) a s

  -- A job's first commands begin a sitting. Where the member has given others in this one, it gives the lock up first.
  abbrev pub begins : ℕ → Arrival → Service → Queue → Turn
  begins zero a s Q = reads (read_as Q.config.node a.text) a s Q
  begins (suc given) a s Q = waits_for (Acknowledge None (with_frames (frame_for a ∷ s.frames) s))

  -- a job whose number is judged so
  abbrev pub comes : Custody → Arrival → Serves → Serves
  comes custody.Next a more s Q given = begins given a s Q
  comes (custody.Again number) a more s Q given = waits_for (Acknowledge (Some number) s)
  comes (custody.Gap number kept) a more s Q given = more s Q given

  abbrev pub handles : Frame → Serves → Serves
  handles (frame.Ack number) more s Q given = sends number more s Q given
  handles (frame.Job number origin node text) more s Q given =
      let a : Arrival = record { number = number; origin = origin; node = node; text = text } in
      comes (custody_of (got_on Q s.line) number) a more s Q given

  -- FRAMES ONE AFTER ANOTHER, up to one that waits for acts, or that closes the step
  abbrev pub serves : List Frame → Serves
  serves [] s Q given = ends_as (closing.Line s.sent s.got)
  serves (f ∷ fs) s Q given = handles f (serves fs) (with_frames fs s) Q given

  -- AFTER ACTS

  -- once bytes were taken, unless something closes the step
  abbrev pub exchanged : Option Closing → ℕ → List Frame → Queue → Turn
  exchanged (Some end) l fs Q = ends_as end
  exchanged None l fs Q = serves fs (serves_first l) Q 0

  -- once a job's text stands in its groups: a job that isn't got is dropped
  abbrev pub kept : Bool → Command → ℕ → JobNo → Service → Queue → Turn
  kept true c number n s Q = after_part (gives Q (c ∷ command.Drop n ∷ []))
      (says (reply_lines by at (reply_to Q by c)))
  kept false c number n s Q = after_part (gives Q (c ∷ [])) (waits_for (Acknowledge (Some number) (counts_got s)))

  -- once it stands there, or a volume of theirs was found lost
  abbrev pub stored : Option ℕ → ℕ → JobNo → List (List ℕ) → Service → Queue → Turn
  stored None number n text s Q =
      let c = command.Got s.line number n text in
      kept (is_refusal (reply_to Q by c)) c number n s Q
  stored (Some volume) number n text s Q = after_part (gives Q (command.Drop n ∷ []))
      (ends_as (closing.SpoolLost volume))

  -- once an acknowledgement was given, or the line was found lost
  abbrev pub acknowledged : Option ℕ → Bool → Service → Queue → Turn
  acknowledged None lost s Q = serves s.frames s Q 0
  acknowledged (Some number) true s Q = ends_as (closing.LineLost s.line)
  acknowledged (Some number) false s Q = serves s.frames s Q 0

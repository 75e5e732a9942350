-- The acts of a step that serves a line, and that want no lock: which may be done, and what they do, for every answer.
use Rattle.std.specs.Prelude.{◌≡◌, ◌≢◌, ◌⊎◌, ℕ, ◌≤◌, Bool, true, false, List, [], ◌++◌, length, take, All, Option, Some, None, Result, Ok, Err, IfOk, IfSome}
use Rattle.mas_types.specs.declared.jobs.Job.{Job}
use Rattle.mas_types.specs.declared.queues.Thing.TheVariants.{Deck}
use Rattle.mas_types.specs.Fit.{IsLine}
use Rattle.mas_types.specs.Queue.{job_at}
use Rattle.track_groups.specs.Places.{groups_of}
use Rattle.spool_plant.specs.View.{View, given_now, taken_now}
use Rattle.spool_plant.specs.declared.plant.Plant.{Ghosts as PlantGhosts}
use Rattle.spool_volumes.specs.Volumes.{AreRoomy}
use Rattle.ckpt_copy.specs.declared.copying.Copying.{Ghosts as CopyGhosts}
use Rattle.ckpt_form.specs.declared.steady.Steady.{Ghosts as SteadyGhosts}
use Rattle.mas_complex.specs.declared.complex.Complex.{Complex}
use Rattle.mas_complex.specs.Locking.{IsUp}
use Rattle.mas_complex.specs.Parts.{Parts, parts_of}
use Rattle.job_outcome.specs.declared.outcomes.Read.{Read}
use Rattle.job_outcome.specs.declared.outcomes.Read.TheVariants as read
use Rattle.member_node.specs.declared.member.Member.{Member}
use Rattle.member_node.specs.declared.member.NodeNo.{NodeNo}
use Rattle.member_node.specs.declared.member.NodeNo.TheVariants.{BothLost, ConsoleFault, Halted, NoMemory}
use Rattle.member_decks.specs.Steps.{SpoolStops}
use Rattle.member_acts.specs.Reading.{IsFailedRead}
use Rattle.member_acts.specs.Rounds.{IsReadAs, names_read}
use Rattle.nje_frames.specs.declared.frames.Frame.{Frame}
use Rattle.nje_frames.specs.declared.frames.Frame.TheVariants as frame
use Rattle.nje_frames.specs.Grammar.{IsFrame, frame_text}
use Rattle.step_turns.specs.Serving.{bytes_given, taken_most, unread}
use Rattle.step_turns.specs.declared.states.Found.{Found}
use Rattle.step_turns.specs.declared.states.Offer.{Offer}
use Rattle.step_turns.specs.declared.states.State.TheVariants.{Away}
use Rattle.step_turns.specs.declared.states.Aside.TheVariants.{Exchange}
use Rattle.member_acts.specs.Whole.{queue_of}
use Rattle.member_acts.specs.Asides.{MayRead, wire_found}
use Rattle.member_wires.specs.declared.acts.End.{End}
use Rattle.member_wires.specs.Acts.{AreOnLine, GivesBytes, HasLineFailed, IsHeard, ReadsOn, TakesAll}

-- the member's end of a line
abbrev pub end_of : Member → ℕ → End
end_of m l = record { by = m.id; line = l }

-- WHAT A MEMBER FOUND

-- the bytes of the frame of the job that is offered, with this text
abbrev pub job_bytes : Offer → List (List ℕ) → List ℕ
job_bytes o text = frame_text (frame.Job o.number o.origin o.node text)

abbrev pub lost_of : {T : Type 0} → Result (T × Bool) NodeNo → Result Bool NodeNo
lost_of (Ok given) = Ok given.1
lost_of (Err why) = Err why

abbrev pub wire_of : Result Found NodeNo → Result Bool NodeNo
wire_of (Ok found) = Ok found.wire
wire_of (Err why) = Err why

abbrev pub frames_of : Result Found NodeNo → List Frame
frames_of (Ok found) = found.frames
frames_of (Err why) = []

-- what was found by taking, once a text was read so
pub record IsFoundHeard (told : Type 0) (end : End) (old new : View) (was is : Option (List ℕ)) (text : Read)
    (result : Result Found NodeNo) : Type 0 where
  pub only : IfOk result (λ found. found ≡ wire_found text found.wire found.frames)
  pub heard : IsHeard told end old new was is (frames_of result) (wire_of result)

-- the bytes of the acknowledgement, if there is one to give
abbrev pub ack_bytes : Option ℕ → List ℕ
ack_bytes None = []
ack_bytes (Some number) = frame_text (frame.Ack number)

-- WHAT MOVED IN AN EXCHANGE

-- the bytes of the frame of the job that is offered, by how its text was read: none where it wasn't
abbrev pub offered_bytes : ℕ → Option Offer → Option Read → List ℕ
offered_bytes l offer None = []
offered_bytes l offer (Some text) = bytes_given (Away (Exchange l offer)) text

-- So many of these bytes were given, by the answer: all of them, unless the line was found lost or the member stopped.
-- Out of memory all were, or none.
abbrev pub GaveBy : Result Bool NodeNo → List ℕ → ℕ → Type 0
GaveBy (Ok false) bytes n = n ≡ length bytes
GaveBy (Ok true) bytes n = n ≤ length bytes
GaveBy (Err NoMemory) bytes n = (n ≡ 0) ⊎ (n ≡ length bytes)
GaveBy (Err Halted) bytes n = n ≤ length bytes
GaveBy (Err BothLost) bytes n = ⊥
GaveBy (Err ConsoleFault) bytes n = ⊥

-- So many of the frame's bytes were given, and these were taken, which waited before all others, and only once the
-- whole frame was given.
pub record HasMoved (end : End) (bytes took : List ℕ) (old new : View) (result : Result Bool NodeNo) : Type 0 where
  pub gave : ℕ
  pub by_answer : GaveBy result bytes gave
  pub first : (took ≡ []) ⊎ (gave ≡ length bytes)
  pub given : given_now new end.line end.by.0 ≡ given_now old end.line end.by.0 ++ take gave bytes
  pub taken : taken_now new end.line end.by.0 ≡ taken_now old end.line end.by.0 ++ took
  pub waited : old.waiting end.line ≡ took ++ new.waiting end.line

-- Where the text couldn't be read, or the line was found lost at the frame, nothing was taken: no frame came, and the
-- reader is as it was.
pub record HearsNone (offer : Option Offer) (took : List ℕ) (was is : Option (List ℕ)) (found : Found) : Type 0 where
  pub why : (unread offer found.read ≢ None) ⊎ (found.wire ≡ true)
  pub nothing : took ≡ []
  pub reader : is ≡ was
  pub frames : found.frames ≡ []

-- Else bytes were taken, all that waited unless they are too many or the line was found lost, and these are the frames
-- that they complete in the reader's stream.
pub record HearsSome (told : Type 0) (end : End) (offer : Option Offer) (took : List ℕ) (new : View)
    (was is : Option (List ℕ)) (found : Found) : Type 0 where
  pub readable : unread offer found.read ≡ None
  pub reads : ReadsOn was is took found.frames
  pub frames : All IsFrame found.frames
  pub all : found.wire ≡ false → TakesAll told end taken_most (length took) new

module _ {P C : Type 0} (plants : PlantGhosts P) where
  abbrev v : Parts P C → View
  v x = plants.view x.plant

  -- THE EXCHANGE

  -- the job that is offered is there, as the member's tables tell it
  abbrev pub MayOffer : Parts P C → Member → Option Offer → Type 0
  MayOffer x m None = Unit {0}
  MayOffer x m (Some o) = MayRead plants x m o.job

  pub record MayServe (x : Parts P C) (m : Member) (l : ℕ) (its : Option Offer) : Type 0 where
    pub up : IsUp x.book m.id
    pub line : IsLine l
    pub offer : MayOffer x m its

  -- How the text of the job that is offered was read: as the queue has it, unless a volume of its groups failed. None
  -- was looked at where none is offered.
  abbrev pub FindsOffered : Parts P C → Parts P C → Member → Option Offer → Read → Type 0
  FindsOffered x y m None text = text ≡ read.Lines []
  FindsOffered x y m (Some o) text =
      IsFailedRead x.base.config.groups (groups_of (Deck o.job) m.checkpoint.tables.owners) text (v x) (v y)
      × (plants.tells → AreRoomy (v x) x.base.config → (j : Job) → job_at (queue_of x) o.job ≡ Some j
      → IsReadAs plants.tells x.base.config.groups (j.text, groups_of (Deck o.job) (queue_of x).owners) (Some text)
      (v x) (v y))

  -- what was found where so much of the text was read, and these bytes were taken
  pub record HasExchanged (x y : Parts P C) (m : Member) (l : ℕ) (offer : Option Offer) (text : Option Read)
      (took : List ℕ) (was is : Option (List ℕ)) (found : Found) : Type 0 where
    pub only : found ≡ wire_found found.read found.wire found.frames
    pub is_read : text ≡ Some found.read
    pub failed : found.wire ≡ true → HasLineFailed l (v x) (v y)
    pub heard : HearsNone offer took was is found ⊎ HearsSome plants.tells (end_of m l) offer took (v y) was is found

  -- By its answer. How the text was read, what was given and what was taken is told after an error too.
  pub record Exchanged (x y : Parts P C) (m : Member) (l : ℕ) (offer : Option Offer) (was is : Option (List ℕ))
      (result : Result Found NodeNo) : Type 0 where
    pub acts : AreOnLine plants.tells (end_of m l) (v x) (v y)
    pub stops : SpoolStops (λ found. names_read found.read) result m.id.0 (v x) (v y)
    pub text : Option Read
    pub took : List ℕ
    pub there : IfSome text (λ t. FindsOffered x y m offer t)
    pub few : length took ≤ taken_most
    pub moved : plants.tells
        → HasMoved (end_of m l) (offered_bytes l offer text) took (v x) (v y) (wire_of result)
    pub finds : IfOk result (HasExchanged x y m l offer text took was is)

  -- AN ACKNOWLEDGEMENT

  pub record MayAnswer (x : Parts P C) (m : Member) (l : ℕ) : Type 0 where
    pub up : IsUp x.book m.id
    pub line : IsLine l

  pub record HasAnswered (x y : Parts P C) (m : Member) (l : ℕ) (number : Option ℕ) (result : Result Found NodeNo)
      : Type 0 where
    pub gives : GivesBytes plants.tells (end_of m l) (ack_bytes number) (v x) (v y) (wire_of result)
    pub only : IfOk result (λ found. found ≡ wire_found (read.Lines []) found.wire [])

-- OVER THE SHARED VALUE

module _ {P C : Type 0} {plants : PlantGhosts P} {steadies : SteadyGhosts C} {copies : CopyGhosts C} where
  abbrev pub MayExchange : Complex P C plants steadies copies → Member → ℕ → Option Offer → Type 0
  MayExchange x m l offer = MayServe plants (parts_of x) m l offer

  abbrev pub Exchanges : Complex P C plants steadies copies → Complex P C plants steadies copies → Member → ℕ
      → Option Offer → Option (List ℕ) → Option (List ℕ) → Result Found NodeNo → Type 0
  Exchanges x y m l offer was is result = Exchanged plants (parts_of x) (parts_of y) m l offer was is result

  abbrev pub MayAcknowledge : Complex P C plants steadies copies → Member → ℕ → Type 0
  MayAcknowledge x m l = MayAnswer plants (parts_of x) m l

  abbrev pub Acknowledges : Complex P C plants steadies copies → Complex P C plants steadies copies → Member → ℕ
      → Option ℕ → Result Found NodeNo → Type 0
  Acknowledges x y m l number result = HasAnswered plants (parts_of x) (parts_of y) m l number result

-- What a step may find in the acts that it waits for: a text is as the queue has it, and nothing is lost but what
-- failed.
use Rattle.std.specs.Prelude.{◌≡◌, ◌||◌, ℕ, Bool, true, List, [], ◌∷◌, All, Option, Some, None}
use Rattle.std.specs.List.{list_any}
use Rattle.mas_types.specs.declared.ids.GroupNo.{GroupNo}
use Rattle.mas_types.specs.declared.ids.JobNo.{JobNo}
use Rattle.mas_types.specs.declared.ids.MemberId.{MemberId}
use Rattle.mas_types.specs.declared.ids.OutNo.{OutNo}
use Rattle.mas_types.specs.declared.jobs.Job.{Job}
use Rattle.mas_types.specs.declared.jobs.Output.{Output}
use Rattle.mas_types.specs.declared.queues.Queue.{Queue}
use Rattle.mas_types.specs.declared.queues.Thing.TheVariants.{Deck, Output as OutputThing}
use Rattle.mas_types.specs.Queue.{job_at, output_at}
use Rattle.mas_types.specs.Run.{run}
use Rattle.spool_plant.specs.View.{View}
use Rattle.track_groups.specs.Places.{groups_of}
use Rattle.job_outcome.specs.declared.outcomes.Read.{Read}
use Rattle.job_outcome.specs.declared.outcomes.Read.TheVariants as read
use Rattle.member_decks.specs.Steps.{names_volume}
use Rattle.member_work.specs.Rounds.{HasPrinterFailed, IsReadAs, IsSpoolLost, names_read}
use Rattle.nje_frames.specs.Grammar.{IsFrame}
use Rattle.step_turns.specs.Courses.{Finds}
use Rattle.step_turns.specs.Entries.{all_entries}
use Rattle.step_turns.specs.States.{nothing_found}
use Rattle.step_turns.specs.declared.states.Found.{Found}
use Rattle.step_turns.specs.declared.states.Offer.{Offer}
use Rattle.step_turns.specs.declared.states.State.{State}
use Rattle.step_turns.specs.declared.states.State.TheVariants.{Away}
use Rattle.step_turns.specs.declared.states.Aside.TheVariants.{Acknowledge, Exchange, PrintLines, ReadText, SpoolArrival, SpoolDeck, SpoolOutputs}
use Rattle.run_turns.specs.Pieces.{Piece}
use Rattle.member_sittings.specs.Asides.{deck_found, lowest_groups}
use Rattle.member_frames.specs.Asides.{lowest_for, wire_found}
pub use Rattle.member_frames.specs.Asides.{printed_found, read_found}
use Rattle.member_wires.specs.Acts.{HasLineFailed}

-- A text of these groups was written, or not: a volume that was found lost failed, and one of the groups lies on it.
pub record FindsWritten (per : ℕ) (groups : List GroupNo) (found : Found) (old new : View) : Type 0 where
  pub only : found ≡ deck_found found.lost
  pub lost : IsSpoolLost per groups found.lost old new

-- The job is there, and its text was read as the queue has it, unless a volume of its groups failed.
pub record FindsJob (per : ℕ) (Q : Queue) (n : JobNo) (found : Found) (old new : View) : Type 0 where
  pub only : found ≡ read_found found.read
  pub job : Job
  pub there : job_at Q n ≡ Some job
  pub as_had : IsReadAs (Unit {0}) per (job.text, groups_of (Deck n) Q.owners) (Some found.read) old new

-- So was the text of an output that is there. The member's printer was found lost only if it failed.
pub record FindsOutput (per : ℕ) (by : MemberId) (Q : Queue) (n : JobNo) (i : OutNo) (found : Found) (old new : View)
    : Type 0 where
  pub only : found ≡ printed_found found.read found.printer
  pub lost : found.printer ≡ true → HasPrinterFailed by old new
  pub output : Output
  pub there : output_at Q n i ≡ Some output
  pub as_had : IsReadAs (Unit {0}) per (output.text, groups_of (OutputThing n i) Q.owners) (Some found.read) old new

-- The job that is offered on a line is there, and its text was read so too; none was looked at where none is offered.
abbrev pub FindsOffered : ℕ → Queue → Option Offer → Read → View → View → Type 0
FindsOffered per Q None text old new = text ≡ read.Lines []
FindsOffered per Q (Some o) text old new = (job : Job) × (job_at Q o.job ≡ Some job)
    × IsReadAs (Unit {0}) per (job.text, groups_of (Deck o.job) Q.owners) (Some text) old new

-- And frames came over the line. It was found lost only if it failed.
pub record FindsFrames (per : ℕ) (Q : Queue) (l : ℕ) (offer : Option Offer) (found : Found) (old new : View) : Type 0
  where
    pub only : found ≡ wire_found found.read found.wire found.frames
    pub text : FindsOffered per Q offer found.read old new
    pub lost : found.wire ≡ true → HasLineFailed l old new
    pub frames : All IsFrame found.frames

-- An acknowledgement was given, if there was one to give, unless the line failed.
pub record FindsGiven (l : ℕ) (found : Found) (old new : View) : Type 0 where
  pub only : found ≡ wire_found (read.Lines []) found.wire []
  pub lost : found.wire ≡ true → HasLineFailed l old new

-- What a member may find at a queue in the acts that a state waits for, in acts between two views of the plant, whose
-- volumes have so many groups each.
abbrev pub IsFoundAt : ℕ → MemberId → View → View → Queue → State → Found → Type 0
IsFoundAt per by old new Q (Away (SpoolDeck n text)) found = FindsWritten per (lowest_groups by Q.owners text) found old
    new
IsFoundAt per by old new Q (Away (ReadText runs n fields p)) found = FindsJob per Q n found old new
IsFoundAt per by old new Q (Away (SpoolOutputs n specs p)) found = FindsWritten per (lowest_for by Q.owners specs) found
    old new
IsFoundAt per by old new Q (Away (PrintLines n i last p)) found = FindsOutput per by Q n i found old new
IsFoundAt per by old new Q (Away (Exchange l offer)) found = FindsFrames per Q l offer found old new
IsFoundAt per by old new Q (Away (SpoolArrival number job cards service)) found =
    FindsWritten per (lowest_groups by Q.owners cards) found old new
IsFoundAt per by old new Q (Away (Acknowledge number service)) found = FindsGiven service.line found old new
IsFoundAt per by old new Q _ found = found ≡ nothing_found

-- a queue, and a state of a step there
pub record Wait : Type 0 where
  pub queue : Queue
  pub state : State

-- where a step stood after each of these pieces, from a queue on
abbrev pub waits_in : List Piece → Queue → List Wait
waits_in [] Q = []
waits_in (p ∷ ps) Q =
    let now = run Q (all_entries p.sitting.batches) in
    record { queue = now; state = p.sitting.next } ∷ waits_in ps now

-- at each of them this may be found
abbrev pub AreFoundIn : ℕ → MemberId → View → View → Finds → List Wait → Type 0
AreFoundIn per by old new finds ws = All (λ w. IsFoundAt per by old new w.queue w.state (finds w.queue w.state)) ws

-- the volume that acts found lost, if they did
abbrev pub names_found : Found → ℕ → Bool
names_found found n = names_volume found.lost n || names_read found.read n

-- the volumes that were found lost where a step waited so
abbrev pub named_in : Finds → List Wait → ℕ → Bool
named_in finds ws n = list_any (λ w. names_found (finds w.queue w.state) n) ws

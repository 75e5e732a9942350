-- What a command leaves of a queue's texts, each with the groups in which it stands.
use Rattle.std.specs.Prelude.{◌≡◌, ◌⊎◌, Bool, true, false, List, [], All, Contains}
use Rattle.mas_types.specs.declared.ids.GroupNo.{GroupNo}
use Rattle.mas_types.specs.declared.ids.MemberId.{MemberId}
use Rattle.mas_types.specs.declared.ids.JobNo.{JobNo}
use Rattle.mas_types.specs.declared.ids.OutNo.{OutNo}
use Rattle.mas_types.specs.declared.jobs.Job.{Job}
use Rattle.mas_types.specs.declared.jobs.Output.{Output as QueueOutput}
use Rattle.mas_types.specs.declared.jobs.Text.{Text}
use Rattle.mas_types.specs.declared.jobs.Text.TheVariants.{Whole}
use Rattle.mas_types.specs.declared.commands.Command.{Command}
use Rattle.mas_types.specs.declared.commands.Command.TheVariants as command
use Rattle.mas_types.specs.declared.queues.Queue.{Queue}
use Rattle.mas_types.specs.declared.queues.Thing.{Thing}
use Rattle.mas_types.specs.declared.queues.Thing.TheVariants.{Deck, Output}
use Rattle.mas_types.specs.Fit.{AreDistinct, IsConfig}
use Rattle.mas_types.specs.Ids.{same_number}
use Rattle.mas_types.specs.Sound.{IsSound, is_owner_there, same_key}
use Rattle.mas_types.specs.Step.{step}
use Rattle.track_groups.specs.Places.{groups_of}
use Rattle.ckpt_tables.specs.declared.tables.Tables.{Tables}
use Rattle.queue_telling.specs.Telling.{Tell, TellSound}

-- P holds of each deck and each output, of its text, and of its groups in the order of their places
pub record HoldsOfTexts (P : Thing → Text → List GroupNo → Type 0) (Q : Queue) : Type 0 where
  pub decks : All (λ j. P (Deck j.number) j.text (groups_of (Deck j.number) Q.owners)) Q.jobs
  pub outputs : All (λ o. P (Output o.job o.index) o.text (groups_of (Output o.job o.index) Q.owners)) Q.outputs

-- a text of no line, without groups
pub record IsBlank (text : Text) (groups : List GroupNo) : Type 0 where
  pub none : text ≡ Whole []
  pub nowhere : groups ≡ []

-- a job of this number had the text, in these groups
pub record WasDeck (Q : Queue) (n : JobNo) (text : Text) (groups : List GroupNo) : Type 0 where
  pub job : Job
  pub there : Contains Q.jobs job
  pub number : job.number ≡ n
  pub same : job.text ≡ text
  pub where_it_was : groups_of (Deck n) Q.owners ≡ groups

-- an output of this job and index had the text, in these groups
pub record WasOutput (Q : Queue) (n : JobNo) (i : OutNo) (text : Text) (groups : List GroupNo) : Type 0 where
  pub output : QueueOutput
  pub there : Contains Q.outputs output
  pub number : output.job ≡ n
  pub index_is : output.index ≡ i
  pub same : output.text ≡ text
  pub where_it_was : groups_of (Output n i) Q.owners ≡ groups

abbrev pub WasThere : Queue → Thing → Text → List GroupNo → Type 0
WasThere Q (Deck n) text groups = WasDeck Q n text groups
WasThere Q (Output n i) text groups = WasOutput Q n i text groups

-- each deck and each output has its text in the groups in which it had it before, or it has neither lines nor groups
abbrev pub LeavesTexts : Queue → Queue → Type 0
LeavesTexts Q R = HoldsOfTexts (λ t text groups. IsBlank text groups ⊎ WasThere Q t text groups) R

-- the command brings a text
abbrev pub brings_text : Command → Bool
brings_text (command.Enter job text) = true
brings_text (command.Ended job specs) = true
brings_text (command.Got line number job text) = true
brings_text _ = false

-- what of a sound queue doesn't look into its texts: jobs and outputs have numbers of their own, and whose a group is
-- is there
pub record AreTheirOwn (Q : Queue) : Type 0 where
  pub config : IsConfig Q.config
  pub numbers : AreDistinct (λ a b. same_number a.number b.number) Q.jobs
  pub keys : AreDistinct same_key Q.outputs
  pub owners : All (λ g. is_owner_there Q.config Q.jobs Q.outputs g ≡ true) Q.owners

-- a command that brings no text leaves the texts of a queue with different numbers and owners that are there
abbrev pub OthersLeaveTexts : Type 0
OthersLeaveTexts = (Q : Queue) (m : MemberId) (c : Command) → brings_text c ≡ false → AreTheirOwn Q
    → LeavesTexts Q (step Q m c).0

-- a sound queue has different numbers, and owners that are there
abbrev pub SoundAreTheirOwn : Type 0
SoundAreTheirOwn = (Q : Queue) → IsSound Q → AreTheirOwn Q

-- a queue has different numbers, and owners that are there, if its tables tell a sound queue
abbrev pub ToldAreTheirOwn : Type 0
ToldAreTheirOwn = (t : Tables) (Q : Queue) → TellSound t → Tell t Q → AreTheirOwn Q

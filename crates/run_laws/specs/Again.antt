-- A queue that is found again.
use Rattle.std.specs.Prelude.{◌≡◌, ℕ, Bool, false, List}
use Rattle.std.specs.List.{AllZip}
use Rattle.mas_types.specs.declared.ids.GroupNo.{GroupNo}
use Rattle.mas_types.specs.declared.jobs.Job.{Job}
use Rattle.mas_types.specs.declared.jobs.Output.{Output as QueueOutput}
use Rattle.mas_types.specs.declared.jobs.Text.{Text}
use Rattle.mas_types.specs.declared.queues.Owner.{Owner}
use Rattle.mas_types.specs.declared.queues.Queue.{Queue}
use Rattle.mas_types.specs.declared.queues.Thing.TheVariants.{Deck, Output}
use Rattle.mas_types.specs.Queue.{line_count}
use Rattle.track_groups.specs.Places.{groups_of}
use Rattle.mas_complex.specs.Texts.{lies_on}

-- the text again; of one with a group on a volume that is gone, as many lines
pub record IsTextAgain (gone : ℕ → Bool) (per : ℕ) (groups : List GroupNo) (text again : Text) : Type 0 where
  pub lines : line_count again ≡ line_count text
  pub same : lies_on gone per groups ≡ false → again ≡ text

-- the job again, with its text
pub record IsJobAgain (gone : ℕ → Bool) (per : ℕ) (owners : List Owner) (job again : Job) : Type 0 where
  pub same : again ≡ record job { text = again.text }
  pub text : IsTextAgain gone per (groups_of (Deck job.number) owners) job.text again.text

-- the output again, with its text
pub record IsOutputAgain (gone : ℕ → Bool) (per : ℕ) (owners : List Owner) (output again : QueueOutput) : Type 0 where
  pub same : again ≡ record output { text = again.text }
  pub text : IsTextAgain gone per (groups_of (Output output.job output.index) owners) output.text again.text

-- The queue again: all of it, except texts with a group on a volume that is gone. Each volume has so many groups.
pub record IsQueueAgain (gone : ℕ → Bool) (per : ℕ) (queue again : Queue) : Type 0 where
  pub config : again.config ≡ queue.config
  pub jobs : AllZip (IsJobAgain gone per queue.owners) queue.jobs again.jobs
  pub outputs : AllZip (IsOutputAgain gone per queue.owners) queue.outputs again.outputs
  pub owners : again.owners ≡ queue.owners
  pub members : again.members ≡ queue.members
  pub routes : again.routes ≡ queue.routes
  pub lines : again.lines ≡ queue.lines
  pub last : again.last ≡ queue.last

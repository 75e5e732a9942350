-- Jobs and outputs whose texts are told by their numbers of lines alone.
use Rattle.std.specs.Prelude.{◌≡◌, List, find, option_map}
use Rattle.mas_types.specs.declared.ids.JobNo.{JobNo}
use Rattle.mas_types.specs.declared.jobs.Text.TheVariants.{Gone}
use Rattle.mas_types.specs.declared.jobs.Job.{Job}
use Rattle.mas_types.specs.declared.jobs.Output.{Output}
use Rattle.mas_types.specs.declared.commands.What.{What}
use Rattle.mas_types.specs.declared.queues.Queue.{Queue}
use Rattle.mas_types.specs.Queue.{has_number}
use Rattle.mas_types.specs.Row.{done}
use Rattle.mas_types.specs.Shown.{show_row}
use Rattle.lay_bytes.specs.declared.records.JobRec.{JobRec}
use Rattle.lay_bytes.specs.declared.records.OutRec.{OutRec}
use Rattle.job_queue.specs.Jobs.{rec_of}
use Rattle.ckpt_pages.specs.QueueOf.{job_with, output_with}

abbrev pub job_of : JobRec → Job
job_of r = job_with (λ x. Gone (record { 0 = 0 }) x.cards) r

abbrev pub output_of : OutRec → Output
output_of r = output_with (λ x. Gone (record { 0 = 0 }) x.lines) r

-- a display of one queue says what the same display of another says
abbrev pub SaysAs : What → Queue → Queue → Type 0
SaysAs what a b = (done a (show_row a what)).1 ≡ (done b (show_row b what)).1

-- the first job of a number in one list is that in another, but for its text, and there is none where the other has
-- none
abbrev pub TellJob : JobNo → List Job → List Job → Type 0
TellJob n a b = option_map rec_of (find (has_number n) a) ≡ option_map rec_of (find (has_number n) b)

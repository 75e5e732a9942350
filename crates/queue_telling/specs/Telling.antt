-- Which queues the tables of a checkpoint tell, and the pages that spell them.
use Rattle.std.specs.Prelude.{◌≡◌, ℕ, List}
use Rattle.mas_types.specs.declared.ids.Page.{Page}
use Rattle.mas_types.specs.declared.queues.Queue.{Queue}
use Rattle.mas_types.specs.Sound.{IsSound}
use Rattle.ckpt_tables.specs.declared.tables.Tables.{Tables}
use Rattle.ckpt_tables.specs.Shape.{HasSpelling, AreLevels}
use Rattle.ckpt_tables.specs.Pages.{Spell}
use Rattle.job_queue.specs.Jobs.{AreJobs}
use Rattle.output_queue.specs.Outputs.{AreOutputs}
use Rattle.queue_telling.specs.Orders.{HaveOrders}

-- the tables tell all of the queue but its texts, of which they tell the numbers of lines
pub record Tell (t : Tables) (Q : Queue) : Type 0 where
  pub config : Q.config ≡ t.config
  pub jobs : AreJobs t.jobs Q.jobs
  pub outputs : AreOutputs t.outputs Q.outputs
  pub owners : Q.owners ≡ t.owners
  pub members : Q.members ≡ t.members
  pub routes : Q.routes ≡ t.routes
  pub lines : Q.lines ≡ t.lines
  pub last : Q.last ≡ t.last

-- the tables tell a queue with the sound parts
pub record TellSound (t : Tables) : Type 0 where
  pub queue : Queue
  pub told : Tell t queue
  pub sound : IsSound queue

-- the pages are a checkpoint of this level, whose tables tell the queue and have no order twice
pub record PagesTell (pages : List Page) (level : ℕ) (Q : Queue) : Type 0 where
  pub tables : Tables
  pub levels : List ℕ
  pub fit : HasSpelling tables
  pub ages : AreLevels tables level levels
  pub spell : Spell tables levels pages
  pub orders : HaveOrders tables
  pub tell : Tell tables Q

-- whatever tables tell the one queue tell the other: the two differ in their texts alone, which have as many lines
abbrev pub AreToldAlike : Queue → Queue → Type 0
AreToldAlike Q R = (t : Tables) → Tell t Q → Tell t R

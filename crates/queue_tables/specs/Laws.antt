-- Which queues tables tell.
use Rattle.std.specs.Prelude.{◌≡◌, ℕ, List, map, All}
use Rattle.mas_types.specs.declared.ids.Page.{Page}
use Rattle.mas_types.specs.declared.jobs.Text.{Text}
use Rattle.mas_types.specs.declared.queues.Config.{Config}
use Rattle.mas_types.specs.declared.queues.Queue.{Queue}
use Rattle.mas_types.specs.declared.queues.Route.{Route}
use Rattle.mas_types.specs.Starts.{empty_queue}
use Rattle.mas_types.specs.Queue.{line_count}
use Rattle.mas_types.specs.Sound.{IsSound}
use Rattle.lay_bytes.specs.declared.records.JobRec.{JobRec}
use Rattle.lay_bytes.specs.declared.records.OutRec.{OutRec}
use Rattle.ckpt_tables.specs.declared.tables.Tables.{Tables}
use Rattle.lay_bytes.specs.Used.{used}
use Rattle.ckpt_pages.specs.QueueOf.{queue_of}
use Rattle.ckpt_tables.specs.Shape.{HasSpelling}
use Rattle.ckpt_pages.specs.Sound.{AreSound}
use Rattle.ckpt_pages.specs.Starts.{empty_tables}
use Rattle.queue_slots.specs.Listed.{listed}
use Rattle.job_queue.specs.Jobs as jobs
use Rattle.output_queue.specs.Outputs as outputs
use Rattle.queue_telling.specs.Orders.{HaveOrders}
use Rattle.queue_telling.specs.Telling.{Tell, TellSound, PagesTell, AreToldAlike}

-- the texts have as many lines as the slots say
pub record HaveLines (t : Tables) (deck : JobRec → Text) (print : OutRec → Text) : Type 0 where
  pub decks : All (λ j. line_count (deck j) ≡ j.cards) (used t.jobs)
  pub prints : All (λ o. line_count (print o) ≡ o.lines) (used t.outputs)

-- tables tell the queue that they give with texts of as many lines
abbrev pub TellTheirQueue : Type 0
TellTheirQueue = (t : Tables) (deck : JobRec → Text) (print : OutRec → Text) → HaveLines t deck print
    → Tell t (queue_of t deck print)

-- the texts are those of the queue's jobs and outputs in order
pub record AreTextsOf (t : Tables) (Q : Queue) (deck : JobRec → Text) (print : OutRec → Text) : Type 0 where
  pub decks : map deck (listed jobs.order_of t.jobs) ≡ map (λ j. j.text) Q.jobs
  pub prints : map print (listed outputs.order_of t.outputs) ≡ map (λ o. o.text) Q.outputs

-- a queue that tables tell is the one that they give with its texts
abbrev pub GiveTheirQueue : Type 0
GiveTheirQueue = (t : Tables) (Q : Queue) (deck : JobRec → Text) (print : OutRec → Text) → Tell t Q
    → AreTextsOf t Q deck print → queue_of t deck print ≡ Q

-- queues that the same tables tell differ in their texts alone
abbrev pub TellAlike : Type 0
TellAlike = (t : Tables) (Q R : Queue) → Tell t Q → Tell t R → AreToldAlike Q R

-- queues that the same pages tell differ in their texts alone, and have one level
abbrev pub PagesTellAlike : Type 0
PagesTellAlike = (pages : List Page) (level age : ℕ) (Q R : Queue) → PagesTell pages level Q → PagesTell pages age R
    → AreToldAlike Q R × (level ≡ age)

-- empty tables tell the empty queue
abbrev pub EmptyTellEmpty : Type 0
EmptyTellEmpty = (config : Config) (routes : List Route) → Tell (empty_tables config routes) (empty_queue config routes)

-- tables without a fault tell a queue with the sound parts
abbrev pub SoundTellSound : Type 0
SoundTellSound = (t : Tables) → HasSpelling t → AreSound t → TellSound t

-- ORDERS

-- tables without a fault have no order twice, and each of their orders is below the next one
abbrev pub SoundHaveOrders : Type 0
SoundHaveOrders = (t : Tables) → AreSound t → HaveOrders t

-- tables with different orders below the next one have no fault if they tell a queue with the sound parts
abbrev pub ToldAreSound : Type 0
ToldAreSound = (t : Tables) (Q : Queue) → Tell t Q → IsSound Q → HaveOrders t → AreSound t

-- empty tables have different orders below the next one, since they have none
abbrev pub EmptyHaveOrders : Type 0
EmptyHaveOrders = (config : Config) (routes : List Route) → HaveOrders (empty_tables config routes)

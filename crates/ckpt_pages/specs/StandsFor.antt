-- Which queue the pages of a checkpoint stand for.
use Rattle.std.specs.Prelude.{◌≡◌, ℕ, List}
use Rattle.mas_types.specs.declared.ids.Page.{Page}
use Rattle.mas_types.specs.declared.jobs.Text.{Text}
use Rattle.mas_types.specs.declared.queues.Queue.{Queue}
use Rattle.lay_bytes.specs.declared.records.JobRec.{JobRec}
use Rattle.lay_bytes.specs.declared.records.OutRec.{OutRec}
use Rattle.ckpt_tables.specs.declared.tables.Tables.{Tables}
use Rattle.ckpt_tables.specs.Shape.{HasSpelling, AreLevels}
use Rattle.ckpt_tables.specs.Pages.{Spell}
use Rattle.ckpt_pages.specs.QueueOf.{queue_of}

-- the pages are a checkpoint of this level, which stands for the queue where the spool gives these texts
pub record StandsFor (pages : List Page) (level : ℕ) (deck : JobRec → Text) (print : OutRec → Text) (Q : Queue) : Type 0
  where
    pub tables : Tables
    pub levels : List ℕ
    pub fit : HasSpelling tables
    pub ages : AreLevels tables level levels
    pub spell : Spell tables levels pages
    pub is : queue_of tables deck print ≡ Q

-- pages stand for one queue and have one level at most
abbrev pub StandsForOneAtMost : Type 0
StandsForOneAtMost =
    (pages : List Page) (level age : ℕ) (deck : JobRec → Text) (print : OutRec → Text) (Q R : Queue)
    → StandsFor pages level deck print Q → StandsFor pages age deck print R → (Q ≡ R) × (level ≡ age)

-- pages that spell tables stand for the queue of these
abbrev pub SpelledStandsForQueue : Type 0
SpelledStandsForQueue =
    (t : Tables) (level : ℕ) (levels : List ℕ) (pages : List Page) (deck : JobRec → Text) (print : OutRec → Text)
    → HasSpelling t → AreLevels t level levels → Spell t levels pages
    → StandsFor pages level deck print (queue_of t deck print)

-- Queues that a report may show.
use Rattle.mas_types.specs.declared.jobs.Text.{Text}
use Rattle.lay_bytes.specs.declared.records.JobRec.{JobRec}
use Rattle.lay_bytes.specs.declared.records.OutRec.{OutRec}
use Rattle.ckpt_tables.specs.declared.tables.Tables.{Tables}
use Rattle.ckpt_tables.specs.Shape.{HasSpelling}
use Rattle.ckpt_pages.specs.QueueOf.{queue_of}
use Rattle.cmd_report.specs.Named.{IsNamed}

-- in the queue of tables that pages spell each member has a name, whatever its texts are
abbrev pub SpelledAreNamed : Type 0
SpelledAreNamed = (t : Tables) (deck : JobRec → Text) (print : OutRec → Text) → HasSpelling t
    → IsNamed (queue_of t deck print)

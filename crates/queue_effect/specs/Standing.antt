-- What a command on tables comes to, and which tables may be given one.
use Rattle.std.specs.Prelude.{◌≡◌, ◌≤◌, ◌<◌, ℕ, [], All, drop}
use Rattle.mas_types.specs.declared.queues.Queue.{Queue}
use Rattle.mas_types.specs.declared.commands.Reply.{Reply}
use Rattle.mas_types.specs.declared.commands.Reply.TheVariants as reply
use Rattle.mas_types.specs.Limits.{members_most}
use Rattle.mas_types.specs.Row.{Row, done}
use Rattle.lay_bytes.specs.declared.records.JobRec.{JobRec}
use Rattle.lay_bytes.specs.declared.records.OutRec.{OutRec}
use Rattle.ckpt_tables.specs.declared.tables.Tables.{Tables}
use Rattle.lay_bytes.specs.Used.{used}
use Rattle.ckpt_tables.specs.Shape.{HasShape}
use Rattle.queue_telling.specs.Telling.{Tell}
use Rattle.queue_effect.specs.declared.ends.Ends.{Ends}

-- the tables tell what the row leaves of the queue, and the reply is the row's
pub record Leaves (t : Tables) (Q : Queue) (row : Row) (r : Reply) : Type 0 where
  pub stands : Tell t (done Q row).0
  pub reply : (done Q row).1 ≡ r

-- the new tables tell what the row leaves of each queue that the old ones told, and the reply is the row's
abbrev pub Plays : Tables → Tables → (Queue → Row) → Reply → Type 0
Plays old new row r = (Q : Queue) → Tell old Q → Leaves new Q (row Q) r

-- what is said holds if the reply is a refusal
abbrev pub IfRefused : Reply → Type 0 → Type 0
IfRefused (reply.No why) A = A
IfRefused _ A = Unit {0}

-- a job's order is below the next one, and nobody or a member that there may be is at work on it
pub record IsFitJob (order : ℕ) (j : JobRec) : Type 0 where
  pub below : j.order < order
  pub busy : j.busy.0 ≤ members_most

-- an output's order is below the next one, and nobody or a member that there may be is at work on it
pub record IsFitOutput (order : ℕ) (o : OutRec) : Type 0 where
  pub below : o.order < order
  pub busy : o.busy.0 ≤ members_most

-- the tables have their shape, and the orders and members of their jobs and outputs fit
pub record AreFit (t : Tables) : Type 0 where
  pub shape : HasShape t
  pub jobs : All (IsFitJob t.order) (used t.jobs)
  pub outputs : All (IsFitOutput t.order) (used t.outputs)

-- no job stands in the slots from the one end on, and no output in those from the other
pub record AreEnds (ends : Ends) (t : Tables) : Type 0 where
  pub jobs : used (drop ends.jobs t.jobs) ≡ []
  pub outputs : used (drop ends.outputs t.outputs) ≡ []

-- Members that have names: those up to the greatest one, and the operator.
use Rattle.std.specs.Prelude.{◌≤◌, if◌then◌else◌, List, [], length, All}
use Rattle.mas_types.specs.declared.journals.Batch.{Batch}
use Rattle.mas_types.specs.declared.journals.Entry.{Entry}
use Rattle.mas_types.specs.declared.journals.Journal.{Journal}
use Rattle.mas_types.specs.declared.queues.Queue.{Queue}
use Rattle.mas_types.specs.Closings.{IsReplyNamed}
use Rattle.mas_types.specs.Journal.{is_kept}
use Rattle.mas_types.specs.Limits.{members_most}

-- all members that a display of the queue names have names
pub record IsNamed (Q : Queue) : Type 0 where
  pub jobs : All (λ j. j.busy.0 ≤ members_most) Q.jobs
  pub outputs : All (λ o. o.busy.0 ≤ members_most) Q.outputs
  pub members : length Q.members ≤ members_most

-- the members that an entry names have names
abbrev pub IsEntryNamed : Entry → Type 0
IsEntryNamed e = (e.by.0 ≤ members_most) × IsReplyNamed e.reply

-- all members that a history names have names
abbrev pub IsHistoryNamed : Journal → Type 0
IsHistoryNamed J = All (λ b. All IsEntryNamed b.entries) J.batches

-- the entries of a batch that was kept, none of another
abbrev pub kept_in : Batch → List Entry
kept_in b = if is_kept b.fate then b.entries else []

-- How an output leaves the queue.
use Rattle.std.specs.Prelude.{◌≡◌, List, [], ◌∷◌, ◌++◌, Some, None}
use Rattle.mas_types.specs.declared.ids.MemberId.{MemberId}
use Rattle.mas_types.specs.declared.ids.JobNo.{JobNo}
use Rattle.mas_types.specs.declared.ids.OutNo.{OutNo}
use Rattle.mas_types.specs.declared.jobs.Output.{Output}
use Rattle.mas_types.specs.declared.queues.Queue.{Queue}
use Rattle.mas_types.specs.declared.commands.Command.{Command}
use Rattle.mas_types.specs.declared.journals.Entry.{Entry}
use Rattle.mas_types.specs.Queue.{output_at}
use Rattle.mas_types.specs.Run.{run}
use Rattle.mas_types.specs.Step.{step}
use Rattle.queue_laws.specs.Marks.{MayTake}

-- An output that a command takes away was taken by Done, where its mark is at its total, by CancelOut of its key, or by
-- Cancel of its job.
abbrev pub CommandsTakeOutputs : Type 0
CommandsTakeOutputs =
    (Q : Queue) (m : MemberId) (c : Command) (n : JobNo) (i : OutNo) (o : Output) → output_at Q n i ≡ Some o
    → output_at (step Q m c).0 n i ≡ None → MayTake c o

-- One of the entries takes the output with this key away, as it is by then.
pub record IsTakenBy (base : Queue) (es : List Entry) (n : JobNo) (i : OutNo) : Type 0 where
  pub before : List Entry
  pub entry : Entry
  pub after : List Entry
  pub place : es ≡ before ++ entry ∷ after
  pub output : Output
  pub there : output_at (run base before) n i ≡ Some output
  pub gone : output_at (run base (before ++ entry ∷ [])) n i ≡ None
  pub may : MayTake entry.command output

-- Where an output was there and isn't after entries, one of them took it.
abbrev pub EntriesTakeOutputs : Type 0
EntriesTakeOutputs = (base : Queue) (es : List Entry) (n : JobNo) (i : OutNo) (o : Output) → output_at base n i ≡ Some o
    → output_at (run base es) n i ≡ None → IsTakenBy base es n i

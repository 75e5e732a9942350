-- The end of a running job that isn't cancelled.
use Rattle.std.specs.Prelude.{List, [], ◌∷◌, length}
use Rattle.mas_types.specs.declared.ids.MemberId.{MemberId}
use Rattle.mas_types.specs.declared.ids.JobNo.{JobNo}
use Rattle.mas_types.specs.declared.jobs.OutSpec.{OutSpec}
use Rattle.mas_types.specs.declared.queues.Queue.{Queue}
use Rattle.mas_types.specs.declared.commands.Refusal.TheVariants as refusal
use Rattle.mas_types.specs.declared.commands.Reply.TheVariants as reply
use Rattle.mas_types.specs.Queue.{change_job}
use Rattle.mas_types.specs.Row.{Row, refused_where}
use Rattle.mas_types.specs.Commands.Life.{are_outputs_full, lacks_groups, with_outputs, ended}

-- the row of Ended where its job runs at the member and isn't cancelled
abbrev pub end_row : Queue → MemberId → JobNo → List OutSpec → Row
end_row Q m n specs = record {
  refusals = refused_where (are_outputs_full Q specs) refusal.OutputsFull
      ∷ refused_where (lacks_groups Q m specs) refusal.Nothing ∷ [];
  effect = with_outputs m n specs (change_job n ended Q);
  answer = reply.Count (length specs);
}

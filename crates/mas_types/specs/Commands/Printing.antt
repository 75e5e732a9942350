-- How outputs are printed: Pick, Mark, Done, Back and Forward.
use Rattle.std.specs.Prelude.{ℕ, ◌+◌, ◌-◌, nat_lt, min, Bool, not, ◌&&◌, if◌then◌else◌, List, [], ◌∷◌, find, Option, Some, None}
use Rattle.std.specs.Option.{option_map_or}
use Rattle.mas_types.specs.declared.ids.MemberId.{MemberId}
use Rattle.mas_types.specs.declared.ids.JobNo.{JobNo}
use Rattle.mas_types.specs.declared.ids.OutNo.{OutNo}
use Rattle.mas_types.specs.declared.jobs.Phase.TheVariants as phase
use Rattle.mas_types.specs.declared.jobs.Job.{Job}
use Rattle.mas_types.specs.declared.jobs.Output.{Output}
use Rattle.mas_types.specs.declared.queues.Queue.{Queue}
use Rattle.mas_types.specs.declared.commands.Refusal.{Refusal}
use Rattle.mas_types.specs.declared.commands.Refusal.TheVariants as refusal
use Rattle.mas_types.specs.declared.commands.Reply.TheVariants as reply
use Rattle.mas_types.specs.Lists.{change_first}
use Rattle.mas_types.specs.Queue.{in_hardcopy, prints_at, printing_at, output_at, has_key, job_of, index_of, remove_output, change_job, has_output, total}
use Rattle.mas_types.specs.Owners.{freed, is_output_of}
use Rattle.mas_types.specs.Selection.{for_printer, is_for_printer}
use Rattle.mas_types.specs.Row.{Row, refused_where, none_such, output_not_at}

-- PICK: the selected output becomes busy at the member

abbrev pub picked_by : MemberId → Output → Output
picked_by m o = record o { busy = m }

abbrev pub in_use : MemberId → Option Output → Option Refusal
in_use m None = None
in_use m (Some o) = Some (refusal.InUse m)

abbrev pub pick_row : Queue → MemberId → Row
pick_row Q m = let found = for_printer Q m in record {
  refusals = in_use m (printing_at Q m) ∷ none_such refusal.Nothing found ∷ [];
  effect = record Q { outputs = change_first (is_for_printer Q m) (picked_by m) Q.outputs };
  answer = reply.Output (job_of found) (index_of found);
}

-- MARKS. A mark is the number of lines that were printed

abbrev pub marked : (Output → ℕ) → Output → Output
marked mark o = record o { mark = mark o }

-- the first output that the test picks gets a mark, and the reply counts it
abbrev pub marked_row : Queue → List (Option Refusal) → (Output → Bool) → (Output → ℕ) → Row
marked_row Q refusals test mark = record {
  refusals = refusals;
  effect = record Q { outputs = change_first test (marked mark) Q.outputs };
  answer = reply.Count (option_map_or mark (find test Q.outputs) 0);
}

abbrev pub mark_row : Queue → MemberId → JobNo → OutNo → ℕ → Row
mark_row Q m n i at =
    let found = output_at Q n i in
    marked_row Q (none_such refusal.NoOutput found ∷ output_not_at m found ∷ []) (has_key n i) (λ o. min at (total o))

-- BACK, FORWARD: of the output that is busy at the member

abbrev pub none_printing : Queue → MemberId → List (Option Refusal)
none_printing Q m = none_such refusal.Nothing (printing_at Q m) ∷ []

abbrev pub back_row : Queue → MemberId → ℕ → Row
back_row Q m lines = marked_row Q (none_printing Q m) (prints_at m) (λ o. o.mark - lines)

abbrev pub forward_row : Queue → MemberId → ℕ → Row
forward_row Q m lines = marked_row Q (none_printing Q m) (prints_at m) (λ o. min (o.mark + lines) (total o))

-- DONE: the output goes, its groups become Free

-- a job in Hardcopy whose last output went moves to Purge
abbrev pub outputs_over : Queue → Job → Job
outputs_over Q j =
    if in_hardcopy j.phase && not (has_output j.number Q) then record j { phase = phase.Purge } else j

abbrev pub with_job_over : JobNo → Queue → Queue
with_job_over n Q = change_job n (outputs_over Q) Q

abbrev pub output_removed : JobNo → OutNo → Queue → Queue
output_removed n i Q = record (remove_output n i Q) { owners = freed (is_output_of n i) Q.owners }

abbrev pub output_gone : JobNo → OutNo → Queue → Queue
output_gone n i Q = with_job_over n (output_removed n i Q)

-- the output's mark is below its total
abbrev pub not_printed : Option Output → Option Refusal
not_printed None = None
not_printed (Some o) = refused_where (nat_lt o.mark (total o)) refusal.Nothing

abbrev pub done_row : Queue → MemberId → JobNo → OutNo → Row
done_row Q m n i = let found = output_at Q n i in record {
  refusals = none_such refusal.NoOutput found ∷ output_not_at m found ∷ not_printed found ∷ [];
  effect = output_gone n i Q;
  answer = reply.Output n i;
}

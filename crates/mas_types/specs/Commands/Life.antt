-- How a job goes on: conversion, execution, its outputs, and purge.
use Rattle.std.specs.Prelude.{ℕ, ◌+◌, nat_lt, Bool, false, not, ◌&&◌, ◌||◌, if◌then◌else◌, List, [], ◌∷◌, ◌++◌, length, sum_by, find, Option}
use Rattle.std.specs.Option.{option_map_or}
use Rattle.mas_types.specs.declared.ids.MemberId.{MemberId}
use Rattle.mas_types.specs.declared.ids.JobNo.{JobNo}
use Rattle.mas_types.specs.declared.jobs.Phase.{Phase}
use Rattle.mas_types.specs.declared.jobs.Phase.TheVariants as phase
use Rattle.mas_types.specs.declared.jobs.Text.TheVariants.{Whole}
use Rattle.mas_types.specs.declared.jobs.Job.{Job}
use Rattle.mas_types.specs.declared.jobs.OutSpec.{OutSpec}
use Rattle.mas_types.specs.declared.jobs.Output.{Output}
use Rattle.mas_types.specs.declared.queues.Owner.{Owner}
use Rattle.mas_types.specs.declared.queues.Queue.{Queue}
use Rattle.mas_types.specs.declared.commands.Refusal.TheVariants as refusal
use Rattle.mas_types.specs.declared.commands.Reply.TheVariants as reply
use Rattle.mas_types.specs.Lists.{change_first, without_first}
use Rattle.mas_types.specs.Ids.{nobody}
use Rattle.mas_types.specs.Queue.{job_at, change_job, first_in, is_in, number_of, has_output, in_convert, in_execute, in_output, in_purge}
use Rattle.mas_types.specs.Owners.{member_count, freed, is_deck_of, handed_out, output_places, groups_needed}
use Rattle.mas_types.specs.Selection.{is_for_convert, is_for_execute}
use Rattle.mas_types.specs.Row.{Row, refused_where, none_such, wrong_phase, job_not_at}

-- TAKE CONVERT, TAKE EXEC: the selected job becomes busy at the member

abbrev pub made_busy : MemberId → Job → Job
made_busy m j = record j { busy = m }

-- the first job that the test picks is changed, and the reply names it. Nothing where there is none
abbrev pub first_job_row : Queue → (Job → Bool) → (Job → Job) → Row
first_job_row Q test f = let found = find test Q.jobs in record {
  refusals = none_such refusal.Nothing found ∷ [];
  effect = record Q { jobs = change_first test f Q.jobs };
  answer = reply.Job (number_of found);
}

abbrev pub take_convert_row : Queue → MemberId → Row
take_convert_row Q m = first_job_row Q (is_for_convert Q) (made_busy m)

abbrev pub take_exec_row : Queue → MemberId → Row
take_exec_row Q m = first_job_row Q (is_for_execute Q m) (made_busy m)

-- CONVERTED

abbrev pub converted : Job → Job
converted j = record j { phase = if j.cancelled then phase.Purge else phase.Execute; busy = nobody }

abbrev pub converted_row : Queue → MemberId → JobNo → Row
converted_row Q m n = record {
  refusals = none_such refusal.NoJob (job_at Q n) ∷ wrong_phase in_convert (job_at Q n) ∷ job_not_at m (job_at Q n)
      ∷ [];
  effect = change_job n converted Q;
  answer = reply.Job n;
}

-- ENDED: the outputs stand last in the list, each with the next lowest groups of the member, its others become Free

abbrev pub new_output : JobNo → ℕ → OutSpec → Output
new_output n i s = record {
  job = n;
  index = record { 0 = i };
  class = s.class;
  dest = s.dest;
  forms = s.forms;
  copies = s.copies;
  held = s.held;
  busy = nobody;
  mark = 0;
  text = Whole s.text;
}

-- the outputs of a job with their indexes from the first one
abbrev pub new_outputs : JobNo → ℕ → List OutSpec → List Output
new_outputs n i [] = []
new_outputs n i (s ∷ specs) = new_output n i s ∷ new_outputs n (i + 1) specs

abbrev pub places_of_outputs : JobNo → ℕ → List OutSpec → List Owner
places_of_outputs n i [] = []
places_of_outputs n i (s ∷ specs) =
    output_places n (record { 0 = i }) (groups_needed s.text) ++ places_of_outputs n (i + 1) specs

abbrev pub groups_of_outputs : List OutSpec → ℕ
groups_of_outputs specs = sum_by (λ s. groups_needed s.text) specs

abbrev pub ended : Job → Job
ended j = record j { phase = if j.cancelled then phase.Purge else phase.Output; busy = nobody }

abbrev pub is_cancelled : Option Job → Bool
is_cancelled found = option_map_or (λ j. j.cancelled) found false

-- the outputs of a job that comes to its end: none where it is cancelled
abbrev pub outputs_at_end : Option Job → List OutSpec → List OutSpec
outputs_at_end found specs = if is_cancelled found then [] else specs

abbrev pub with_outputs : MemberId → JobNo → List OutSpec → Queue → Queue
with_outputs m n specs Q = record Q {
  outputs = Q.outputs ++ new_outputs n 1 specs;
  owners = handed_out m (places_of_outputs n 1 specs) Q.owners;
}

abbrev pub runs : Phase → Bool
runs p = in_convert p || in_execute p

-- too few slots are free for so many more outputs
abbrev pub are_outputs_full : Queue → List OutSpec → Bool
are_outputs_full Q specs = nat_lt Q.config.outputs (length Q.outputs + length specs)

-- the member has too few groups for the outputs
abbrev pub lacks_groups : Queue → MemberId → List OutSpec → Bool
lacks_groups Q m specs = nat_lt (member_count m Q.owners) (groups_of_outputs specs)

abbrev pub ended_row : Queue → MemberId → JobNo → List OutSpec → Row
ended_row Q m n given =
    let found = job_at Q n in
    let specs = outputs_at_end found given in
    record {
      refusals = none_such refusal.NoJob found ∷ wrong_phase runs found ∷ job_not_at m found
          ∷ refused_where (not (is_cancelled found) && are_outputs_full Q specs) refusal.OutputsFull
          ∷ refused_where (not (is_cancelled found) && lacks_groups Q m specs) refusal.Nothing ∷ [];
      effect = with_outputs m n specs (change_job n ended Q);
      answer = reply.Count (length specs);
    }

-- GATHER

abbrev pub gathered : Queue → Job → Job
gathered Q j = record j { phase = if has_output j.number Q then phase.Hardcopy else phase.Purge }

abbrev pub gather_row : Queue → Row
gather_row Q = first_job_row Q (is_in in_output) (gathered Q)

-- PURGE: the job goes, its groups become Free

abbrev pub purge_row : Queue → Row
purge_row Q = let found = first_in in_purge Q in record {
  refusals = none_such refusal.Nothing found ∷ [];
  effect = record Q {
    jobs = without_first (is_in in_purge) Q.jobs;
    owners = freed (is_deck_of (number_of found)) Q.owners;
  };
  answer = reply.Job (number_of found);
}

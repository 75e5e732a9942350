-- What an operator changes in jobs and outputs.
use Rattle.std.specs.Prelude.{Bool, true, false, not, ◌&&◌, ◌||◌, if◌then◌else◌, List, [], ◌∷◌, find, filter, count_by, Option, Some, None}
use Rattle.std.specs.Option.{option_map_or}
use Rattle.mas_types.specs.declared.ids.MemberId.{MemberId}
use Rattle.mas_types.specs.declared.ids.JobNo.{JobNo}
use Rattle.mas_types.specs.declared.ids.OutNo.{OutNo}
use Rattle.mas_types.specs.declared.ids.Class.{Class}
use Rattle.mas_types.specs.declared.ids.Prio.{Prio}
use Rattle.mas_types.specs.declared.jobs.Phase.{Phase}
use Rattle.mas_types.specs.declared.jobs.Phase.TheVariants as phase
use Rattle.mas_types.specs.declared.jobs.Job.{Job}
use Rattle.mas_types.specs.declared.jobs.Output.{Output}
use Rattle.mas_types.specs.declared.queues.Queue.{Queue}
use Rattle.mas_types.specs.declared.commands.Refusal.{Refusal}
use Rattle.mas_types.specs.declared.commands.Refusal.TheVariants as refusal
use Rattle.mas_types.specs.declared.commands.Reply.TheVariants as reply
use Rattle.mas_types.specs.Lists.{change, without}
use Rattle.mas_types.specs.Ids.{is_somebody, same_member}
use Rattle.mas_types.specs.Queue.{in_input, in_convert, in_execute, in_purge, job_at, change_job, output_at, change_output, is_of, is_current}
use Rattle.mas_types.specs.Owners.{freed, is_of_any}
use Rattle.mas_types.specs.Row.{Row, none_such, wrong_phase, output_elsewhere}
use Rattle.mas_types.specs.Commands.Printing.{output_gone}

-- the job is changed
abbrev pub job_row : Queue → List (Option Refusal) → JobNo → (Job → Job) → Row
job_row Q refusals n f = record { refusals = refusals; effect = change_job n f Q; answer = reply.Job n }

-- HOLD, RELEASE

abbrev pub with_held : Bool → Job → Job
with_held held j = record j { fields = record j.fields { held = held } }

abbrev pub held_row : Queue → JobNo → Bool → Row
held_row Q n held = job_row Q (none_such refusal.NoJob (job_at Q n) ∷ []) n (with_held held)

-- SET PRIO, SET CLASS

abbrev pub with_prio : Prio → Job → Job
with_prio prio j = record j { fields = record j.fields { prio = prio } }

abbrev pub set_prio_row : Queue → JobNo → Prio → Row
set_prio_row Q n prio =
    job_row Q (none_such refusal.NoJob (job_at Q n) ∷ wrong_phase (λ p. not (in_purge p)) (job_at Q n) ∷ []) n
    (with_prio prio)

abbrev pub with_class : Class → Job → Job
with_class class j = record j { fields = record j.fields { class = class } }

-- a job's class still matters to it
abbrev pub has_yet_to_run : Phase → Bool
has_yet_to_run p = in_input p || in_convert p || in_execute p

abbrev pub set_class_row : Queue → JobNo → Class → Row
set_class_row Q n class =
    job_row Q (none_such refusal.NoJob (job_at Q n) ∷ wrong_phase has_yet_to_run (job_at Q n) ∷ []) n (with_class class)

-- CANCEL: a busy job becomes cancelled, any other loses its outputs and their groups and moves to Purge

abbrev pub cancelled : Job → Job
cancelled j = if is_somebody j.busy then record j { cancelled = true } else record j { phase = phase.Purge }

abbrev pub without_outputs_of : JobNo → Queue → Queue
without_outputs_of n Q = record Q {
  outputs = without (is_of n) Q.outputs;
  owners = freed (is_of_any (filter (is_of n) Q.outputs)) Q.owners;
}

abbrev pub is_busy : Option Job → Bool
is_busy found = option_map_or (λ j. is_somebody j.busy) found false

-- the job can't be cancelled any more: it is in Purge already, or a line sends it
abbrev pub is_past_cancel : Queue → Job → Bool
is_past_cancel Q j = in_purge j.phase || is_current Q j

abbrev pub past_cancel : Queue → Option Job → Option Refusal
past_cancel Q None = None
past_cancel Q (Some j) = if is_past_cancel Q j then Some (refusal.WrongPhase j.phase) else None

-- the first output of the job that is busy at another than the member
abbrev pub printing_elsewhere : Queue → MemberId → JobNo → Option Output
printing_elsewhere Q m n = find (λ o. is_of n o && is_somebody o.busy && not (same_member o.busy m)) Q.outputs

abbrev pub cancel_row : Queue → MemberId → JobNo → Row
cancel_row Q m n =
    let found = job_at Q n in
    job_row (if is_busy found then Q else without_outputs_of n Q)
    (none_such refusal.NoJob found ∷ past_cancel Q found ∷ output_elsewhere m (printing_elsewhere Q m n) ∷ []) n
    cancelled

-- OUT: the job's held outputs are released

abbrev pub is_held_of : JobNo → Output → Bool
is_held_of n o = is_of n o && o.held

abbrev pub released : Output → Output
released o = record o { held = false }

abbrev pub out_row : Queue → JobNo → Row
out_row Q n = record {
  refusals = none_such refusal.NoJob (job_at Q n) ∷ [];
  effect = record Q { outputs = change (is_held_of n) released Q.outputs };
  answer = reply.Count (count_by (is_held_of n) Q.outputs);
}

-- CANCEL OUT, SET OUT

-- the refusals of an output that may not be busy at another than the member
abbrev pub not_ours : Queue → MemberId → JobNo → OutNo → List (Option Refusal)
not_ours Q m n i = none_such refusal.NoOutput (output_at Q n i) ∷ output_elsewhere m (output_at Q n i) ∷ []

abbrev pub cancel_out_row : Queue → MemberId → JobNo → OutNo → Row
cancel_out_row Q m n i = record {
  refusals = not_ours Q m n i;
  effect = output_gone n i Q;
  answer = reply.Output n i;
}

abbrev pub set_out_row : Queue → MemberId → JobNo → OutNo → Class → Row
set_out_row Q m n i class = record {
  refusals = not_ours Q m n i;
  effect = change_output n i (λ o. record o { class = class }) Q;
  answer = reply.Output n i;
}

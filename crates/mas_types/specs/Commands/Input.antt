-- How a job comes into the queue: Begin, Take, Drop and Enter.
use Rattle.std.specs.Prelude.{ℕ, ◌==◌, nat_lt, nat_le, false, not, min, if◌then◌else◌, List, [], ◌∷◌, ◌++◌, length, Option}
use Rattle.mas_types.specs.declared.ids.MemberId.{MemberId}
use Rattle.mas_types.specs.declared.ids.JobNo.{JobNo}
use Rattle.mas_types.specs.declared.ids.Name8.{Name8}
use Rattle.mas_types.specs.declared.jobs.Phase.{Phase}
use Rattle.mas_types.specs.declared.jobs.Phase.TheVariants as phase
use Rattle.mas_types.specs.declared.jobs.Text.TheVariants.{Whole}
use Rattle.mas_types.specs.declared.jobs.JobFields.{JobFields}
use Rattle.mas_types.specs.declared.jobs.Job.{Job}
use Rattle.mas_types.specs.declared.queues.Queue.{Queue}
use Rattle.mas_types.specs.declared.commands.Refusal.{Refusal}
use Rattle.mas_types.specs.declared.commands.Refusal.TheVariants as refusal
use Rattle.mas_types.specs.declared.commands.Reply.TheVariants as reply
use Rattle.mas_types.specs.Ids.{nobody, same_name}
use Rattle.mas_types.specs.Queue.{job_at, change_job, remove_job, knows_node, in_input}
use Rattle.mas_types.specs.Owners.{free_count, member_count, taken, freed, is_members, handed_out, deck_places, groups_needed}
use Rattle.mas_types.specs.Number.{next_number}
use Rattle.mas_types.specs.Row.{Row, refused_where, none_such, wrong_phase, job_not_at}

-- BEGIN: a new job stands last in the list, in Input and busy at the member, with the next number and no text

abbrev pub new_job : MemberId → JobNo → JobFields → Job
new_job m n fields = record {
  number = n;
  fields = fields;
  phase = phase.Input;
  cancelled = false;
  busy = m;
  text = Whole [];
}

abbrev pub begun : MemberId → JobNo → JobFields → Queue → Queue
begun m n fields Q = record Q { jobs = Q.jobs ++ new_job m n fields ∷ []; last = n }

abbrev pub begin_row : Queue → MemberId → JobFields → Row
begin_row Q m fields = let n = next_number Q.jobs Q.last in record {
  refusals = refused_where (not (knows_node Q fields.node)) refusal.NoNode
      ∷ refused_where (nat_le Q.config.jobs (length Q.jobs)) refusal.JobsFull ∷ [];
  effect = begun m n fields Q;
  answer = reply.Job n;
}

-- TAKE: the lowest Free groups, so many or all that there are, become the member's

abbrev pub take_row : Queue → MemberId → ℕ → Row
take_row Q m want = record {
  refusals = refused_where (free_count Q.owners == 0) refusal.SpoolFull ∷ [];
  effect = record Q { owners = taken m want Q.owners };
  answer = reply.Count (min want (free_count Q.owners));
}

-- DROP: the member's groups become Free, and a job other than 0 is removed

abbrev pub with_groups_freed : MemberId → Queue → Queue
with_groups_freed m Q = record Q { owners = freed (is_members m) Q.owners }

-- the refusals of a job that has to be in Input and busy at the member
abbrev pub not_in_input : Queue → MemberId → JobNo → List (Option Refusal)
not_in_input Q m n = none_such refusal.NoJob (job_at Q n) ∷ wrong_phase in_input (job_at Q n)
    ∷ job_not_at m (job_at Q n) ∷ []

abbrev pub drop_row : Queue → MemberId → JobNo → Row
drop_row Q m n = record {
  refusals = if n.0 == 0 then [] else not_in_input Q m n;
  effect = with_groups_freed m (if n.0 == 0 then Q else remove_job n Q);
  answer = reply.Plain;
}

-- ENTER: the lowest groups of the member become the job's deck, as many as the text needs, its others become Free

-- where a job goes with its text
abbrev pub phase_entered : Name8 → Job → Phase
phase_entered own j =
    if j.cancelled then phase.Purge else (if same_name j.fields.node own then phase.Convert else phase.Xmit)

abbrev pub entered : MemberId → JobNo → List (List ℕ) → Queue → Queue
entered m n text Q = record (change_job n
    (λ j. record j { text = Whole text; busy = nobody; phase = phase_entered Q.config.node j }) Q) {
      owners = handed_out m (deck_places n (groups_needed text)) Q.owners;
    }

abbrev pub not_entered : Queue → MemberId → JobNo → List (List ℕ) → List (Option Refusal)
not_entered Q m n text =
    not_in_input Q m n ++ refused_where (nat_lt (member_count m Q.owners) (groups_needed text)) refusal.Nothing ∷ []

abbrev pub enter_row : Queue → MemberId → JobNo → List (List ℕ) → Row
enter_row Q m n text = record {
  refusals = not_entered Q m n text;
  effect = entered m n text Q;
  answer = reply.Job n;
}

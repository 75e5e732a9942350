-- What a command comes to: the refusals of its row in order, each where its condition holds, and what it does where
-- none does.
use Rattle.std.specs.Prelude.{◌≡◌, Bool, not, ◌&&◌, if◌then◌else◌, List, Option, Some, None}
use Rattle.mas_types.specs.declared.ids.MemberId.{MemberId}
use Rattle.mas_types.specs.declared.jobs.Phase.{Phase}
use Rattle.mas_types.specs.declared.jobs.Job.{Job}
use Rattle.mas_types.specs.declared.jobs.Output.{Output}
use Rattle.mas_types.specs.declared.commands.Refusal.{Refusal}
use Rattle.mas_types.specs.declared.commands.Refusal.TheVariants as refusal
use Rattle.mas_types.specs.declared.commands.Reply.{Reply}
use Rattle.mas_types.specs.declared.commands.Reply.TheVariants as reply
use Rattle.mas_types.specs.declared.queues.Queue.{Queue}
use Rattle.mas_types.specs.Lists.{first_some}
use Rattle.mas_types.specs.Ids.{same_member, is_somebody}

-- a row of the table of commands, at a queue. Where a refusal holds the effect and the answer mean nothing
pub record Row : Type 0 where
  pub refusals : List (Option Refusal)
  pub effect : Queue
  pub answer : Reply

-- what a refusal leaves, or the effect where there is none
abbrev pub settled : Queue → Queue → Reply → Option Refusal → Queue × Reply
settled Q effect answer None = (effect, answer)
settled Q effect answer (Some why) = (Q, reply.No why)

-- the row done at the queue: a refused command changes nothing
abbrev pub done : Queue → Row → Queue × Reply
done Q row = settled Q row.effect row.answer (first_some row.refusals)

-- the row leaves this queue, with this reply
abbrev pub ComesTo : Queue → Row → Queue → Reply → Type 0
ComesTo Q row new answer = done Q row ≡ (new, answer)

-- THE CONDITIONS OF REFUSALS

-- the refusal where the condition holds
abbrev pub refused_where : Bool → Refusal → Option Refusal
refused_where holds why = if holds then Some why else None

abbrev pub none_such : {A : Type 0} → Refusal → Option A → Option Refusal
none_such why None = Some why
none_such why (Some x) = None

-- the job's phase is not a right one
abbrev pub wrong_phase : (Phase → Bool) → Option Job → Option Refusal
wrong_phase right None = None
wrong_phase right (Some j) = if right j.phase then None else Some (refusal.WrongPhase j.phase)

-- the job is not busy at the member
abbrev pub job_not_at : MemberId → Option Job → Option Refusal
job_not_at m None = None
job_not_at m (Some j) = if same_member j.busy m then None else Some (refusal.InUse j.busy)

-- the output is not busy at the member
abbrev pub output_not_at : MemberId → Option Output → Option Refusal
output_not_at m None = None
output_not_at m (Some o) = if same_member o.busy m then None else Some (refusal.InUse o.busy)

-- the output is busy at another than the member
abbrev pub output_elsewhere : MemberId → Option Output → Option Refusal
output_elsewhere m None = None
output_elsewhere m (Some o) =
    if is_somebody o.busy && not (same_member o.busy m) then Some (refusal.InUse o.busy) else None

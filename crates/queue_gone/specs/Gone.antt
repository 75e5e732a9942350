-- Whether the text of a job, or of an output, is gone, and which commands give a text its lines.
use Rattle.std.specs.Prelude.{◌≡◌, Bool, true, false, if◌then◌else◌, List, All, Option, Some, None, IfSome}
use Rattle.std.specs.List.{list_any}
use Rattle.std.specs.Option.{option_map, option_map_or}
use Rattle.mas_types.specs.declared.commands.Command.{Command}
use Rattle.mas_types.specs.declared.commands.Command.TheVariants as command
use Rattle.mas_types.specs.declared.commands.Reply.{Reply}
use Rattle.mas_types.specs.declared.commands.Reply.TheVariants as reply
use Rattle.mas_types.specs.declared.ids.GroupNo.{GroupNo}
use Rattle.mas_types.specs.declared.ids.JobNo.{JobNo}
use Rattle.mas_types.specs.declared.ids.MemberId.{MemberId}
use Rattle.mas_types.specs.declared.ids.OutNo.{OutNo}
use Rattle.mas_types.specs.declared.jobs.Text.{Text}
use Rattle.mas_types.specs.declared.jobs.Text.TheVariants.{Whole, Gone}
use Rattle.mas_types.specs.declared.journals.Entry.{Entry}
use Rattle.mas_types.specs.declared.queues.Queue.{Queue}
use Rattle.mas_types.specs.declared.queues.Thing.{Thing}
use Rattle.mas_types.specs.declared.queues.Thing.TheVariants.{Deck, Output}
use Rattle.mas_types.specs.Ids.{same_number}
use Rattle.mas_types.specs.Queue.{has_number, job_at, output_at}
use Rattle.mas_types.specs.Sound.{IsSound}
use Rattle.mas_types.specs.Step.{step}

-- the group with which a text is gone
abbrev pub gone_with : Text → Option GroupNo
gone_with (Whole lines) = None
gone_with (Gone group count) = Some group

-- the group with which a job's text is gone, None where it is whole
abbrev pub gone_in : Queue → JobNo → Option GroupNo
gone_in Q n = option_map_or (λ j. gone_with j.text) (job_at Q n) None

-- the group with which an output's text is gone, None where it is whole
abbrev pub gone_output_in : Queue → JobNo → OutNo → Option GroupNo
gone_output_in Q n i = option_map_or (λ o. gone_with o.text) (output_at Q n i) None

abbrev pub names_job : JobNo → Reply → Bool
names_job n (reply.Job job) = same_number job n
names_job n _ = false

-- the command began a job of this number, or gave it its text
abbrev pub brings_job : JobNo → Command → Reply → Bool
brings_job n (command.Begin fields) answer = names_job n answer
brings_job n (command.Enter job text) answer = names_job n answer
brings_job n (command.Got line number job text) answer = names_job n answer
brings_job n _ answer = false

-- the command brought outputs of this job
abbrev pub brings_outputs : JobNo → Command → Reply → Bool
brings_outputs n (command.Ended job specs) (reply.Count count) = same_number job n
brings_outputs n _ answer = false

-- one of the entries did that
abbrev pub is_brought : (Command → Reply → Bool) → List Entry → Bool
is_brought brings es = list_any (λ e. brings e.command e.reply) es

-- OF A JOB, OR OF AN OUTPUT

-- the text itself
abbrev pub text_at : Thing → Queue → Option Text
text_at (Deck n) Q = option_map (λ j. j.text) (job_at Q n)
text_at (Output n i) Q = option_map (λ o. o.text) (output_at Q n i)

-- the group with which it is gone
abbrev pub gone_at : Thing → Queue → Option GroupNo
gone_at (Deck n) Q = gone_in Q n
gone_at (Output n i) Q = gone_output_in Q n i

abbrev pub brings_by : Thing → Command → Reply → Bool
brings_by (Deck n) c answer = brings_job n c answer
brings_by (Output n i) c answer = brings_outputs n c answer

-- it is gone with this group, where it is there; of a job each one with its number is
abbrev pub IsGoneAs : Thing → Option GroupNo → Queue → Type 0
IsGoneAs (Deck n) g Q = All (λ j. has_number n j ≡ true → gone_with j.text ≡ g) Q.jobs
IsGoneAs (Output n i) g Q = IfSome (output_at Q n i) (λ o. gone_with o.text ≡ g)

-- after a command it is as before, or whole where the command brought it
abbrev pub CommandsLeaveGone : Type 0
CommandsLeaveGone = (thing : Thing) (g : Option GroupNo) (Q : Queue) (m : MemberId) (c : Command) → IsSound Q
    → IsGoneAs thing g Q
    → IsGoneAs thing (if brings_by thing c (step Q m c).1 then None else g) (step Q m c).0

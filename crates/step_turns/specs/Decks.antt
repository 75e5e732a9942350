-- What a deck's step gives: Begin, then Take of what is still missing until the text's groups are there, and then
-- Enter; or Drop of the job after a refused Take, or where a volume of a group taken for it is lost.
use Rattle.std.specs.Prelude.{ℕ, zero, suc, ◌-◌, Bool, true, false, if◌then◌else◌, List, [], ◌∷◌, ◌++◌, Option, Some, None}
use Rattle.std.specs.Option.{option_map_or}
use Rattle.mas_types.specs.declared.ids.MemberId.{MemberId}
use Rattle.mas_types.specs.declared.ids.JobNo.{JobNo}
use Rattle.mas_types.specs.declared.jobs.JobFields.{JobFields}
use Rattle.mas_types.specs.declared.commands.Command.{Command}
use Rattle.mas_types.specs.declared.commands.Command.TheVariants as command
use Rattle.mas_types.specs.declared.commands.Reply.{Reply}
use Rattle.mas_types.specs.declared.commands.Reply.TheVariants as reply
use Rattle.mas_types.specs.declared.answers.Closing.TheVariants as closing
use Rattle.mas_types.specs.declared.queues.Queue.{Queue}
use Rattle.mas_types.specs.Closings.{closing_line, reply_lines}
use Rattle.mas_types.specs.Step.{step}

-- TAKING THE GROUPS

-- what is missing after a Take of so many groups; None where it was refused
abbrev pub left_after : ℕ → Reply → Option ℕ
left_after missing (reply.Count n) = Some (missing - n)
left_after missing _ = None

-- Take of what is missing, as often as needed, at most so many times, or up to one that is refused. Each that isn't
-- refused takes at least one, so as many times as groups are missing are enough.
abbrev pub takes : ℕ → Queue → MemberId → ℕ → List Command
takes zero Q by missing = []
takes (suc times) Q by zero = []
takes (suc times) Q by (suc missing) =
    let c = command.Take (suc missing) in
    c ∷ option_map_or (λ left. takes times (step Q by c).0 by left) (left_after (suc missing) (step Q by c).1) []

-- whether one of the Takes is refused
abbrev pub are_refused : ℕ → Queue → MemberId → ℕ → Bool
are_refused zero Q by missing = false
are_refused (suc times) Q by zero = false
are_refused (suc times) Q by (suc missing) =
    let c = command.Take (suc missing) in
    option_map_or (λ left. are_refused times (step Q by c).0 by left) (left_after (suc missing) (step Q by c).1) true

-- THE FIRST BATCH: Begin and the Takes, with Drop of the job after a refused one

-- the commands after Begin, by its reply
abbrev pub after_begin : Queue → MemberId → ℕ → Reply → List Command
after_begin Q by groups (reply.Job n) = takes groups Q by groups
    ++ (if are_refused groups Q by groups then command.Drop n ∷ [] else [])
after_begin Q by groups _ = []

abbrev pub opening : Queue → MemberId → JobFields → ℕ → List Command
opening Q by fields groups = let c = command.Begin fields in c ∷ after_begin (step Q by c).0 by groups (step Q by c).1

-- the job that has its groups after the opening, if one
abbrev pub job_begun : Queue → MemberId → ℕ → Reply → Option JobNo
job_begun Q by groups (reply.Job n) = if are_refused groups Q by groups then None else Some n
job_begun Q by groups _ = None

abbrev pub job_opened : Queue → MemberId → JobFields → ℕ → Option JobNo
job_opened Q by fields groups = let c = command.Begin fields in job_begun (step Q by c).0 by groups (step Q by c).1

-- THE SECOND BATCH: Enter once the text stands in its groups, or Drop where a volume of theirs was found lost

abbrev pub finishing : Option ℕ → JobNo → List (List ℕ) → Command
finishing None n text = command.Enter n text
finishing (Some volume) n text = command.Drop n

-- the lines with which the step closes: with that reply, or with the lost volume
abbrev pub lines_by : MemberId → ℕ → Option ℕ → Reply → List (List ℕ)
lines_by by at None answer = reply_lines by at answer
lines_by by at (Some volume) answer = closing_line by at (closing.SpoolLost volume) ∷ []

-- What a deck's step gives: Begin, then Take of what is still missing until the text's groups are there, and then
-- Enter; or Drop of the job after a refused Take, or where a volume of a group taken for it is lost.
use Rattle.member_decks.specs.Names.{MemberId, JobFields, Command, Entry, Queue, closing_line, reply_lines, step, run, entry_of}
use Rattle.std.specs.Prelude.{ℕ, zero, suc, ◌-◌, Bool, true, false, not, if◌then◌else◌, List, [], ◌∷◌, ◌++◌, reverse, Option, Some, None}
use Rattle.std.specs.List.{find}
use Rattle.std.specs.Option.{option_map_or}
use Rattle.mas_types.specs.declared.ids.JobNo.{JobNo}
use Rattle.mas_types.specs.declared.commands.Command.TheVariants as command
use Rattle.mas_types.specs.declared.commands.Reply.{Reply}
use Rattle.mas_types.specs.declared.commands.Reply.TheVariants as reply
use Rattle.mas_types.specs.declared.answers.Closing.TheVariants as closing
use Rattle.mas_types.specs.Owners.{groups_needed}
use Rattle.member_decks.specs.declared.opening.Opened.{Opened}
use Rattle.member_decks.specs.declared.opening.Opened.TheVariants as opened

-- the entries of commands that a member gives one after another in a step, each with the reply that it has at its place
abbrev pub given_in : Queue → MemberId → ℕ → List Command → List Entry
given_in Q by at [] = []
given_in Q by at (c ∷ cs) = entry_of Q by at c ∷ given_in (step Q by c).0 by at cs

-- TAKING THE GROUPS

-- what is missing after a Take of so many groups; None where it was refused
abbrev pub left_after : ℕ → Reply → Option ℕ
left_after missing (reply.Count n) = Some (missing - n)
left_after missing _ = None

-- Take of what is missing, as often as needed, at most so many times, or up to one that is refused. Each that isn't
-- refused takes at least one, so as many times as groups are missing are enough.
abbrev pub takes : ℕ → Queue → MemberId → ℕ → List Command
takes zero Q by missing = []
takes (suc times) Q by zero = []
takes (suc times) Q by (suc missing) =
    let c = command.Take (suc missing) in
    c ∷ option_map_or (λ left. takes times (step Q by c).0 by left) (left_after (suc missing) (step Q by c).1) []

-- whether one of the Takes is refused
abbrev pub are_refused : ℕ → Queue → MemberId → ℕ → Bool
are_refused zero Q by missing = false
are_refused (suc times) Q by zero = false
are_refused (suc times) Q by (suc missing) =
    let c = command.Take (suc missing) in
    option_map_or (λ left. are_refused times (step Q by c).0 by left) (left_after (suc missing) (step Q by c).1) true

-- THE FIRST BATCH: Begin and the Takes, with Drop of the job after a refused one

-- the commands that follow Begin, by its reply
abbrev pub behind_begin : Queue → MemberId → ℕ → Reply → List Command
behind_begin Q by groups (reply.Job n) = takes groups Q by groups
    ++ (if are_refused groups Q by groups then command.Drop n ∷ [] else [])
behind_begin Q by groups _ = []

abbrev pub opening : Queue → MemberId → JobFields → ℕ → List Command
opening Q by fields groups = let c = command.Begin fields in c ∷ behind_begin (step Q by c).0 by groups (step Q by c).1

-- how a deck's first batch ends: with the groups of this job, or the step closes
abbrev pub ends_begun : Queue → MemberId → ℕ → Reply → Opened
ends_begun Q by groups (reply.Job n) = if are_refused groups Q by groups then opened.Closed else opened.Ready n
ends_begun Q by groups _ = opened.Closed

abbrev pub ends_as : Queue → MemberId → JobFields → ℕ → Opened
ends_as Q by fields groups = let c = command.Begin fields in ends_begun (step Q by c).0 by groups (step Q by c).1

-- THE SECOND BATCH: Enter once the text stands in its groups, or Drop where a volume of theirs was found lost

abbrev pub finishing : Option ℕ → JobNo → List (List ℕ) → Command
finishing None n text = command.Enter n text
finishing (Some volume) n text = command.Drop n

-- THE STEP

abbrev pub batches_behind : Queue → MemberId → ℕ → List (List ℕ) → Option ℕ → Opened → List (List Entry)
batches_behind Q by at text lost opened.Closed = []
batches_behind Q by at text lost (opened.Ready n) = given_in Q by at (finishing lost n text ∷ []) ∷ []

-- the entries of each batch of a deck's step, where this volume was found lost, if any
abbrev pub deck_batches : Queue → MemberId → ℕ → JobFields → List (List ℕ) → Option ℕ → List (List Entry)
deck_batches Q by at fields text lost =
    let first = given_in Q by at (opening Q by fields (groups_needed text)) in
    first ∷ batches_behind (run Q first) by at text lost (ends_as Q by fields (groups_needed text))

-- a step closes with the reply to its last command, except for Drop
abbrev pub is_drop : Command → Bool
is_drop (command.Drop n) = true
is_drop _ = false

abbrev pub closes : Entry → Bool
closes e = not (is_drop e.command)

abbrev pub reply_in : Option Entry → Reply
reply_in None = reply.Plain
reply_in (Some e) = e.reply

abbrev pub closing_reply : List Entry → Reply
closing_reply es = reply_in (find closes (reverse es))

abbrev pub all_entries : List (List Entry) → List Entry
all_entries [] = []
all_entries (es ∷ ess) = es ++ all_entries ess

-- the lines with which the step closes: with that reply, or with the lost volume
abbrev pub lines_by : MemberId → ℕ → Option ℕ → Reply → List (List ℕ)
lines_by by at None answer = reply_lines by at answer
lines_by by at (Some volume) answer = closing_line by at (closing.SpoolLost volume) ∷ []

abbrev pub deck_lines : Queue → MemberId → ℕ → JobFields → List (List ℕ) → Option ℕ → List (List ℕ)
deck_lines Q by at fields text lost = lines_by by at lost
    (closing_reply (all_entries (deck_batches Q by at fields text lost)))

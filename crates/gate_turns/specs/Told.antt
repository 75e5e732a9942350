-- Which steps lines tell.
use Rattle.std.specs.Prelude.{ℕ, ◌-◌, ◌^◌, ◌<◌, ◌==◌, max, if◌then◌else◌, List, [], ◌∷◌, ◌++◌, length, map, drop, slice_index_or, codes}
use Rattle.std.specs.List.{list_any}
use Rattle.std.specs.Str.{bytes_eq}
use Rattle.mas_types.specs.declared.ids.MemberId.{MemberId}
use Rattle.mas_types.specs.declared.ids.JobNo.{JobNo}
use Rattle.mas_types.specs.declared.ids.Dev.{Dev}
use Rattle.mas_types.specs.declared.ids.Dev.TheVariants as dev
use Rattle.mas_types.specs.declared.jobs.Phase.{Phase}
use Rattle.mas_types.specs.declared.jobs.Phase.TheVariants as phase
use Rattle.mas_types.specs.declared.commands.Refusal.{Refusal}
use Rattle.mas_types.specs.declared.commands.Refusal.TheVariants as refusal
use Rattle.mas_types.specs.declared.commands.Reply.{Reply}
use Rattle.mas_types.specs.declared.commands.Reply.TheVariants as reply
use Rattle.mas_types.specs.declared.answers.CardCause.{CardCause}
use Rattle.mas_types.specs.declared.answers.CardCause.TheVariants as cards
use Rattle.mas_types.specs.declared.answers.Closing.{Closing}
use Rattle.mas_types.specs.declared.answers.Closing.TheVariants as closing
use Rattle.mas_types.specs.Numerals.{value_of}
use Rattle.mas_types.specs.Closings.{closing_line}
use Rattle.gate_turns.specs.Words.{parted_by, words_of, word_at}

abbrev pub number_at_word : List (List ℕ) → ℕ → ℕ
number_at_word ws k = value_of (word_at ws k)

-- the member of a name
abbrev pub member_in : List ℕ → MemberId
member_in word = record { 0 = if bytes_eq word (codes "OPER") then 0 else slice_index_or word 3 64 - 64 }

-- the number in a job identifier, after JOB or J0
abbrev pub job_in : List ℕ → JobNo
job_in word = record { 0 = value_of (drop (if slice_index_or word 2 0 == 66 then 3 else 2) word) }

-- the reply that names an output: job identifier and index with a point between them
abbrev pub output_in : List ℕ → Reply
output_in word = reply.Output (job_in (word_at (parted_by 46 word) 0))
    (record { 0 = number_at_word (parted_by 46 word) 1 })

abbrev pub phases : List Phase
phases = phase.Input ∷ phase.Convert ∷ phase.Execute ∷ phase.Output ∷ phase.Hardcopy ∷ phase.Purge ∷ phase.Xmit ∷ []

abbrev pub card_causes : List CardCause
card_causes = cards.Text ∷ cards.Many ∷ cards.After ∷ cards.First ∷ cards.Name ∷ cards.Operand ∷ cards.Jes ∷ cards.Place
    ∷ []

-- each refusal with the names and numbers that stand among these words
abbrev pub refusals_of : List (List ℕ) → List Refusal
refusals_of ws =
    refusal.JobsFull ∷ refusal.OutputsFull ∷ refusal.SpoolFull ∷ refusal.NoJob ∷ refusal.NoOutput ∷ refusal.Nothing
    ∷ refusal.NoMember ∷ refusal.NoNode
    ∷ refusal.InUse (member_in (word_at ws 3)) ∷ refusal.Again (number_at_word ws 2)
    ∷ refusal.Gap (number_at_word ws 2) (number_at_word ws 3)
    ∷ map refusal.WrongPhase phases

abbrev pub replies_of : List (List ℕ) → List Reply
replies_of ws =
    reply.Plain ∷ reply.Job (job_in (word_at ws 1)) ∷ output_in (word_at ws 1) ∷ reply.Count (number_at_word ws 1)
    ∷ map reply.No (refusals_of ws)

-- Each closing that tells a step, with the names and numbers that stand among the words of its text. The text of a
-- display that is shown is that of the count of its lines.
abbrev pub closings_of : List (List ℕ) → List Closing
closings_of ws =
    closing.DoneUnits (number_at_word ws 2) ∷ closing.Busy (member_in (word_at ws 1))
    ∷ closing.Dormant (number_at_word ws 1)
    ∷ closing.Up (member_in (word_at ws 2)) ∷ closing.ResetOf (member_in (word_at ws 1)) ∷ closing.NotHolder
    ∷ closing.SpoolLost (number_at_word ws 3) ∷ closing.PrinterLost ∷ closing.LineLost (number_at_word ws 3)
    ∷ closing.NoText (record { 0 = number_at_word ws 2 })
    ∷ closing.NotLost dev.Ckpt1 ∷ closing.NotLost dev.Ckpt2
    ∷ closing.NotLost (dev.Spool (value_of (drop 5 (word_at ws 3))))
    ∷ closing.Line (number_at_word ws 2) (number_at_word ws 4)
    ∷ map (closing.BadCard (number_at_word ws 3)) card_causes ++ map closing.Reply (replies_of ws)
    ++ closing.CkptLost dev.Ckpt1 ∷ closing.CkptLost dev.Ckpt2
    ∷ closing.CkptLost (dev.Spool (value_of (drop 5 (word_at ws 3)))) ∷ []

-- the step, if the line is one with which that step of the member closes, told, and 0 else
abbrev pub step_if : MemberId → ℕ → List (List ℕ) → List ℕ → ℕ
step_if m at ws line = if list_any (λ end. bytes_eq line (closing_line m at end)) (closings_of ws) then at else 0

-- the step of this member that the line tells, or 0
abbrev pub step_told : MemberId → List ℕ → ℕ
step_told m line = step_if m (number_at_word (words_of line) 1) (drop 2 (words_of line)) line

-- the greatest step of this member that the lines tell, or 0
unfoldable pub told_by : MemberId → List (List ℕ) → ℕ
told_by m [] = 0
told_by m (line ∷ lines) = max (step_told m line) (told_by m lines)

-- CLOSINGS WHOSE NUMBERS ARE SHORT, as all that fit into their fields are

abbrev pub IsShortDevice : Dev → Type 0
IsShortDevice (dev.Spool n) = n < 2 ^ 64
IsShortDevice _ = Unit {0}

abbrev pub IsShortRefusal : Refusal → Type 0
IsShortRefusal (refusal.Again n) = n < 2 ^ 64
IsShortRefusal (refusal.Gap n kept) = (n < 2 ^ 64) × (kept < 2 ^ 64)
IsShortRefusal _ = Unit {0}

abbrev pub IsShortReply : Reply → Type 0
IsShortReply (reply.Job job) = job.0 < 2 ^ 64
IsShortReply (reply.Output job index) = (job.0 < 2 ^ 64) × (index.0 < 2 ^ 64)
IsShortReply (reply.Count n) = n < 2 ^ 64
IsShortReply (reply.Shown lines) = length lines < 2 ^ 64
IsShortReply (reply.No why) = IsShortRefusal why
IsShortReply _ = Unit {0}

abbrev pub IsShort : Closing → Type 0
IsShort (closing.Reply r) = IsShortReply r
IsShort (closing.DoneUnits n) = n < 2 ^ 64
IsShort (closing.Dormant n) = n < 2 ^ 64
IsShort (closing.BadCard n cause) = n < 2 ^ 64
IsShort (closing.SpoolLost n) = n < 2 ^ 64
IsShort (closing.LineLost n) = n < 2 ^ 64
IsShort (closing.NoText g) = g.0 < 2 ^ 64
IsShort (closing.NotLost d) = IsShortDevice d
IsShort (closing.CkptLost d) = IsShortDevice d
IsShort (closing.Line a b) = (a < 2 ^ 64) × (b < 2 ^ 64)
IsShort _ = Unit {0}

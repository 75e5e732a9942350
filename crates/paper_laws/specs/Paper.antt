-- Which lines of outputs stand on paper after commands. What stands on paper is any property of an output's key, a
-- line's number and the output's text.
use Rattle.std.specs.Prelude.{◌≡◌, ℕ, ◌+◌, ◌≤◌, ◌<◌, Bool, true, false, not, ◌&&◌, ◌||◌, if◌then◌else◌, List, [], ◌∷◌, ◌++◌, Option, Some, None}
use Rattle.mas_types.specs.declared.ids.MemberId.{MemberId}
use Rattle.mas_types.specs.declared.ids.JobNo.{JobNo}
use Rattle.mas_types.specs.declared.ids.OutNo.{OutNo}
use Rattle.mas_types.specs.declared.jobs.Output.{Output}
use Rattle.mas_types.specs.declared.jobs.Text.{Text}
use Rattle.mas_types.specs.declared.queues.Queue.{Queue}
use Rattle.mas_types.specs.declared.commands.Command.{Command}
use Rattle.mas_types.specs.declared.commands.Command.TheVariants as command
use Rattle.mas_types.specs.declared.commands.Reply.TheVariants as reply
use Rattle.mas_types.specs.declared.journals.Entry.{Entry}
use Rattle.mas_types.specs.Ids.{is_somebody}
use Rattle.mas_types.specs.Queue.{output_at, prints_at}
use Rattle.mas_types.specs.Run.{run}
use Rattle.mas_types.specs.Step.{step}
use Rattle.queue_laws.specs.Laws.{is_refusal}
use Rattle.paper_laws.specs.Counts.{Counts, none_printed}

abbrev pub busy_in : Option Output → MemberId → Bool
busy_in None m = false
busy_in (Some o) m = prints_at m o

abbrev pub mark_of : Option Output → ℕ
mark_of None = 0
mark_of (Some o) = o.mark

-- FORWARDS

abbrev pub is_forward : Command → Bool
is_forward (command.Forward lines) = true
is_forward _ = false

-- the entry is a Forward of this output that isn't refused
abbrev pub touches : Queue → Entry → JobNo → OutNo → Bool
touches Q e n i = is_forward e.command && (not (is_refusal (step Q e.by e.command).1) && busy_in (output_at Q n i) e.by)

-- a Forward among the entries touches the output
abbrev pub touched : Queue → List Entry → JobNo → OutNo → Bool
touched Q [] n i = false
touched Q (e ∷ es) n i = touches Q e n i || touched (step Q e.by e.command).0 es n i

-- LINES

-- the lines that the member at which an output is busy has printed behind its mark
abbrev pub printed_at : Counts → MemberId → ℕ
printed_at counts m = if is_somebody m then counts m else 0

-- Of each output after the entries that no Forward among them has touched, each line from behind its mark in the base
-- (0 if it wasn't there) up to its mark, and those that its member has printed behind that.
abbrev pub AreLinesOn : (JobNo → OutNo → ℕ → Text → Type 0) → Queue → Counts → List Entry → Type 0
AreLinesOn On base counts es =
    (n : JobNo) (i : OutNo) (o : Output) → output_at (run base es) n i ≡ Some o → touched base es n i ≡ false
    → (line : ℕ) → mark_of (output_at base n i) < line → line ≤ o.mark + printed_at counts o.busy → On n i line o.text

-- at each place of the entries the lines up to each mark
abbrev pub AreMarksOn : (JobNo → OutNo → ℕ → Text → Type 0) → Queue → List Entry → Type 0
AreMarksOn On base es = (before after : List Entry) → es ≡ before ++ after → AreLinesOn On base none_printed before

-- Where a Mark among the entries answered a count: each line of its output up to that, if no Forward before it has
-- touched the output.
abbrev pub AreMarkedLinesOn : (JobNo → OutNo → ℕ → Text → Type 0) → Queue → List Entry → Type 0
AreMarkedLinesOn On base es =
    (before after : List Entry) (e : Entry) (n : JobNo) (i : OutNo) (at count : ℕ) (o : Output)
    → es ≡ before ++ e ∷ after → e.command ≡ command.Mark n i at
    → (step (run base before) e.by e.command).1 ≡ reply.Count count → output_at (run base before) n i ≡ Some o
    → touched base before n i ≡ false
    → (line : ℕ) → mark_of (output_at base n i) < line → line ≤ count → On n i line o.text

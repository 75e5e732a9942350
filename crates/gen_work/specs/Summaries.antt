-- What a run came to: the decks that were entered, the lines that were printed, and the jobs that are left.
use Rattle.std.specs.Prelude.{ℕ, ◌+◌, ◌-◌, ◌==◌, Bool, true, false, ◌&&◌, if◌then◌else◌, List, [], ◌∷◌, ◌++◌, length, filter, count_by, decimal, codes, Option, Some, None}
use Rattle.std.specs.List.{filter_map}
use Rattle.mas_types.specs.declared.commands.Command.{Command}
use Rattle.mas_types.specs.declared.commands.Command.TheVariants as command
use Rattle.mas_types.specs.declared.commands.Reply.{Reply}
use Rattle.mas_types.specs.declared.commands.Reply.TheVariants as reply
use Rattle.mas_types.specs.declared.ids.JobNo.{JobNo}
use Rattle.mas_types.specs.declared.ids.OutNo.{OutNo}
use Rattle.mas_types.specs.declared.journals.Batch.{Batch}
use Rattle.mas_types.specs.declared.journals.Entry.{Entry}
use Rattle.mas_types.specs.declared.journals.Journal.{Journal}
use Rattle.mas_types.specs.declared.queues.Queue.{Queue}
use Rattle.mas_types.specs.Ids.{same_index, same_number}
use Rattle.mas_types.specs.Journal.{entries_of, is_kept, kept_list}
use Rattle.mas_types.specs.Shown.{words}
use Rattle.gen_work.specs.declared.summaries.Counted.{Counted}
use Rattle.gen_work.specs.declared.summaries.Counted.TheVariants as counted
use Rattle.gen_work.specs.declared.summaries.Summary.{Summary}

-- WHAT AN ENTRY COUNTS FOR, unless it was refused

abbrev pub is_refusal : Reply → Bool
is_refusal (reply.No why) = true
is_refusal _ = false

-- the count that a reply has
abbrev pub count_in : Reply → ℕ
count_in (reply.Count n) = n
count_in _ = 0

-- a Drop that names no job leaves the jobs as they are
abbrev pub dropped : JobNo → Option Counted
dropped job = if job.0 == 0 then None else Some counted.Gone

-- what a command counts for, by the count that it answered
abbrev pub counted_as : Command → ℕ → Option Counted
counted_as (command.Begin fields) n = Some counted.Begun
counted_as (command.Enter job text) n = Some counted.Entered
counted_as (command.Ended job specs) n = Some (counted.Ended job)
counted_as (command.Mark job index at) n = Some (counted.Marked job index n)
counted_as (command.Drop job) n = dropped job
counted_as command.Purge n = Some counted.Gone
counted_as _ n = None

abbrev pub counted_of : Entry → Option Counted
counted_of e = if is_refusal e.reply then None else counted_as e.command (count_in e.reply)

abbrev pub counted_in : List Entry → List Counted
counted_in es = filter_map counted_of es

-- the entries of a batch, if it was kept, and of those of several that were
abbrev pub entries_kept : Batch → List Entry
entries_kept b = if is_kept b.fate then b.entries else []

abbrev pub kept_in : List Batch → List Entry
kept_in bs = entries_of (filter (λ b. is_kept b.fate) bs)

-- LINES. The mark of an output is what the last Mark of it answered, and 0 when it comes, as its job ends. A script
-- that is generated moves it in no other way.

abbrev pub mark_then : JobNo → OutNo → ℕ → Counted → ℕ
mark_then n i mark (counted.Ended job) = if same_number job n then 0 else mark
mark_then n i mark (counted.Marked job index lines) = if same_number job n && same_index index i then lines else mark
mark_then n i mark _ = mark

abbrev pub mark_after : JobNo → OutNo → ℕ → List Counted → ℕ
mark_after n i mark [] = mark
mark_after n i mark (x ∷ xs) = mark_after n i (mark_then n i mark x) xs

-- a Mark tells that so many lines were printed: what it answers, less the mark before it
abbrev pub printed_by : List Counted → Counted → ℕ
printed_by before (counted.Marked job index lines) = lines - mark_after job index 0 before
printed_by before _ = 0

-- the lines that these tell, behind those before them
abbrev pub printed_behind : List Counted → List Counted → ℕ
printed_behind before [] = 0
printed_behind before (x ∷ xs) = printed_by before x + printed_behind (before ++ x ∷ []) xs

-- THE SUMMARY of a run that begins with this queue, which has no outputs, and has this journal

abbrev pub is_begun : Counted → Bool
is_begun counted.Begun = true
is_begun _ = false

abbrev pub is_entered : Counted → Bool
is_entered counted.Entered = true
is_entered _ = false

abbrev pub is_gone : Counted → Bool
is_gone counted.Gone = true
is_gone _ = false

-- the jobs of a queue, of which so many more began, and so many went
abbrev pub left_of : ℕ → List Counted → ℕ
left_of jobs all = jobs + count_by is_begun all - count_by is_gone all

abbrev pub summary_by : ℕ → List Counted → Summary
summary_by jobs all = record {
  entered = count_by is_entered all;
  printed = printed_behind [] all;
  queued = left_of jobs all;
}

-- by the entries that were kept
abbrev pub summary_of : Queue → Journal → Summary
summary_of base J = summary_by (length base.jobs) (counted_in (kept_list J))

abbrev pub summary_line : Summary → List ℕ
summary_line s = words (
    codes "SUMMARY ENTERED" ∷ decimal s.entered ∷ codes "PRINTED" ∷ decimal s.printed ∷ codes "QUEUED" ∷ decimal s.queued
    ∷ [])

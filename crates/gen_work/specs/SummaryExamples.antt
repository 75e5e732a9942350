-- Worked examples of summaries.
use Rattle.std.specs.Prelude.{◌≡◌, ℕ, List, [], ◌∷◌, codes}
use Rattle.mas_types.specs.declared.commands.Command.{Command}
use Rattle.mas_types.specs.declared.commands.Command.TheVariants as command
use Rattle.mas_types.specs.declared.commands.Refusal.TheVariants as refusal
use Rattle.mas_types.specs.declared.commands.Reply.{Reply}
use Rattle.mas_types.specs.declared.commands.Reply.TheVariants as reply
use Rattle.mas_types.specs.declared.ids.JobNo.{JobNo}
use Rattle.mas_types.specs.declared.ids.MemberId.{MemberId}
use Rattle.mas_types.specs.declared.ids.OutNo.{OutNo}
use Rattle.mas_types.specs.declared.jobs.JobFields.{JobFields}
use Rattle.mas_types.specs.declared.journals.Batch.{Batch}
use Rattle.mas_types.specs.declared.journals.Entry.{Entry}
use Rattle.mas_types.specs.declared.journals.Fate.{Fate}
use Rattle.mas_types.specs.declared.journals.Fate.TheVariants.{Kept, Dropped, Flying}
use Rattle.mas_types.specs.Starts.{no_queue}
use Rattle.gen_work.specs.Summaries.{summary_line, summary_of}

abbrev pub sysa : MemberId
sysa = record { 0 = 1 }

abbrev pub job : ℕ → JobNo
job n = record { 0 = n }

abbrev pub first : OutNo
first = record { 0 = 1 }

abbrev pub entry : Command → Reply → Entry
entry given answer = record { by = sysa; step = 1; command = given; reply = answer }

abbrev pub batch : Fate → List Entry → Batch
batch fate entries = record { first = 0; last = 0; by = sysa; fate = fate; entries = entries }

-- a job begins, and its deck is entered
abbrev pub deck_of : JobFields → List (List ℕ) → ℕ → List Entry
deck_of fields cards n =
    entry (command.Begin fields) (reply.Job (job n)) ∷ entry (command.Enter (job n) cards) (reply.Job (job n)) ∷ []

abbrev pub mark_of : ℕ → ℕ → Entry
mark_of n lines = entry (command.Mark (job n) first lines) (reply.Count lines)

-- Three decks are entered; one more is refused at its end, and its job dropped. One output is marked at 20 lines and
-- then at 25, another at 3. One job goes; a second Purge is refused. What wasn't kept counts for nothing.
abbrev pub HistoryIsSummed : Type 0
HistoryIsSummed =
    (fields : JobFields) (cards : List (List ℕ))
    → summary_of no_queue (record {
      batches = batch Kept (deck_of fields cards 1) ∷ batch Kept (deck_of fields cards 2)
          ∷ batch Dropped (deck_of fields cards 3) ∷ batch Kept (deck_of fields cards 3)
          ∷ batch Kept (entry (command.Begin fields) (reply.Job (job 4))
          ∷ entry (command.Enter (job 4) cards) (reply.No refusal.Nothing)
          ∷ entry (command.Drop (job 4)) reply.Plain ∷ entry (command.Drop (job 0)) reply.Plain ∷ [])
          ∷ batch Kept (mark_of 2 20 ∷ mark_of 1 3 ∷ []) ∷ batch Dropped (mark_of 2 24 ∷ [])
          ∷ batch Kept (mark_of 2 25 ∷ entry command.Purge (reply.Job (job 2)) ∷ [])
          ∷ batch Kept (entry command.Purge (reply.No refusal.Nothing) ∷ []) ∷ batch Flying (mark_of 1 4 ∷ []) ∷ [];
    }) ≡ record { entered = 3; printed = 28; queued = 2 }

abbrev pub LineIsWritten : Type 0
LineIsWritten =
    summary_line (record { entered = 8; printed = 44; queued = 0 }) ≡ codes "SUMMARY ENTERED 8 PRINTED 44 QUEUED 0"

-- BOTH

pub record SummariesAreTaken : Type 0 where
  pub history : HistoryIsSummed
  pub line : LineIsWritten

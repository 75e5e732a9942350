-- What a summary counts, by the table of commands.
use Rattle.std.specs.Prelude.{◌≡◌, ℕ, ◌+◌, ◌-◌, Bool, true, false, List, [], ◌∷◌, length, map, All, Option, Some}
use Rattle.std.specs.Option.{option_map_or}
use Rattle.mas_types.specs.declared.commands.Command.{Command}
use Rattle.mas_types.specs.declared.commands.Command.TheVariants as command
use Rattle.mas_types.specs.declared.ids.JobNo.{JobNo}
use Rattle.mas_types.specs.declared.ids.OutNo.{OutNo}
use Rattle.mas_types.specs.declared.journals.Entry.{Entry}
use Rattle.mas_types.specs.declared.queues.Queue.{Queue}
use Rattle.mas_types.specs.Queue.{output_at}
use Rattle.mas_types.specs.Run.{replies, run}
use Rattle.mas_types.specs.Sound.{IsSound}
use Rattle.mas_types.specs.Step.{step}
use Rattle.queue_laws.specs.Runs.{IsGiven}
use Rattle.gen_work.specs.declared.summaries.Counted.{Counted}
use Rattle.gen_work.specs.declared.summaries.Counted.TheVariants as counted
use Rattle.gen_work.specs.Summaries.{counted_in, counted_of, left_of, printed_behind}

-- the mark of an output of a queue, 0 where there is none
abbrev pub mark_at : Queue → JobNo → OutNo → ℕ
mark_at Q n i = option_map_or (λ o. o.mark) (output_at Q n i) 0

-- the lines that a Mark prints: what it answers, less its output's mark in the queue before it
abbrev pub lines_in : Queue → Option Counted → ℕ
lines_in Q (Some (counted.Marked job index lines)) = lines - mark_at Q job index
lines_in Q _ = 0

abbrev pub lines_of : Queue → List Entry → ℕ
lines_of Q [] = 0
lines_of Q (e ∷ es) = lines_in Q (counted_of e) + lines_of (step Q e.by e.command).0 es

-- the operator sets a mark back, or forward
abbrev pub sets_mark : Command → Bool
sets_mark (command.Back lines) = true
sets_mark (command.Forward lines) = true
sets_mark _ = false

-- the lines of a summary are those that each Mark printed, and its jobs are those of the queue after the entries
pub record AreOfTable (Q : Queue) (es : List Entry) : Type 0 where
  pub lines : printed_behind [] (counted_in es) ≡ lines_of Q es
  pub jobs : left_of (length Q.jobs) (counted_in es) ≡ length (run Q es).jobs

-- so it is of entries that may be given, each with its reply by the table, from a sound queue without outputs on, where
-- none of them sets a mark back or forward
abbrev pub SumsAreOfTable : Type 0
SumsAreOfTable = (Q : Queue) (es : List Entry) → IsSound Q → Q.outputs ≡ [] → All (IsGiven Q) es
    → map (λ e. e.reply) es ≡ replies Q es → All (λ e. sets_mark e.command ≡ false) es → AreOfTable Q es

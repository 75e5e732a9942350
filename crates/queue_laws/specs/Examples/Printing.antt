-- Printing: an output from its job's end to its last line.
use Rattle.std.specs.Prelude.{◌≡◌, ℕ, false, List, [], ◌∷◌, ◌++◌, replicate, codes}
use Rattle.mas_types.specs.declared.jobs.OutSpec.{OutSpec}
use Rattle.mas_types.specs.declared.queues.Queue.{Queue}
use Rattle.mas_types.specs.declared.commands.Command.TheVariants as command
use Rattle.mas_types.specs.declared.commands.Refusal.TheVariants as refusal
use Rattle.mas_types.specs.declared.commands.Reply.TheVariants as reply
use Rattle.mas_types.specs.declared.commands.What.TheVariants as what
use Rattle.mas_types.specs.Shown.{shown}
use Rattle.mas_types.specs.Starts.{default_config}
use Rattle.queue_laws.specs.Examples.Small.{member, job, index, class, name, empty, Given, replies_to, queue_after, deck, three_units}

-- an output of so many lines
abbrev pub listing : ℕ → OutSpec
listing lines = record {
  class = class 65;
  dest = name (codes "LOCAL");
  forms = name (codes "STD");
  copies = 1;
  held = false;
  text = replicate lines (codes "HELLO");
}

-- the job 1 runs at member 1 and has one output of so many lines, which member 1 picks for its printer
abbrev pub to_printer : ℕ → List Given
to_printer lines =
    deck 1 1 ++ three_units 1 1
    ++ (member 1, command.Take 1) ∷ (member 1, command.Ended (job 1) (listing lines ∷ [])) ∷ (member 1, command.Gather)
    ∷ (member 1, command.Pick) ∷ []

-- ten lines of 25 are printed
abbrev pub ten_printed : Queue
ten_printed = queue_after (empty default_config) (to_printer 25 ++ (member 1, command.Mark (job 1) (index 1) 10) ∷ [])

abbrev pub MarkIsShown : Type 0
MarkIsShown = shown ten_printed what.Outputs ≡ codes "JOB00001.01 A LOCAL STD 1 25 10 SYSA -" ∷ []

-- a reset keeps the mark
abbrev pub ResetKeepsTheMark : Type 0
ResetKeepsTheMark =
    shown (queue_after ten_printed ((member 2, command.Reset (member 1)) ∷ [])) what.Outputs ≡ codes "JOB00001.01 A LOCAL STD 1 25 10 - -" ∷ []

-- four lines back, forward past the end, and another member may not cancel the output
abbrev pub MarksMoveAtTheirMember : Type 0
MarksMoveAtTheirMember =
    replies_to ten_printed (
    (member 1, command.Back 4) ∷ (member 1, command.Forward 100) ∷ (member 2, command.CancelOut (job 1) (index 1))
    ∷ (member 1, command.Pick) ∷ (member 1, command.CancelOut (job 1) (index 1)) ∷ [])
    ≡ reply.Count 6 ∷ reply.Count 25 ∷ reply.No (refusal.InUse (member 1)) ∷ reply.No (refusal.InUse (member 1))
    ∷ reply.Output (job 1) (index 1) ∷ []

-- Done before the last line is refused
abbrev pub DoneWaitsForTheLastLine : Type 0
DoneWaitsForTheLastLine =
    replies_to ten_printed (
    (member 1, command.Done (job 1) (index 1)) ∷ (member 1, command.Mark (job 1) (index 1) 99)
    ∷ (member 1, command.Done (job 1) (index 1)) ∷ [])
    ≡ reply.No refusal.Nothing ∷ reply.Count 25 ∷ reply.Output (job 1) (index 1) ∷ []

-- a job that is printed and purged leaves the empty queue, except its number
abbrev pub PurgedJobLeavesNothing : Type 0
PurgedJobLeavesNothing =
    queue_after (empty default_config) (
    to_printer 1 ++ (member 1, command.Mark (job 1) (index 1) 1) ∷ (member 1, command.Done (job 1) (index 1))
    ∷ (member 1, command.Purge) ∷ [])
    ≡ record (empty default_config) { last = job 1 }

-- The numbers that a node gets on a line, and under which its own jobs leave it: along any history of the queue each
-- comes once, one after another.
use Rattle.std.specs.Prelude.{◌≡◌, ℕ, zero, suc, ◌+◌, ◌==◌, if◌then◌else◌, List, [], ◌∷◌, ◌++◌, Some}
use Rattle.mas_types.specs.declared.commands.Command.{Command}
use Rattle.mas_types.specs.declared.commands.Command.TheVariants as command
use Rattle.mas_types.specs.declared.commands.Reply.{Reply}
use Rattle.mas_types.specs.declared.commands.Reply.TheVariants as reply
use Rattle.mas_types.specs.declared.journals.Entry.{Entry}
use Rattle.mas_types.specs.declared.queues.LineCount.{LineCount}
use Rattle.mas_types.specs.declared.queues.Queue.{Queue}
use Rattle.mas_types.specs.Commands.Wire.{got_on, sent_on}
use Rattle.mas_types.specs.Queue.{wire_at}
use Rattle.mas_types.specs.Run.{run}
use Rattle.mas_types.specs.Step.{step}

-- the queue counts what goes over the line
abbrev pub HasLine : Queue → ℕ → Type 0
HasLine Q l = (count : LineCount) × (wire_at Q l ≡ Some count)

abbrev pub if_on : ℕ → ℕ → ℕ → List ℕ
if_on l line number = if line == l then number ∷ [] else []

-- the number that a command made got on the line, or under which a job left, by its reply
abbrev pub got_with : ℕ → Command → Reply → List ℕ
got_with l (command.Got line number n text) (reply.Job k) = if_on l line number
got_with l c r = []

abbrev pub sent_with : ℕ → Command → Reply → List ℕ
sent_with l (command.Sent line number) (reply.Count k) = if_on l line number
sent_with l c r = []

-- those of entries one after another, each with the reply that the queue gives at its place
abbrev pub numbers_in : (Command → Reply → List ℕ) → Queue → List Entry → List ℕ
numbers_in numbers Q [] = []
numbers_in numbers Q (e ∷ es) =
    let done = step Q e.by e.command in
    numbers e.command done.1 ++ numbers_in numbers done.0 es

-- so many numbers after one
abbrev pub numbers_after : ℕ → ℕ → List ℕ
numbers_after count zero = []
numbers_after count (suc many) = suc count ∷ numbers_after (suc count) many

-- the numbers are those from one count to another, each once
pub record CountUp (before after : ℕ) (numbers : List ℕ) : Type 0 where
  pub many : ℕ
  pub are : numbers ≡ numbers_after before many
  pub now_is : after ≡ before + many

abbrev pub NumbersAreGotOnce : Type 0
NumbersAreGotOnce = (l : ℕ) (Q : Queue) (es : List Entry) → HasLine Q l
    → CountUp (got_on Q l) (got_on (run Q es) l) (numbers_in (got_with l) Q es)

abbrev pub NumbersAreSentOnce : Type 0
NumbersAreSentOnce = (l : ℕ) (Q : Queue) (es : List Entry) → HasLine Q l
    → CountUp (sent_on Q l) (sent_on (run Q es) l) (numbers_in (sent_with l) Q es)

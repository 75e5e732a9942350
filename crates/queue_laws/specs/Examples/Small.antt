-- Small queues to work on, and what commands on them come to.
use Rattle.std.specs.Prelude.{ℕ, zero, suc, ◌+◌, true, false, List, [], ◌∷◌, ◌++◌, codes}
use Rattle.mas_types.specs.declared.ids.MemberId.{MemberId}
use Rattle.mas_types.specs.declared.ids.JobNo.{JobNo}
use Rattle.mas_types.specs.declared.ids.OutNo.{OutNo}
use Rattle.mas_types.specs.declared.ids.Class.{Class}
use Rattle.mas_types.specs.declared.ids.Name8.{Name8}
use Rattle.mas_types.specs.declared.jobs.JobFields.{JobFields}
use Rattle.mas_types.specs.declared.queues.Config.{Config}
use Rattle.mas_types.specs.declared.queues.Queue.{Queue}
use Rattle.mas_types.specs.declared.commands.Command.{Command}
use Rattle.mas_types.specs.declared.commands.Command.TheVariants as command
use Rattle.mas_types.specs.declared.commands.Reply.{Reply}
use Rattle.mas_types.specs.Names.{padded}
use Rattle.mas_types.specs.Owners.{groups_needed}
use Rattle.mas_types.specs.Starts.{empty_queue}
use Rattle.mas_types.specs.Step.{step}

abbrev pub member : ℕ → MemberId
member m = record { 0 = m }

abbrev pub job : ℕ → JobNo
job n = record { 0 = n }

abbrev pub index : ℕ → OutNo
index i = record { 0 = i }

abbrev pub class : ℕ → Class
class byte = record { 0 = byte }

abbrev pub name : List ℕ → Name8
name text = record { 0 = padded text }

-- the queue of a cold start, without routes
abbrev pub empty : Config → Queue
empty config = empty_queue config []

-- COMMANDS, each with the member that gives it

abbrev pub Given : Type 0
Given = MemberId × Command

-- the replies, one after another
abbrev pub replies_to : Queue → List Given → List Reply
replies_to Q [] = []
replies_to Q (c ∷ cs) = (step Q c.0 c.1).1 ∷ replies_to (step Q c.0 c.1).0 cs

-- the queue after them
abbrev pub queue_after : Queue → List Given → Queue
queue_after Q [] = Q
queue_after Q (c ∷ cs) = queue_after (step Q c.0 c.1).0 cs

-- DECKS

-- the fields of a job whose JOB statement says nothing but its name
abbrev pub fields_of : List ℕ → JobFields
fields_of text = record {
  name = name text;
  class = class 65;
  msgclass = class 65;
  prio = record { 0 = 5 };
  held = false;
  scan = false;
  restart = true;
  dest = name (codes "LOCAL");
  node = name (codes "HERE");
  origin = name (codes "HERE");
}

-- a member reads a deck: the job comes with the number n and its text gets groups
abbrev pub deck_of : ℕ → ℕ → JobFields → List (List ℕ) → List Given
deck_of m n fields text =
    (member m, command.Begin fields) ∷ (member m, command.Take (groups_needed text))
    ∷ (member m, command.Enter (job n) text) ∷ []

-- the deck of the one card //A JOB
abbrev pub deck : ℕ → ℕ → List Given
deck m n = deck_of m n (fields_of (codes "A")) (codes "//A JOB" ∷ [])

-- one-card decks at member 1, as many as are counted, with the numbers from n on
abbrev pub decks : ℕ → ℕ → List Given
decks n zero = []
decks n (suc more) = deck 1 n ++ decks (n + 1) more

-- a member converts a job that was selected, and takes one to execute
abbrev pub three_units : ℕ → ℕ → List Given
three_units m n = (member m, command.TakeConvert) ∷ (member m, command.Converted (job n)) ∷ (member m, command.TakeExec)
    ∷ []

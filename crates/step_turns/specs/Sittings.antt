-- A sitting: its batches, the state that it leaves, the lines with which the step closes, and what becomes of the lock.
use Rattle.std.specs.Prelude.{ℕ, nat_le, if◌then◌else◌, List, [], length}
use Rattle.mas_types.specs.declared.journals.Entry.{Entry}
use Rattle.mas_types.specs.declared.queues.Queue.{Queue}
use Rattle.step_turns.specs.Batches.{cut}
use Rattle.step_turns.specs.Entries.{all_entries}
use Rattle.step_turns.specs.States.{ByLock, ForStep, Found, Grant, Holder, Inner, Keep, Outer, Release, State, Told}
use Rattle.step_turns.specs.Turns.{Turn, turn}

-- no lines are said before the step is told
pub record Sitting : Type 0 where
  pub batches : List (List Entry)
  pub next : State
  pub lines : List (List ℕ)
  pub release : Release

-- What becomes of the lock after so many commands. A lock that was taken for the step is given up at the end of each
-- sitting. A lock that the operator took is kept, except at the end of a step in which its hold is spent.
abbrev pub released : Grant → ℕ → ℕ → State → Release
released ForStep hold given Told = Outer
released ForStep hold given _ = Inner
released ByLock hold given Told = if nat_le hold given then Outer else Keep
released ByLock hold given _ = Keep

abbrev pub sitting_of : Holder → Turn → Sitting
sitting_of h t = record {
  batches = cut [] t.parts;
  next = t.next;
  lines = t.lines;
  release = released h.grant h.hold (length (all_entries t.parts)) t.next;
}

-- The sitting of a member that holds the lock, at the queue that it finds. It stands in this state of its step, and
-- this is what it found in the acts for which that waited.
abbrev pub sit : Queue → Holder → State → Found → Sitting
sit Q h s found = sitting_of h (turn h Q s found)

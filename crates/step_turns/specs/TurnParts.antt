-- What a sitting gives, before its entries are cut into batches: the entries part after part, the state that it leaves,
-- and the lines with which its step closes.
use Rattle.std.specs.Prelude.{ℕ, List, [], ◌∷◌}
use Rattle.mas_types.specs.declared.journals.Entry.{Entry}
use Rattle.step_turns.specs.States.{State, Told}

pub record Turn : Type 0 where
  pub parts : List (List Entry)
  pub next : State
  pub lines : List (List ℕ)

-- nothing more is given, and the step goes on from this state
abbrev pub leaves : State → Turn
leaves next = record { parts = []; next = next; lines = [] }

-- the step closes with these lines
abbrev pub says : List (List ℕ) → Turn
says lines = record { parts = []; next = Told; lines = lines }

-- entries that a turn gives before all others
abbrev pub after_part : List Entry → Turn → Turn
after_part es t = record { parts = es ∷ t.parts; next = t.next; lines = t.lines }

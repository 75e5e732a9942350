-- What a diary tells of itself, and what a member writes.
use Rattle.std.specs.Prelude.{ℕ, List, [], ◌∷◌, map}
use Rattle.mas_types.specs.declared.commands.Command.TheVariants as command
use Rattle.mas_types.specs.declared.commands.Reply.TheVariants as reply
use Rattle.mas_types.specs.declared.journals.Entry.{Entry}
use Rattle.mas_types.specs.Starts.{no_queue}
use Rattle.gate_facts.specs.declared.facts.Facts.{Facts}
use Rattle.gate_facts.specs.Values.{entries_by}

-- all entries are kept and begun by their members; nobody is stopped, has anything at hand or has said anything
abbrev pub diary_facts : List Entry → Facts
diary_facts es = record {
  base = no_queue;
  kept = es;
  begun = map (λ m. entries_by m es) (0 ∷ 1 ∷ 2 ∷ 3 ∷ 4 ∷ 5 ∷ 6 ∷ 7 ∷ 8 ∷ []);
  stopped = [];
  desks = [];
  lines = [];
  marks = record { since = 0; faults = []; loses = []; arms = []; stops = []; lost = [] };
}

-- the entry of a member's step
abbrev pub entry : ℕ → ℕ → Entry
entry by step = record { by = record { 0 = by }; step = step; command = command.Purge; reply = reply.Plain }

-- the entries of a member's steps
abbrev pub written : ℕ → List ℕ → List Entry
written by steps = map (entry by) steps

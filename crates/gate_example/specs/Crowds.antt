-- Many members that write in turn.
use Rattle.std.specs.Prelude.{◌≡◌, ℕ, ◌<◌, ◌≤◌, true, false, List, [], take}
use Rattle.mas_types.specs.declared.journals.Entry.{Entry}
use Rattle.gate_facts.specs.Values.{begun_of, marked_at, entries_by}
use Rattle.gate_facts.specs.Memory.{seats}
use Rattle.member_gate.specs.declared.view.View.{View}
use Rattle.gate_example.specs.Writing.{written}

-- the pass that came with the gate: it split none for this member and those above it, and none of them has written
pub record IsRest (v : View) (next : ℕ) : Type 0 where
  pub free : v.has ≡ false
  pub root : v.root ≡ true
  pub fresh : (m : ℕ) → next ≤ m → marked_at v.given m ≡ false
  pub cares : (m : ℕ) → next ≤ m → m < seats → marked_at v.cares m ≡ true
  pub new : (m : ℕ) → next ≤ m → m < seats → begun_of v.bare.last m ≡ []

-- the pass knows of each of these members that it wrote the entries of its first steps
abbrev pub HaveWritten : View → ℕ → ℕ → List ℕ → Type 0
HaveWritten v first last steps = (m : ℕ) → first ≤ m → m ≤ last → (marked_at v.cares m ≡ true)
    × ((n : ℕ) × (begun_of v.bare.last m ≡ written m (take n steps)))

-- of each member the entries of its first steps stand in the one history, each once and in order
abbrev pub StandInOrder : List Entry → ℕ → List ℕ → Type 0
StandInOrder entries members steps = (m : ℕ) → 0 < m → m ≤ members → (n : ℕ)
    × (entries_by m entries ≡ written m (take n steps))

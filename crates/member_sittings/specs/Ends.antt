-- How a sitting ends.
use Rattle.member_sittings.specs.Names.{Entry, lines_by, all_entries, closing_reply, Sitting, released, Holder, State, Told}
use Rattle.std.specs.Prelude.{◌≡◌, ℕ, List, [], ◌∷◌, length, Option}

-- a sitting that ends in this state, with these batches and lines
abbrev pub ends_in : Holder → List (List Entry) → State → List (List ℕ) → Sitting
ends_in h ess next lines = record {
  batches = ess;
  next = next;
  lines = lines;
  release = released h.grant h.hold (length (all_entries ess)) next;
}

-- the last sitting of a deck's step with this batch: it closes with a reply, or with the volume that was found lost
abbrev pub deck_end : Holder → List Entry → Option ℕ → Sitting
deck_end h es lost = ends_in h (es ∷ []) Told (lines_by h.by h.step lost (closing_reply es))

-- how a sitting ends that keeps its member's batch: where the step goes on, and which lines are said
pub record Ending : Type 0 where
  pub holder : Holder
  pub next : State
  pub lines : List (List ℕ)

abbrev pub ending : Holder → State → List (List ℕ) → Ending
ending h next lines = record { holder = h; next = next; lines = lines }

abbrev pub deck_ending : Holder → List Entry → Option ℕ → Ending
deck_ending h es lost = ending h Told (lines_by h.by h.step lost (closing_reply es))

-- the sitting that keeps this batch, and ends so
abbrev pub ended : Ending → List Entry → Sitting
ended e es = ends_in e.holder (es ∷ []) e.next e.lines

-- lines are said only where the step is told
abbrev pub IsQuiet : State → List (List ℕ) → Type 0
IsQuiet Told lines = Unit {0}
IsQuiet _ lines = lines ≡ []

-- What is taken from a source.
use Rattle.std.specs.Prelude.{◌≡◌, ℕ, ◌≤◌, List, drop}

-- at most this many bytes went from the front
abbrev pub TakesAtMost : ℕ → List ℕ → List ℕ → Type 0
TakesAtMost most before after = (n : ℕ) × (n ≤ most) × (after ≡ drop n before)

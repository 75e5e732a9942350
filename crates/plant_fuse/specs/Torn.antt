-- Which lines of an inner plant count as torn.
use Rattle.std.specs.Prelude.{ℕ, ◌+◌, ◌==◌, nat_lt, ◌&&◌, not, if◌then◌else◌, Bool, true, false, List, [], ◌∷◌, length}
use Rattle.spool_plant.specs.View.{Line}

-- An act that passed on the half of a line: the printer that it went to, by the member's number and one more, or 0 for
-- the console, and the moment at which it was made.
abbrev pub Halved : Type 0
Halved = ℕ × ℕ

-- the act of a moment added to lines
abbrev pub grew : (ℕ → List Line) → ℕ → Bool
grew lines i = nat_lt (length (lines i)) (length (lines (i + 1)))

-- an act that was halved at this place, before a moment, added a line
abbrev pub is_torn : (ℕ → List Line) → ℕ → ℕ → Halved → Bool
is_torn lines place t h = h.0 == place && (nat_lt h.1 t && grew lines h.1)

-- the numbers of the lines of a place that were halved before a moment, where these are the lines at each moment
abbrev pub torn_before : (ℕ → List Line) → ℕ → List Halved → ℕ → List ℕ
torn_before lines place [] t = []
torn_before lines place (h ∷ hs) t = if is_torn lines place t h then length (lines h.1)
    ∷ torn_before lines place hs t else torn_before lines place hs t

abbrev pub has_number : List ℕ → ℕ → Bool
has_number [] n = false
has_number (m ∷ ms) n = if m == n then true else has_number ms n

-- lines from a number on, of which these are torn
abbrev pub torn_from : List ℕ → ℕ → List Line → List Line
torn_from torn n [] = []
torn_from torn n (l ∷ ls) = record { text = l.text; whole = l.whole && not (has_number torn n) }
    ∷ torn_from torn (n + 1) ls

-- the lines of a place at a moment
abbrev pub lines_at : (ℕ → List Line) → ℕ → List Halved → ℕ → List Line
lines_at lines place hs t = torn_from (torn_before lines place hs t) 0 (lines t)

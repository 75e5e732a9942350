-- The words of a line, and whose the line is.
use Rattle.std.specs.Prelude.{ℕ, zero, suc, ◌==◌, if◌then◌else◌, List, [], ◌∷◌, filter, slice_index_or}
use Rattle.std.specs.Str.{bytes_eq}
use Rattle.mas_types.specs.Shown.{member_word}

abbrev pub with_first : ℕ → List (List ℕ) → List (List ℕ)
with_first b [] = (b ∷ []) ∷ []
with_first b (w ∷ ws) = (b ∷ w) ∷ ws

-- the parts of a text between two bytes of this value, and before the first and after the last
abbrev pub parted_by : ℕ → List ℕ → List (List ℕ)
parted_by by [] = [] ∷ []
parted_by by (b ∷ bs) = if b == by then [] ∷ parted_by by bs else with_first b (parted_by by bs)

-- the words of a line, with a blank between each two
abbrev pub words_of : List ℕ → List (List ℕ)
words_of line = parted_by 32 line

abbrev pub word_at : List (List ℕ) → ℕ → List ℕ
word_at ws k = slice_index_or ws k []

-- the member, of so many, that has this name, or 0
abbrev pub named : ℕ → List ℕ → ℕ
named zero word = 0
named (suc n) word = if bytes_eq word (member_word (record { 0 = suc n })) then suc n else named n word

-- the member whose line it is: the one that the line's first word names, or member 0
unfoldable pub speaker : ℕ → List ℕ → ℕ
speaker members line = named members (word_at (words_of line) 0)

-- the lines of one member, of so many
abbrev pub lines_by : ℕ → ℕ → List (List ℕ) → List (List ℕ)
lines_by members m lines = filter (λ line. speaker members line == m) lines

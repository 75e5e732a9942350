-- A script's lines, and their words.
use Rattle.std.specs.Prelude.{ℕ, ◌==◌, nat_le, Bool, ◌&&◌, if◌then◌else◌, List, [], ◌∷◌, length, codes, slice_index_or, Option, Some, None}
use Rattle.std.specs.Borrow.{Bor}
use Rattle.std.specs.List.{slice_split}
use Rattle.std.specs.Str.{bytes_eq}
use Rattle.std.specs.Str.Lines.{strip_carriage_return}
use Rattle.mas_types.specs.Fit.{is_text_line}
use Rattle.mas_types.specs.Limits.{script_line_bytes}
use Rattle.mas_types.specs.Names.{is_blank, unpadded}

abbrev pub is_line_end : ℕ → Bool
is_line_end b = b == 10

-- The parts between line ends as lines. A last part that is empty is none, and each loses one carriage return at its
-- end.
abbrev pub lines_of_parts : List (List ℕ) → List (List ℕ)
lines_of_parts [] = []
lines_of_parts (part ∷ []) = if length part == 0 then [] else strip_carriage_return part ∷ []
lines_of_parts (part ∷ next ∷ parts) = strip_carriage_return part ∷ lines_of_parts (next ∷ parts)

-- the lines of a script
abbrev pub lines_of : List ℕ → List (List ℕ)
lines_of bytes = lines_of_parts (slice_split is_line_end bytes)

-- a line of a script: at most 255 text bytes
abbrev pub is_line : List ℕ → Bool
is_line line = nat_le (length line) script_line_bytes && is_text_line line

-- a line of blanks, which is skipped outside decks
abbrev pub is_empty : List ℕ → Bool
is_empty line = length (unpadded line) == 0

-- the line that ends a deck
abbrev pub is_deck_end : List ℕ → Bool
is_deck_end line = bytes_eq line (codes "++END")

-- the parts that are left behind such a byte, if it was there
abbrev pub parts_left : ℕ → Option (Bor (List ℕ)) → List (List ℕ)
parts_left at None = []
parts_left at (Some text) = slice_split (λ b. b == at) text.now

-- WORDS

-- the parts of a text between blanks
abbrev pub words_in : List ℕ → List (List ℕ)
words_in text = slice_split is_blank text

-- the words of a line, which one blank separates; the blanks at its end are dropped
abbrev pub words_of : List ℕ → List (List ℕ)
words_of line = words_in (unpadded line)

-- the word at a place counted from 0, empty where there is none
abbrev pub word_at : List (List ℕ) → ℕ → List ℕ
word_at words k = slice_index_or words k []

-- whether the word at a place is this one
abbrev pub has_word : List (List ℕ) → ℕ → List ℕ → Bool
has_word words k word = bytes_eq (word_at words k) word

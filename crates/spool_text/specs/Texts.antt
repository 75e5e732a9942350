-- Which lines of a text stand in which of its groups, and what the bytes of a group are.
use Rattle.std.specs.Prelude.{ℕ, ◌+◌, ◌-◌, nat_le, if◌then◌else◌, List, [], ◌∷◌, ◌++◌, length, map, replicate, Option, Some, None, slice_get, unwrap_or}
use Rattle.mas_types.specs.Limits.{page_bytes}
use Rattle.mas_types.specs.Records.{end_byte, records_of, records_in}

-- the groups, where the line stands in front of those of the first group
abbrev pub with_line : List ℕ → List (List (List ℕ)) → List (List (List ℕ))
with_line line [] = (line ∷ []) ∷ []
with_line line (group ∷ groups) = (line ∷ group) ∷ groups

-- the lines by groups, where so many bytes of the present group are used. A line stays in the present group where its
-- record and the byte after the records still fit, else it begins the next. A text without lines has one group
abbrev pub grouped_after : ℕ → List (List ℕ) → List (List (List ℕ))
grouped_after used [] = [] ∷ []
grouped_after used (line ∷ lines) =
    if nat_le (used + length line + 2) page_bytes then with_line line (grouped_after (used + length line + 1) lines)
    else [] ∷ with_line line (grouped_after (length line + 1) lines)

-- the lines of each group of a text
abbrev pub grouped : List (List ℕ) → List (List (List ℕ))
grouped lines = grouped_after 0 lines

-- the lines of one of the groups, counted from 0
abbrev pub lines_in : ℕ → List (List (List ℕ)) → List (List ℕ)
lines_in group groups = unwrap_or (slice_get groups group) []

-- the lines of one group of a text
abbrev pub lines_at : ℕ → List (List ℕ) → List (List ℕ)
lines_at group lines = lines_in group (grouped lines)

-- the bytes and zeros up to the end of the page
abbrev pub filled_up : List ℕ → List ℕ
filled_up bytes = bytes ++ replicate (page_bytes - length bytes) 0

-- the bytes of a group that holds these lines: their records, the byte after them, and zeros
abbrev pub group_bytes : List (List ℕ) → List ℕ
group_bytes lines = filled_up (records_of lines ++ end_byte ∷ [])

-- the bytes of each group of a text
abbrev pub packed : List (List ℕ) → List (List ℕ)
packed lines = map group_bytes (grouped lines)

-- the first lines before the second, where both are there
abbrev pub joined : Option (List (List ℕ)) → Option (List (List ℕ)) → Option (List (List ℕ))
joined None rest = None
joined (Some lines) None = None
joined (Some lines) (Some rest) = Some (lines ++ rest)

-- the text of groups in the order of their places: their records, None where a group holds none
abbrev pub text_of : List (List ℕ) → Option (List (List ℕ))
text_of [] = Some []
text_of (group ∷ groups) = joined (records_in group) (text_of groups)

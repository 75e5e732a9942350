-- Lines of bytes in one buffer: the bytes of each line stand behind its length.
use Rattle.std.specs.Prelude.{◌≡◌, ℕ, zero, suc, ◌+◌, ◌*◌, ◌/◌, ◌^◌, ◌<◌, ◌≤◌, ◌==◌, nat_lt, if◌then◌else◌, Some, slice_get, List, [], ◌∷◌, ◌++◌, length, take, drop, ⊤}
use Rattle.std.specs.Int.{w32, to_be_bytes, from_be_bytes}

-- a length in one byte, or where it isn't below 255 the byte 255 and then the length in four, the highest first
abbrev pub length_bytes : ℕ → List ℕ
length_bytes n = if nat_lt n 255 then n ∷ [] else 255 ∷ to_be_bytes w32 n

-- a line behind its length
abbrev pub line_bytes : List ℕ → List ℕ
line_bytes line = length_bytes (length line) ++ line

-- lines, each behind its length
abbrev pub lines_bytes : List (List ℕ) → List ℕ
lines_bytes [] = []
lines_bytes (line ∷ lines) = line_bytes line ++ lines_bytes lines

-- how many bytes say the length of the first line
abbrev pub length_size : List ℕ → ℕ
length_size [] = 1
length_size (first ∷ bytes) = if nat_lt first 255 then 1 else 5

-- the length of the first line
abbrev pub first_length : List ℕ → ℕ
first_length [] = 0
first_length (first ∷ bytes) = if nat_lt first 255 then first else from_be_bytes w32 (take 4 bytes)

-- the first line
abbrev pub first_line : List ℕ → List ℕ
first_line bytes = take (first_length bytes) (drop (length_size bytes) bytes)

-- what stands behind the first line
abbrev pub behind_line : List ℕ → List ℕ
behind_line bytes = drop (first_length bytes) (drop (length_size bytes) bytes)

-- the bytes have the first line whole
abbrev pub HasLine : List ℕ → Type 0
HasLine bytes = length_size bytes + first_length bytes ≤ length bytes

-- the lines with which the bytes begin, as many as are counted
abbrev pub lines_in : ℕ → List ℕ → List (List ℕ)
lines_in zero bytes = []
lines_in (suc count) bytes = first_line bytes ∷ lines_in count (behind_line bytes)

-- each line's length fits four bytes
abbrev pub AreShort : List (List ℕ) → Type 0
AreShort [] = ⊤
AreShort (line ∷ lines) = (length line < 2 ^ 32) × AreShort lines

-- each mark says where the bytes of one line of 32 begin, from the first on
abbrev pub AreMarks : List (List ℕ) → List ℕ → Type 0
AreMarks lines marks = (k mark : ℕ) → slice_get marks k ≡ Some mark → (32 * k ≤ length lines)
    × (mark ≡ length (lines_bytes (take (32 * k) lines)))

-- the marks with that of the next line, where that is one of 32 and has none yet
abbrev pub with_mark : ℕ → ℕ → List ℕ → List ℕ
with_mark count place marks = if count / 32 == length marks then marks ++ place ∷ [] else marks

-- the bytes are those of so many lines, and each line that is there has its mark
abbrev pub AreKept : ℕ → List ℕ → List ℕ → Type 0
AreKept count bytes marks = (bytes ≡ lines_bytes (lines_in count bytes)) × AreShort (lines_in count bytes)
    × AreMarks (lines_in count bytes) marks × (count ≤ 32 * length marks)

-- what stands behind so many lines
abbrev pub behind_lines : ℕ → List ℕ → List ℕ
behind_lines zero bytes = bytes
behind_lines (suc count) bytes = behind_lines count (behind_line bytes)

-- so many lines stand whole in the bytes
abbrev pub HaveLines : ℕ → List ℕ → Type 0
HaveLines count bytes = (k : ℕ) → k < count → HasLine (behind_lines k bytes)

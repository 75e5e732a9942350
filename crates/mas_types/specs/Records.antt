-- Spool text: which records a group holds. A record is a length byte and as many text bytes; the byte 255 stands after
-- the last record of a group, and what stands behind it does not matter.
use Rattle.std.specs.Prelude.{◌≡◌, ℕ, zero, suc, ◌==◌, nat_le, Bool, true, ◌&&◌, if◌then◌else◌, List, [], ◌∷◌, ◌++◌, length, take, drop, Option, Some, None, All, option_map}
use Rattle.mas_types.specs.Fit.{is_text_line}
use Rattle.mas_types.specs.Limits.{line_bytes}

-- the byte after a group's records
abbrev pub end_byte : ℕ
end_byte = 255

-- a line as a record
abbrev pub record_of : List ℕ → List ℕ
record_of line = length line ∷ line

-- lines as records, one after another
abbrev pub records_of : List (List ℕ) → List ℕ
records_of [] = []
records_of (line ∷ lines) = record_of line ++ records_of lines

-- a line that a record may be of: at most 132 text bytes
abbrev pub is_record : List ℕ → Bool
is_record line = nat_le (length line) line_bytes && is_text_line line

-- the group's bytes are these lines as records, the byte after them, and a rest
pub record HoldsRecords (bytes : List ℕ) (lines : List (List ℕ)) : Type 0 where
  pub rest : List ℕ
  pub is : bytes ≡ records_of lines ++ end_byte ∷ rest
  pub each : All (λ line. is_record line ≡ true) lines

-- the group's bytes are no records
abbrev pub HoldsNoRecords : List ℕ → Type 0
HoldsNoRecords bytes = (lines : List (List ℕ)) → HoldsRecords bytes lines → ⊥

-- READING

-- reads at most so many records
abbrev pub read_records : ℕ → List ℕ → Option (List (List ℕ))
read_records more [] = None
read_records zero (b ∷ bytes) = None
read_records (suc more) (b ∷ bytes) =
    if b == end_byte then Some []
    else (if nat_le b (length bytes) && is_record (take b bytes)
    then option_map (λ lines. take b bytes ∷ lines) (read_records more (drop b bytes)) else None)

-- the records that a group's bytes hold, None where they hold none. There are fewer records than bytes
abbrev pub records_in : List ℕ → Option (List (List ℕ))
records_in bytes = read_records (length bytes) bytes

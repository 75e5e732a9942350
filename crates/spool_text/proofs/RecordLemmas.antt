-- What a group holds, and what is read from it.
use Rattle.std.proofs.Common.{◌≡◌, ℕ, zero, suc, ◌+◌, ◌-◌, ◌≤◌, Bool, true, false, List, [], ◌∷◌, ◌++◌, length, take, drop, replicate, refl, ◌∙◌, arith, append_assoc, Some, None}
use Rattle.std.specs.Prelude.{nat_le, ◌&&◌, ◌==◌, All, Option, option_map}
use Rattle.std.proofs.lemmas.List.{length-append, length-drop, length-take-le, take-append-drop}
use Rattle.std.proofs.lemmas.List.Elements.{All-cons, All-head, All-tail, All-nil}
use Rattle.std.proofs.lemmas.Bool.{le-leb}
use Rattle.std.proofs.lemmas.Bool.Decides.{nat_tests}
use Rattle.std.proofs.Math.Seq.{take-append_seam, drop-append_seam}
use Rattle.mas_types.specs.Limits.{page_bytes, line_bytes}
use Rattle.mas_types.specs.Records.{end_byte, records_of, is_record, HoldsRecords, read_records, records_in}
use Rattle.spool_text.specs.Texts.{group_bytes}
use Rattle.spool_text.proofs.Lists.{test_cases}

-- the bytes of a group, where its records are so many bytes
pub group_bytes-is : (lines : List (List ℕ)) (at : ℕ) → length (records_of lines) ≡ at → group_bytes lines ≡ records_of lines ++ end_byte ∷ replicate (page_bytes - (at + 1)) 0
group_bytes-is lines at size =
    let all : length (records_of lines ++ end_byte ∷ []) ≡ at + 1 = rw (length-append (records_of lines) (end_byte ∷ []), size) refl in
    rw all (append_assoc (records_of lines) (end_byte ∷ []) (replicate (page_bytes - (at + 1)) 0))

-- READING, RECORD BY RECORD

-- whether the bytes begin with the text of a record of that size
abbrev pub begins_record : ℕ → List ℕ → Bool
begins_record size bytes = nat_le size (length bytes) && is_record (take size bytes)

-- how often is read doesn't matter, where it is often enough
enough : (m n : ℕ) (bytes : List ℕ) → length bytes ≤ m → length bytes ≤ n → read_records m bytes ≡ read_records n bytes
enough m n [] a b = refl
enough zero n (x ∷ bytes) a b = absurd (omega arith)
enough (suc m) zero (x ∷ bytes) a b = absurd (omega arith)
enough (suc m) (suc n) (x ∷ bytes) a b = rw (enough m n (drop x bytes) (omega (arith, length-drop x bytes)) (omega (arith, length-drop x bytes))) refl

pub records_in-end : (bytes : List ℕ) → records_in (end_byte ∷ bytes) ≡ Some []
records_in-end bytes = refl

pub records_in-record : (b : ℕ) (bytes : List ℕ) → (b == end_byte) ≡ false → begins_record b bytes ≡ true → records_in (b ∷ bytes) ≡ option_map (λ lines. take b bytes ∷ lines) (records_in (drop b bytes))
records_in-record b bytes go fits =
    rw (go, fits, enough (length bytes) (length (drop b bytes)) (drop b bytes) (omega (arith, length-drop b bytes)) (omega arith)) refl

pub records_in-bad : (b : ℕ) (bytes : List ℕ) → (b == end_byte) ≡ false → begins_record b bytes ≡ false → records_in (b ∷ bytes) ≡ None
records_in-bad b bytes go bad = rw (go, bad) refl

-- WHAT IS HELD IS READ

pub and_first : (a b : Bool) → (a && b) ≡ true → a ≡ true
and_first true b h = refl
and_first false b h = absurd (cc)

pub record-short : (line : List ℕ) → is_record line ≡ true → length line ≤ line_bytes
record-short line h =
    let first : nat_le (length line) line_bytes ≡ true = and_first _ _ h in
    grind (arith, nat_tests)

reads_one : (line bytes : List ℕ) → is_record line ≡ true → records_in (length line ∷ (line ++ bytes)) ≡ option_map (λ lines. line ∷ lines) (records_in bytes)
reads_one line bytes is =
    let short : length line ≤ line_bytes = record-short line is in
    let go : (length line == end_byte) ≡ false = grind (arith, nat_tests) in
    let room : nat_le (length line) (length (line ++ bytes)) ≡ true = le-leb (length line) (length (line ++ bytes)) (omega (arith, length-append line bytes)) in
    let fits : begins_record (length line) (line ++ bytes) ≡ true = rw (room, take-append_seam line bytes) is in
    records_in-record (length line) (line ++ bytes) go fits ∙ rw (take-append_seam line bytes, drop-append_seam line bytes) refl

pub reads_back : (lines : List (List ℕ)) (rest : List ℕ) → All (λ line. is_record line ≡ true) lines → records_in (records_of lines ++ end_byte ∷ rest) ≡ Some lines
reads_back [] rest each = refl
reads_back (line ∷ lines) rest each =
    let P = λ (l : List ℕ). is_record l ≡ true in
    let one = reads_one line (records_of lines ++ end_byte ∷ rest) (All-head P line lines each) in
    rw (append_assoc line (records_of lines) (end_byte ∷ rest), one, reads_back lines rest (All-tail P line lines each)) refl

pub read_from_held : (group : List ℕ) (lines : List (List ℕ)) → HoldsRecords group lines → records_in group ≡ Some lines
read_from_held group lines held = rw held.is (reads_back lines held.rest held.each)

-- WHAT IS READ IS HELD

holds_one : (line bytes : List ℕ) (lines : List (List ℕ)) → is_record line ≡ true → HoldsRecords bytes lines → HoldsRecords (length line ∷ (line ++ bytes)) (line ∷ lines)
holds_one line bytes lines is held = record {
  rest = held.rest;
  is = rw (append_assoc line (records_of lines) (end_byte ∷ held.rest), held.is) refl;
  each = All-cons (λ l. is_record l ≡ true) line lines is held.each;
}

-- a record in front of what is held
holds_first : (b : ℕ) (bytes : List ℕ) (lines : List (List ℕ)) → begins_record b bytes ≡ true → HoldsRecords (drop b bytes) lines → HoldsRecords (b ∷ bytes) (take b bytes ∷ lines)
holds_first b bytes lines fits held =
    let inside : nat_le b (length bytes) ≡ true = and_first _ _ fits in
    let is : is_record (take b bytes) ≡ true = rw inside at fits in
    let size : length (take b bytes) ≡ b = length-take-le b bytes (grind (arith, nat_tests)) in
    let whole = holds_one (take b bytes) (drop b bytes) lines is held in
    rw (size, take-append-drop b bytes) at whole

held_more : (more : ℕ) (bytes : List ℕ) (lines : List (List ℕ)) → read_records more bytes ≡ Some lines → HoldsRecords bytes lines
held_more more [] lines h = absurd (cc)
held_more zero (b ∷ bytes) lines h = absurd (cc)
held_more (suc more) (b ∷ bytes) lines h =
    test_cases (b == end_byte) (HoldsRecords (b ∷ bytes) lines) at_end
    (λ go. test_cases (begins_record b bytes) (HoldsRecords (b ∷ bytes) lines)
    (λ fits. further fits (λ ls. held_more more (drop b bytes) ls) (read_records more (drop b bytes)) refl (rw (go, fits) at h))
    (λ bad. absurd (let w = rw (go, bad) at h in cc)))
  where
    at_end : (b == end_byte) ≡ true → HoldsRecords (b ∷ bytes) lines
    at_end e =
        let same : b ≡ end_byte = grind (arith, nat_tests) in
        let none : lines ≡ [] = (let w = rw e at h in cc) in
        rw (same, none) record { rest = bytes; is = refl; each = All-nil (λ line. is_record line ≡ true) }

    further : begins_record b bytes ≡ true → ((ls : List (List ℕ)) → read_records more (drop b bytes) ≡ Some ls → HoldsRecords (drop b bytes) ls) → (found : Option (List (List ℕ))) → read_records more (drop b bytes) ≡ found → option_map (λ ls. take b bytes ∷ ls) found ≡ Some lines → HoldsRecords (b ∷ bytes) lines
    further fits rest None e is = absurd (cc)
    further fits rest (Some ls) e is =
        let all : take b bytes ∷ ls ≡ lines = cc in
        rw (← all) (holds_first b bytes ls fits (rest ls e))

pub held_from_read : (group : List ℕ) (lines : List (List ℕ)) → records_in group ≡ Some lines → HoldsRecords group lines
held_from_read group lines h = held_more (length group) group lines h

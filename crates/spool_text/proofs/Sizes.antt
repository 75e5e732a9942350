-- Each group fits a page, holds its lines, and gives them back.
use Rattle.std.proofs.Common.{◌≡◌, ℕ, ◌+◌, ◌-◌, ◌<◌, ◌≤◌, true, List, [], ◌∷◌, length, replicate, map, refl, arith, Some}
use Rattle.std.specs.Prelude.{nat_le}
use Rattle.std.specs.List.{All, flat_map}
use Rattle.std.proofs.lemmas.List.{length-append, length-replicate}
use Rattle.std.proofs.lemmas.List.Elements.{All-cons, All-head, All-tail, All-nil}
use Rattle.std.proofs.lemmas.Bool.{le-leb}
use Rattle.std.proofs.lemmas.Bool.Decides.{nat_tests}
use Rattle.mas_types.specs.Fit.{AreLines, is_text_line}
use Rattle.mas_types.specs.Limits.{page_bytes, line_bytes}
use Rattle.mas_types.specs.Records.{end_byte, record_of, records_of, is_record, HoldsRecords}
use Rattle.spool_text.specs.Texts.{with_line, grouped_after, grouped, group_bytes, text_of}
use Rattle.spool_text.proofs.Lists.{test_cases}
use Rattle.spool_text.proofs.RecordLemmas.{group_bytes-is, read_from_held}

-- the records and the byte after them fit a page
abbrev pub FitsPage : List (List ℕ) → Type 0
FitsPage group = length (records_of group) + 1 ≤ page_bytes

-- the groups fit, where so many bytes of the first one are used already
abbrev FitFrom : ℕ → List (List (List ℕ)) → Type 0
FitFrom used [] = Unit {0}
FitFrom used (group ∷ groups) = (used + length (records_of group) + 1 ≤ page_bytes) × All FitsPage groups

length-records_of : (line : List ℕ) (lines : List (List ℕ)) → length (records_of (line ∷ lines)) ≡ 1 + length line + length (records_of lines)
length-records_of line lines = rw (length-append (record_of line) (records_of lines)) (omega arith)

fit-with_line : (used : ℕ) (line : List ℕ) (groups : List (List (List ℕ))) → used + length line + 2 ≤ page_bytes → FitFrom (used + length line + 1) groups → FitFrom used (with_line line groups)
fit-with_line used line [] room fit = (omega (arith, length-records_of line []), All-nil FitsPage)
fit-with_line used line (group ∷ groups) room fit = (omega (arith, length-records_of line group, fit.0), fit.1)

fit_all : (groups : List (List (List ℕ))) → FitFrom 0 groups → All FitsPage groups
fit_all [] fit = All-nil FitsPage
fit_all (group ∷ groups) fit = All-cons FitsPage group groups (omega (arith, fit.0)) fit.1

abbrev IsShort : List ℕ → Type 0
IsShort line = length line ≤ line_bytes

fit-grouped_after : (used : ℕ) (lines : List (List ℕ)) → used < page_bytes → All IsShort lines → FitFrom used (grouped_after used lines)
fit-grouped_after used [] room short = (omega arith, All-nil FitsPage)
fit-grouped_after used (line ∷ lines) room short =
    let one : length line ≤ line_bytes = All-head IsShort line lines short in
    let next = fit-grouped_after (length line + 1) lines (omega arith) (All-tail IsShort line lines short) in
    let same : 0 + length line + 1 ≡ length line + 1 = omega arith in
    test_cases (nat_le (used + length line + 2) page_bytes) (FitFrom used (grouped_after used (line ∷ lines)))
    (λ e. let fits : used + length line + 2 ≤ page_bytes = grind (arith, nat_tests) in
    rw e (fit-with_line used line (grouped_after (used + length line + 1) lines) fits (fit-grouped_after (used + length line + 1) lines (omega arith) (All-tail IsShort line lines short))))
    (λ e. rw e (omega arith, fit_all (with_line line (grouped_after (length line + 1) lines)) (fit-with_line 0 line (grouped_after (length line + 1) lines) (omega arith) (rw same next))))

pub fit-grouped : (lines : List (List ℕ)) → AreLines lines → All FitsPage (grouped lines)
fit-grouped lines are = fit_all (grouped lines) (fit-grouped_after 0 lines (omega arith) are.short)

-- EACH GROUP HOLDS RECORDS

abbrev pub IsOfRecord : List ℕ → Type 0
IsOfRecord line = is_record line ≡ true

abbrev pub AreOfRecords : List (List ℕ) → Type 0
AreOfRecords lines = All IsOfRecord lines

each-with_line : (line : List ℕ) (groups : List (List (List ℕ))) → IsOfRecord line → All AreOfRecords groups → All AreOfRecords (with_line line groups)
each-with_line line [] is each = All-cons AreOfRecords (line ∷ []) [] (All-cons IsOfRecord line [] is (All-nil IsOfRecord)) (All-nil AreOfRecords)
each-with_line line (group ∷ groups) is each =
    All-cons AreOfRecords (line ∷ group) groups (All-cons IsOfRecord line group is (All-head AreOfRecords group groups each)) (All-tail AreOfRecords group groups each)

each-grouped_after : (used : ℕ) (lines : List (List ℕ)) → AreOfRecords lines → All AreOfRecords (grouped_after used lines)
each-grouped_after used [] each = All-cons AreOfRecords [] [] (All-nil IsOfRecord) (All-nil AreOfRecords)
each-grouped_after used (line ∷ lines) each =
    let is = All-head IsOfRecord line lines each in
    let rest = All-tail IsOfRecord line lines each in
    test_cases (nat_le (used + length line + 2) page_bytes) (All AreOfRecords (grouped_after used (line ∷ lines)))
    (λ e. rw e (each-with_line line (grouped_after (used + length line + 1) lines) is (each-grouped_after (used + length line + 1) lines rest)))
    (λ e. rw e (All-cons AreOfRecords [] (with_line line (grouped_after (length line + 1) lines)) (All-nil IsOfRecord) (each-with_line line (grouped_after (length line + 1) lines) is (each-grouped_after (length line + 1) lines rest))))

of_record : (line : List ℕ) → length line ≤ line_bytes → is_text_line line ≡ true → IsOfRecord line
of_record line short text = rw (le-leb (length line) line_bytes short, text) refl

pub are_of_records : (lines : List (List ℕ)) → AreLines lines → AreOfRecords lines
are_of_records lines are = λ i d h. of_record _ (are.short i d h) (are.text i d h)

pub each-grouped : (lines : List (List ℕ)) → AreLines lines → All AreOfRecords (grouped lines)
each-grouped lines are = each-grouped_after 0 lines (are_of_records lines are)

pub holds_own : (group : List (List ℕ)) → AreOfRecords group → HoldsRecords (group_bytes group) group
holds_own group each = record {
  rest = replicate (page_bytes - (length (records_of group) + 1)) 0;
  is = group_bytes-is group (length (records_of group)) refl;
  each = each;
}

-- A GROUP IS A PAGE

pub length-group_bytes : (group : List (List ℕ)) → FitsPage group → length (group_bytes group) ≡ page_bytes
length-group_bytes group fits =
    let size = length (records_of group) in
    rw (group_bytes-is group (length (records_of group)) refl, length-append (records_of group) (end_byte ∷ replicate (page_bytes - (length (records_of group) + 1)) 0))
    (omega (arith, length-replicate {A = ℕ} (page_bytes - (length (records_of group) + 1)) 0))

-- THE TEXT

pub text_of-groups : (groups : List (List (List ℕ))) → All AreOfRecords groups → text_of (map group_bytes groups) ≡ Some (flat_map (λ group. group) groups)
text_of-groups [] each = refl
text_of-groups (group ∷ groups) each =
    let own = read_from_held (group_bytes group) group (holds_own group (All-head AreOfRecords group groups each)) in
    rw (own, text_of-groups groups (All-tail AreOfRecords group groups each)) refl

-- Lemmas on lines in one buffer.
use Rattle.std.proofs.Common.{◌≡◌, ◌∙◌, ℕ, zero, suc, ◌+◌, ◌*◌, ◌/◌, ◌^◌, ◌<◌, ◌≤◌, ◌==◌, Bool, true, false, nat_lt, List, [], ◌∷◌, ◌++◌, length, take, drop, get_or, refl, sym, ap, Some, slice_get, arith, append_assoc, subst, ◌⊎◌, inl, inr}
use Rattle.std.proofs.lemmas.Bool.{cases_lt}
use Rattle.std.proofs.lemmas.Bool.Decides.{nat_tests}
use Rattle.std.proofs.lemmas.List.{length-append, append-nil, take_at, drop_at, take-append-le, take-append-drop, at_drop_more, take_all}
use Rattle.std.proofs.lemmas.Nat.{from_be_bytes-to_be_bytes_4}
use Rattle.mas_types.specs.LineBytes.{length_bytes, line_bytes, lines_bytes, length_size, first_length, first_line, behind_line, HasLine, lines_in, AreShort, AreMarks, with_mark, AreKept, HaveLines}

-- a length is read back
coded_by : (n : ℕ) (text : List ℕ) (b : Bool) → nat_lt n 255 ≡ b → n < 2 ^ 32 → (length_size (length_bytes n ++ text) ≡ length (length_bytes n)) × (first_length (length_bytes n ++ text) ≡ n)
coded_by n text true is short = rw (is, is) (refl, refl)
coded_by n text false is short = rw is (refl, from_be_bytes-to_be_bytes_4 n short)

coded : (n : ℕ) (text : List ℕ) → n < 2 ^ 32 → (length_size (length_bytes n ++ text) ≡ length (length_bytes n)) × (first_length (length_bytes n ++ text) ≡ n)
coded n text short = coded_by n text (nat_lt n 255) refl short

-- what stands behind a length
behind_length : (line rest : List ℕ) → length line < 2 ^ 32 → drop (length_size (line_bytes line ++ rest)) (line_bytes line ++ rest) ≡ line ++ rest
behind_length line rest short =
    let code = coded (length line) (line ++ rest) short in
    rw (append_assoc (length_bytes (length line)) line rest) (drop_at (length_bytes (length line)) (line ++ rest) (length_size (length_bytes (length line) ++ (line ++ rest))) (sym code.0))

length_of : (line rest : List ℕ) → length line < 2 ^ 32 → first_length (line_bytes line ++ rest) ≡ length line
length_of line rest short =
    rw (append_assoc (length_bytes (length line)) line rest) (coded (length line) (line ++ rest) short).1

size_of : (line rest : List ℕ) → length line < 2 ^ 32 → length_size (line_bytes line ++ rest) ≡ length (length_bytes (length line))
size_of line rest short =
    rw (append_assoc (length_bytes (length line)) line rest) (coded (length line) (line ++ rest) short).0

pub first_is : (line rest : List ℕ) → length line < 2 ^ 32 → first_line (line_bytes line ++ rest) ≡ line
first_is line rest short =
    rw (behind_length line rest short, length_of line rest short) (take_at line rest (length line) refl)

pub behind_is : (line rest : List ℕ) → length line < 2 ^ 32 → behind_line (line_bytes line ++ rest) ≡ rest
behind_is line rest short =
    rw (behind_length line rest short, length_of line rest short) (drop_at line rest (length line) refl)

pub has_line : (line rest : List ℕ) → length line < 2 ^ 32 → HasLine (line_bytes line ++ rest)
has_line line rest short =
    let size = size_of line rest short in
    let long = length_of line rest short in
    let all = length-append (line_bytes line) rest in
    let own = length-append (length_bytes (length line)) line in
    omega (arith, size, long, all, own)

-- lines are read back
pub read_back : (lines : List (List ℕ)) → AreShort lines → lines_in (length lines) (lines_bytes lines) ≡ lines
read_back [] short = refl
read_back (line ∷ lines) short =
    rw (first_is line (lines_bytes lines) short.0, behind_is line (lines_bytes lines) short.0, read_back lines short.1) refl

pub length_lines : (count : ℕ) (bytes : List ℕ) → length (lines_in count bytes) ≡ count
length_lines zero bytes = refl
length_lines (suc count) bytes = ap suc (length_lines count (behind_line bytes))

bytes_joined : (front back : List (List ℕ)) → lines_bytes (front ++ back) ≡ lines_bytes front ++ lines_bytes back
bytes_joined [] back = refl
bytes_joined (line ∷ front) back =
    rw (bytes_joined front back) (sym (append_assoc (line_bytes line) (lines_bytes front) (lines_bytes back)))

bytes_pushed : (lines : List (List ℕ)) (line : List ℕ) → lines_bytes (lines ++ line ∷ []) ≡ lines_bytes lines ++ line_bytes line
bytes_pushed lines line =
    bytes_joined lines (line ∷ []) ∙ ap (λ (last : List ℕ). lines_bytes lines ++ last) (append-nil (line_bytes line))

short_pushed : (lines : List (List ℕ)) (line : List ℕ) → AreShort lines → length line < 2 ^ 32 → AreShort (lines ++ line ∷ [])
short_pushed [] line are short = (short, are)
short_pushed (first ∷ lines) line are short = (are.0, short_pushed lines line are.1 short)

pub short_at : (lines : List (List ℕ)) (at : ℕ) → AreShort lines → at < length lines → length (get_or lines at []) < 2 ^ 32
short_at [] at are within = absurd (omega (arith, within))
short_at (line ∷ lines) zero are within = are.0
short_at (line ∷ lines) (suc at) are within = short_at lines at are.1 (omega (arith, within))

-- a line is added at the end
pub pushed : (count : ℕ) (bytes marks line : List ℕ) → AreKept count bytes marks → length line < 2 ^ 32 → lines_in (count + 1) (bytes ++ line_bytes line) ≡ lines_in count bytes ++ line ∷ []
pushed count bytes marks line are short =
    let lines = lines_in count bytes in
    let all : bytes ++ line_bytes line ≡ lines_bytes (lines ++ line ∷ []) = ap (λ (front : List ℕ). front ++ line_bytes line) are.0 ∙ sym (bytes_pushed lines line) in
    let number : length (lines ++ line ∷ []) ≡ count + 1 = length-append lines (line ∷ []) ∙ ap (λ (n : ℕ). n + 1) (length_lines count bytes) in
    ap (lines_in (count + 1)) all ∙ ap (λ (n : ℕ). lines_in n (lines_bytes (lines ++ line ∷ []))) (sym number) ∙ read_back (lines ++ line ∷ []) (short_pushed lines line are.1 short)

length_by : (n : ℕ) (b : Bool) → nat_lt n 255 ≡ b → 1 ≤ length (length_bytes n)
length_by n true is = rw is (omega arith)
length_by n false is = rw is (omega arith)

some_length : (n : ℕ) → 1 ≤ length (length_bytes n)
some_length n = length_by n (nat_lt n 255) refl

-- lines are no more than their bytes
many : (lines : List (List ℕ)) → length lines ≤ length (lines_bytes lines)
many [] = omega arith
many (line ∷ lines) =
    let rest = many lines in
    let all = length-append (line_bytes line) (lines_bytes lines) in
    let own = length-append (length_bytes (length line)) line in
    let size = some_length (length line) in
    omega (arith, rest, all, own, size)

pub room_for_one : (count : ℕ) (bytes marks line : List ℕ) → AreKept count bytes marks → count + 1 ≤ length (bytes ++ line_bytes line)
room_for_one count bytes marks line are =
    let lines = lines_in count bytes in
    let so_far : length lines ≤ length (lines_bytes lines) = many lines in
    let same : length bytes ≡ length (lines_bytes lines) = ap length are.0 in
    let number = length_lines count bytes in
    let all = length-append bytes (line_bytes line) in
    let own = length-append (length_bytes (length line)) line in
    let size = some_length (length line) in
    omega (arith, so_far, same, number, all, own, size)

-- the bytes of the lines from a place on
dropped : (lines : List (List ℕ)) (n : ℕ) → drop (length (lines_bytes (take n lines))) (lines_bytes lines) ≡ lines_bytes (drop n lines)
dropped lines n =
    let whole : lines_bytes lines ≡ lines_bytes (take n lines) ++ lines_bytes (drop n lines) = ap lines_bytes (sym (take-append-drop n lines)) ∙ bytes_joined (take n lines) (drop n lines) in
    ap (drop (length (lines_bytes (take n lines)))) whole ∙ drop_at (lines_bytes (take n lines)) (lines_bytes (drop n lines)) _ refl

front_within : (lines : List (List ℕ)) (n : ℕ) → length (lines_bytes (take n lines)) ≤ length (lines_bytes lines)
front_within lines n =
    let whole : lines_bytes lines ≡ lines_bytes (take n lines) ++ lines_bytes (drop n lines) = ap lines_bytes (sym (take-append-drop n lines)) ∙ bytes_joined (take n lines) (drop n lines) in
    let long : length (lines_bytes lines) ≡ length (lines_bytes (take n lines)) + length (lines_bytes (drop n lines)) = ap length whole ∙ length-append (lines_bytes (take n lines)) (lines_bytes (drop n lines)) in
    omega (arith, long)

pub mark_within : (count : ℕ) (bytes marks : List ℕ) (k mark : ℕ) → AreKept count bytes marks → slice_get marks k ≡ Some mark → mark ≤ length bytes
mark_within count bytes marks k mark are here =
    let lines = lines_in count bytes in
    let at : mark ≡ length (lines_bytes (take (32 * k) lines)) = (are.2 k mark here).1 in
    let same : length bytes ≡ length (lines_bytes lines) = ap length are.0 in
    let within = front_within lines (32 * k) in
    omega (arith, at, same, within)

pub from_mark : (count : ℕ) (bytes marks : List ℕ) (k mark : ℕ) → AreKept count bytes marks → slice_get marks k ≡ Some mark → drop mark bytes ≡ lines_bytes (drop (32 * k) (lines_in count bytes))
from_mark count bytes marks k mark are here =
    let lines = lines_in count bytes in
    let at : mark ≡ length (lines_bytes (take (32 * k) lines)) = (are.2 k mark here).1 in
    ap (drop mark) are.0 ∙ ap (λ (n : ℕ). drop n (lines_bytes lines)) at ∙ dropped lines (32 * k)

-- the line at a place, and the bytes of those behind it
pub line_here : (lines : List (List ℕ)) (at : ℕ) → AreShort lines → at < length lines → HasLine (lines_bytes (drop at lines)) × (first_line (lines_bytes (drop at lines)) ≡ get_or lines at []) × (behind_line (lines_bytes (drop at lines)) ≡ lines_bytes (drop (at + 1) lines))
line_here lines at are within =
    let here : lines_bytes (drop at lines) ≡ line_bytes (get_or lines at []) ++ lines_bytes (drop (at + 1) lines) = at_drop_more lines_bytes lines at [] within in
    let short = short_at lines at are within in
    rw here (has_line (get_or lines at []) (lines_bytes (drop (at + 1) lines)) short, first_is (get_or lines at []) (lines_bytes (drop (at + 1) lines)) short, behind_is (get_or lines at []) (lines_bytes (drop (at + 1) lines)) short)

-- a mark that is there was there, or is the one that was added
mark_pushed : (marks : List ℕ) (place k mark : ℕ) → slice_get (marks ++ place ∷ []) k ≡ Some mark → (slice_get marks k ≡ Some mark) ⊎ ((k ≡ length marks) × (mark ≡ place))
mark_pushed [] place zero mark is = inr (refl, cc)
mark_pushed [] place (suc k) mark is = absurd (cc)
mark_pushed (first ∷ marks) place zero mark is = inl is
mark_pushed (first ∷ marks) place (suc k) mark is = go (mark_pushed marks place k mark is)
  where
    go : (slice_get marks k ≡ Some mark) ⊎ ((k ≡ length marks) × (mark ≡ place)) → (slice_get marks k ≡ Some mark) ⊎ ((suc k ≡ suc (length marks)) × (mark ≡ place))
    go (inl was) = inl was
    go (inr added) = inr (ap suc added.0, added.1)

-- the next line's mark is added
marks_more : (count : ℕ) (bytes marks : List ℕ) → AreKept count bytes marks → 32 * length marks ≡ count → AreMarks (lines_in count bytes) (marks ++ length bytes ∷ [])
marks_more count bytes marks are next k mark is = go (mark_pushed marks (length bytes) k mark is)
  where
    go : (slice_get marks k ≡ Some mark) ⊎ ((k ≡ length marks) × (mark ≡ length bytes)) → (32 * k ≤ length (lines_in count bytes)) × (mark ≡ length (lines_bytes (take (32 * k) (lines_in count bytes))))
    go (inl was) = are.2 k mark was
    go (inr added) =
        let lines = lines_in count bytes in
        let number : length lines ≡ count = length_lines count bytes in
        let place : 32 * k ≡ length lines = ap (λ (n : ℕ). 32 * n) added.0 ∙ next ∙ sym number in
        let all : take (32 * k) lines ≡ lines = take_all (32 * k) lines (omega (arith, place)) in
        (omega (arith, place), added.1 ∙ ap length are.0 ∙ ap (λ (front : List (List ℕ)). length (lines_bytes front)) (sym all))

unmarked : (count most : ℕ) → (count / 32 == most) ≡ false → count ≤ 32 * most → count < 32 * most
unmarked count most is within = go (cases_lt count (32 * most))
  where
    go : (count < 32 * most) ⊎ (32 * most ≤ count) → count < 32 * most
    go (inl less) = less
    go (inr more) =
        let same : count / 32 ≡ most = omega arith in
        absurd (grind (arith, nat_tests))

marked_by : (count : ℕ) (bytes marks : List ℕ) (b : Bool) → (count / 32 == length marks) ≡ b → AreKept count bytes marks → AreKept count bytes (with_mark count (length bytes) marks) × (count < 32 * length (with_mark count (length bytes) marks))
marked_by count bytes marks true is are =
    let due : count / 32 ≡ length marks = grind (arith, nat_tests) in
    let next : 32 * length marks ≡ count = omega (arith, due, are.3) in
    let long = length-append marks (length bytes ∷ []) in
    rw is ((are.0, are.1, marks_more count bytes marks are next, omega (arith, long, are.3)), omega (arith, long, are.3))
marked_by count bytes marks false is are =
    rw is (are, unmarked count (length marks) is are.3)

pub marked : (count : ℕ) (bytes marks : List ℕ) → AreKept count bytes marks → AreKept count bytes (with_mark count (length bytes) marks) × (count < 32 * length (with_mark count (length bytes) marks))
marked count bytes marks are = marked_by count bytes marks (count / 32 == length marks) refl are

marks_stay : (lines : List (List ℕ)) (marks line : List ℕ) → AreMarks lines marks → AreMarks (lines ++ line ∷ []) marks
marks_stay lines marks line are k mark is =
    let was = are k mark is in
    let within : 32 * k ≤ length lines = was.0 in
    let long = length-append lines (line ∷ []) in
    (omega (arith, within, long), was.1 ∙ ap (λ (front : List (List ℕ)). length (lines_bytes front)) (sym (take-append-le (32 * k) lines (line ∷ []) within)))

-- a line more, which has its mark
pub kept_pushed : (count : ℕ) (bytes marks line : List ℕ) → AreKept count bytes marks → count < 32 * length marks → length line < 2 ^ 32 → AreKept (count + 1) (bytes ++ line_bytes line) marks
kept_pushed count bytes marks line are has short =
    let lines = lines_in count bytes in
    let more = pushed count bytes marks line are short in
    let all : bytes ++ line_bytes line ≡ lines_bytes (lines ++ line ∷ []) = ap (λ (front : List ℕ). front ++ line_bytes line) are.0 ∙ sym (bytes_pushed lines line) in (
      all ∙ ap lines_bytes (sym more),
      subst AreShort (sym more) (short_pushed lines line are.1 short),
      subst (λ (ls : List (List ℕ)). AreMarks ls marks) (sym more) (marks_stay lines marks line are.2),
      omega (arith, has),
    )

first_mark : AreMarks [] (0 ∷ [])
first_mark zero mark is = (omega arith, cc)
first_mark (suc k) mark is = absurd (cc)

-- no lines, with the mark that needn't be kept
pub none_kept : AreKept 0 [] (0 ∷ [])
none_kept = (refl, tt, first_mark, omega arith)

-- the lines from a place on
pub short_from : (lines : List (List ℕ)) (at : ℕ) → AreShort lines → AreShort (drop at lines)
short_from lines zero short = short
short_from [] (suc at) short = short
short_from (line ∷ lines) (suc at) short = short_from lines at short.1

-- so many lines stand in the bytes of lines
pub have_lines : (lines : List (List ℕ)) → AreShort lines → HaveLines (length lines) (lines_bytes lines)
have_lines [] short k less = absurd (omega (arith, less))
have_lines (line ∷ lines) short zero less = has_line line (lines_bytes lines) short.0
have_lines (line ∷ lines) short (suc k) less =
    rw (behind_is line (lines_bytes lines) short.0) (have_lines lines short.1 k (omega (arith, less)))

-- the first of the lines from a place on is the line at that place
pub next_line : (lines : List (List ℕ)) (at : ℕ) (line : List ℕ) (rest : List (List ℕ)) → drop at lines ≡ line ∷ rest → (slice_get lines at ≡ Some line) × (rest ≡ drop (at + 1) lines) × (at < length lines)
next_line [] zero line rest is = absurd (cc)
next_line [] (suc at) line rest is = absurd (cc)
next_line (first ∷ lines) zero line rest is = (cc, cc, omega arith)
next_line (first ∷ lines) (suc at) line rest is =
    let later = next_line lines at line rest is in
    let more : suc at + 1 ≡ suc (at + 1) = omega arith in
    rw more (later.0, later.1, omega (arith, later.2))

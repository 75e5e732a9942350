-- The cards of a generated deck are cards.
use Rattle.std.proofs.Common.{◌≡◌, ◌∙◌, ap, ℕ, zero, suc, ◌+◌, ◌-◌, ◌*◌, ◌%◌, ◌^◌, ◌<◌, ◌≤◌, nat_le, Bool, true, false, not, ◌&&◌, List, [], ◌∷◌, ◌++◌, map, replicate, length, codes, decimal, refl, arith, length-append}
use Rattle.std.specs.List.{list_all, range_with_len}
use Rattle.std.proofs.lemmas.Bool.{and_from}
use Rattle.std.proofs.lemmas.Bool.Decides.{nat_tests}
use Rattle.std.proofs.lemmas.Fmt.{decimal_by_steps, length-decimal-le}
use Rattle.std.proofs.lemmas.List.{length-replicate}
use Rattle.std.proofs.lemmas.List.Folds.{list_all-append}
use Rattle.mas_types.specs.Fit.{is_text_byte, is_text_line}
use Rattle.mas_types.specs.Numerals.{in_digits}
use Rattle.mas_types.specs.Shown.{class_text}
use Rattle.script_lang.specs.Lines.{is_deck_end, is_line}
use Rattle.script_laws.specs.Whole.{is_card}
use Rattle.gen_work.specs.Generated.{data_card, data_cards, deck_cards, deck_class, deck_data_count, deck_priority, end_cards, job_card, step_cards}

-- TEXT BYTES

digit_text : (d : ℕ) → d < 10 → is_text_byte (48 + d) ≡ true
digit_text d small = grind (arith, nat_tests)

letter_text : (d : ℕ) → d < 26 → is_text_byte (65 + d) ≡ true
letter_text d small = grind (arith, nat_tests)

decimal_text : (n : ℕ) → n < 2 ^ 64 → list_all is_text_byte (decimal n) ≡ true
decimal_text = decimal_by_steps (λ m ds. list_all is_text_byte ds ≡ true) (λ m small. one m small) (λ m ds more is. next m ds is) where
  one : (m : ℕ) → m < 10 → list_all is_text_byte ((48 + m) ∷ []) ≡ true
  one m small = rw (digit_text m small) refl

  next : (m : ℕ) (ds : List ℕ) → list_all is_text_byte ds ≡ true → list_all is_text_byte (ds ++ (48 + m % 10) ∷ []) ≡ true
  next m ds is =
      list_all-append is_text_byte ds ((48 + m % 10) ∷ [])
      ∙ ap (λ (v : Bool). v && list_all is_text_byte ((48 + m % 10) ∷ [])) is ∙ one (m % 10) (omega arith)

zeros_text : (k : ℕ) → list_all is_text_byte (replicate k 48) ≡ true
zeros_text zero = refl
zeros_text (suc k) = zeros_text k

join_text : (a b : List ℕ) → list_all is_text_byte a ≡ true → list_all is_text_byte b ≡ true
    → list_all is_text_byte (a ++ b) ≡ true
join_text a b e f = list_all-append is_text_byte a b ∙ ap (λ (v : Bool). v && list_all is_text_byte b) e ∙ f

class_is_text : (i : ℕ) → list_all is_text_byte (class_text (deck_class i)) ≡ true
class_is_text i = rw (letter_text ((7 * i) % 26) (omega arith)) refl

-- LENGTHS

decimal_short : (n : ℕ) → n < 100000 → length (decimal n) ≤ 5
decimal_short n small = length-decimal-le 5 n (omega arith) (omega arith) (omega arith)

digits_short : (n : ℕ) → n < 100000 → length (in_digits 5 n) ≤ 5
digits_short n small =
    let short = decimal_short n small in
    let all = length-append (replicate (5 - length (decimal n)) 48) (decimal n) in
    let zeros = length-replicate {A = ℕ} (5 - length (decimal n)) 48 in
    omega (arith, short, all, zeros)

-- CARDS

line_is : (line : List ℕ) → length line ≤ 255 → is_text_line line ≡ true → is_line line ≡ true
line_is line short text = let few : nat_le (length line) 255 ≡ true = grind (arith, nat_tests) in and_from (nat_le (length line) 255) (is_text_line line) few text

card_is : (card : List ℕ) → is_line card ≡ true → is_deck_end card ≡ false → is_card card ≡ true
card_is card line more = and_from (is_line card) (not (is_deck_end card)) line (ap not more)

job_is : (i : ℕ) → i < 100000 → is_card (job_card i) ≡ true
job_is i small =
    let one = codes "//G" ++ in_digits 5 i in
    let two = one ++ codes " JOB CLASS=" in
    let three = two ++ class_text (deck_class i) in
    let four = three ++ codes ",PRTY=" in
    let low : (deck_priority i).0 < 16 = omega arith in
    let priority = decimal (deck_priority i).0 in
    let digits : list_all is_text_byte (in_digits 5 i) ≡ true = join_text (replicate (5 - length (decimal i)) 48) (decimal i) (zeros_text (5 - length (decimal i))) (decimal_text i (omega arith)) in
    let text : is_text_line (job_card i) ≡ true =
    join_text four priority
    (join_text three (codes ",PRTY=")
    (join_text two (class_text (deck_class i))
    (join_text one (codes " JOB CLASS=") (join_text (codes "//G") (in_digits 5 i) refl digits) refl) (class_is_text i))
    refl) (decimal_text (deck_priority i).0 (omega arith)) in
    let l1 : length one ≡ 3 + length (in_digits 5 i) = length-append (codes "//G") (in_digits 5 i) in
    let l2 : length two ≡ length one + 11 = length-append one (codes " JOB CLASS=") in
    let l3 : length three ≡ length two + 1 = length-append two (class_text (deck_class i)) in
    let l4 : length four ≡ length three + 6 = length-append three (codes ",PRTY=") in
    let l5 : length (job_card i) ≡ length four + length priority = length-append four priority in
    let digits_few : length (in_digits 5 i) ≤ 5 = digits_short i small in
    let priority_few : length priority ≤ 5 = decimal_short (deck_priority i).0 (omega arith) in
    let short : length (job_card i) ≤ 255 = omega (arith, l1, l2, l3, l4, l5, digits_few, priority_few) in
    card_is (job_card i) (line_is (job_card i) short text) refl

data_is : (i k : ℕ) → i < 100000 → k < 100000 → is_card (data_card i k) ≡ true
data_is i k small few =
    let one = codes "LINE " ++ decimal k in
    let two = one ++ codes " OF " in
    let text : is_text_line (data_card i k) ≡ true =
    join_text two (decimal i)
    (join_text one (codes " OF ") (join_text (codes "LINE ") (decimal k) refl (decimal_text k (omega arith))) refl)
    (decimal_text i (omega arith)) in
    let l1 : length one ≡ 5 + length (decimal k) = length-append (codes "LINE ") (decimal k) in
    let l2 : length two ≡ length one + 4 = length-append one (codes " OF ") in
    let l3 : length (data_card i k) ≡ length two + length (decimal i) = length-append two (decimal i) in
    let own : length (decimal i) ≤ 5 = decimal_short i small in
    let number : length (decimal k) ≤ 5 = decimal_short k few in
    let short : length (data_card i k) ≤ 255 = omega (arith, l1, l2, l3, own, number) in
    card_is (data_card i k) (line_is (data_card i k) short text) refl

data_are : (i count from : ℕ) → i < 100000 → from + count < 100000
    → list_all is_card (map (data_card i) (range_with_len from count)) ≡ true
data_are i zero from small few = refl
data_are i (suc count) from small few =
    ap (λ (v : Bool). v && list_all is_card (map (data_card i) (range_with_len (from + 1) count)))
    (data_is i from small (omega arith)) ∙ data_are i count (from + 1) small (omega arith)

pub cards_are : (i : ℕ) → i < 100000 → list_all is_card (deck_cards i) ≡ true
cards_are i small =
    ap (λ (v : Bool). v && list_all is_card (step_cards ++ data_cards i ++ end_cards)) (job_is i small)
    ∙ list_all-append is_card (data_cards i) end_cards
    ∙ ap (λ (v : Bool). v && list_all is_card end_cards) (data_are i (deck_data_count i) 1 small (omega arith))

pub count_cards : (i : ℕ) → length (deck_cards i) ≤ 17
count_cards i =
    let lines = lines_count (deck_data_count i) 1 in
    let all = length-append (data_cards i) end_cards in
    omega (arith, lines, all)
  where
    lines_count : (count from : ℕ) → length (map (data_card i) (range_with_len from count)) ≡ count
    lines_count zero from = refl
    lines_count (suc count) from = ap suc (lines_count count (from + 1))

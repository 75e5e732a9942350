-- Lines, each with its end, are read as these lines, and how long they are.
use Rattle.std.proofs.Common.{◌≡◌, ◌∙◌, ap, ℕ, ◌-◌, ◌*◌, ◌≤◌, ◌==◌, nat_le, Bool, true, false, not, ◌&&◌, List, [], ◌∷◌, ◌++◌, length, take, get_or, refl, append_assoc, arith, length-append}
use Rattle.std.specs.List.{All, list_all, slice_split}
use Rattle.std.specs.Str.Lines.{strip_carriage_return}
use Rattle.std.proofs.lemmas.Bool.{and_parts as both_true, cond-false}
use Rattle.std.proofs.lemmas.Bool.Decides.{nat_tests}
use Rattle.std.proofs.lemmas.List.Splits.{slice_split_at}
use Rattle.std.proofs.lemmas.List.Sums.{AllPass-from_list_all}
use Rattle.mas_types.specs.Fit.{is_text_byte, is_text_line}
use Rattle.script_lang.specs.Lines.{is_deck_end, is_line, is_line_end, lines_of}
use Rattle.script_lang.proofs.Parts.{lines-first}
use Rattle.script_laws.specs.Whole.{is_card}
use Rattle.gen_work.specs.Generated.{line_text, lines_text}

no_end : (b : ℕ) → is_text_byte b ≡ true → is_line_end b ≡ false
no_end b text = grind (arith, nat_tests)

no_return : (b : ℕ) → is_text_byte b ≡ true → (b == 13) ≡ false
no_return b text = grind (arith, nat_tests)

strip_none : (line : List ℕ) → is_text_line line ≡ true → strip_carriage_return line ≡ line
strip_none [] text = refl
strip_none (b ∷ bs) text =
    let last = get_or (b ∷ bs) (length (b ∷ bs) - 1) 0 in
    let is : is_text_byte last ≡ true = AllPass-from_list_all is_text_byte (b ∷ bs) text (length (b ∷ bs) - 1) 0 (omega arith) in
    cond-false (last == 13) (take (length (b ∷ bs) - 1) (b ∷ bs)) (b ∷ bs) (no_return last is)

-- the lines of a text of lines
pub lines_back : (lines : List (List ℕ)) → list_all is_line lines ≡ true → lines_of (lines_text lines) ≡ lines
lines_back [] are = refl
lines_back (line ∷ lines) are =
    let both = both_true (is_line line) (list_all is_line lines) are in
    let text : is_text_line line ≡ true = (both_true (nat_le (length line) 255) (is_text_line line) both.0).1 in
    let none : All (λ b. is_line_end b ≡ false) line = λ i d within. no_end (get_or line i d) (AllPass-from_list_all is_text_byte line text i d within) in
    let whole : lines_text (line ∷ lines) ≡ line ++ 10 ∷ lines_text lines = append_assoc line (10 ∷ []) (lines_text lines) in
    let split : slice_split is_line_end (lines_text (line ∷ lines)) ≡ line ∷ slice_split is_line_end (lines_text lines) = ap (slice_split is_line_end) whole ∙ slice_split_at is_line_end line 10 (lines_text lines) none refl in
    lines-first (lines_text (line ∷ lines)) line (lines_text lines) split
    ∙ ap (λ (first : List ℕ). first ∷ lines_of (lines_text lines)) (strip_none line text)
    ∙ ap (λ (rest : List (List ℕ)). line ∷ rest) (lines_back lines both.1)

pub lines_length : (lines : List (List ℕ)) → list_all is_line lines ≡ true
    → length (lines_text lines) ≤ 256 * length lines
lines_length [] are = omega arith
lines_length (line ∷ lines) are =
    let both = both_true (is_line line) (list_all is_line lines) are in
    let few : nat_le (length line) 255 ≡ true = (both_true (nat_le (length line) 255) (is_text_line line) both.0).0 in
    let short : length line ≤ 255 = grind (arith, nat_tests) in
    let rest = lines_length lines both.1 in
    let own = length-append line (10 ∷ []) in
    let all = length-append (line_text line) (lines_text lines) in
    omega (arith, short, rest, own, all)

-- cards are lines
pub cards_lines : (cards : List (List ℕ)) → list_all is_card cards ≡ true → list_all is_line cards ≡ true
cards_lines [] are = refl
cards_lines (card ∷ cards) are =
    let both = both_true (is_card card) (list_all is_card cards) are in
    let line : is_line card ≡ true = (both_true (is_line card) (not (is_deck_end card)) both.0).0 in
    ap (λ (v : Bool). v && list_all is_line cards) line ∙ cards_lines cards both.1

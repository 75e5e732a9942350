-- Texts that are made of pieces, and lines that grow by a part.
use Rattle.std.proofs.Common.{◌≡◌, ◌∙◌, sym, ap, ℕ, ◌+◌, ◌-◌, ◌≤◌, List, [], ◌∷◌, ◌++◌, map, codes, decimal, append_assoc, arith}
use Rattle.std.specs.List.{flat_map, range_with_len}
use Rattle.std.proofs.lemmas.List.{append-nil, map-id}
use Rattle.std.proofs.lemmas.List.Concat.{flat_map-append}
use Rattle.std.proofs.lemmas.List.FromFn.{map-range_with_len_more}
use Rattle.mas_types.specs.Numerals.{in_digits}
use Rattle.mas_types.specs.Shown.{class_text, member_word}
use Rattle.gen_work.specs.Generated.{data_card, data_cards, deck_class, deck_member, deck_lines, deck_priority, end_cards, job_card, line_text, lines_text, part_lines, script_text, step_cards, work_lines}

-- PIECES

pub join_four : (s0 s1 s2 s3 s4 a b c d : List ℕ) → s1 ≡ s0 ++ a → s2 ≡ s1 ++ b → s3 ≡ s2 ++ c → s4 ≡ s3 ++ d
    → s4 ≡ s0 ++ (a ++ (b ++ (c ++ d)))
join_four s0 s1 s2 s3 s4 a b c d e1 e2 e3 e4 = rw (e4, e3, e2, e1) (simp append_assoc)

join_six : (s0 s1 s2 s3 s4 s5 s6 a b c d e f : List ℕ) → s1 ≡ s0 ++ a → s2 ≡ s1 ++ b → s3 ≡ s2 ++ c → s4 ≡ s3 ++ d
    → s5 ≡ s4 ++ e → s6 ≡ s5 ++ f → s6 ≡ s0 ++ (a ++ (b ++ (c ++ (d ++ (e ++ f)))))
join_six s0 s1 s2 s3 s4 s5 s6 a b c d e f e1 e2 e3 e4 e5 e6 = rw (e6, e5, e4, e3, e2, e1) (simp append_assoc)

lines_text-append : (xs ys : List (List ℕ)) → lines_text (xs ++ ys) ≡ lines_text xs ++ lines_text ys
lines_text-append xs ys = flat_map-append line_text xs ys

lines_text-push : (xs : List (List ℕ)) (line : List ℕ) → lines_text (xs ++ line ∷ []) ≡ lines_text xs ++ line_text line
lines_text-push xs line =
    lines_text-append xs (line ∷ []) ∙ ap (λ (last : List ℕ). lines_text xs ++ last) (append-nil (line_text line))

-- DECKS

pub job_pieces : (i : ℕ) (s0 s1 s2 s3 s4 s5 s6 s7 : List ℕ) → s1 ≡ s0 ++ codes "//G" → s2 ≡ s1 ++ in_digits 5 i
    → s3 ≡ s2 ++ codes " JOB CLASS=" → s4 ≡ s3 ++ class_text (deck_class i) → s5 ≡ s4 ++ codes ",PRTY="
    → s6 ≡ s5 ++ decimal (deck_priority i).0 → s7 ≡ s6 ++ 10 ∷ [] → s7 ≡ s0 ++ line_text (job_card i)
job_pieces i s0 s1 s2 s3 s4 s5 s6 s7 e1 e2 e3 e4 e5 e6 e7 =
    let class = class_text (deck_class i) in
    let priority = decimal (deck_priority i).0 in
    e7 ∙ ap (λ (text : List ℕ). text ++ 10 ∷ [])
    (join_six s0 s1 s2 s3 s4 s5 s6 (codes "//G") (in_digits 5 i) (codes " JOB CLASS=") class (codes ",PRTY=") priority e1
    e2 e3 e4 e5 e6)
    ∙ grouped s0 (codes "//G") (in_digits 5 i) (codes " JOB CLASS=") class (codes ",PRTY=") priority (10 ∷ [])
  where
    grouped : (s0 a b c d e f g : List ℕ) → (s0 ++ (a ++ (b ++ (c ++ (d ++ (e ++ f)))))) ++ g
        ≡ s0 ++ ((a ++ b ++ c ++ d ++ e ++ f) ++ g)
    grouped s0 a b c d e f g = simp append_assoc

deck_parts : (giver word job end : List ℕ) (cards lines last : List (List ℕ))
    → lines_text ((giver ++ word) ∷ (job ∷ (cards ++ lines ++ last)) ++ end ∷ [])
    ≡ giver ++ (line_text word ++ (line_text job ++ (lines_text cards
    ++ (lines_text lines ++ lines_text (last ++ end ∷ [])))))
deck_parts giver word job end cards lines last = simp (append_assoc, flat_map-append)

pub deck_pieces : (i : ℕ) (s0 s1 s2 s3 s4 s5 s6 : List ℕ) → s1 ≡ s0 ++ member_word (deck_member i)
    → s2 ≡ s1 ++ line_text (codes " DECK") → s3 ≡ s2 ++ line_text (job_card i) → s4 ≡ s3 ++ lines_text step_cards
    → s5 ≡ s4 ++ lines_text (data_cards i) → s6 ≡ s5 ++ lines_text (end_cards ++ codes "++END" ∷ [])
    → s6 ≡ s0 ++ lines_text (deck_lines i)
deck_pieces i s0 s1 s2 s3 s4 s5 s6 e1 e2 e3 e4 e5 e6 =
    let member = member_word (deck_member i) in
    let last = lines_text (end_cards ++ codes "++END" ∷ []) in
    join_six s0 s1 s2 s3 s4 s5 s6 member (line_text (codes " DECK")) (line_text (job_card i)) (lines_text step_cards)
    (lines_text (data_cards i)) last e1 e2 e3 e4 e5 e6
    ∙ ap (λ (text : List ℕ). s0 ++ text)
    (sym (deck_parts member (codes " DECK") (job_card i) (codes "++END") step_cards (data_cards i) end_cards))

-- ONE MORE

-- the numbers from 1 up to one more
numbers_more : (k m : ℕ) → 1 ≤ k → m ≡ k → range_with_len 1 m ≡ range_with_len 1 (k - 1) ++ k ∷ []
numbers_more k m some is =
    let one_more : m ≡ k - 1 + 1 = omega arith in
    let last : 1 + (k - 1) ≡ k = omega arith in
    ap (range_with_len 1) one_more ∙ sym (map-id (range_with_len 1 (k - 1 + 1)))
    ∙ map-range_with_len_more (λ (x : ℕ). x) 1 (k - 1) k last
    ∙ ap (λ (xs : List ℕ). xs ++ k ∷ []) (map-id (range_with_len 1 (k - 1)))

-- one line of data more
pub data_more : (i k m : ℕ) (start old new : List ℕ) → 1 ≤ k → m ≡ k
    → old ≡ start ++ lines_text (map (data_card i) (range_with_len 1 (k - 1)))
    → new ≡ old ++ line_text (data_card i k)
    → new ≡ start ++ lines_text (map (data_card i) (range_with_len 1 m))
data_more i k m start old new some is so_far step =
    let before = map (data_card i) (range_with_len 1 (k - 1)) in
    let one_more : m ≡ k - 1 + 1 = omega arith in
    let last : 1 + (k - 1) ≡ k = omega arith in
    let all : map (data_card i) (range_with_len 1 m) ≡ before ++ data_card i k ∷ [] =
    ap (λ (n : ℕ). map (data_card i) (range_with_len 1 n)) one_more
    ∙ map-range_with_len_more (data_card i) 1 (k - 1) k last in
    step ∙ ap (λ (text : List ℕ). text ++ line_text (data_card i k)) so_far
    ∙ append_assoc start (lines_text before) (line_text (data_card i k))
    ∙ ap (λ (text : List ℕ). start ++ text) (sym (ap lines_text all ∙ lines_text-push before (data_card i k)))

-- one deck more, with the work after it
pub parts_more : (k m : ℕ) (old deck new : List ℕ) → 1 ≤ k → m ≡ k
    → old ≡ lines_text (flat_map part_lines (range_with_len 1 (k - 1)))
    → deck ≡ old ++ lines_text (deck_lines k) → new ≡ deck ++ lines_text (work_lines k)
    → new ≡ lines_text (flat_map part_lines (range_with_len 1 m))
parts_more k m old deck new some is so_far first second =
    let before = flat_map part_lines (range_with_len 1 (k - 1)) in
    let all : flat_map part_lines (range_with_len 1 m) ≡ before ++ part_lines k =
    ap (flat_map part_lines) (numbers_more k m some is)
    ∙ flat_map-append part_lines (range_with_len 1 (k - 1)) (k ∷ [])
    ∙ ap (λ (last : List (List ℕ)). before ++ last) (append-nil (part_lines k)) in
    second ∙ ap (λ (text : List ℕ). text ++ lines_text (work_lines k))
    (first ∙ ap (λ (text : List ℕ). text ++ lines_text (deck_lines k)) so_far)
    ∙ append_assoc (lines_text before) (lines_text (deck_lines k)) (lines_text (work_lines k))
    ∙ ap (λ (text : List ℕ). lines_text before ++ text) (sym (lines_text-append (deck_lines k) (work_lines k)))
    ∙ sym (lines_text-append before (part_lines k)) ∙ ap lines_text (sym all)

-- the decks, and the work at the end
pub script_whole : (n k : ℕ) (old new : List ℕ) → k ≡ n → old ≡ lines_text (flat_map part_lines (range_with_len 1 k))
    → new ≡ old ++ line_text (codes "SYSB WORK 9999") → new ≡ script_text n
script_whole n k old new is so_far last =
    let decks = flat_map part_lines (range_with_len 1 n) in
    last ∙ ap (λ (text : List ℕ). text ++ line_text (codes "SYSB WORK 9999"))
    (so_far ∙ ap (λ (count : ℕ). lines_text (flat_map part_lines (range_with_len 1 count))) is)
    ∙ sym (lines_text-push decks (codes "SYSB WORK 9999"))

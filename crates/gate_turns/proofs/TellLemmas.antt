-- A line with which a step closes is read as what it is.
use Rattle.std.proofs.Common.{◌≡◌, ℕ, zero, suc, ◌+◌, ◌-◌, ◌*◌, ◌%◌, ◌^◌, ◌<◌, ◌≤◌, Bool, true, false, nat_le, ◌&&◌, ◌||◌, ◌==◌, if◌then◌else◌, List, [], ◌∷◌, ◌++◌, length, replicate, decimal, refl, sym, ap, ◌∙◌, arith}
use Rattle.std.specs.Prelude.{not, codes, drop, slice_index_or}
use Rattle.std.specs.List.{list_all, list_any}
use Rattle.std.specs.Str.{bytes_eq}
use Rattle.std.proofs.lemmas.Bool.{and_from, and_parts as both, eq-eqb, le-leb, leb-true, ne_eqb, not-true as not_it}
use Rattle.std.proofs.lemmas.Fmt.{decimal_by_steps}
use Rattle.std.proofs.lemmas.List.Folds.{list_all-append, list_any_at}
use Rattle.std.proofs.lemmas.Slice.Eq.{bytes_eq-Decides}
use Rattle.mas_types.specs.declared.ids.MemberId.{MemberId}
use Rattle.mas_types.specs.declared.ids.Dev.{Dev}
use Rattle.mas_types.specs.declared.ids.Dev.TheVariants as dev
use Rattle.mas_types.specs.declared.jobs.Phase.{Phase}
use Rattle.mas_types.specs.declared.jobs.Phase.TheVariants as phase
use Rattle.mas_types.specs.declared.commands.Refusal.{Refusal}
use Rattle.mas_types.specs.declared.commands.Refusal.TheVariants as refusal
use Rattle.mas_types.specs.declared.commands.Reply.{Reply}
use Rattle.mas_types.specs.declared.commands.Reply.TheVariants as reply
use Rattle.mas_types.specs.declared.answers.CardCause.{CardCause}
use Rattle.mas_types.specs.declared.answers.CardCause.TheVariants as cards
use Rattle.mas_types.specs.declared.answers.Closing.{Closing}
use Rattle.mas_types.specs.declared.answers.Closing.TheVariants as closing
use Rattle.mas_types.specs.Numerals.{value_after, value_of, in_digits, key_of}
use Rattle.mas_types.specs.Names.{unpadded}
use Rattle.mas_types.specs.Shown.{member_word}
use Rattle.mas_types.specs.Closings.{card_cause_text, closing_text, closing_line}
use Rattle.mas_complex.specs.Meaning.{is_telling}
use Rattle.gate_turns.specs.Words.{with_first, parted_by, words_of, word_at}
use Rattle.gate_turns.specs.Told.{number_at_word, member_in, job_in, output_in, closings_of, step_if, step_told, IsShortDevice, IsShortRefusal, IsShortReply, IsShort}

-- PARTS

-- the byte doesn't stand in the text
abbrev lacks : ℕ → List ℕ → Bool
lacks by text = list_all (λ b. not (b == by)) text

pub part_one : (by : ℕ) (w rest : List ℕ) → lacks by w ≡ true → parted_by by (w ++ by ∷ rest) ≡ w ∷ parted_by by rest
part_one by [] rest l = ap (λ z. if z then [] ∷ parted_by by rest else with_first by (parted_by by rest)) (eq-eqb by by refl)
part_one by (b ∷ w) rest l =
    let h = both (not (b == by)) (lacks by w) l in
    ap (λ z. if z then [] ∷ parted_by by (w ++ by ∷ rest) else with_first b (parted_by by (w ++ by ∷ rest))) (not_it (b == by) h.0)
    ∙ ap (with_first b) (part_one by w rest h.1)

part_last : (by : ℕ) (w : List ℕ) → lacks by w ≡ true → parted_by by w ≡ w ∷ []
part_last by [] l = refl
part_last by (b ∷ w) l =
    let h = both (not (b == by)) (lacks by w) l in
    ap (λ z. if z then [] ∷ parted_by by w else with_first b (parted_by by w)) (not_it (b == by) h.0) ∙ ap (with_first b) (part_last by w h.1)

-- NUMBERS

value_append : (n : ℕ) (xs ys : List ℕ) → value_after n (xs ++ ys) ≡ value_after (value_after n xs) ys
value_append n [] ys = refl
value_append n (b ∷ xs) ys = value_append (n * 10 + (b - 48)) xs ys

zeros_value : (k : ℕ) (ds : List ℕ) → value_after 0 (replicate k 48 ++ ds) ≡ value_after 0 ds
zeros_value zero ds = refl
zeros_value (suc k) ds = zeros_value k ds

decimal_value : (n : ℕ) → n < 2 ^ 64 → value_of (decimal n) ≡ n
decimal_value n small = decimal_by_steps (λ m ds. value_of ds ≡ m)
    (λ m lt. omega arith)
    (λ m ds ten is. value_append 0 ds ((48 + m % 10) ∷ []) ∙ ap (λ (k : ℕ). k * 10 + (48 + m % 10 - 48)) is ∙ omega arith)
    n small

digits_value : (width n : ℕ) → n < 2 ^ 64 → value_of (in_digits width n) ≡ n
digits_value width n small = zeros_value (width - length (decimal n)) (decimal n) ∙ decimal_value n small

-- each byte is in a range
abbrev between_all : ℕ → ℕ → List ℕ → Bool
between_all least most text = list_all (λ b. nat_le least b && nat_le b most) text

decimal_between : (n : ℕ) → n < 2 ^ 64 → between_all 48 57 (decimal n) ≡ true
decimal_between n small = decimal_by_steps (λ m ds. between_all 48 57 ds ≡ true) one more n small
  where
    digit : (m : ℕ) → m < 10 → (nat_le 48 (48 + m) && nat_le (48 + m) 57) ≡ true
    digit m lt = and_from (nat_le 48 (48 + m)) (nat_le (48 + m) 57) (le-leb 48 (48 + m) (omega arith)) (le-leb (48 + m) 57 (omega arith))

    one : (m : ℕ) → m < 10 → between_all 48 57 ((48 + m) ∷ []) ≡ true
    one m lt = and_from (nat_le 48 (48 + m) && nat_le (48 + m) 57) true (digit m lt) refl

    more : (m : ℕ) (ds : List ℕ) → 10 ≤ m → between_all 48 57 ds ≡ true → between_all 48 57 (ds ++ ((48 + m % 10) ∷ [])) ≡ true
    more m ds ten h = list_all-append (λ b. nat_le 48 b && nat_le b 57) ds ((48 + m % 10) ∷ []) ∙ and_from (between_all 48 57 ds) (between_all 48 57 ((48 + m % 10) ∷ [])) h (one (m % 10) (omega arith))

zeros_between : (k : ℕ) → between_all 48 57 (replicate k 48) ≡ true
zeros_between zero = refl
zeros_between (suc k) = zeros_between k

digits_between : (width n : ℕ) → n < 2 ^ 64 → between_all 48 57 (in_digits width n) ≡ true
digits_between width n small = list_all-append (λ b. nat_le 48 b && nat_le b 57) (replicate (width - length (decimal n)) 48) (decimal n)
    ∙ and_from (between_all 48 57 (replicate (width - length (decimal n)) 48)) (between_all 48 57 (decimal n)) (zeros_between (width - length (decimal n))) (decimal_between n small)

-- a byte below 48 doesn't stand among bytes that aren't
below_lacks : (by : ℕ) (text : List ℕ) → by < 48 → between_all 48 57 text ≡ true → lacks by text ≡ true
below_lacks by [] below h = refl
below_lacks by (b ∷ text) below h =
    let p = both (nat_le 48 b && nat_le b 57) (between_all 48 57 text) h in
    let q = both (nat_le 48 b) (nat_le b 57) p.0 in
    let least : 48 ≤ b = leb-true 48 b q.0 in
    and_from (not (b == by)) (lacks by text) (ap not (ne_eqb b by (λ e. absurd (omega arith)))) (below_lacks by text below p.1)

decimal_lacks : (n : ℕ) → n < 2 ^ 64 → lacks 32 (decimal n) ≡ true
decimal_lacks n small = below_lacks 32 (decimal n) (omega arith) (decimal_between n small)

digits_lack : (by width n : ℕ) → by < 48 → n < 2 ^ 64 → lacks by (in_digits width n) ≡ true
digits_lack by width n below small = below_lacks by (in_digits width n) below (digits_between width n small)

-- MEMBERS

-- a member's word
named_word : (n : ℕ) → (n == 0) ≡ false → member_word (record { 0 = n }) ≡ 83 ∷ 89 ∷ 83 ∷ (n + 64) ∷ []
named_word n some = ap (λ z. unpadded ((if z then codes "OPER" else 83 ∷ 89 ∷ 83 ∷ (n + 64) ∷ []) ++ replicate (8 - length (if z then codes "OPER" else 83 ∷ 89 ∷ 83 ∷ (n + 64) ∷ [])) 32)) some
    ∙ ap (λ z. 83 ∷ 89 ∷ 83 ∷ (if z && true then [] else (n + 64) ∷ [])) (ne_eqb (n + 64) 32 (λ e. absurd (omega arith)))

by_number : (P : ℕ → Type 0) (n : ℕ) → P 0 → ((n == 0) ≡ false → P n) → P n
by_number P zero none some = none
by_number P (suc n) none some = some (ne_eqb (suc n) 0 (λ e. absurd (omega arith)))

pub word_lacks : (n : ℕ) → lacks 32 (member_word (record { 0 = n })) ≡ true
word_lacks n = by_number (λ k. lacks 32 (member_word (record { 0 = k })) ≡ true) n refl
    (λ some. ap (lacks 32) (named_word n some) ∙ ap (λ z. not z && true) (ne_eqb (n + 64) 32 (λ e. absurd (omega arith))))

pub member_read : (n : ℕ) → member_in (member_word (record { 0 = n })) ≡ record { 0 = n }
member_read n = by_number (λ k. member_in (member_word (record { 0 = k })) ≡ record { 0 = k }) n refl
    (λ some. ap member_in (named_word n some) ∙ (let e : (n + 64) - 64 ≡ n = omega arith in λ i. record { 0 = e i }))

-- JOBS AND OUTPUTS

key_cases : (P : List ℕ → Type 0) (n : ℕ) → P (codes "JOB" ++ in_digits 5 n) → P (codes "J0" ++ in_digits 6 n) → P (key_of n)
key_cases P n short long = elim (nat_le n 99999) as (λ z. P (if z then codes "JOB" ++ in_digits 5 n else codes "J0" ++ in_digits 6 n)) [ true ↦ short | false ↦ long ]

blank_key : (n : ℕ) → n < 2 ^ 64 → lacks 32 (key_of n) ≡ true
blank_key n small = key_cases (λ w. lacks 32 w ≡ true) n (digits_lack 32 5 n (omega arith) small) (digits_lack 32 6 n (omega arith) small)

point_key : (n : ℕ) → n < 2 ^ 64 → lacks 46 (key_of n) ≡ true
point_key n small = key_cases (λ w. lacks 46 w ≡ true) n (digits_lack 46 5 n (omega arith) small) (digits_lack 46 6 n (omega arith) small)

first_digit : (ds : List ℕ) → between_all 48 57 ds ≡ true → (slice_index_or ds 0 0 == 66) ≡ false
first_digit [] h = refl
first_digit (b ∷ ds) h =
    let p = both (nat_le 48 b && nat_le b 57) (between_all 48 57 ds) h in
    let q = both (nat_le 48 b) (nat_le b 57) p.0 in
    let most : b ≤ 57 = leb-true b 57 q.1 in
    ne_eqb b 66 (λ e. absurd (omega arith))

job_read : (n : ℕ) → n < 2 ^ 64 → job_in (key_of n) ≡ record { 0 = n }
job_read n small = key_cases (λ w. job_in w ≡ record { 0 = n }) n
    (λ i. record { 0 = digits_value 5 n small i })
    (ap (λ z. record { 0 = value_of (drop (if z then 3 else 2) (codes "J0" ++ in_digits 6 n)) }) (first_digit (in_digits 6 n) (digits_between 6 n small)) ∙ (λ i. record { 0 = digits_value 6 n small i }))

output_parts : (n index : ℕ) → n < 2 ^ 64 → index < 2 ^ 64 → parted_by 46 (key_of n ++ 46 ∷ in_digits 2 index) ≡ key_of n ∷ in_digits 2 index ∷ []
output_parts n index small few = part_one 46 (key_of n) (in_digits 2 index) (point_key n small) ∙ ap (λ r. key_of n ∷ r) (part_last 46 (in_digits 2 index) (digits_lack 46 2 index (omega arith) few))

output_read : (n index : ℕ) → n < 2 ^ 64 → index < 2 ^ 64 → output_in (key_of n ++ 46 ∷ in_digits 2 index) ≡ reply.Output (record { 0 = n }) (record { 0 = index })
output_read n index small few =
    ap (λ ws. reply.Output (job_in (word_at ws 0)) (record { 0 = number_at_word ws 1 })) (output_parts n index small few)
    ∙ (λ i. reply.Output (job_read n small i) (record { 0 = digits_value 2 index few i }))

-- no blank stands in the word of an output
blank_output : (n index : ℕ) → n < 2 ^ 64 → index < 2 ^ 64 → lacks 32 (key_of n ++ 46 ∷ in_digits 2 index) ≡ true
blank_output n index small few = list_all-append (λ b. not (b == 32)) (key_of n) (46 ∷ in_digits 2 index)
    ∙ and_from (lacks 32 (key_of n)) (lacks 32 (46 ∷ in_digits 2 index)) (blank_key n small) (digits_lack 32 2 index (omega arith) few)

-- CLOSINGS

-- the closing's text is that of one of the closings that are read from its words
record Found (end : Closing) : Type 0 where
  known : List (List ℕ)
  words : words_of (closing_text end) ≡ known
  at : ℕ
  there : at < length (closings_of known)
  text : closing_text (slice_index_or (closings_of known) at closing.NotHolder) ≡ closing_text end

-- one word after those that are the same for all
last_word : (w : List ℕ) → lacks 32 w ≡ true → parted_by 32 w ≡ w ∷ []
last_word w l = part_last 32 w l

found_done : (n : ℕ) → n < 2 ^ 64 → Found (closing.DoneUnits n)
found_done n small = record {
  known = codes "OK" ∷ codes "DONE" ∷ decimal n ∷ [];
  words = ap (λ r. codes "OK" ∷ codes "DONE" ∷ r) (last_word (decimal n) (decimal_lacks n small));
  at = 0;
  there = omega arith;
  text = ap (λ k. closing_text (closing.DoneUnits k)) (decimal_value n small);
}

found_busy : (m : MemberId) → Found (closing.Busy m)
found_busy m = record {
  known = codes "BUSY" ∷ member_word m ∷ [];
  words = ap (λ r. codes "BUSY" ∷ r) (last_word (member_word m) (word_lacks m.0));
  at = 1;
  there = omega arith;
  text = ap (λ k. closing_text (closing.Busy k)) (member_read m.0);
}

found_dormant : (n : ℕ) → n < 2 ^ 64 → Found (closing.Dormant n)
found_dormant n small = record {
  known = codes "DORMANT" ∷ decimal n ∷ [];
  words = ap (λ r. codes "DORMANT" ∷ r) (last_word (decimal n) (decimal_lacks n small));
  at = 2;
  there = omega arith;
  text = ap (λ k. closing_text (closing.Dormant k)) (decimal_value n small);
}

found_up : (m : MemberId) → Found (closing.Up m)
found_up m = record {
  known = codes "NO" ∷ codes "UP" ∷ member_word m ∷ [];
  words = ap (λ r. codes "NO" ∷ codes "UP" ∷ r) (last_word (member_word m) (word_lacks m.0));
  at = 3;
  there = omega arith;
  text = ap (λ k. closing_text (closing.Up k)) (member_read m.0);
}

found_reset : (m : MemberId) → Found (closing.ResetOf m)
found_reset m = record {
  known = codes "OK" ∷ member_word m ∷ [];
  words = ap (λ r. codes "OK" ∷ r) (last_word (member_word m) (word_lacks m.0));
  at = 4;
  there = omega arith;
  text = ap (λ k. closing_text (closing.ResetOf k)) (member_read m.0);
}

found_volume : (n : ℕ) → n < 2 ^ 64 → Found (closing.SpoolLost n)
found_volume n small = record {
  known = codes "NO" ∷ codes "SPOOL" ∷ codes "LOST" ∷ decimal n ∷ [];
  words = ap (λ r. codes "NO" ∷ codes "SPOOL" ∷ codes "LOST" ∷ r) (last_word (decimal n) (decimal_lacks n small));
  at = 6;
  there = omega arith;
  text = ap (λ k. closing_text (closing.SpoolLost k)) (decimal_value n small);
}

found_line_lost : (n : ℕ) → n < 2 ^ 64 → Found (closing.LineLost n)
found_line_lost n small = record {
  known = codes "NO" ∷ codes "LINE" ∷ codes "LOST" ∷ decimal n ∷ [];
  words = ap (λ r. codes "NO" ∷ codes "LINE" ∷ codes "LOST" ∷ r) (last_word (decimal n) (decimal_lacks n small));
  at = 8;
  there = omega arith;
  text = ap (λ k. closing_text (closing.LineLost k)) (decimal_value n small);
}

found_text : (n : ℕ) → n < 2 ^ 64 → Found (closing.NoText (record { 0 = n }))
found_text n small = record {
  known = codes "NO" ∷ codes "TEXT" ∷ decimal n ∷ [];
  words = ap (λ r. codes "NO" ∷ codes "TEXT" ∷ r) (last_word (decimal n) (decimal_lacks n small));
  at = 9;
  there = omega arith;
  text = ap (λ k. closing_text (closing.NoText (record { 0 = k }))) (decimal_value n small);
}

found_device : (d : Dev) → IsShortDevice d → Found (closing.NotLost d)
found_device dev.Ckpt1 small = record { known = words_of (closing_text (closing.NotLost dev.Ckpt1)); words = refl; at = 10; there = omega arith; text = refl }
found_device dev.Ckpt2 small = record { known = words_of (closing_text (closing.NotLost dev.Ckpt2)); words = refl; at = 11; there = omega arith; text = refl }
found_device (dev.Spool n) small = record {
  known = codes "NO" ∷ codes "NOT" ∷ codes "LOST" ∷ (codes "SPOOL" ++ decimal n) ∷ [];
  words = ap (λ r. codes "NO" ∷ codes "NOT" ∷ codes "LOST" ∷ r) (last_word (codes "SPOOL" ++ decimal n) (decimal_lacks n small));
  at = 12;
  there = omega arith;
  text = ap (λ k. closing_text (closing.NotLost (dev.Spool k))) (decimal_value n small);
}

found_copy_lost : (d : Dev) → IsShortDevice d → Found (closing.CkptLost d)
found_copy_lost dev.Ckpt1 small = record { known = words_of (closing_text (closing.CkptLost dev.Ckpt1)); words = refl; at = 44; there = omega arith; text = refl }
found_copy_lost dev.Ckpt2 small = record { known = words_of (closing_text (closing.CkptLost dev.Ckpt2)); words = refl; at = 45; there = omega arith; text = refl }
found_copy_lost (dev.Spool n) small = record {
  known = codes "NO" ∷ codes "CKPT" ∷ codes "LOST" ∷ (codes "SPOOL" ++ decimal n) ∷ [];
  words = ap (λ r. codes "NO" ∷ codes "CKPT" ∷ codes "LOST" ∷ r) (last_word (codes "SPOOL" ++ decimal n) (decimal_lacks n small));
  at = 46;
  there = omega arith;
  text = ap (λ k. closing_text (closing.CkptLost (dev.Spool k))) (decimal_value n small);
}

found_line : (a b : ℕ) → a < 2 ^ 64 → b < 2 ^ 64 → Found (closing.Line a b)
found_line a b small few = record {
  known = codes "OK" ∷ codes "SENT" ∷ decimal a ∷ codes "GOT" ∷ decimal b ∷ [];
  words = ap (λ r. codes "OK" ∷ codes "SENT" ∷ r) (part_one 32 (decimal a) (codes "GOT" ++ 32 ∷ decimal b) (decimal_lacks a small)
      ∙ ap (λ r. decimal a ∷ codes "GOT" ∷ r) (last_word (decimal b) (decimal_lacks b few)));
  at = 13;
  there = omega arith;
  text = (λ i. closing_text (closing.Line (decimal_value a small i) (decimal_value b few i)));
}

-- what is refused at a card
card_words : (n : ℕ) (cause : CardCause) → n < 2 ^ 64 → words_of (closing_text (closing.BadCard n cause)) ≡ codes "NO" ∷ codes "BAD" ∷ codes "CARD" ∷ decimal n ∷ words_of (card_cause_text cause)
card_words n cause small = ap (λ r. codes "NO" ∷ codes "BAD" ∷ codes "CARD" ∷ r) (part_one 32 (decimal n) (card_cause_text cause) (decimal_lacks n small))

found_card : (n : ℕ) (cause : CardCause) → n < 2 ^ 64 → Found (closing.BadCard n cause)
found_card n cards.Text small = record { known = codes "NO" ∷ codes "BAD" ∷ codes "CARD" ∷ decimal n ∷ words_of (card_cause_text cards.Text); words = card_words n cards.Text small; at = 14; there = omega arith; text = ap (λ k. closing_text (closing.BadCard k cards.Text)) (decimal_value n small) }
found_card n cards.Many small = record { known = codes "NO" ∷ codes "BAD" ∷ codes "CARD" ∷ decimal n ∷ words_of (card_cause_text cards.Many); words = card_words n cards.Many small; at = 15; there = omega arith; text = ap (λ k. closing_text (closing.BadCard k cards.Many)) (decimal_value n small) }
found_card n cards.After small = record { known = codes "NO" ∷ codes "BAD" ∷ codes "CARD" ∷ decimal n ∷ words_of (card_cause_text cards.After); words = card_words n cards.After small; at = 16; there = omega arith; text = ap (λ k. closing_text (closing.BadCard k cards.After)) (decimal_value n small) }
found_card n cards.First small = record { known = codes "NO" ∷ codes "BAD" ∷ codes "CARD" ∷ decimal n ∷ words_of (card_cause_text cards.First); words = card_words n cards.First small; at = 17; there = omega arith; text = ap (λ k. closing_text (closing.BadCard k cards.First)) (decimal_value n small) }
found_card n cards.Name small = record { known = codes "NO" ∷ codes "BAD" ∷ codes "CARD" ∷ decimal n ∷ words_of (card_cause_text cards.Name); words = card_words n cards.Name small; at = 18; there = omega arith; text = ap (λ k. closing_text (closing.BadCard k cards.Name)) (decimal_value n small) }
found_card n cards.Operand small = record { known = codes "NO" ∷ codes "BAD" ∷ codes "CARD" ∷ decimal n ∷ words_of (card_cause_text cards.Operand); words = card_words n cards.Operand small; at = 19; there = omega arith; text = ap (λ k. closing_text (closing.BadCard k cards.Operand)) (decimal_value n small) }
found_card n cards.Jes small = record { known = codes "NO" ∷ codes "BAD" ∷ codes "CARD" ∷ decimal n ∷ words_of (card_cause_text cards.Jes); words = card_words n cards.Jes small; at = 20; there = omega arith; text = ap (λ k. closing_text (closing.BadCard k cards.Jes)) (decimal_value n small) }
found_card n cards.Place small = record { known = codes "NO" ∷ codes "BAD" ∷ codes "CARD" ∷ decimal n ∷ words_of (card_cause_text cards.Place); words = card_words n cards.Place small; at = 21; there = omega arith; text = ap (λ k. closing_text (closing.BadCard k cards.Place)) (decimal_value n small) }

-- replies
found_job : (n : ℕ) → n < 2 ^ 64 → Found (closing.Reply (reply.Job (record { 0 = n })))
found_job n small = record {
  known = codes "OK" ∷ key_of n ∷ [];
  words = ap (λ r. codes "OK" ∷ r) (last_word (key_of n) (blank_key n small));
  at = 23;
  there = omega arith;
  text = ap (λ j. closing_text (closing.Reply (reply.Job j))) (job_read n small);
}

found_output : (n index : ℕ) → n < 2 ^ 64 → index < 2 ^ 64 → Found (closing.Reply (reply.Output (record { 0 = n }) (record { 0 = index })))
found_output n index small few = record {
  known = codes "OK" ∷ (key_of n ++ 46 ∷ in_digits 2 index) ∷ [];
  words = ap (λ r. codes "OK" ∷ r) (last_word (key_of n ++ 46 ∷ in_digits 2 index) (blank_output n index small few));
  at = 24;
  there = omega arith;
  text = ap (λ r. closing_text (closing.Reply r)) (output_read n index small few);
}

found_count : (n : ℕ) → n < 2 ^ 64 → Found (closing.Reply (reply.Count n))
found_count n small = record {
  known = codes "OK" ∷ decimal n ∷ [];
  words = ap (λ r. codes "OK" ∷ r) (last_word (decimal n) (decimal_lacks n small));
  at = 25;
  there = omega arith;
  text = ap (λ k. closing_text (closing.Reply (reply.Count k))) (decimal_value n small);
}

found_shown : (lines : List (List ℕ)) → length lines < 2 ^ 64 → Found (closing.Reply (reply.Shown lines))
found_shown lines small = record {
  known = codes "OK" ∷ decimal (length lines) ∷ [];
  words = ap (λ r. codes "OK" ∷ r) (last_word (decimal (length lines)) (decimal_lacks (length lines) small));
  at = 25;
  there = omega arith;
  text = ap (λ k. closing_text (closing.Reply (reply.Count k))) (decimal_value (length lines) small);
}

found_phase : (p : Phase) → Found (closing.Reply (reply.No (refusal.WrongPhase p)))
found_phase phase.Input = record { known = words_of (closing_text (closing.Reply (reply.No (refusal.WrongPhase phase.Input)))); words = refl; at = 37; there = omega arith; text = refl }
found_phase phase.Convert = record { known = words_of (closing_text (closing.Reply (reply.No (refusal.WrongPhase phase.Convert)))); words = refl; at = 38; there = omega arith; text = refl }
found_phase phase.Execute = record { known = words_of (closing_text (closing.Reply (reply.No (refusal.WrongPhase phase.Execute)))); words = refl; at = 39; there = omega arith; text = refl }
found_phase phase.Output = record { known = words_of (closing_text (closing.Reply (reply.No (refusal.WrongPhase phase.Output)))); words = refl; at = 40; there = omega arith; text = refl }
found_phase phase.Hardcopy = record { known = words_of (closing_text (closing.Reply (reply.No (refusal.WrongPhase phase.Hardcopy)))); words = refl; at = 41; there = omega arith; text = refl }
found_phase phase.Purge = record { known = words_of (closing_text (closing.Reply (reply.No (refusal.WrongPhase phase.Purge)))); words = refl; at = 42; there = omega arith; text = refl }
found_phase phase.Xmit = record { known = words_of (closing_text (closing.Reply (reply.No (refusal.WrongPhase phase.Xmit)))); words = refl; at = 43; there = omega arith; text = refl }

found_refusal : (why : Refusal) → IsShortRefusal why → Found (closing.Reply (reply.No why))
found_refusal refusal.JobsFull small = record { known = words_of (closing_text (closing.Reply (reply.No refusal.JobsFull))); words = refl; at = 26; there = omega arith; text = refl }
found_refusal refusal.OutputsFull small = record { known = words_of (closing_text (closing.Reply (reply.No refusal.OutputsFull))); words = refl; at = 27; there = omega arith; text = refl }
found_refusal refusal.SpoolFull small = record { known = words_of (closing_text (closing.Reply (reply.No refusal.SpoolFull))); words = refl; at = 28; there = omega arith; text = refl }
found_refusal refusal.NoJob small = record { known = words_of (closing_text (closing.Reply (reply.No refusal.NoJob))); words = refl; at = 29; there = omega arith; text = refl }
found_refusal refusal.NoOutput small = record { known = words_of (closing_text (closing.Reply (reply.No refusal.NoOutput))); words = refl; at = 30; there = omega arith; text = refl }
found_refusal refusal.Nothing small = record { known = words_of (closing_text (closing.Reply (reply.No refusal.Nothing))); words = refl; at = 31; there = omega arith; text = refl }
found_refusal refusal.NoMember small = record { known = words_of (closing_text (closing.Reply (reply.No refusal.NoMember))); words = refl; at = 32; there = omega arith; text = refl }
found_refusal refusal.NoNode small = record { known = words_of (closing_text (closing.Reply (reply.No refusal.NoNode))); words = refl; at = 33; there = omega arith; text = refl }
found_refusal (refusal.InUse m) small = record {
  known = codes "NO" ∷ codes "IN" ∷ codes "USE" ∷ member_word m ∷ [];
  words = ap (λ r. codes "NO" ∷ codes "IN" ∷ codes "USE" ∷ r) (last_word (member_word m) (word_lacks m.0));
  at = 34;
  there = omega arith;
  text = ap (λ k. closing_text (closing.Reply (reply.No (refusal.InUse k)))) (member_read m.0);
}
found_refusal (refusal.Again n) small = record {
  known = codes "NO" ∷ codes "AGAIN" ∷ decimal n ∷ [];
  words = ap (λ r. codes "NO" ∷ codes "AGAIN" ∷ r) (last_word (decimal n) (decimal_lacks n small));
  at = 35;
  there = omega arith;
  text = ap (λ k. closing_text (closing.Reply (reply.No (refusal.Again k)))) (decimal_value n small);
}
found_refusal (refusal.Gap n kept) small = record {
  known = codes "NO" ∷ codes "GAP" ∷ decimal n ∷ decimal kept ∷ [];
  words = ap (λ r. codes "NO" ∷ codes "GAP" ∷ r) (part_one 32 (decimal n) (decimal kept) (decimal_lacks n small.0) ∙ ap (λ r. decimal n ∷ r) (last_word (decimal kept) (decimal_lacks kept small.1)));
  at = 36;
  there = omega arith;
  text = (λ i. closing_text (closing.Reply (reply.No (refusal.Gap (decimal_value n small.0 i) (decimal_value kept small.1 i)))));
}
found_refusal (refusal.WrongPhase p) small = found_phase p

found_reply : (r : Reply) → IsShortReply r → Found (closing.Reply r)
found_reply reply.Plain small = record { known = codes "OK" ∷ []; words = refl; at = 22; there = omega arith; text = refl }
found_reply (reply.Job job) small = found_job job.0 small
found_reply (reply.Output job index) small = found_output job.0 index.0 small.0 small.1
found_reply (reply.Count n) small = found_count n small
found_reply (reply.Shown lines) small = found_shown lines small
found_reply (reply.No why) small = found_refusal why small

found_all : (end : Closing) → is_telling end ≡ true → IsShort end → Found end
found_all (closing.Reply r) tells small = found_reply r small
found_all (closing.DoneUnits n) tells small = found_done n small
found_all (closing.Busy m) tells small = found_busy m
found_all (closing.Dormant n) tells small = found_dormant n small
found_all closing.Down tells small = absurd (let f : false ≡ true = tells in cc)
found_all closing.Stopped tells small = absurd (let f : false ≡ true = tells in cc)
found_all (closing.Up m) tells small = found_up m
found_all (closing.ResetOf m) tells small = found_reset m
found_all closing.NotHolder tells small = record { known = words_of (closing_text closing.NotHolder); words = refl; at = 5; there = omega arith; text = refl }
found_all (closing.BadCard n cause) tells small = found_card n cause small
found_all (closing.SpoolLost n) tells small = found_volume n small
found_all closing.PrinterLost tells small = record { known = words_of (closing_text closing.PrinterLost); words = refl; at = 7; there = omega arith; text = refl }
found_all (closing.LineLost n) tells small = found_line_lost n small
found_all (closing.NoText g) tells small = found_text g.0 small
found_all (closing.NotLost d) tells small = found_device d small
found_all (closing.CkptLost d) tells small = found_copy_lost d small
found_all (closing.Line a b) tells small = found_line a b small.0 small.1

-- LINES

-- one of the closings has the line
has_line : (m : MemberId) (at : ℕ) (end : Closing) → Found end → list_any (λ e. bytes_eq (closing_line m at end) (closing_line m at e)) (closings_of (words_of (closing_text end))) ≡ true
has_line m at end f =
    ap (λ ws. list_any (λ e. bytes_eq (closing_line m at end) (closing_line m at e)) (closings_of ws)) f.words
    ∙ list_any_at (λ e. bytes_eq (closing_line m at end) (closing_line m at e)) (closings_of f.known) f.at closing.NotHolder f.there
    ((bytes_eq-Decides (closing_line m at end) (closing_line m at (slice_index_or (closings_of f.known) f.at closing.NotHolder))).1
    (ap (λ t. member_word m ++ 32 ∷ (in_digits 5 at ++ 32 ∷ t)) (sym f.text)))

line_words : (m : MemberId) (at : ℕ) (end : Closing) → at < 2 ^ 64 → words_of (closing_line m at end) ≡ member_word m ∷ in_digits 5 at ∷ words_of (closing_text end)
line_words m at end small =
    part_one 32 (member_word m) (in_digits 5 at ++ 32 ∷ closing_text end) (word_lacks m.0)
    ∙ ap (λ r. member_word m ∷ r) (part_one 32 (in_digits 5 at) (closing_text end) (digits_lack 32 5 at (omega arith) small))

pub closing_told : (m : MemberId) (at : ℕ) (end : Closing) → is_telling end ≡ true → at < 2 ^ 64 → IsShort end → step_told m (closing_line m at end) ≡ at
closing_told m at end tells small short =
    ap (λ ws. step_if m (number_at_word ws 1) (drop 2 ws) (closing_line m at end)) (line_words m at end small)
    ∙ (ap (λ k. step_if m k (words_of (closing_text end)) (closing_line m at end)) (digits_value 5 at small)
    ∙ ap (λ z. if z then at else 0) (has_line m at end (found_all end tells short)))

-- NOTHING ELSE IS READ

witness : {A : Type 0} (p q : A → Bool) (xs : List A) → list_any p xs ≡ true → list_all q xs ≡ true → (x : A) × (p x ≡ true) × (q x ≡ true)
witness p q [] any all = absurd (let f : false ≡ true = any in cc)
witness p q (x ∷ xs) any all =
    let h = both (q x) (list_all q xs) all in
    elim (p x) as (λ z. p x ≡ z → (z || list_any p xs) ≡ true → (y : _) × (p y ≡ true) × (q y ≡ true)) [ true ↦ λ e f. (x, e, h.0) | false ↦ λ e f. witness p q xs f h.1 ] refl any

all_tell : (ws : List (List ℕ)) → list_all is_telling (closings_of ws) ≡ true
all_tell ws = refl

pub told_closing : (m : MemberId) (line : List ℕ) → 0 < step_told m line → (end : Closing) × (is_telling end ≡ true) × (line ≡ closing_line m (step_told m line) end)
told_closing m line some = from (list_any (λ e. bytes_eq line (closing_line m at e)) (closings_of ws)) refl some where
  at : ℕ
  at = number_at_word (words_of line) 1

  ws : List (List ℕ)
  ws = drop 2 (words_of line)

  from : (z : Bool) → list_any (λ e. bytes_eq line (closing_line m at e)) (closings_of ws) ≡ z → 0 < (if z then at else 0)
      → (end : Closing) × (is_telling end ≡ true) × (line ≡ closing_line m (if z then at else 0) end)
  from false e some = absurd (omega arith)
  from true e some =
      let w = witness (λ e. bytes_eq line (closing_line m at e)) is_telling (closings_of ws) e (all_tell ws) in
      (w.0, w.2, (bytes_eq-Decides line (closing_line m at w.0)).0 w.1)

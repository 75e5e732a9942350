-- Which member and which step a line is of.
use Rattle.std.proofs.Common.{◌≡◌, ℕ, suc, zero, ◌+◌, ◌-◌, ◌*◌, ◌%◌, ◌^◌, ◌<◌, ◌==◌, ◌&&◌, Bool, true, false, not, if◌then◌else◌, List, [], ◌∷◌, ◌++◌, length, drop, replicate, decimal, codes, refl, sym, ◌∙◌, ap, arith}
use Rattle.std.specs.List.{before_first, list_all}
use Rattle.std.proofs.lemmas.Bool.{ne_eqb}
use Rattle.std.proofs.lemmas.Bool.Decides.{nat_tests}
use Rattle.std.proofs.lemmas.Fmt.{decimal_by_steps}
use Rattle.mas_types.specs.declared.ids.MemberId.{MemberId}
use Rattle.mas_types.specs.Names.{unpadded}
use Rattle.mas_types.specs.Numerals.{in_digits, value_after, value_of}
use Rattle.mas_types.specs.Shown.{member_word}

pub by_test : {A : Type 0} (b : Bool) → (b ≡ true → A) → (b ≡ false → A) → A
by_test true f g = f refl
by_test false f g = g refl

-- NUMBERS IN DIGITS, and what stands before a blank

value_append : (n : ℕ) (xs ys : List ℕ) → value_after n (xs ++ ys) ≡ value_after (value_after n xs) ys
value_append n [] ys = refl
value_append n (b ∷ xs) ys = value_append (n * 10 + (b - 48)) xs ys

zeros_value : (k : ℕ) (ds : List ℕ) → value_after 0 (replicate k 48 ++ ds) ≡ value_after 0 ds
zeros_value zero ds = refl
zeros_value (suc k) ds = zeros_value k ds

decimal_value : (n : ℕ) → n < 2 ^ 64 → value_of (decimal n) ≡ n
decimal_value n small = decimal_by_steps (λ m ds. value_of ds ≡ m)
    (λ m lt. omega arith)
    (λ m ds ten is. value_append 0 ds ((48 + m % 10) ∷ []) ∙ ap (λ (k : ℕ). k * 10 + (48 + m % 10 - 48)) is ∙ omega arith)
    n small

digits_value : (n : ℕ) → n < 2 ^ 64 → value_of (in_digits 5 n) ≡ n
digits_value n small = zeros_value (5 - length (decimal n)) (decimal n) ∙ decimal_value n small

-- a byte that is no blank
abbrev pub no_blank : ℕ → Bool
no_blank b = not (b == 32)

all_append : (xs ys : List ℕ) → list_all no_blank xs ≡ true → list_all no_blank ys ≡ true → list_all no_blank (xs ++ ys) ≡ true
all_append [] ys one two = two
all_append (b ∷ xs) ys one two = by_test (no_blank b)
    (λ is. rw is (all_append xs ys (rw is at one) two))
    (λ is. absurd (let none = rw is at one in cc))

all_zeros : (k : ℕ) → list_all no_blank (replicate k 48) ≡ true
all_zeros zero = refl
all_zeros (suc k) = all_zeros k

digit_no_blank : (d : ℕ) → no_blank (48 + d) ≡ true
digit_no_blank d = let other : (48 + d == 32) ≡ false = grind (arith, nat_tests) in rw other refl

decimal_no_blank : (n : ℕ) → n < 2 ^ 64 → list_all no_blank (decimal n) ≡ true
decimal_no_blank n small = decimal_by_steps (λ m ds. list_all no_blank ds ≡ true)
    (λ m lt. rw (digit_no_blank m) refl)
    (λ m ds ten is. all_append ds ((48 + m % 10) ∷ []) is (rw (digit_no_blank (m % 10)) refl))
    n small

digits_no_blank : (n : ℕ) → n < 2 ^ 64 → list_all no_blank (in_digits 5 n) ≡ true
digits_no_blank n small = all_append (replicate (5 - length (decimal n)) 48) (decimal n) (all_zeros (5 - length (decimal n))) (decimal_no_blank n small)

before_no : (p : ℕ → Bool) (x : ℕ) (xs : List ℕ) → p x ≡ false → before_first p (x ∷ xs) ≡ x ∷ before_first p xs
before_no p x xs h = rw h (grind arith)

-- what stands before the first blank
before_blank : (xs ys : List ℕ) → list_all no_blank xs ≡ true → before_first (λ b. b == 32) (xs ++ 32 ∷ ys) ≡ xs
before_blank [] ys none = refl
before_blank (b ∷ xs) ys none = by_test (b == 32)
    (λ is. absurd (let bad = rw is at none in cc))
    (λ is. before_no (λ c. c == 32) b (xs ++ 32 ∷ ys) is ∙ ap (λ (l : List ℕ). b ∷ l) (before_blank xs ys (rw is at none)))

-- A MEMBER'S WORD has no blank, and is its own

named_word : (n : ℕ) → (n == 0) ≡ false → member_word (record { 0 = n }) ≡ 83 ∷ 89 ∷ 83 ∷ (n + 64) ∷ []
named_word n some = ap (λ z. unpadded ((if z then codes "OPER" else 83 ∷ 89 ∷ 83 ∷ (n + 64) ∷ []) ++ replicate (8 - length (if z then codes "OPER" else 83 ∷ 89 ∷ 83 ∷ (n + 64) ∷ [])) 32)) some
    ∙ ap (λ z. 83 ∷ 89 ∷ 83 ∷ (if z && true then [] else (n + 64) ∷ [])) (ne_eqb (n + 64) 32 (λ e. absurd (omega arith)))

word_no_blank : (m : MemberId) → list_all no_blank (member_word m) ≡ true
word_no_blank m = by_number m.0 where
  by_number : (n : ℕ) → list_all no_blank (member_word (record { 0 = n })) ≡ true
  by_number zero = refl
  by_number (suc n) = ap (list_all no_blank) (named_word (suc n) (ne_eqb (suc n) 0 (λ e. absurd (omega arith))))
      ∙ ap (λ z. not z && true) (ne_eqb (suc n + 64) 32 (λ e. absurd (omega arith)))

-- the first byte of a word, and its fourth
abbrev first_byte : List ℕ → ℕ
first_byte [] = 0
first_byte (a ∷ rest) = a

abbrev fourth_byte : List ℕ → ℕ
fourth_byte (a ∷ b ∷ c ∷ d ∷ rest) = d
fourth_byte _ = 0

word_of : (m n : ℕ) → member_word (record { 0 = m }) ≡ member_word (record { 0 = n }) → m ≡ n
word_of zero zero same = refl
word_of zero (suc n) same =
    let first : 79 ≡ 83 = ap first_byte (same ∙ named_word (suc n) (ne_eqb (suc n) 0 (λ e. absurd (omega arith)))) in
    absurd (omega (arith, first))
word_of (suc m) zero same =
    let first : 83 ≡ 79 = ap first_byte (sym (named_word (suc m) (ne_eqb (suc m) 0 (λ e. absurd (omega arith)))) ∙ same) in
    absurd (omega (arith, first))
word_of (suc m) (suc n) same =
    let fourth : suc m + 64 ≡ suc n + 64 =
    ap fourth_byte (sym (named_word (suc m) (ne_eqb (suc m) 0 (λ e. absurd (omega arith)))) ∙ same ∙ named_word (suc n) (ne_eqb (suc n) 0 (λ e. absurd (omega arith)))) in
    omega (arith, fourth)

pub same_id : (a b : MemberId) → a.0 ≡ b.0 → a ≡ b
same_id a b e = ap (λ (n : ℕ). let id : MemberId = record { 0 = n } in id) e

-- THE STEP OF A LINE

abbrev pub line_of : MemberId → ℕ → List ℕ → List ℕ
line_of by at rest = member_word by ++ 32 ∷ (in_digits 5 at ++ 32 ∷ rest)

drop_more : (w ys : List ℕ) → drop 1 ys ≡ drop (length w + 1) (w ++ ys)
drop_more [] ys = refl
drop_more (b ∷ w) ys = let e : suc (length w + 1) ≡ length (b ∷ w) + 1 = omega arith in drop_more w ys ∙ ap (λ (n : ℕ). drop n (b ∷ (w ++ ys))) e

after_word : (w xs : List ℕ) → list_all no_blank w ≡ true → drop (length (before_first (λ b. b == 32) (w ++ 32 ∷ xs)) + 1) (w ++ 32 ∷ xs) ≡ xs
after_word w xs none =
    ap (λ (l : List ℕ). drop (length l + 1) (w ++ 32 ∷ xs)) (before_blank w xs none)
    ∙ sym (drop_more w (32 ∷ xs))

-- lines of two members are different
pub one_member : (one two : MemberId) (xs ys : List ℕ) → member_word one ++ 32 ∷ xs ≡ member_word two ++ 32 ∷ ys → one ≡ two
one_member one two xs ys same =
    same_id one two (word_of one.0 two.0 (sym (before_blank (member_word one) xs (word_no_blank one)) ∙ ap (before_first (λ b. b == 32)) same ∙ before_blank (member_word two) ys (word_no_blank two)))

-- the lines of two steps, of whichever members, are different; and those of one step by what follows its number
module _ (one two : MemberId) (a b : ℕ) (xs ys : List ℕ) (small_a : a < 2 ^ 64) (small_b : b < 2 ^ 64) (same : line_of one a xs ≡ line_of two b ys) where
  abbrev cut : List ℕ → List ℕ
  cut l = drop (length (before_first (λ c. c == 32) l) + 1) l

  rest : in_digits 5 a ++ 32 ∷ xs ≡ in_digits 5 b ++ 32 ∷ ys
  rest = sym (after_word (member_word one) (in_digits 5 a ++ 32 ∷ xs) (word_no_blank one)) ∙ ap cut same ∙ after_word (member_word two) (in_digits 5 b ++ 32 ∷ ys) (word_no_blank two)

  pub same_step : a ≡ b
  same_step =
      let digits : in_digits 5 a ≡ in_digits 5 b = sym (before_blank (in_digits 5 a) xs (digits_no_blank a small_a)) ∙ ap (before_first (λ c. c == 32)) rest ∙ before_blank (in_digits 5 b) ys (digits_no_blank b small_b) in
      sym (digits_value a small_a) ∙ ap value_of digits ∙ digits_value b small_b

  pub same_text : xs ≡ ys
  same_text = sym (after_word (in_digits 5 a) xs (digits_no_blank a small_a)) ∙ ap cut rest ∙ after_word (in_digits 5 b) ys (digits_no_blank b small_b)

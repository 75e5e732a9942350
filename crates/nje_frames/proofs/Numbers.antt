-- The fronts of numbers in ten digits.
use Rattle.std.proofs.Common.{◌≡◌, ℕ, zero, suc, ◌+◌, ◌-◌, ◌*◌, ◌%◌, ◌^◌, ◌≤◌, ◌<◌, ◌⊎◌, Bool, true, false, List, [], ◌∷◌, ◌++◌, length, replicate, decimal, refl, sym, ap, ◌∙◌, append_assoc, arith, inl, inr}
use Rattle.std.specs.Prelude.{nat_le, ◌&&◌}
use Rattle.std.specs.List.{list_all}
use Rattle.std.proofs.lemmas.Bool.{leb-true, le-leb, and_parts, and_from, cases_lt}
use Rattle.std.proofs.lemmas.Fmt.{decimal_by_steps, length-decimal-le}
use Rattle.std.proofs.lemmas.List.{append-nil, length-append, length-replicate}
use Rattle.std.proofs.lemmas.List.Folds.{list_all-append}
use Rattle.mas_types.specs.Numerals.{is_digit, in_digits, value_after, value_of}
use Rattle.nje_frames.specs.Grammar.{number_digits, number_greatest, number_text, IsNumber}
use Rattle.nje_frames.specs.Reading.{begins_number, number_at}
use Rattle.nje_frames.proofs.Readers.{Begins, Fronts, Reads, part_reads}

-- VALUES

pub value-append : (n : ℕ) (xs ys : List ℕ) → value_after n (xs ++ ys) ≡ value_after (value_after n xs) ys
value-append n [] ys = refl
value-append n (b ∷ xs) ys = value-append (n * 10 + (b - 48)) xs ys

zeros_value : (k : ℕ) (ds : List ℕ) → value_after 0 (replicate k 48 ++ ds) ≡ value_after 0 ds
zeros_value zero ds = refl
zeros_value (suc k) ds = zeros_value k ds

decimal_value : (n : ℕ) → n < 2 ^ 64 → value_of (decimal n) ≡ n
decimal_value n small = decimal_by_steps (λ m ds. value_of ds ≡ m)
    (λ m lt. omega arith)
    (λ m ds ten is. value-append 0 ds ((48 + m % 10) ∷ []) ∙ ap (λ (k : ℕ). k * 10 + (48 + m % 10 - 48)) is ∙ omega arith)
    n small

pub digits_value : (width n : ℕ) → n < 2 ^ 64 → value_of (in_digits width n) ≡ n
digits_value width n small = zeros_value (width - length (decimal n)) (decimal n) ∙ decimal_value n small

digit_is : (m : ℕ) → m < 10 → is_digit (48 + m) ≡ true
digit_is m lt = and_from (nat_le 48 (48 + m)) (nat_le (48 + m) 57) (le-leb 48 (48 + m) (omega arith)) (le-leb (48 + m) 57 (omega arith))

decimal_digits : (n : ℕ) → n < 2 ^ 64 → list_all is_digit (decimal n) ≡ true
decimal_digits n small = decimal_by_steps (λ m ds. list_all is_digit ds ≡ true) one more n small
  where
    one : (m : ℕ) → m < 10 → list_all is_digit ((48 + m) ∷ []) ≡ true
    one m lt = and_from (is_digit (48 + m)) true (digit_is m lt) refl

    more : (m : ℕ) (ds : List ℕ) → 10 ≤ m → list_all is_digit ds ≡ true → list_all is_digit (ds ++ (48 + m % 10) ∷ []) ≡ true
    more m ds ten h = list_all-append is_digit ds ((48 + m % 10) ∷ []) ∙ and_from (list_all is_digit ds) (list_all is_digit ((48 + m % 10) ∷ [])) h (one (m % 10) (omega arith))

same_digits : (k b : ℕ) → is_digit b ≡ true → list_all is_digit (replicate k b) ≡ true
same_digits zero b h = refl
same_digits (suc k) b h = and_from (is_digit b) (list_all is_digit (replicate k b)) h (same_digits k b h)

all_digits : (xs ys : List ℕ) → list_all is_digit xs ≡ true → list_all is_digit ys ≡ true → list_all is_digit (xs ++ ys) ≡ true
all_digits xs ys a b = list_all-append is_digit xs ys ∙ and_from (list_all is_digit xs) (list_all is_digit ys) a b

pub digits_are : (width n : ℕ) → n < 2 ^ 64 → list_all is_digit (in_digits width n) ≡ true
digits_are width n small = all_digits (replicate (width - length (decimal n)) 48) (decimal n) (same_digits (width - length (decimal n)) 48 refl) (decimal_digits n small)

pub digits_wide : (width n : ℕ) → 0 < width → n < 10 ^ width → n < 2 ^ 64 → length (in_digits width n) ≡ width
digits_wide width n some few small =
    omega (arith, length-append (replicate (width - length (decimal n)) 48) (decimal n), length-replicate {A = ℕ} (width - length (decimal n)) 48, length-decimal-le width n some few small)

-- ORDER

digit_range : (b : ℕ) → is_digit b ≡ true → (48 ≤ b) × (b ≤ 57)
digit_range b h = let parts = and_parts (nat_le 48 b) (nat_le b 57) h in (leb-true 48 b parts.0, leb-true b 57 parts.1)

value_grows : (v w : ℕ) (text : List ℕ) → v ≤ w → value_after v text ≤ value_after w text
value_grows v w [] le = le
value_grows v w (b ∷ text) le = value_grows (v * 10 + (b - 48)) (w * 10 + (b - 48)) text (omega arith)

least_value : (v : ℕ) (text : List ℕ) → value_after v (replicate (length text) 48) ≤ value_after v text
least_value v [] = omega arith
least_value v (b ∷ text) =
    let one = value_grows (v * 10 + (48 - 48)) (v * 10 + (b - 48)) (replicate (length text) 48) (omega arith) in
    let other = least_value (v * 10 + (b - 48)) text in
    omega (arith, one, other)

most_value : (v : ℕ) (text : List ℕ) → list_all is_digit text ≡ true → value_after v text ≤ value_after v (replicate (length text) 57)
most_value v [] h = omega arith
most_value v (b ∷ text) h =
    let parts = and_parts (is_digit b) (list_all is_digit text) h in
    let range = digit_range b parts.0 in
    let one = value_grows (v * 10 + (b - 48)) (v * 10 + (57 - 48)) (replicate (length text) 57) (omega (arith, range.1)) in
    let other = most_value (v * 10 + (b - 48)) text parts.1 in
    omega (arith, one, other)

-- digits of one length that have one value are the same
same_text : (v w : ℕ) (xs ys : List ℕ) → length xs ≡ length ys → list_all is_digit xs ≡ true → list_all is_digit ys ≡ true → value_after v xs ≡ value_after w ys → (v ≡ w) × (xs ≡ ys)
same_text v w [] [] len a b e = (e, refl)
same_text v w [] (y ∷ ys) len a b e = absurd (omega arith)
same_text v w (x ∷ xs) [] len a b e = absurd (omega arith)
same_text v w (x ∷ xs) (y ∷ ys) len a b e =
    let p = and_parts (is_digit x) (list_all is_digit xs) a in
    let q = and_parts (is_digit y) (list_all is_digit ys) b in
    let next = same_text (v * 10 + (x - 48)) (w * 10 + (y - 48)) xs ys (omega arith) p.1 q.1 e in
    let r = digit_range x p.0 in
    let s = digit_range y q.0 in
    let same : x ≡ y = omega (arith, next.0, r.0, r.1, s.0, s.1) in
    (omega (arith, next.0, r.0, r.1, s.0, s.1), rw (same, next.1) refl)

-- ten digits are the text of the number that they say
pub text_from_value : (text : List ℕ) → length text ≡ number_digits → list_all is_digit text ≡ true → value_of text ≤ number_greatest → number_text (value_of text) ≡ text
text_from_value text len digits few =
    let n = value_of text in
    let wide : length (in_digits number_digits n) ≡ number_digits = digits_wide number_digits n (omega arith) (omega (arith, few)) (omega (arith, few)) in
    (same_text 0 0 (in_digits number_digits n) text (wide ∙ sym len) (digits_are number_digits n (omega (arith, few))) digits (digits_value number_digits n (omega (arith, few)))).1

-- FRONTS

pub number_wide : (n : ℕ) → IsNumber n → length (number_text n) ≡ number_digits
number_wide n h = digits_wide number_digits n (omega arith) (omega (arith, h.1)) (omega (arith, h.1))

pub number_back : (n : ℕ) → IsNumber n → value_of (number_text n) ≡ n
number_back n h = digits_value number_digits n (omega (arith, h.1))

record IsNumberFront (front : List ℕ) : Type 0 where
  digits : list_all is_digit front ≡ true
  low : value_of (front ++ replicate (number_digits - length front) 48) ≤ number_greatest
  high : 1 ≤ value_of (front ++ replicate (number_digits - length front) 57)

front_from : (front : List ℕ) → begins_number front ≡ true → IsNumberFront front
front_from front h =
    let least = value_of (front ++ replicate (number_digits - length front) 48) in
    let most = value_of (front ++ replicate (number_digits - length front) 57) in
    let one = and_parts (list_all is_digit front && nat_le least number_greatest) (nat_le 1 most) h in
    let two = and_parts (list_all is_digit front) (nat_le least number_greatest) one.0 in
    record { digits = two.0; low = leb-true least number_greatest two.1; high = leb-true 1 most one.1 }

front_to : (front : List ℕ) → IsNumberFront front → begins_number front ≡ true
front_to front f =
    let least = value_of (front ++ replicate (number_digits - length front) 48) in
    let most = value_of (front ++ replicate (number_digits - length front) 57) in
    and_from (list_all is_digit front && nat_le least number_greatest) (nat_le 1 most)
    (and_from (list_all is_digit front) (nat_le least number_greatest) f.digits (le-leb least number_greatest f.low))
    (le-leb 1 most f.high)

-- a text of ten digits that goes on with the front
number_begins : (front more : List ℕ) → length (front ++ more) ≡ number_digits → list_all is_digit (front ++ more) ≡ true → 1 ≤ value_of (front ++ more) → value_of (front ++ more) ≤ number_greatest → Begins IsNumber number_text front
number_begins front more len digits some few =
    record { x = value_of (front ++ more); more = more; fits = (some, few); is = text_from_value (front ++ more) len digits few }

grows : (v k : ℕ) → v ≤ value_after v (replicate k 48)
grows v zero = omega arith
grows v (suc j) = omega (arith, grows (v * 10 + (48 - 48)) j)

zero_front : (front : List ℕ) (k : ℕ) → value_of (front ++ replicate k 48) ≤ 0 → value_of front ≡ 0
zero_front front k h = omega (arith, value-append 0 front (replicate k 48), grows (value_of front) k, h)

-- where the front is all zeros, and isn't whole, the number 1 goes on with it
with_one : (front : List ℕ) → length front ≤ number_digits → IsNumberFront front → value_of (front ++ replicate (number_digits - length front) 48) ≤ 0 → (k : ℕ) → k ≡ number_digits - length front → Begins IsNumber number_text front
with_one front le f none zero is =
    let whole : number_digits - length front ≡ 0 = sym is in
    let high = rw whole at f.high in
    let low = rw whole at none in
    absurd (omega (arith, high, low))
with_one front le f none (suc k) is =
    let start = zero_front front (number_digits - length front) none in
    let value : value_of (front ++ (replicate k 48 ++ 49 ∷ [])) ≡ 1 =
    value-append 0 front (replicate k 48 ++ 49 ∷ []) ∙ ap (λ (v : ℕ). value_after v (replicate k 48 ++ 49 ∷ [])) start ∙ zeros_value k (49 ∷ []) in
    let one : length (replicate k 48 ++ 49 ∷ []) ≡ length (replicate k 48) + 1 = length-append {A = ℕ} (replicate k 48) (49 ∷ []) in
    number_begins front (replicate k 48 ++ 49 ∷ [])
    (omega (arith, length-append front (replicate k 48 ++ 49 ∷ []), one, length-replicate {A = ℕ} k 48))
    (all_digits front (replicate k 48 ++ 49 ∷ []) f.digits (all_digits (replicate k 48) (49 ∷ []) (same_digits k 48 refl) refl))
    (omega (arith, value)) (omega (arith, value))

number_sound : (front : List ℕ) → length front ≤ number_digits → begins_number front ≡ true → Begins IsNumber number_text front
number_sound front le h = go (front_from front h) (cases_lt 0 (value_of (front ++ replicate (number_digits - length front) 48)))
  where
    go : IsNumberFront front → (0 < value_of (front ++ replicate (number_digits - length front) 48)) ⊎ (value_of (front ++ replicate (number_digits - length front) 48) ≤ 0) → Begins IsNumber number_text front
    go f (inl some) =
        number_begins front (replicate (number_digits - length front) 48)
        (omega (arith, length-append front (replicate (number_digits - length front) 48), length-replicate {A = ℕ} (number_digits - length front) 48))
        (all_digits front (replicate (number_digits - length front) 48) f.digits (same_digits (number_digits - length front) 48 refl))
        some f.low
    go f (inr none) = with_one front le f none (number_digits - length front) refl

number_complete : (front : List ℕ) → Begins IsNumber number_text front → begins_number front ≡ true
number_complete front b =
    let n = b.x in
    let small : n < 2 ^ 64 = omega (arith, b.fits.1) in
    let value : value_of (front ++ b.more) ≡ n = ap value_of (sym b.is) ∙ number_back n b.fits in
    let digits : list_all is_digit (front ++ b.more) ≡ true = ap (list_all is_digit) (sym b.is) ∙ digits_are number_digits n small in
    let parts = and_parts (list_all is_digit front) (list_all is_digit b.more) (sym (list_all-append is_digit front b.more) ∙ digits) in
    let sizes : length front + length b.more ≡ number_digits = sym (length-append front b.more) ∙ ap length (sym b.is) ∙ number_wide n b.fits in
    let room : number_digits - length front ≡ length b.more = omega arith in
    let split = value-append 0 front b.more in
    let least = least_value (value_of front) b.more in
    let most = most_value (value_of front) b.more parts.1 in
    front_to front (record {
      digits = parts.0;
      low = rw room (omega (arith, value-append 0 front (replicate (length b.more) 48), split, least, value, b.fits.1));
      high = rw room (omega (arith, value-append 0 front (replicate (length b.more) 57), split, most, value, b.fits.0));
    })

pub number_fronts : Fronts IsNumber number_text begins_number number_digits value_of
number_fronts = record { wide = number_wide; back = number_back; sound = number_sound; complete = number_complete }

pub number_reads : Reads IsNumber number_text number_at
unfolding number_at
number_reads = part_reads IsNumber number_text begins_number number_digits value_of number_fronts refl

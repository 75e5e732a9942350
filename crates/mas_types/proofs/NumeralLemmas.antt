-- Lemmas on numbers as texts.
use Rattle.std.proofs.Common.{◌≡◌, ℕ, zero, suc, ◌+◌, ◌-◌, ◌*◌, ◌/◌, ◌%◌, ◌^◌, ◌<◌, ◌≤◌, ◌⊎◌, inl, inr, Bool, false, ◌&&◌, nat_le, decimal, List, [], ◌∷◌, ◌++◌, length, drop, replicate, get_or, refl, sym, ap, ◌∙◌, append_assoc, arith, drop-cons}
use Rattle.std.proofs.lemmas.Bool.{cases_lt}
use Rattle.std.proofs.lemmas.Bool.Decides.{nat_tests}
use Rattle.std.proofs.lemmas.Fmt.{decimal_digit, decimal_nonempty, decimal_step}
use Rattle.std.proofs.lemmas.List.{length-append}
use Rattle.std.proofs.Math.Nat.{pow-suc}
use Rattle.mas_types.specs.Numerals.{in_digits, value_after, value_of}

-- more digits make a number no less
pub le_value_after : (n : ℕ) (text : List ℕ) → n ≤ value_after n text
le_value_after n [] = omega arith
le_value_after n (b ∷ text) = omega (arith, le_value_after (n * 10 + (b - 48)) text)

-- a number of which the first digits are too great is too great
pub too_great : (text : List ℕ) (i n most : ℕ) → i < length text → value_after n (drop i text) ≡ value_of text → most < n * 10 + (get_or text i 0 - 48) → most < value_of text
too_great text i n most inside value great =
    let at_i = rw (drop-cons text i 0 inside) at value in
    omega (arith, at_i, le_value_after (n * 10 + (get_or text i 0 - 48)) (drop (suc i) text), great)

pub and_too_great : (b : Bool) (n most : ℕ) → most < n → (b && nat_le n most) ≡ false
and_too_great b n most great = grind (arith, nat_tests)

-- the last so many digits of a number
abbrev pub last_digits : ℕ → ℕ → List ℕ
last_digits zero n = []
last_digits (suc width) n = last_digits width (n / 10) ++ (48 + n % 10) ∷ []

-- a number of one digit has zeros before it
pub in_digits-one : (width n : ℕ) → n < 10 → in_digits (suc width) n ≡ replicate width 48 ++ (48 + n) ∷ []
in_digits-one width n small =
    let less : suc width - 1 ≡ width = omega arith in rw (decimal_digit n small, less) refl

zeros_more : (k : ℕ) → ◌++◌ {A = ℕ} (replicate k 48) (48 ∷ []) ≡ replicate (suc k) 48
zeros_more zero = refl
zeros_more (suc k) = ap (λ (xs : List ℕ). 48 ∷ xs) (zeros_more k)

-- a number in one digit more: its tenth, and its last digit
pub in_digits-more : (width n : ℕ) → n < 2 ^ 64 → in_digits (suc (suc width)) n ≡ in_digits (suc width) (n / 10) ++ (48 + n % 10) ∷ []
in_digits-more width n small = go (cases_lt n 10)
  where
    go : (n < 10) ⊎ (10 ≤ n) → in_digits (suc (suc width)) n ≡ in_digits (suc width) (n / 10) ++ (48 + n % 10) ∷ []
    go (inl one) =
        let none : n / 10 ≡ 0 = omega arith in
        let self : n % 10 ≡ n = omega arith in
        in_digits-one (suc width) n one
        ∙ rw (none, self, in_digits-one width 0 (omega arith), zeros_more width) refl
    go (inr more) =
        let tenth : length (decimal (n / 10) ++ (48 + n % 10) ∷ []) ≡ length (decimal (n / 10)) + 1 = length-append (decimal (n / 10)) ((48 + n % 10) ∷ []) in
        let room : suc (suc width) - (length (decimal (n / 10)) + 1) ≡ suc width - length (decimal (n / 10)) = omega arith in
        rw (decimal_step n more small, tenth, room)
        (sym (append_assoc (replicate (suc width - length (decimal (n / 10))) 48) (decimal (n / 10)) ((48 + n % 10) ∷ [])))

tenth_below : (width n : ℕ) → n < 10 ^ suc (suc width) → n / 10 < 10 ^ suc width
tenth_below width n few =
    let power : 10 ^ suc (suc width) ≡ 10 ^ suc width * 10 = pow-suc 10 (suc width) in omega (arith, power)

-- a number that needs no more digits than the width is written with its last so many digits
pub in_digits-last : (width n : ℕ) → n < 2 ^ 64 → n < 10 ^ suc width → in_digits (suc width) n ≡ last_digits (suc width) n
in_digits-last zero n small few =
    let one : n < 10 = omega arith in
    let self : n % 10 ≡ n = omega arith in
    in_digits-one 0 n one ∙ rw self refl
in_digits-last (suc width) n small few =
    let tenth : n / 10 < 10 ^ suc width = tenth_below width n few in
    in_digits-more width n small ∙ ap (λ (xs : List ℕ). xs ++ (48 + n % 10) ∷ []) (in_digits-last width (n / 10) (omega arith) tenth)

-- a number in one digit is written as it is
pub in_digits-none : (width n : ℕ) → width < 2 → n < 2 ^ 64 → in_digits width n ≡ decimal n
in_digits-none width n few small =
    let some = decimal_nonempty n small in
    let room : width - length (decimal n) ≡ 0 = omega arith in
    rw room refl

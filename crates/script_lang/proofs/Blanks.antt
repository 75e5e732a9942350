-- The blanks at the end of a line.
use Rattle.std.proofs.Common.{◌≡◌, ◌∙◌, sym, ap, ℕ, ◌+◌, ◌-◌, ◌<◌, ◌≤◌, Bool, true, false, ◌&&◌, List, [], ◌∷◌, ◌++◌, length, take, get_or, refl, arith}
use Rattle.std.specs.List.{list_all}
use Rattle.std.proofs.lemmas.List.{take_more}
use Rattle.mas_types.specs.Names.{is_blank, unpadded}

all_behind : (xs : List ℕ) → list_all is_blank (xs ++ 32 ∷ []) ≡ list_all is_blank xs
all_behind [] = refl
all_behind (b ∷ xs) = ap (λ (v : Bool). is_blank b && v) (all_behind xs)

-- a blank at the end is dropped
unpadded-blank : (xs : List ℕ) → unpadded (xs ++ 32 ∷ []) ≡ unpadded xs
unpadded-blank [] = refl
unpadded-blank (b ∷ xs) = rw (all_behind xs, unpadded-blank xs) refl

and_no : (v : Bool) → (v && false) ≡ false
and_no true = refl
and_no false = refl

not_all : (xs : List ℕ) (b : ℕ) → is_blank b ≡ false → list_all is_blank (xs ++ b ∷ []) ≡ false
not_all [] b other = rw other refl
not_all (c ∷ xs) b other = rw (not_all xs b other) (and_no (is_blank c))

-- any other byte at the end is kept
unpadded-other : (xs : List ℕ) (b : ℕ) → is_blank b ≡ false → unpadded (xs ++ b ∷ []) ≡ xs ++ b ∷ []
unpadded-other [] b other = rw other refl
unpadded-other (c ∷ xs) b other = rw (not_all xs b other, and_no (is_blank c), unpadded-other xs b other) refl

-- the first bytes of a line, of which the last is a blank
pub trim_more : (line : List ℕ) (n : ℕ) → 0 < n → n ≤ length line → get_or line (n - 1) 0 ≡ 32 → unpadded (take n line) ≡ unpadded (take (n - 1) line)
trim_more line n some within is =
    let last : n - 1 + 1 ≡ n = omega arith in
    let whole : take n line ≡ take (n - 1) line ++ 32 ∷ [] = ap (λ (k : ℕ). take k line) (sym last) ∙ take_more line (n - 1) 0 (omega arith) ∙ ap (λ (b : ℕ). take (n - 1) line ++ b ∷ []) is in
    ap unpadded whole ∙ unpadded-blank (take (n - 1) line)

-- the first bytes of a line, of which the last is none
pub trim_done : (line : List ℕ) (n : ℕ) → 0 < n → n ≤ length line → is_blank (get_or line (n - 1) 0) ≡ false → unpadded (take n line) ≡ take n line
trim_done line n some within other =
    let last : n - 1 + 1 ≡ n = omega arith in
    let whole : take n line ≡ take (n - 1) line ++ get_or line (n - 1) 0 ∷ [] = ap (λ (k : ℕ). take k line) (sym last) ∙ take_more line (n - 1) 0 (omega arith) in
    ap unpadded whole ∙ unpadded-other (take (n - 1) line) (get_or line (n - 1) 0) other ∙ sym whole

-- Bytes of a text are tested a run of sixteen at a time.
use Rattle.std.proofs.Common.{◌≡◌, ℕ, zero, suc, ◌+◌, ◌*◌, ◌%◌, ◌^◌, ◌≤◌, ltb, Bool, true, false, not, cond, List, [], ◌∷◌, length, map, take, drop, replicate, refl, sym, ap, ap₂, ◌∙◌, arith, eq-eqb}
use Rattle.std.specs.Prelude.{◌&&◌, ◌==◌, nat_le}
use Rattle.std.specs.List.{list_all}
use Rattle.std.specs.Simd.Lanes.{zip2, mask_l, top}
use Rattle.std.specs.Int.{w8}
use Rattle.std.proofs.lemmas.Bool.{ne_eqb}
use Rattle.std.proofs.lemmas.Bool.Decides.{nat_tests}
use Rattle.std.proofs.lemmas.List.{length-map}
use Rattle.std.proofs.lemmas.List.Folds.{list_all-append}
use Rattle.std.proofs.lemmas.Simd.{bitmask_splat, chunk-drop, length-chunk, mask_l-mod, tops_compared}
use Rattle.mas_types.specs.Fit.{is_text_byte, is_text_line}

-- ---- the lanes of a run

odd : (n : ℕ) → 1 + 2 * n ≡ 0 → ⊥
odd n e = omega arith

even : (n : ℕ) → 0 + 2 * suc n ≡ 0 → ⊥
even n e = omega arith

some : (n : ℕ) → suc n ≡ 0 → ⊥
some n e = omega arith

-- no mark is set where the first isn't, and none of the others
first_mark : (b : Bool) (n : ℕ) → (cond b 1 0 + 2 * n == 0) ≡ not b && (n == 0)
first_mark false zero = refl
first_mark false (suc n) = ne_eqb (0 + 2 * suc n) 0 (even n) ∙ sym (ne_eqb (suc n) 0 (some n))
first_mark true n = ne_eqb (1 + 2 * n) 0 (odd n)

unmarked : (p : ℕ → Bool) (xs : List ℕ) → (mask_l (map p xs) == 0) ≡ list_all (λ x. not (p x)) xs
unmarked p [] = refl
unmarked p (x ∷ xs) = first_mark (p x) (mask_l (map p xs)) ∙ ap (λ (b : Bool). not (p x) && b) (unmarked p xs)

not-not : (b : Bool) → not (not b) ≡ b
not-not true = refl
not-not false = refl

splat_left : (h : ℕ → ℕ → Bool) (y : ℕ) (xs : List ℕ) → zip2 h (replicate (length xs) y) xs ≡ map (h y) xs
splat_left h y [] = refl
splat_left h y (x ∷ xs) = ap (λ (r : List Bool). h y x ∷ r) (splat_left h y xs)

above : (xs : List ℕ) → length xs ≡ 16 → mask_l (map (top 7) (zip2 (λ a b. cond (ltb a b) 255 0) (replicate 16 126) xs)) % 2 ^ 64 ≡ mask_l (map (ltb 126) xs)
above xs len =
    let tops : map (top 7) (zip2 (λ a b. cond (ltb a b) 255 0) (replicate 16 126) xs) ≡ zip2 ltb (replicate 16 126) xs = tops_compared w8 ltb (replicate 16 126) xs in
    let marks : zip2 ltb (replicate 16 126) xs ≡ map (ltb 126) xs = ap (λ (n : ℕ). zip2 ltb (replicate n 126) xs) (sym len) ∙ splat_left ltb 126 xs in
    ap (λ (ms : List Bool). mask_l ms % 2 ^ 64) (tops ∙ marks) ∙ mask_l-mod (map (ltb 126) xs) 64 (omega (arith, length-map xs (ltb 126)))

low : (x : ℕ) → not (ltb x 32) ≡ nat_le 32 x
low x = grind (arith, nat_tests)

high : (x : ℕ) → not (ltb 126 x) ≡ nat_le x 126
high x = grind (arith, nat_tests)

and_swap : (a b c d : Bool) → (a && b) && (c && d) ≡ (a && c) && (b && d)
and_swap true true c d = refl
and_swap true false true d = refl
and_swap true false false d = refl
and_swap false b c d = refl

both : (xs : List ℕ) → list_all (λ x. not (ltb x 32)) xs && list_all (λ x. not (ltb 126 x)) xs ≡ is_text_line xs
both [] = refl
both (x ∷ xs) = and_swap (not (ltb x 32)) (list_all (λ x. not (ltb x 32)) xs) (not (ltb 126 x)) (list_all (λ x. not (ltb 126 x)) xs)
    ∙ ap₂ (λ (a b : Bool). (a && b) && (list_all (λ x. not (ltb x 32)) xs && list_all (λ x. not (ltb 126 x)) xs)) (low x) (high x)
    ∙ ap (λ (b : Bool). is_text_byte x && b) (both xs)

-- the marks of the bytes of a run that are below those of a text, and of those that are above
abbrev low_marks : List ℕ → ℕ
low_marks xs = mask_l (map (top 7) (zip2 (λ a b. cond (ltb a b) 255 0) xs (replicate 16 32))) % 2 ^ 64

abbrev high_marks : List ℕ → ℕ
high_marks xs = mask_l (map (top 7) (zip2 (λ a b. cond (ltb a b) 255 0) (replicate 16 126) xs)) % 2 ^ 64

tested : (xs : List ℕ) → length xs ≡ 16 → not (not (low_marks xs == 0)) && not (not (high_marks xs == 0)) ≡ is_text_line xs
tested xs len =
    let under = not-not _ ∙ ap (λ (n : ℕ). n == 0) (bitmask_splat w8 ltb xs 16 32 len (omega arith)) ∙ unmarked (λ x. ltb x 32) xs in
    let over = not-not _ ∙ ap (λ (n : ℕ). n == 0) (above xs len) ∙ unmarked (ltb 126) xs in
    ap₂ (λ (a b : Bool). a && b) under over ∙ both xs

abbrev run : ℕ → List ℕ → List ℕ
run at xs = take 16 (drop at xs)

-- what the lanes of a load tell, where none of them is low, and where one is
pub run_from : (at : ℕ) (xs : List ℕ) → at + 16 ≤ length xs → low_marks (run at xs) ≡ 0 → not (not (high_marks (run at xs) == 0)) ≡ is_text_line (run at xs)
run_from at xs room none =
    ap (λ (b : Bool). not (not b) && not (not (high_marks (run at xs) == 0))) (sym (eq-eqb (low_marks (run at xs)) 0 none)) ∙ tested (run at xs) (length-chunk at 16 xs room)

pub run_not : (at : ℕ) (xs : List ℕ) → at + 16 ≤ length xs → (low_marks (run at xs) ≡ 0 → ⊥) → not (not (low_marks (run at xs) == 0)) ≡ is_text_line (run at xs)
run_not at xs room some =
    let low = ne_eqb (low_marks (run at xs)) 0 some in
    ap (λ (b : Bool). not (not b)) low ∙ ap (λ (b : Bool). not (not b) && not (not (high_marks (run at xs) == 0))) (sym low) ∙ tested (run at xs) (length-chunk at 16 xs room)

-- ---- the runs of a line

next_run : (at : ℕ) (xs : List ℕ) → is_text_line (drop at xs) ≡ is_text_line (take 16 (drop at xs)) && is_text_line (drop (at + 16) xs)
next_run at xs = ap is_text_line (chunk-drop at 16 xs) ∙ list_all-append is_text_byte (take 16 (drop at xs)) (drop (at + 16) xs)

pub text_more : (at : ℕ) (xs : List ℕ) → is_text_line (take 16 (drop at xs)) ≡ true → is_text_line (drop at xs) ≡ is_text_line xs → is_text_line (drop (at + 16) xs) ≡ is_text_line xs
text_more at xs here so_far = sym (next_run at xs ∙ ap (λ (b : Bool). b && is_text_line (drop (at + 16) xs)) here) ∙ so_far

pub text_end : (at : ℕ) (xs : List ℕ) → is_text_line (take 16 (drop at xs)) ≡ false → is_text_line (drop at xs) ≡ is_text_line xs → false ≡ is_text_line xs
text_end at xs here so_far = sym (sym so_far ∙ next_run at xs ∙ ap (λ (b : Bool). b && is_text_line (drop (at + 16) xs)) here)

-- Bytes are tested a run at a time.
use Rattle.std.proofs.Common.{◌≡◌, ℕ, zero, suc, ◌+◌, ◌-◌, ◌*◌, ◌%◌, ◌^◌, ◌≤◌, ◌<◌, eqb, Bool, true, false, not, cond, List, [], ◌∷◌, ◌++◌, length, map, take, drop, replicate, refl, sym, ap, ap₂, ◌∙◌, arith}
use Rattle.std.specs.Prelude.{◌&&◌, ◌==◌}
use Rattle.std.specs.Str.{bytes_eq}
use Rattle.std.specs.Simd.Lanes.{zip2, mask_l, top}
use Rattle.std.proofs.lemmas.Bool.{ne_eqb}
use Rattle.std.proofs.lemmas.List.{length-drop, take_all, drop_all}
use Rattle.std.proofs.lemmas.List.Folds.{list_all-append}
use Rattle.std.proofs.lemmas.Simd.{bitmask_splat, chunk-drop, length-chunk, length-zip2, mask_l-mod, tops_compared}
use Rattle.std.specs.Int.{w8}
use Rattle.lay_bytes.specs.Bytes.{are_zeros}
use Rattle.lay_bytes.specs.Fields.{piece}

-- ---- the lanes of a run

abbrev differs : ℕ → ℕ → Bool
differs a b = not (a == b)

not-not : (b : Bool) → not (not b) ≡ b
not-not true = refl
not-not false = refl

odd : (n : ℕ) → 1 + 2 * n ≡ 0 → ⊥
odd n e = omega arith

even : (n : ℕ) → 0 + 2 * suc n ≡ 0 → ⊥
even n e = omega arith

some : (n : ℕ) → suc n ≡ 0 → ⊥
some n e = omega arith

-- no mark is set where the first pair is the same, and none of the others
first_mark : (b : Bool) (n : ℕ) → (cond (not b) 1 0 + 2 * n == 0) ≡ b && (n == 0)
first_mark true zero = refl
first_mark true (suc n) = ne_eqb (0 + 2 * suc n) 0 (even n) ∙ sym (ne_eqb (suc n) 0 (some n))
first_mark false n = ne_eqb (1 + 2 * n) 0 (odd n)

unmarked : (us vs : List ℕ) → length us ≡ length vs → (mask_l (zip2 differs us vs) == 0) ≡ bytes_eq us vs
unmarked [] [] e = refl
unmarked [] (v ∷ vs) e = absurd (omega arith)
unmarked (u ∷ us) [] e = absurd (omega arith)
unmarked (u ∷ us) (v ∷ vs) e = first_mark (u == v) (mask_l (zip2 differs us vs)) ∙ ap (λ (b : Bool). (u == v) && b) (unmarked us vs (omega arith))

masked : (n : ℕ) (us vs : List ℕ) → n ≤ 64 → length us ≡ n → length vs ≡ n
    → not (not (mask_l (map (top 7) (zip2 (λ a b. cond (not (eqb a b)) 255 0) us vs)) % 2 ^ 64 == 0)) ≡ bytes_eq us vs
masked n us vs most a b =
    let marks : map (top 7) (zip2 (λ a b. cond (not (eqb a b)) 255 0) us vs) ≡ zip2 differs us vs = tops_compared w8 differs us vs in
    let few : length (zip2 differs us vs) ≤ 64 = omega (arith, length-zip2 differs us vs (a ∙ sym b)) in
    not-not _ ∙ ap (λ (n : ℕ). n == 0) (ap (λ (ms : List Bool). mask_l ms % 2 ^ 64) marks ∙ mask_l-mod (zip2 differs us vs) 64 few) ∙ unmarked us vs (a ∙ sym b)

-- what the lanes of two names tell
pub names_compared : (us vs : List ℕ) → length us ≡ 8 → length vs ≡ 8
    → not (not (mask_l (map (top 7) (zip2 (λ a b. cond (not (eqb a b)) 255 0) us vs)) % 2 ^ 64 == 0)) ≡ bytes_eq us vs
names_compared us vs a b = masked 8 us vs (omega arith) a b

-- what the lanes of two loads tell
pub run_compared : (at : ℕ) (xs ys : List ℕ) → length xs ≡ 4096 → length ys ≡ 4096 → at + 64 ≤ 4096
    → not (not (mask_l (map (top 7) (zip2 (λ a b. cond (not (eqb a b)) 255 0) (take 64 (take (4096 - at) (drop at xs))) (take 64 (take (4096 - at) (drop at ys))))) % 2 ^ 64 == 0))
    ≡ bytes_eq (piece at 64 xs) (piece at 64 ys)
run_compared at xs ys a b room =
    let x : take (4096 - at) (drop at xs) ≡ drop at xs = take_all (4096 - at) (drop at xs) (omega (arith, length-drop at xs)) in
    let y : take (4096 - at) (drop at ys) ≡ drop at ys = take_all (4096 - at) (drop at ys) (omega (arith, length-drop at ys)) in
    ap₂ (λ (us vs : List ℕ). not (not (mask_l (map (top 7) (zip2 (λ a b. cond (not (eqb a b)) 255 0) (take 64 us) (take 64 vs))) % 2 ^ 64 == 0))) x y
    ∙ masked 64 (piece at 64 xs) (piece at 64 ys) (omega arith) (length-chunk at 64 xs (omega arith)) (length-chunk at 64 ys (omega arith))

unmarked_zeros : (xs : List ℕ) → (mask_l (map (λ x. differs x 0) xs) == 0) ≡ are_zeros xs
unmarked_zeros [] = refl
unmarked_zeros (x ∷ xs) = first_mark (x == 0) (mask_l (map (λ x. differs x 0) xs)) ∙ ap (λ (b : Bool). (x == 0) && b) (unmarked_zeros xs)

zeros_masked : (xs : List ℕ) → length xs ≡ 64 → not (not (mask_l (map (top 7) (zip2 (λ a b. cond (not (eqb a b)) 255 0) xs (replicate 64 0))) % 2 ^ 64 == 0)) ≡ are_zeros xs
zeros_masked xs len =
    let marks : mask_l (map (top 7) (zip2 (λ a b. cond (not (eqb a b)) 255 0) xs (replicate 64 0))) % 2 ^ 64 ≡ mask_l (map (λ x. differs x 0) xs) = bitmask_splat w8 differs xs 64 0 len (omega arith) in
    not-not _ ∙ ap (λ (n : ℕ). n == 0) marks ∙ unmarked_zeros xs

-- what the lanes of one load tell
pub zeros_compared : (at : ℕ) (xs : List ℕ) → at + 64 ≤ length xs
    → not (not (mask_l (map (top 7) (zip2 (λ a b. cond (not (eqb a b)) 255 0) (take 64 (drop at xs)) (replicate 64 0))) % 2 ^ 64 == 0)) ≡ are_zeros (piece at 64 xs)
zeros_compared at xs room = zeros_masked (piece at 64 xs) (length-chunk at 64 xs room)

next_zeros : (at : ℕ) (xs : List ℕ) → are_zeros (drop at xs) ≡ are_zeros (piece at 64 xs) && are_zeros (drop (at + 64) xs)
next_zeros at xs = ap are_zeros (chunk-drop at 64 xs) ∙ list_all-append (λ b. b == 0) (piece at 64 xs) (drop (at + 64) xs)

pub zeros_more : (at : ℕ) (xs : List ℕ) → are_zeros (piece at 64 xs) ≡ true → are_zeros (drop at xs) ≡ are_zeros xs → are_zeros (drop (at + 64) xs) ≡ are_zeros xs
zeros_more at xs here so_far = sym (next_zeros at xs ∙ ap (λ (b : Bool). b && are_zeros (drop (at + 64) xs)) here) ∙ so_far

pub zeros_end : (at : ℕ) (xs : List ℕ) → are_zeros (piece at 64 xs) ≡ false → are_zeros (drop at xs) ≡ are_zeros xs → false ≡ are_zeros xs
zeros_end at xs here so_far = sym (sym so_far ∙ next_zeros at xs ∙ ap (λ (b : Bool). b && are_zeros (drop (at + 64) xs)) here)

-- ---- the runs of a page

and_assoc : (a b c : Bool) → (a && b) && c ≡ a && (b && c)
and_assoc true b c = refl
and_assoc false b c = refl

same_parts : (us vs xs ys : List ℕ) → length us ≡ length vs → bytes_eq (us ++ xs) (vs ++ ys) ≡ bytes_eq us vs && bytes_eq xs ys
same_parts [] [] xs ys e = refl
same_parts [] (v ∷ vs) xs ys e = absurd (omega arith)
same_parts (u ∷ us) [] xs ys e = absurd (omega arith)
same_parts (u ∷ us) (v ∷ vs) xs ys e = ap (λ (b : Bool). (u == v) && b) (same_parts us vs xs ys (omega arith)) ∙ sym (and_assoc (u == v) (bytes_eq us vs) (bytes_eq xs ys))

module _ (run : ℕ) (xs ys : List ℕ) (a : length xs ≡ 4096) (b : length ys ≡ 4096) (within : run < 64) where
  next_run : bytes_eq (drop (64 * run) xs) (drop (64 * run) ys) ≡ bytes_eq (piece (64 * run) 64 xs) (piece (64 * run) 64 ys) && bytes_eq (drop (64 * run + 64) xs) (drop (64 * run + 64) ys)
  next_run =
      let len : length (piece (64 * run) 64 xs) ≡ length (piece (64 * run) 64 ys) = length-chunk (64 * run) 64 xs (omega arith) ∙ sym (length-chunk (64 * run) 64 ys (omega arith)) in
      ap₂ bytes_eq (chunk-drop (64 * run) 64 xs) (chunk-drop (64 * run) 64 ys) ∙ same_parts _ _ _ _ len

  pub run_same : bytes_eq (piece (64 * run) 64 xs) (piece (64 * run) 64 ys) ≡ true → bytes_eq (drop (64 * run) xs) (drop (64 * run) ys) ≡ bytes_eq xs ys
      → bytes_eq (drop (64 * (run + 1)) xs) (drop (64 * (run + 1)) ys) ≡ bytes_eq xs ys
  run_same same so_far =
      let next : 64 * (run + 1) ≡ 64 * run + 64 = omega arith in
      let rest : bytes_eq (drop (64 * run) xs) (drop (64 * run) ys) ≡ bytes_eq (drop (64 * run + 64) xs) (drop (64 * run + 64) ys) = next_run ∙ ap (λ (b : Bool). b && bytes_eq (drop (64 * run + 64) xs) (drop (64 * run + 64) ys)) same in
      ap (λ (n : ℕ). bytes_eq (drop n xs) (drop n ys)) next ∙ sym rest ∙ so_far

  pub run_differs : bytes_eq (piece (64 * run) 64 xs) (piece (64 * run) 64 ys) ≡ false → bytes_eq (drop (64 * run) xs) (drop (64 * run) ys) ≡ bytes_eq xs ys → false ≡ bytes_eq xs ys
  run_differs differ so_far = sym (sym so_far ∙ next_run ∙ ap (λ (b : Bool). b && bytes_eq (drop (64 * run + 64) xs) (drop (64 * run + 64) ys)) differ)

pub runs_over : (at : ℕ) (xs ys : List ℕ) → length xs ≤ at → length ys ≤ at → bytes_eq (drop at xs) (drop at ys) ≡ bytes_eq xs ys → true ≡ bytes_eq xs ys
runs_over at xs ys a b so_far = sym (ap₂ bytes_eq (drop_all at xs a) (drop_all at ys b)) ∙ so_far

-- Lists of classes and their bytes: laws, which the impls of `Entry` cite.
use Rattle.std.proofs.Common.{◌≡◌, ℕ, zero, suc, ◌-◌, ◌≤◌, Bool, true, false, List, [], ◌∷◌, ◌++◌, length, take, drop, map, replicate, refl, sym, ap, ◌∙◌, All, arith}
use Rattle.std.specs.Prelude.{◌==◌, ◌&&◌, nat_le, not}
use Rattle.std.specs.List.{list_all, list_any, slice_index}
use Rattle.std.proofs.lemmas.Bool.Decides.{nat_tests}
use Rattle.std.proofs.lemmas.List.Elements.{All-nil, All-cons, All-head, All-tail}
use Rattle.mas_types.specs.declared.ids.Class.{Class}
use Rattle.std.proofs.lemmas.List.{take_at, drop_at, take-append-drop, length-append, length-map, length-take, length-drop, length-replicate}
use Rattle.mas_types.specs.Fit.{IsClass, AreClasses, AreDistinct, is_class_byte}
use Rattle.mas_types.specs.Ids.{same_class}
use Rattle.lay_bytes.specs.Bytes.{are_zeros, are_different, are_classes}
use Rattle.lay_bytes.proofs.Pieces.{both_true, both_from}
use Rattle.lay_bytes.proofs.SlotLemmas.{zeros_of}
use Rattle.ckpt_tables.specs.Pages.{classes_entry}
use Rattle.ckpt_pages.specs.Fields.{classes_in}

abbrev pub class_bytes : List Class → List ℕ
class_bytes cs = map (λ c. c.0) cs

pub classes_from : (cs : List Class) → list_all is_class_byte (class_bytes cs) ≡ true → All IsClass cs
classes_from [] h = All-nil IsClass
classes_from (c ∷ cs) h =
    let parts = both_true (is_class_byte c.0) (list_all is_class_byte (class_bytes cs)) h in
    All-cons IsClass c cs parts.0 (classes_from cs parts.1)

pub classes_to : (cs : List Class) → All IsClass cs → list_all is_class_byte (class_bytes cs) ≡ true
classes_to [] h = refl
classes_to (c ∷ cs) h = both_from _ _ (All-head IsClass c cs h) (classes_to cs (All-tail IsClass c cs h))

eq_sym : (a b : ℕ) → (a == b) ≡ (b == a)
eq_sym a b = grind (arith, nat_tests)

any_same : (c : Class) (cs : List Class) → list_any (λ x. x == c.0) (class_bytes cs) ≡ list_any (same_class c) cs
any_same c [] = refl
any_same c (x ∷ xs) = rw (eq_sym x.0 c.0, any_same c xs) refl

not_true : (b : Bool) → not b ≡ true → b ≡ false
not_true false h = refl
not_true true h = absurd (cc)

pub distinct_from : (cs : List Class) → are_different (class_bytes cs) ≡ true → AreDistinct same_class cs
distinct_from [] h = tt
distinct_from (c ∷ cs) h =
    let parts = both_true (not (list_any (λ x. x == c.0) (class_bytes cs))) (are_different (class_bytes cs)) h in
    (sym (any_same c cs) ∙ not_true _ parts.0, distinct_from cs parts.1)

pub distinct_to : (cs : List Class) → AreDistinct same_class cs → are_different (class_bytes cs) ≡ true
distinct_to [] h = refl
distinct_to (c ∷ cs) h = both_from _ _ (ap not (any_same c cs ∙ h.0)) (distinct_to cs h.1)

-- READING AND WRITING

abbrev made_class : ℕ → Class
made_class b = record { 0 = b }

abbrev classes_made : List ℕ → List Class
classes_made bs = map made_class bs

made_bytes : (bs : List ℕ) → class_bytes (classes_made bs) ≡ bs
made_bytes [] = refl
made_bytes (b ∷ bs) = ap (λ (x : List ℕ). b ∷ x) (made_bytes bs)

made_classes : (cs : List Class) → classes_made (class_bytes cs) ≡ cs
made_classes [] = refl
made_classes (c ∷ cs) = ap (λ (x : List Class). c ∷ x) (made_classes cs)

zeros_all : (n : ℕ) → are_zeros (replicate n 0) ≡ true
zeros_all zero = refl
zeros_all (suc n) = zeros_all n

bytes_taken : (cs : List Class) (rest : List ℕ) → take (length cs) (class_bytes cs ++ rest) ≡ class_bytes cs
bytes_taken cs rest = take_at (class_bytes cs) rest (length cs) (length-map cs (λ (c : Class). c.0))

bytes_dropped : (cs : List Class) (rest : List ℕ) → drop (length cs) (class_bytes cs ++ rest) ≡ rest
bytes_dropped cs rest = drop_at (class_bytes cs) rest (length cs) (length-map cs (λ (c : Class). c.0))

pub classes_size : (cs : List Class) → length cs ≤ 36 → length (classes_entry cs) ≡ 37
classes_size cs few = omega (
  arith,
  length-append (class_bytes cs) (replicate (36 - length cs) 0),
  length-map cs (λ (c : Class). c.0),
  length-replicate {A = ℕ} (36 - length cs) 0,
)

pub classes_stand : (cs : List Class) → AreClasses cs → are_classes (classes_entry cs) ≡ true
classes_stand cs h =
    let zeros : List ℕ = replicate (36 - length cs) 0 in
    let one : nat_le 1 (length cs) ≡ true = least cs h.some in
    let few : nat_le (length cs) 36 ≡ true = most cs h.few in
    rw (bytes_taken cs (replicate (36 - length cs) 0), bytes_dropped cs (replicate (36 - length cs) 0))
    (both_from _ _ (both_from _ _ (both_from _ _ (both_from _ _ one few) (classes_to cs h.each))
    (distinct_to cs h.distinct)) (zeros_all (36 - length cs)))
  where
    least : (cs : List Class) → 1 ≤ length cs → nat_le 1 (length cs) ≡ true
    least cs h = grind (arith, nat_tests)

    most : (cs : List Class) → length cs ≤ 36 → nat_le (length cs) 36 ≡ true
    most cs h = grind (arith, nat_tests)

pub classes_again : (cs : List Class) → classes_in (classes_entry cs) ≡ cs
classes_again cs = ap classes_made (bytes_taken cs (replicate (36 - length cs) 0)) ∙ made_classes cs

-- the first n bytes are classes, all different, and zeros follow
pub record AreCounted (n : ℕ) (bs : List ℕ) : Type 0 where
  pub some : 1 ≤ n
  pub few : n ≤ 36
  pub each : list_all is_class_byte (take n bs) ≡ true
  pub different : are_different (take n bs) ≡ true
  pub rest : are_zeros (drop n bs) ≡ true

pub counted_from : (n : ℕ) (bs : List ℕ) → are_classes (n ∷ bs) ≡ true → AreCounted n bs
counted_from n bs h =
    let a = both_true (nat_le 1 n && nat_le n 36 && list_all is_class_byte (take n bs) && are_different (take n bs))
    (are_zeros (drop n bs)) h in
    let b = both_true (nat_le 1 n && nat_le n 36 && list_all is_class_byte (take n bs)) (are_different (take n bs)) a.0
    in
    let c = both_true (nat_le 1 n && nat_le n 36) (list_all is_class_byte (take n bs)) b.0 in
    let d = both_true (nat_le 1 n) (nat_le n 36) c.0 in
    record { some = least n d.0; few = most n d.1; each = c.1; different = b.1; rest = a.1 }
  where
    least : (n : ℕ) → nat_le 1 n ≡ true → 1 ≤ n
    least n h = grind (arith, nat_tests)

    most : (n : ℕ) → nat_le n 36 ≡ true → n ≤ 36
    most n h = grind (arith, nat_tests)

pub classes_take : (p : List ℕ) → length p ≡ 37 → are_classes p ≡ true → AreClasses (classes_in p)
    × (classes_entry (classes_in p) ≡ p)
classes_take [] len h = absurd (omega (arith, len))
classes_take (n ∷ bs) len h =
    let k = counted_from n bs h in
    let size : length (take n bs) ≡ n = omega (arith, length-take n bs, len, k.few) in
    let count : length (classes_made (take n bs)) ≡ n = omega (arith, length-map (take n bs) made_class, size) in
    let back : class_bytes (classes_made (take n bs)) ≡ take n bs = made_bytes (take n bs) in
    let tail : drop n bs ≡ replicate (36 - n) 0 = zeros_of (36 - n) (drop n bs) k.rest
    (omega (arith, length-drop n bs, len)) in (
      record {
        some = omega (arith, count, k.some);
        few = omega (arith, count, k.few);
        each = classes_from (classes_made (take n bs)) (ap (list_all is_class_byte) back ∙ k.each);
        distinct = distinct_from (classes_made (take n bs)) (ap are_different back ∙ k.different);
      },
      ap (λ (c : ℕ). c ∷ (class_bytes (classes_made (take n bs)) ++ replicate (36 - c) 0)) count
          ∙ ap (λ (x : List ℕ). n ∷ (x ++ replicate (36 - n) 0)) back
          ∙ ap (λ (x : List ℕ). n ∷ (take n bs ++ x)) (sym tail)
          ∙ ap (λ (x : List ℕ). n ∷ x) (take-append-drop n bs),
    )

-- how many classes there are at most
pub few_classes : (p : List ℕ) → length p ≡ 37 → are_classes p ≡ true → slice_index p 0 ≤ 36
few_classes [] len h = absurd (omega (arith, len))
few_classes (n ∷ bs) len h = (counted_from n bs h).few

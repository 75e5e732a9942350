-- How many acts the reads of pages make.
use Rattle.std.proofs.Common.{◌≡◌, ◌||◌, ℕ, zero, suc, ◌+◌, Bool, true, false, refl, sym, ◌∙◌, ap, arith}
use Rattle.spool_plant.specs.Acts.{next}
use Rattle.duplex_pair.specs.ActCounts.{after_acts, failed_in, copies_failed, one_left, read_acts}
use Rattle.duplex_pair.proofs.Composing.{no}

-- a read that the first copy answered, or in whose act on it the member was stopped
pub read_first : (was is other : Bool) (old new : ℕ) → (is ≡ true → was ≡ true) → is ≡ true → (was ≡ true → new ≡ next old) → new ≡ after_acts (read_acts was is other other) old
read_first true true true old new alive here one = one refl
read_first true true false old new alive here one = one refl
read_first false true other old new alive here one = absurd (no false (alive refl) refl)
read_first true false other old new alive here one = absurd (no false here refl)
read_first false false other old new alive here one = absurd (no false here refl)

-- a read that went on with the second copy
on_second : (was1 was2 is2 : Bool) (old mid new : ℕ) → (is2 ≡ true → was2 ≡ true) → (was1 ≡ true → mid ≡ next old) → (was1 ≡ false → mid ≡ old) → (was2 ≡ true → new ≡ next mid) → (was2 ≡ false → new ≡ mid)
    → new ≡ after_acts (read_acts was1 false was2 is2) old
on_second true true true old mid new alive one idle more rest = more refl ∙ ap next (one refl)
on_second true true false old mid new alive one idle more rest = more refl ∙ ap next (one refl)
on_second true false true old mid new alive one idle more rest = absurd (no false (alive refl) refl)
on_second true false false old mid new alive one idle more rest = rest refl ∙ one refl
on_second false true true old mid new alive one idle more rest = more refl ∙ ap next (idle refl)
on_second false true false old mid new alive one idle more rest = more refl ∙ ap next (idle refl)
on_second false false true old mid new alive one idle more rest = absurd (no false (alive refl) refl)
on_second false false false old mid new alive one idle more rest = rest refl ∙ idle refl

pub read_second : (was1 is1 was2 is2 : Bool) (old mid new : ℕ) → is1 ≡ false → (is2 ≡ true → was2 ≡ true) → (was1 ≡ true → mid ≡ next old) → (was1 ≡ false → mid ≡ old) → (was2 ≡ true → new ≡ next mid) → (was2 ≡ false → new ≡ mid)
    → new ≡ after_acts (read_acts was1 is1 was2 is2) old
read_second was1 true was2 is2 old mid new lost alive one idle more rest = absurd (no true refl lost)
read_second was1 false was2 is2 old mid new lost alive one idle more rest = on_second was1 was2 is2 old mid new alive one idle more rest

-- the moment after some acts, and after so many more
pub after_more : (more acts moment : ℕ) → after_acts (more + acts) moment ≡ after_acts more (after_acts acts moment)
after_more zero acts moment =
    let e : zero + acts ≡ acts = omega arith in
    ap (λ (n : ℕ). after_acts n moment) e
after_more (suc more) acts moment =
    let e : suc more + acts ≡ suc (more + acts) = omega arith in
    ap (λ (n : ℕ). after_acts n moment) e ∙ ap next (after_more more acts moment)

-- the copies that failed in two calls, one after the other
pub failed_then : (was mid is : Bool) → (mid ≡ true → was ≡ true) → (is ≡ true → mid ≡ true) → failed_in was mid + failed_in mid is ≡ failed_in was is
failed_then true true true first then = refl
failed_then true true false first then = refl
failed_then true false true first then = absurd (no false (then refl) refl)
failed_then true false false first then = refl
failed_then false true is first then = absurd (no false (first refl) refl)
failed_then false false true first then = absurd (no false (then refl) refl)
failed_then false false false first then = refl

one_is_left : (first second : Bool) → (first || second) ≡ true → one_left first second ≡ 1
one_is_left true second is = refl
one_is_left false true is = refl
one_is_left false false is = absurd (no false is refl)

-- where nothing was called, no act was made and no copy failed
pub no_acts : (first second : Bool) (moment : ℕ) → moment ≡ after_acts (0 + copies_failed first first second second) moment
no_acts true true moment = refl
no_acts true false moment = refl
no_acts false true moment = refl
no_acts false false moment = refl

one_more : (failed one : ℕ) → one ≡ 1 → failed + one ≡ 1 + failed
one_more failed one is = omega (arith, is)

-- a read that leaves a copy alive makes one act, and one for each copy that failed in it
pub one_read : (was1 is1 was2 is2 : Bool) (old new : ℕ) → (is1 || is2) ≡ true → new ≡ after_acts (read_acts was1 is1 was2 is2) old → new ≡ after_acts (1 + copies_failed was1 is1 was2 is2) old
one_read was1 is1 was2 is2 old new some read =
    let e : copies_failed was1 is1 was2 is2 + one_left is1 is2 ≡ 1 + copies_failed was1 is1 was2 is2 = one_more (copies_failed was1 is1 was2 is2) (one_left is1 is2) (one_is_left is1 is2 some) in
    read ∙ ap (λ (n : ℕ). after_acts n old) e

add_up : (m n f1 f2 g1 g2 h1 h2 : ℕ) → f1 + g1 ≡ h1 → f2 + g2 ≡ h2 → (n + (g1 + g2)) + (m + (f1 + f2)) ≡ (m + n) + (h1 + h2)
add_up m n f1 f2 g1 g2 h1 h2 e1 e2 = omega (arith, e1, e2)

-- so many acts and so many more, and one for each copy that failed
pub acts_then : (m n : ℕ) (was1 mid1 is1 was2 mid2 is2 : Bool) (old mid new : ℕ) → (mid1 ≡ true → was1 ≡ true) → (is1 ≡ true → mid1 ≡ true) → (mid2 ≡ true → was2 ≡ true) → (is2 ≡ true → mid2 ≡ true)
    → mid ≡ after_acts (m + copies_failed was1 mid1 was2 mid2) old → new ≡ after_acts (n + copies_failed mid1 is1 mid2 is2) mid → new ≡ after_acts ((m + n) + copies_failed was1 is1 was2 is2) old
acts_then m n was1 mid1 is1 was2 mid2 is2 old mid new first1 then1 first2 then2 first more =
    let a : ℕ = m + copies_failed was1 mid1 was2 mid2 in
    let b : ℕ = n + copies_failed mid1 is1 mid2 is2 in
    let e : b + a ≡ (m + n) + copies_failed was1 is1 was2 is2 = add_up m n (failed_in was1 mid1) (failed_in was2 mid2) (failed_in mid1 is1) (failed_in mid2 is2) (failed_in was1 is1) (failed_in was2 is2)
    (failed_then was1 mid1 is1 first1 then1) (failed_then was2 mid2 is2 first2 then2) in
    more ∙ (ap (λ (k : ℕ). after_acts b k) first ∙ (sym (after_more b a old) ∙ ap (λ (k : ℕ). after_acts k old) e))

-- The bytes at a slot.
use Rattle.std.proofs.Common.{◌≡◌, ℕ, ◌+◌, ◌<◌, ◌==◌, Bool, true, false, if◌then◌else◌, List, [], ◌∷◌, ◌++◌, ◌⊎◌, inl, inr, ⊎_elim, nat_le, ◌≤◌, length, replicate, length-append, get_or, set, Vec, suc, zero, refl, subst, sym, ◌∙◌, ap, arith}
use Rattle.std.specs.Prelude.{Result, Ok, Err, is_ok, IfOk, IfErr}
use Rattle.std.specs.declared.alloc.AllocError.{AllocError}
use Rattle.std.specs.declared.alloc.Global.{Global}
use Rattle.std.proofs.lemmas.Bool.Decides.{nat_tests}
use Rattle.spool_disk.specs.Standing.{bytes_at}
use Rattle.spool_disk.specs.Deeds.{overwrite}

pub at_get : (vs : List (Vec ℕ Global)) (s : ℕ) (d : Vec ℕ Global) → s < length vs → bytes_at vs s ≡ (get_or vs s d).items
at_get [] s d lt = absurd (omega arith)
at_get (v ∷ vs) zero d lt = refl
at_get (v ∷ vs) (suc s) d lt = at_get vs s d (omega arith)

pub at_set_same : (vs : List (Vec ℕ Global)) (s : ℕ) (w : Vec ℕ Global) → s < length vs → bytes_at (set vs s w) s ≡ w.items
at_set_same [] s w lt = absurd (omega arith)
at_set_same (v ∷ vs) zero w lt = refl
at_set_same (v ∷ vs) (suc s) w lt = at_set_same vs s w (omega arith)

pub at_set_other : (vs : List (Vec ℕ Global)) (s k : ℕ) (w : Vec ℕ Global) → (k ≡ s → ⊥) → bytes_at (set vs s w) k ≡ bytes_at vs k
at_set_other [] s k w ne = refl
at_set_other (v ∷ vs) zero zero w ne = absurd (ne refl)
at_set_other (v ∷ vs) zero (suc k) w ne = refl
at_set_other (v ∷ vs) (suc s) zero w ne = refl
at_set_other (v ∷ vs) (suc s) (suc k) w ne = at_set_other vs s k w (λ e. ne (omega arith))

pub after_put : (vs : List (Vec ℕ Global)) (slot at : ℕ) (bytes : List ℕ) (d w : Vec ℕ Global) → slot < length vs → d.items ≡ bytes_at vs slot → w.items ≡ overwrite at bytes d.items
    → (s : ℕ) → bytes_at (set vs slot w) s ≡ (if slot == s then overwrite at bytes (bytes_at vs s) else bytes_at vs s)
after_put vs slot at bytes d w lt was is s = by_test (slot == s) refl where
  by_test : (b : Bool) → (slot == s) ≡ b → bytes_at (set vs slot w) s ≡ (if b then overwrite at bytes (bytes_at vs s) else bytes_at vs s)
  by_test true e =
      let same : slot ≡ s = grind (arith, nat_tests) in
      subst (λ (k : ℕ). bytes_at (set vs slot w) k ≡ overwrite at bytes (bytes_at vs k)) same (at_set_same vs slot w lt ∙ is ∙ ap (overwrite at bytes) was)
  by_test false e = at_set_other vs slot s w (λ same. let f : (slot == slot) ≡ false = subst (λ (k : ℕ). (slot == k) ≡ false) same e in grind (arith, nat_tests))

pub after_clear : (vs : List (Vec ℕ Global)) (slot : ℕ) (d w : Vec ℕ Global) → slot < length vs → d.items ≡ bytes_at vs slot → w.items ≡ replicate (length d.items) 0
    → (s : ℕ) → bytes_at (set vs slot w) s ≡ (if slot == s then replicate (length (bytes_at vs s)) 0 else bytes_at vs s)
after_clear vs slot d w lt was is s = by_test (slot == s) refl where
  by_test : (b : Bool) → (slot == s) ≡ b → bytes_at (set vs slot w) s ≡ (if b then replicate (length (bytes_at vs s)) 0 else bytes_at vs s)
  by_test true e =
      let same : slot ≡ s = grind (arith, nat_tests) in
      subst (λ (k : ℕ). bytes_at (set vs slot w) k ≡ replicate (length (bytes_at vs k)) 0) same (at_set_same vs slot w lt ∙ is ∙ ap (λ (l : List ℕ). replicate (length l) 0) was)
  by_test false e = at_set_other vs slot s w (λ same. let f : (slot == slot) ≡ false = subst (λ (k : ℕ). (slot == k) ≡ false) same e in grind (arith, nat_tests))

-- one device more
pub at_push : (vs : List (Vec ℕ Global)) (w : Vec ℕ Global) (s : ℕ) → s ≡ length vs → bytes_at (vs ++ w ∷ []) s ≡ w.items
at_push [] w s e = subst (λ (n : ℕ). bytes_at (w ∷ []) n ≡ w.items) (sym e) refl
at_push (v ∷ vs) w zero e = absurd (omega arith)
at_push (v ∷ vs) w (suc s) e = at_push vs w s (omega arith)

pub at_push_before : (vs : List (Vec ℕ Global)) (w : Vec ℕ Global) (s : ℕ) → s < length vs → bytes_at (vs ++ w ∷ []) s ≡ bytes_at vs s
at_push_before [] w s lt = absurd (omega arith)
at_push_before (v ∷ vs) w zero lt = refl
at_push_before (v ∷ vs) w (suc s) lt = at_push_before vs w s (omega arith)

pub at_past : (vs : List (Vec ℕ Global)) (s : ℕ) → length vs ≤ s → bytes_at vs s ≡ []
at_past [] s le = refl
at_past (v ∷ vs) zero le = absurd (omega arith)
at_past (v ∷ vs) (suc s) le = at_past vs s (omega arith)

-- what holds of each device so far, and of the next
pub each_push : (vs : List (Vec ℕ Global)) (w : Vec ℕ Global) (f : ℕ → List ℕ) → ((s : ℕ) → s < length vs → bytes_at vs s ≡ f s) → w.items ≡ f (length vs) → (s : ℕ) → s < length vs + 1 → bytes_at (vs ++ w ∷ []) s ≡ f s
each_push vs w f so_far here s lt = ⊎_elim
    (λ before. at_push_before vs w s before ∙ so_far s before)
    (λ same. at_push vs w s same ∙ here ∙ ap f (sym same))
    (below_or_at s (length vs) lt) where
      below_or_at : (s n : ℕ) → s < n + 1 → (s < n) ⊎ (s ≡ n)
      below_or_at s n lt = by_test (s == n) refl where
        by_test : (b : Bool) → (s == n) ≡ b → (s < n) ⊎ (s ≡ n)
        by_test true e = inr (grind (arith, nat_tests))
        by_test false e = inl (grind (arith, nat_tests))

pub each_or_past : (vs ws : List (Vec ℕ Global)) → length vs ≡ length ws → ((s : ℕ) → s < length ws → bytes_at vs s ≡ bytes_at ws s) → (s : ℕ) → bytes_at vs s ≡ bytes_at ws s
each_or_past vs ws many each s = ⊎_elim
    (λ le. at_past vs s (omega (arith, many)) ∙ sym (at_past ws s le))
    (λ lt. each s lt)
    (split (length ws) s) where
      split : (n s : ℕ) → (n ≤ s) ⊎ (s < n)
      split n s = by_test (nat_le n s) refl where
        by_test : (b : Bool) → nat_le n s ≡ b → (n ≤ s) ⊎ (s < n)
        by_test true e = inl (grind (arith, nat_tests))
        by_test false e = inr (grind (arith, nat_tests))

-- a loop makes the devices' bytes one by one: its next step
pub each_more : (vs ws : List (Vec ℕ Global)) (w : Vec ℕ Global) (f : ℕ → List ℕ) (i : ℕ) → length vs ≡ i → ws ≡ vs ++ w ∷ [] → ((s : ℕ) → s < i → bytes_at vs s ≡ f s) → w.items ≡ f i
    → (length ws ≡ i + 1) × ((s : ℕ) → s < i + 1 → bytes_at ws s ≡ f s)
each_more vs ws w f i many is so_far here = (
  ap (λ (l : List (Vec ℕ Global)). length l) is ∙ length-append vs (w ∷ []) ∙ ap (λ (n : ℕ). n + 1) many,
  λ s lt. ap (λ (l : List (Vec ℕ Global)). bytes_at l s) is ∙ each_push vs w f (λ k h. so_far k (omega (arith, h, many))) (here ∙ sym (ap f many)) s (omega (arith, lt, many)),
)

-- a loop makes the devices' bytes one by one, and a fact holds of each: its next step
pub all_more : (P : ℕ → List ℕ → Type 0) (vs ws : List (Vec ℕ Global)) (w : Vec ℕ Global) (i : ℕ) → length vs ≡ i → ws ≡ vs ++ w ∷ [] → ((s : ℕ) → s < i → P s (bytes_at vs s)) → P i w.items
    → (length ws ≡ i + 1) × ((s : ℕ) → s < i + 1 → P s (bytes_at ws s))
all_more P vs ws w i many is so_far here = (
  ap (λ (l : List (Vec ℕ Global)). length l) is ∙ length-append vs (w ∷ []) ∙ ap (λ (n : ℕ). n + 1) many,
  λ s lt. subst (λ (l : List (Vec ℕ Global)). P s (bytes_at l s)) (sym is) (⊎_elim
      (λ before. let lt' : s < length vs = omega (arith, before, many) in subst (P s) (sym (at_push_before vs w s lt')) (so_far s before))
      (λ same. let at : s ≡ length vs = omega (arith, same, many) in subst (P s) (sym (at_push vs w s at)) (subst (λ (k : ℕ). P k w.items) (sym same) here))
      (below_or_at s i lt)),
)
  where
    below_or_at : (s n : ℕ) → s < n + 1 → (s < n) ⊎ (s ≡ n)
    below_or_at s n lt = by_test (s == n) refl where
      by_test : (b : Bool) → (s == n) ≡ b → (s < n) ⊎ (s ≡ n)
      by_test true e = inr (grind (arith, nat_tests))
      by_test false e = inl (grind (arith, nat_tests))

-- no bytes anywhere
pub none_more : (vs : List (Vec ℕ Global)) (w : Vec ℕ Global) → ((s : ℕ) → bytes_at vs s ≡ []) → w.items ≡ [] → (s : ℕ) → bytes_at (vs ++ w ∷ []) s ≡ []
none_more [] w none empty zero = empty
none_more [] w none empty (suc s) = refl
none_more (v ∷ vs) w none empty zero = none zero
none_more (v ∷ vs) w none empty (suc s) = none_more vs w (λ k. none (suc k)) empty s

-- more bytes at a slot, where there is memory for them
module _ (vs : List (Vec ℕ Global)) (slot : ℕ) (bytes : List ℕ) (d w : Vec ℕ Global) (lt : slot < length vs) (was : d.items ≡ bytes_at vs slot) where
  pub extended : (r : Result (Unit {0}) AllocError) → w.items ≡ (if is_ok r then d.items ++ bytes else d.items) → IfOk r (λ u. (s : ℕ) → bytes_at (set vs slot w) s ≡ (if slot == s then bytes_at vs s ++ bytes else bytes_at vs s))
  extended (Err e) is = tt
  extended (Ok u) is = λ s. by_test is s (slot == s) refl where
    by_test : w.items ≡ d.items ++ bytes → (s : ℕ) (b : Bool) → (slot == s) ≡ b → bytes_at (set vs slot w) s ≡ (if b then bytes_at vs s ++ bytes else bytes_at vs s)
    by_test is s true e =
        let same : slot ≡ s = grind (arith, nat_tests) in
        subst (λ (k : ℕ). bytes_at (set vs slot w) k ≡ bytes_at vs k ++ bytes) same (at_set_same vs slot w lt ∙ is ∙ ap (λ (l : List ℕ). l ++ bytes) was)
    by_test is s false e = at_set_other vs slot s w (λ same. let f : (slot == slot) ≡ false = subst (λ (k : ℕ). (slot == k) ≡ false) same e in grind (arith, nat_tests))

  pub not_extended : (r : Result (Unit {0}) AllocError) → w.items ≡ (if is_ok r then d.items ++ bytes else d.items) → IfErr r (λ e. (s : ℕ) → bytes_at (set vs slot w) s ≡ bytes_at vs s)
  not_extended (Ok u) is = tt
  not_extended (Err e) is = λ s. by_test is s (slot == s) refl where
    by_test : w.items ≡ d.items → (s : ℕ) (b : Bool) → (slot == s) ≡ b → bytes_at (set vs slot w) s ≡ bytes_at vs s
    by_test is s true e =
        let same : slot ≡ s = grind (arith, nat_tests) in
        subst (λ (k : ℕ). bytes_at (set vs slot w) k ≡ bytes_at vs k) same (at_set_same vs slot w lt ∙ is ∙ was)
    by_test is s false e = at_set_other vs slot s w (λ same. let f : (slot == slot) ≡ false = subst (λ (k : ℕ). (slot == k) ≡ false) same e in grind (arith, nat_tests))

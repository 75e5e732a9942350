-- Where pages stand under the slots of a log.
use Rattle.std.proofs.Common.{◌≡◌, ◌⊎◌, inl, inr, ⊎_elim, ℕ, zero, suc, ◌+◌, ◌≤◌, ◌<◌, ◌==◌, Bool, true, false, if◌then◌else◌, List, [], ◌∷◌, length, refl, sym, ◌∙◌, ap, arith}
use Rattle.std.proofs.lemmas.Bool.Decides.{nat_tests}
use Rattle.ckpt_copy.specs.Moments.{either_way}
use Rattle.change_log.specs.Logs.{home_block, image_block, laid, place}
use Rattle.change_log.specs.LogStates.{with_list}

-- in the block `at` a page stands where it stood, or in one of so many images from block b on
abbrev IsWithin : ℕ → ℕ → ℕ → ℕ → Type 0
IsWithin b many under at = (at ≡ under) ⊎ ((b ≤ at) × (at < b + many))

within_next : (b many under at : ℕ) → IsWithin (b + 1) many under at → IsWithin b (suc many) under at
within_next b many under at (inl e) = inl e
within_next b many under at (inr w) = let lo = w.0 in let hi = w.1 in inr (omega (arith, lo), omega (arith, hi))

within_first : (b many under at : ℕ) → IsWithin (b + 1) many b at → IsWithin b (suc many) under at
within_first b many under at (inl e) = inr (omega (arith, e), omega (arith, e))
within_first b many under at (inr w) = let lo = w.0 in let hi = w.1 in inr (omega (arith, lo), omega (arith, hi))

pub laid_within : (b p : ℕ) (numbers : List ℕ) (under : ℕ) → (laid b p numbers under ≡ under)
    ⊎ ((b ≤ laid b p numbers under) × (laid b p numbers under < b + length numbers))
laid_within b p [] under = inl refl
laid_within b p (x ∷ numbers) under =
    by_hit (x == p) (within_next b (length numbers) under _ (laid_within (b + 1) p numbers under))
    (within_first b (length numbers) under _ (laid_within (b + 1) p numbers b))
  where
    by_hit : (hit : Bool) → IsWithin b (suc (length numbers)) under (laid (b + 1) p numbers under)
        → IsWithin b (suc (length numbers)) under (laid (b + 1) p numbers b)
        → IsWithin b (suc (length numbers)) under (laid (b + 1) p numbers (if hit then b else under))
    by_hit false miss hit = miss
    by_hit true miss hit = hit

-- where a page is listed it is the same whatever it lies over, and else it stays
pub laid_either : (b p : ℕ) (numbers : List ℕ) (u v : ℕ) → (laid b p numbers u ≡ laid b p numbers v)
    ⊎ ((laid b p numbers u ≡ u) × (laid b p numbers v ≡ v))
laid_either b p [] u v = inr (refl, refl)
laid_either b p (x ∷ numbers) u v = by_hit (x == p) (laid_either (b + 1) p numbers u v) where
  by_hit : (hit : Bool) → (laid (b + 1) p numbers u ≡ laid (b + 1) p numbers v)
      ⊎ ((laid (b + 1) p numbers u ≡ u) × (laid (b + 1) p numbers v ≡ v))
      → (laid (b + 1) p numbers (if hit then b else u) ≡ laid (b + 1) p numbers (if hit then b else v))
      ⊎ ((laid (b + 1) p numbers (if hit then b else u) ≡ u) × (laid (b + 1) p numbers (if hit then b else v) ≡ v))
  by_hit false either = either
  by_hit true either = inl refl

past_on : (n p was at : ℕ) → at ≡ was → (was ≡ home_block p) ⊎ (1 + n < was) → (at ≡ home_block p) ⊎ (1 + n < at)
past_on n p was at e (inl h) = inl (e ∙ h)
past_on n p was at e (inr lt) = inr (omega (arith, e, lt))

-- a page stands at home, or after the home pages
pub place_past : (n p : ℕ) (lists : ℕ → List ℕ) (k : ℕ) → (place n p lists k ≡ home_block p)
    ⊎ (1 + n < place n p lists k)
place_past n p lists zero = inl refl
place_past n p lists (suc s) = ⊎_elim
    (λ e. past_on n p (place n p lists s) (place n p lists (suc s)) e (place_past n p lists s))
    (λ w. let lo = w.0 in inr (omega (arith, lo)))
    (laid_within (image_block n s 0) p (lists s) (place n p lists s))

-- the place of a page depends on the lists of the slots alone
pub place_same : (n p : ℕ) (f g : ℕ → List ℕ) (k : ℕ) → ((s : ℕ) → s < k → f s ≡ g s) → place n p f k ≡ place n p g k
place_same n p f g zero same = refl
place_same n p f g (suc s) same =
    ap (λ (l : List ℕ). laid (image_block n s 0) p l (place n p f s)) (same s (omega arith))
    ∙ ap (λ (u : ℕ). laid (image_block n s 0) p (g s) u) (place_same n p f g s (λ j lt. same j (omega (arith, lt))))

-- with no slot open a page stands at home
pub place_closed : (n p : ℕ) (f : ℕ → List ℕ) (k : ℕ) → ((s : ℕ) → s < k → f s ≡ []) → place n p f k ≡ home_block p
place_closed n p f zero none = refl
place_closed n p f (suc s) none =
    ap (λ (l : List ℕ). laid (image_block n s 0) p l (place n p f s)) (none s (omega arith)) ∙ place_closed n p f s
    (λ j lt. none j (omega (arith, lt)))

-- slots that list nothing move no page
pub place_from : (n p : ℕ) (f : ℕ → List ℕ) (s k : ℕ) → s ≤ k → ((j : ℕ) → s ≤ j → f j ≡ [])
    → place n p f k ≡ place n p f s
place_from n p f s zero le none = let e : zero ≡ s = omega (arith, le) in ap (λ (m : ℕ). place n p f m) e
place_from n p f s (suc m) le none = ⊎_elim
    (λ h. ap (λ (l : List ℕ). laid (image_block n m 0) p l (place n p f m)) (none m h) ∙ place_from n p f s m h none)
    (λ h. let e : suc m ≡ s = omega (arith, le, h) in ap (λ (j : ℕ). place n p f j) e)
    (either_way s m)

same_test : (s : ℕ) → (s == s) ≡ true
same_test s = grind (arith, nat_tests)

less_test : (j s : ℕ) → j < s → (j == s) ≡ false
less_test j s lt = grind (arith, nat_tests)

test_same : (j s : ℕ) → (j == s) ≡ true → j ≡ s
test_same j s is = grind (arith, nat_tests)

pub with_here : (s : ℕ) (numbers : List ℕ) (f : ℕ → List ℕ) → with_list s numbers f s ≡ numbers
with_here s numbers f = ap (λ (b : Bool). if b then numbers else f s) (same_test s)

pub with_other : (s : ℕ) (numbers : List ℕ) (f : ℕ → List ℕ) (j : ℕ) → (j == s) ≡ false → with_list s numbers f j ≡ f j
with_other s numbers f j is = ap (λ (b : Bool). if b then numbers else f j) is

-- a slot that is given the list that it has stays as it is
pub with_same : (s : ℕ) (numbers : List ℕ) (f : ℕ → List ℕ) → f s ≡ numbers → (j : ℕ) → with_list s numbers f j ≡ f j
with_same s numbers f e j = by_test (j == s) refl where
  by_test : (b : Bool) → (j == s) ≡ b → with_list s numbers f j ≡ f j
  by_test true is = ap (λ (b : Bool). if b then numbers else f j) is ∙ sym e ∙ sym (ap f (test_same j s is))
  by_test false is = with_other s numbers f j is

-- a slot that was closed, as are all after it, is opened: its images lie over all others
pub place_opened : (n p s : ℕ) (numbers : List ℕ) (f : ℕ → List ℕ) (k : ℕ) → s < k → ((j : ℕ) → s ≤ j → f j ≡ [])
    → place n p (with_list s numbers f) k ≡ laid (image_block n s 0) p numbers (place n p f k)
place_opened n p s numbers f k lt none =
    place_from n p (with_list s numbers f) (suc s) k (omega (arith, lt)) above
    ∙ ap (λ (l : List ℕ). laid (image_block n s 0) p l (place n p (with_list s numbers f) s)) (with_here s numbers f)
    ∙ ap (λ (u : ℕ). laid (image_block n s 0) p numbers u)
    (place_same n p (with_list s numbers f) f s (λ j h. with_other s numbers f j (less_test j s h)) ∙ sym
    (place_from n p f s k (omega (arith, lt)) none))
  where
    above : (j : ℕ) → suc s ≤ j → with_list s numbers f j ≡ []
    above j le = let e : (j == s) ≡ false = grind (arith, nat_tests) in with_other s numbers f j e ∙ none j
        (omega (arith, le))

-- The lowest slot that is open is closed: each page stands where it stood, or at home.
pub place_without : (n p s : ℕ) (f : ℕ → List ℕ) → ((j : ℕ) → j < s → f j ≡ []) → (k : ℕ)
    → (place n p (with_list s [] f) k ≡ place n p f k) ⊎ (place n p (with_list s [] f) k ≡ home_block p)
place_without n p s f below zero = inl refl
place_without n p s f below (suc m) = by_test (m == s) refl (place_without n p s f below m) where
  none : (j : ℕ) → (b : Bool) → (j == s) ≡ b → j < suc s → with_list s [] f j ≡ []
  none j true is lt = ap (λ (b : Bool). if b then [] else f j) is
  none j false is lt = let ne : j < s = grind (arith, nat_tests, is, lt) in with_other s [] f j is ∙ below j ne

  rest : with_list s [] f m ≡ f m → (place n p (with_list s [] f) m ≡ place n p f m)
      ⊎ (place n p (with_list s [] f) m ≡ home_block p)
      → (place n p (with_list s [] f) (suc m) ≡ place n p f (suc m))
      ⊎ (place n p (with_list s [] f) (suc m) ≡ home_block p)
  rest e (inl same) =
      inl (ap (λ (l : List ℕ). laid (image_block n m 0) p l (place n p (with_list s [] f) m)) e ∙ ap
      (λ (u : ℕ). laid (image_block n m 0) p (f m) u) same)
  rest e (inr home) =
      let on : place n p (with_list s [] f) (suc m)
      ≡ laid (image_block n m 0) p (f m) (place n p (with_list s [] f) m) =
      ap (λ (l : List ℕ). laid (image_block n m 0) p l (place n p (with_list s [] f) m)) e in
      ⊎_elim (λ either. inl (on ∙ either)) (λ both. inr (on ∙ both.0 ∙ home))
      (laid_either (image_block n m 0) p (f m) (place n p (with_list s [] f) m) (place n p f m))

  by_test : (b : Bool) → (m == s) ≡ b → (place n p (with_list s [] f) m ≡ place n p f m)
      ⊎ (place n p (with_list s [] f) m ≡ home_block p)
      → (place n p (with_list s [] f) (suc m) ≡ place n p f (suc m))
      ⊎ (place n p (with_list s [] f) (suc m) ≡ home_block p)
  by_test true is before = let e : m
      ≡ s = test_same m s is in inr (place_closed n p (with_list s [] f) (suc m)
      (λ j lt. none j (j == s) refl (omega (arith, lt, e))))
  by_test false is before = rest (with_other s [] f m is) before

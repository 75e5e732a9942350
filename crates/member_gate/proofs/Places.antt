-- Marks of places, and the entries that they pick.
use Rattle.std.proofs.Common.{◌≡◌, ◌≢◌, ℕ, zero, suc, ◌-◌, ◌<◌, ◌≤◌, ◌⊎◌, Bool, true, false, List, [], ◌∷◌, ◌++◌, length, get_or, refl, sym, ap, subst, ◌∙◌, inl, inr, ⊎_elim, arith}
use Rattle.std.proofs.lemmas.List.{length-append, length-replicate, get_or_append_left, get_or-append_right, get_or-replicate}
use Rattle.std.proofs.Math.ListN.{replicate}
use Rattle.gate_facts.specs.Values.{StartsWith, marked_at, number_at}
use Rattle.member_gate.specs.Marking.{marked, fitted, grown, single, either_of, longer, greater, greatest, head_or, tail_of, chosen}
use Rattle.gate_facts.proofs.Lists.{true_false, not_true}

false_is_true : {A : Type 0} → false ≡ true → A
false_is_true e = cc

pub fitted_length : (n : ℕ) (bs : List Bool) → length (fitted n bs) ≡ n
fitted_length zero bs = refl
fitted_length (suc n) [] = let r = fitted_length n [] in omega arith
fitted_length (suc n) (b ∷ bs) = let r = fitted_length n bs in omega arith

pub grown_length : (bs : List Bool) (n k : ℕ) → n ≤ k → length (grown bs n k) ≡ k
grown_length bs n k le = let a = length-append (fitted n bs) (replicate (k - n) true) in let b = fitted_length n bs in let c = length-replicate (k - n) true in omega arith

pub true_within : (bs : List Bool) (j : ℕ) → get_or bs j false ≡ true → j < length bs
true_within [] j e = false_is_true e
true_within (b ∷ bs) zero e = omega arith
true_within (b ∷ bs) (suc j) e = let r = true_within bs j e in omega arith

pub fitted_at : (n : ℕ) (bs : List Bool) (j : ℕ) → j < n → get_or (fitted n bs) j false ≡ get_or bs j false
fitted_at zero bs j h = absurd (omega arith)
fitted_at (suc n) [] zero h = refl
fitted_at (suc n) [] (suc j) h = fitted_at n [] j (omega arith)
fitted_at (suc n) (b ∷ bs) zero h = refl
fitted_at (suc n) (b ∷ bs) (suc j) h = fitted_at n bs j (omega arith)

pub grown_at : (bs : List Bool) (n k j : ℕ) → j < n → get_or (grown bs n k) j false ≡ get_or bs j false
grown_at bs n k j h = let l = fitted_length n bs in get_or_append_left (fitted n bs) (replicate (k - n) true) false j (omega arith) ∙ fitted_at n bs j h

pub grown_new : (bs : List Bool) (n k j : ℕ) → n ≤ j → j < k → get_or (grown bs n k) j false ≡ true
grown_new bs n k j le lt = let l = fitted_length n bs in get_or-append_right (fitted n bs) (replicate (k - n) true) n j false l le ∙ get_or-replicate (k - n) (j - n) true false (omega arith)

pub either_at : (a b : List Bool) (j : ℕ) → get_or (either_of a b) j false ≡ true → (get_or a j false ≡ true) ⊎ (get_or b j false ≡ true)
either_at [] b j e = inr e
either_at (x ∷ a) [] j e = inl e
either_at (true ∷ a) (y ∷ b) zero e = inl refl
either_at (false ∷ a) (y ∷ b) zero e = inr e
either_at (true ∷ a) (y ∷ b) (suc j) e = either_at a b j e
either_at (false ∷ a) (y ∷ b) (suc j) e = either_at a b j e

pub either_left : (a b : List Bool) (j : ℕ) → get_or a j false ≡ true → get_or (either_of a b) j false ≡ true
either_left [] b j e = false_is_true e
either_left (x ∷ a) [] j e = e
either_left (true ∷ a) (y ∷ b) zero e = refl
either_left (false ∷ a) (y ∷ b) zero e = false_is_true e
either_left (true ∷ a) (y ∷ b) (suc j) e = either_left a b j e
either_left (false ∷ a) (y ∷ b) (suc j) e = either_left a b j e

pub either_right : (a b : List Bool) (j : ℕ) → get_or b j false ≡ true → get_or (either_of a b) j false ≡ true
either_right [] b j e = e
either_right (x ∷ a) [] j e = false_is_true e
either_right (true ∷ a) (y ∷ b) zero e = refl
either_right (false ∷ a) (y ∷ b) zero e = e
either_right (true ∷ a) (y ∷ b) (suc j) e = either_right a b j e
either_right (false ∷ a) (y ∷ b) (suc j) e = either_right a b j e

pub either_within : (a b : List Bool) (n : ℕ) → length a ≤ n → length b ≤ n → length (either_of a b) ≤ n
either_within [] b n h k = k
either_within (x ∷ a) [] n h k = h
either_within (x ∷ a) (y ∷ b) zero h k = absurd (omega arith)
either_within (true ∷ a) (y ∷ b) (suc n) h k = let r = either_within a b n (omega arith) (omega arith) in omega arith
either_within (false ∷ a) (y ∷ b) (suc n) h k = let r = either_within a b n (omega arith) (omega arith) in omega arith

module _ {A : Type 0} where
  pub longer_left : (xs ys : List A) → length xs ≤ length (longer xs ys)
  longer_left [] ys = omega arith
  longer_left (x ∷ xs) [] = omega arith
  longer_left (x ∷ xs) (y ∷ ys) = let r = longer_left xs ys in omega arith

  pub longer_right : (xs ys : List A) → length ys ≤ length (longer xs ys)
  longer_right [] ys = omega arith
  longer_right (x ∷ xs) [] = omega arith
  longer_right (x ∷ xs) (y ∷ ys) = let r = longer_right xs ys in omega arith

  starts_head : (x y : A) (xs ys : List A) → StartsWith (x ∷ xs) (y ∷ ys) → (x ≡ y) × StartsWith xs ys
  starts_head x y xs ys s = let e : x ∷ xs ≡ y ∷ (ys ++ s.0) = s.1 in ((cc), (s.0, (cc)))

  -- the longer of two beginnings is a beginning
  pub longer_starts : (ks xs ys : List A) → StartsWith ks xs → StartsWith ks ys → StartsWith ks (longer xs ys)
  longer_starts ks [] ys s t = t
  longer_starts ks (x ∷ xs) [] s t = s
  longer_starts [] (x ∷ xs) (y ∷ ys) s t = let e : [] ≡ x ∷ (xs ++ s.0) = s.1 in absurd (cc)
  longer_starts (k ∷ ks) (x ∷ xs) (y ∷ ys) s t =
      let a = starts_head k x ks xs s in let b = starts_head k y ks ys t in let r = longer_starts ks xs ys a.1 b.1 in
      (r.0, (λ i. a.0 i ∷ r.1 i))

pub single_here : (k : ℕ) → marked_at (single k) k ≡ true
single_here zero = refl
single_here (suc k) = single_here k

pub single_only : (k j : ℕ) → marked_at (single k) j ≡ true → j ≡ k
single_only zero zero e = refl
single_only zero (suc j) e = false_is_true e
single_only (suc k) zero e = false_is_true e
single_only (suc k) (suc j) e = ap suc (single_only k j e)

pub single_else : (k j : ℕ) → j ≢ k → marked_at (single k) j ≡ false
single_else k j ne = not_true (marked_at (single k) j) (λ t. ne (single_only k j t))

pub none_left : (a b : List Bool) (j : ℕ) → marked_at (either_of a b) j ≡ false → marked_at a j ≡ false
none_left a b j e = not_true (marked_at a j) (λ t. true_false (marked_at (either_of a b) j) (either_left a b j t) e)

pub none_right : (a b : List Bool) (j : ℕ) → marked_at (either_of a b) j ≡ false → marked_at b j ≡ false
none_right a b j e = not_true (marked_at b j) (λ t. true_false (marked_at (either_of a b) j) (either_right a b j t) e)

pub none_both : (a b : List Bool) (j : ℕ) → marked_at a j ≡ false → marked_at b j ≡ false → marked_at (either_of a b) j ≡ false
none_both a b j e f = not_true (marked_at (either_of a b) j) (λ t. ⊎_elim (λ s. true_false (marked_at a j) s e) (λ s. true_false (marked_at b j) s f) (either_at a b j t))

pub greatest_at : (a b : List ℕ) (k : ℕ) → number_at (greatest a b) k ≡ greater (number_at a k) (number_at b k)
greatest_at [] b k = omega arith
greatest_at (x ∷ a) [] k = omega arith
greatest_at (x ∷ a) (y ∷ b) zero = refl
greatest_at (x ∷ a) (y ∷ b) (suc k) = greatest_at a b k

module _ {A : Type 0} where
  head_at : (d : A) (xs : List A) → head_or d xs ≡ get_or xs 0 d
  head_at d [] = refl
  head_at d (x ∷ xs) = refl

  tail_at : (d : A) (xs : List A) (k : ℕ) → get_or (tail_of xs) k d ≡ get_or xs (suc k) d
  tail_at d [] k = refl
  tail_at d (x ∷ xs) k = refl

  pub chosen_first : (d : A) (cs : List Bool) (xs ys : List A) (m : ℕ) → marked_at cs m ≡ true → get_or (chosen d cs xs ys) m d ≡ get_or xs m d
  chosen_first d [] xs ys m e = false_is_true e
  chosen_first d (true ∷ cs) xs ys zero e = head_at d xs
  chosen_first d (false ∷ cs) xs ys zero e = false_is_true e
  chosen_first d (true ∷ cs) xs ys (suc m) e = chosen_first d cs (tail_of xs) (tail_of ys) m e ∙ tail_at d xs m
  chosen_first d (false ∷ cs) xs ys (suc m) e = chosen_first d cs (tail_of xs) (tail_of ys) m e ∙ tail_at d xs m

  pub chosen_second : (d : A) (cs : List Bool) (xs ys : List A) (m : ℕ) → marked_at cs m ≡ false → get_or (chosen d cs xs ys) m d ≡ get_or ys m d
  chosen_second d [] xs ys m e = refl
  chosen_second d (true ∷ cs) xs ys zero e = false_is_true (sym e)
  chosen_second d (false ∷ cs) xs ys zero e = head_at d ys
  chosen_second d (true ∷ cs) xs ys (suc m) e = chosen_second d cs (tail_of xs) (tail_of ys) m e ∙ tail_at d ys m
  chosen_second d (false ∷ cs) xs ys (suc m) e = chosen_second d cs (tail_of xs) (tail_of ys) m e ∙ tail_at d ys m

  all_marked : (xs : List A) → marked (replicate (length xs) true) xs ≡ xs
  all_marked [] = refl
  all_marked (x ∷ xs) = ap (λ (l : List A). x ∷ l) (all_marked xs)

  marked_none : (bs : List Bool) → marked {A = A} bs [] ≡ []
  marked_none [] = refl
  marked_none (b ∷ bs) = refl

  pub marked_more : (bs : List Bool) (xs ys : List A) → length bs ≤ length xs → marked bs (xs ++ ys) ≡ marked bs xs
  marked_more [] xs ys h = refl
  marked_more (b ∷ bs) [] ys h = absurd (omega arith)
  marked_more (true ∷ bs) (x ∷ xs) ys h = ap (λ (l : List A). x ∷ l) (marked_more bs xs ys (omega arith))
  marked_more (false ∷ bs) (x ∷ xs) ys h = marked_more bs xs ys (omega arith)

  marked_grows : (bs : List Bool) (xs more : List A) → marked (fitted (length xs) bs ++ replicate (length more) true) (xs ++ more) ≡ marked bs xs ++ more
  marked_grows bs [] more = all_marked more ∙ ap (λ (l : List A). l ++ more) (sym (marked_none bs))
  marked_grows [] (x ∷ xs) more = marked_grows [] xs more
  marked_grows (true ∷ bs) (x ∷ xs) more = ap (λ (l : List A). x ∷ l) (marked_grows bs xs more)
  marked_grows (false ∷ bs) (x ∷ xs) more = marked_grows bs xs more

  -- what is marked grows by the new items
  pub mine_grows : (bs : List Bool) (seen xs ys more : List A) → length bs ≤ length seen → StartsWith xs seen → ys ≡ xs ++ more → marked (grown bs (length xs) (length ys)) ys ≡ marked bs seen ++ more
  mine_grows bs seen xs ys more h s e =
      let n : length ys - length xs ≡ length more = let a = ap length e in let b = length-append xs more in omega arith in
      subst (λ (l : List A). marked (fitted (length xs) bs ++ replicate (length ys - length xs) true) l ≡ marked bs seen ++ more) (sym e)
      (subst (λ (k : ℕ). marked (fitted (length xs) bs ++ replicate k true) (xs ++ more) ≡ marked bs seen ++ more) (sym n)
      (marked_grows bs xs more ∙ ap (λ (l : List A). l ++ more) (ap (λ (l : List A). marked bs l) s.1 ∙ marked_more bs seen s.0 h)))

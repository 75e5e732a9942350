-- Lists in ascending number, one more item in its place, and the first item that a test picks.
use Rattle.std.proofs.Common.{◌≡◌, ℕ, ◌<◌, ◌≤◌, Bool, true, false, List, [], ◌∷◌, ◌++◌, Some, refl, ap, arith}
use Rattle.std.specs.Prelude.{nat_le, find}
use Rattle.std.specs.List.{All}
use Rattle.std.proofs.lemmas.Bool.Decides.{nat_tests}
use Rattle.std.proofs.lemmas.List.Elements.{All-cons, All-head, All-tail, All-weaker}
use Rattle.mas_types.specs.Lists.{change_first, without_first}
use Rattle.mas_types.specs.Sorted.{insert_by, in_order}
use Rattle.mas_types.proofs.Sorting.{All-insert_by, Rises, insert_by-after, insert_by-before}
use Rattle.queue_slots.proofs.Cases.{test_cases}

module _ {X : Type 0} (number : X → ℕ) where
  -- cases on the place of one more item before another
  pub placed : (x y : X) (P : Type 0) → (number x ≤ number y → P) → (number y < number x → P) → P
  placed x y P before behind =
      test_cases (nat_le (number x) (number y)) P (λ e. before (grind (arith, nat_tests))) (λ e. behind (grind (arith, nat_tests)))

  pub insert_by-front : (x : X) (ys : List X) → All (λ y. number x ≤ number y) ys → insert_by number x ys ≡ x ∷ ys
  insert_by-front x [] all = refl
  insert_by-front x (y ∷ ys) all = insert_by-before number x y ys (All-head (λ z. number x ≤ number z) y ys all)

  pub All-in_order : (P : X → Type 0) (xs : List X) → All P xs → All P (in_order number xs)
  All-in_order P [] all = all
  All-in_order P (x ∷ xs) all = All-insert_by number P x (in_order number xs) (All-head P x xs all) (All-in_order P xs (All-tail P x xs all))

  -- one whose number is above all others comes last
  pub insert_by-last : (x y : X) (ys : List X) → number y < number x → insert_by number y (ys ++ x ∷ []) ≡ insert_by number y ys ++ x ∷ []
  insert_by-last x y [] above = insert_by-before number y x [] (omega arith)
  insert_by-last x y (z ∷ ys) above =
      placed y z (insert_by number y ((z ∷ ys) ++ x ∷ []) ≡ insert_by number y (z ∷ ys) ++ x ∷ [])
      (λ h. rw (insert_by-before number y z (ys ++ x ∷ []) h, insert_by-before number y z ys h) refl)
      (λ h. rw (insert_by-after number y z (ys ++ x ∷ []) h, insert_by-after number y z ys h) (ap (λ zs. z ∷ zs) (insert_by-last x y ys above)))

  pub insert_by-above : (x : X) (ys : List X) → All (λ y. number y < number x) ys → insert_by number x ys ≡ ys ++ x ∷ []
  insert_by-above x [] all = refl
  insert_by-above x (y ∷ ys) all =
      rw (insert_by-after number x y ys (All-head (λ z. number z < number x) y ys all))
      (ap (λ zs. y ∷ zs) (insert_by-above x ys (All-tail (λ z. number z < number x) y ys all)))

  module _ (p : X → Bool) where
    -- x is picked, and none that is picked has a lesser number
    abbrev IsLeast : X → List X → Type 0
    IsLeast x ys = All (λ y. p y ≡ true → number x ≤ number y) ys

    module _ (x : X) (picked : p x ≡ true) where
      front_not_picked : (z : X) (zs : List X) → IsLeast x (z ∷ zs) → number z < number x → p z ≡ false
      front_not_picked z zs least below =
          test_cases (p z) (p z ≡ false) (λ e. absurd (let w : number x ≤ number z = All-head (λ y. p y ≡ true → number x ≤ number y) z zs least e in omega arith)) (λ e. e)

      least_rest : (z : X) (zs : List X) → IsLeast x (z ∷ zs) → IsLeast x zs
      least_rest z zs least = All-tail (λ y. p y ≡ true → number x ≤ number y) z zs least

      -- x comes first where it is put in
      pub find-insert_least : (ys : List X) → IsLeast x ys → find p (insert_by number x ys) ≡ Some x
      find-insert_least [] least = rw picked refl
      find-insert_least (z ∷ zs) least =
          placed x z (find p (insert_by number x (z ∷ zs)) ≡ Some x)
          (λ h. rw (insert_by-before number x z zs h, picked) refl)
          (λ h. rw (insert_by-after number x z zs h, front_not_picked z zs least h) (find-insert_least zs (least_rest z zs least)))

      pub change-insert_least : (y : X) → number y ≡ number x → (ys : List X) → IsLeast x ys → insert_by number y ys ≡ change_first p (λ z. y) (insert_by number x ys)
      change-insert_least y same [] least = rw picked refl
      change-insert_least y same (z ∷ zs) least =
          placed x z (insert_by number y (z ∷ zs) ≡ change_first p (λ w. y) (insert_by number x (z ∷ zs)))
          (λ h. rw (insert_by-before number x z zs h, insert_by-before number y z zs (omega arith), picked) refl)
          (λ h. rw (insert_by-after number x z zs h, insert_by-after number y z zs (omega arith), front_not_picked z zs least h)
          (ap (λ ws. z ∷ ws) (change-insert_least y same zs (least_rest z zs least))))

      pub without-insert_least : (ys : List X) → IsLeast x ys → ys ≡ without_first p (insert_by number x ys)
      without-insert_least [] least = rw picked refl
      without-insert_least (z ∷ zs) least =
          placed x z (z ∷ zs ≡ without_first p (insert_by number x (z ∷ zs)))
          (λ h. rw (insert_by-before number x z zs h, picked) refl)
          (λ h. rw (insert_by-after number x z zs h, front_not_picked z zs least h) (ap (λ ws. z ∷ ws) (without-insert_least zs (least_rest z zs least))))

    -- one that is found is in the list, and passes
    pub find-number : (P : X → Type 0) (xs : List X) (x : X) → All P xs → find p xs ≡ Some x → P x
    find-number P [] x all h = absurd (cc)
    find-number P (y ∷ ys) x all h =
        test_cases (p y) (P x)
        (λ e. let same : y ≡ x = (let w = rw e at h in cc) in rw (← same) (All-head P y ys all))
        (λ e. find-number P ys x (All-tail P y ys all) (rw e at h))

    -- an item is put in that the test doesn't pick, or that has a greater number than the first that is picked
    module _ (x w : X) (behind : p w ≡ true → number x < number w) where
      not_picked : (m : X) (ms : List X) → Rises number (m ∷ ms) → find p (m ∷ ms) ≡ Some x → number w ≤ number m → p w ≡ false
      not_picked m ms up found low =
          let least : number m ≤ number x = find-number (λ z. number m ≤ number z) (m ∷ ms) x (All-cons (λ z. number m ≤ number z) m ms (omega arith) up.0) found in
          test_cases (p w) (p w ≡ false) (λ e. absurd (let far = behind e in omega arith)) (λ e. e)

      pub find-insert_other : (ms : List X) → Rises number ms → find p ms ≡ Some x → find p (insert_by number w ms) ≡ Some x
      find-insert_other [] up found = absurd (cc)
      find-insert_other (m ∷ ms) up found =
          placed w m (find p (insert_by number w (m ∷ ms)) ≡ Some x)
          (λ h. rw (insert_by-before number w m ms h, not_picked m ms up found h) found)
          (λ h. test_cases (p m) (find p (insert_by number w (m ∷ ms)) ≡ Some x)
          (λ e. rw (insert_by-after number w m ms h, e) (rw e at found))
          (λ e. rw (insert_by-after number w m ms h, e) (find-insert_other ms up.1 (rw e at found))))

      pub change-insert_other : (y : X) → number y ≡ number x → (ms : List X) → Rises number ms → find p ms ≡ Some x → insert_by number w (change_first p (λ z. y) ms) ≡ change_first p (λ z. y) (insert_by number w ms)
      change-insert_other y same [] up found = absurd (cc)
      change-insert_other y same (m ∷ ms) up found =
          placed w m (insert_by number w (change_first p (λ z. y) (m ∷ ms)) ≡ change_first p (λ z. y) (insert_by number w (m ∷ ms)))
          (λ h. test_cases (p m) (insert_by number w (change_first p (λ z. y) (m ∷ ms)) ≡ change_first p (λ z. y) (insert_by number w (m ∷ ms)))
          (λ e. let is : m ≡ x = (let v = rw e at found in cc) in
          let low : number w ≤ number y = rw (same, ← is) h in
          rw (insert_by-before number w m ms h, not_picked m ms up found h, e) (insert_by-before number w y ms low))
          (λ e. rw (insert_by-before number w m ms h, not_picked m ms up found h, e) (insert_by-before number w m (change_first p (λ z. y) ms) h)))
          (λ h. test_cases (p m) (insert_by number w (change_first p (λ z. y) (m ∷ ms)) ≡ change_first p (λ z. y) (insert_by number w (m ∷ ms)))
          (λ e. let is : m ≡ x = (let v = rw e at found in cc) in
          let low : number y < number w = rw (same, ← is) h in
          rw (insert_by-after number w m ms h, e) (insert_by-after number w y ms low))
          (λ e. rw (insert_by-after number w m ms h, e, insert_by-after number w m (change_first p (λ z. y) ms) h)
          (ap (λ zs. m ∷ zs) (change-insert_other y same ms up.1 (rw e at found)))))

      pub without-insert_other : (ms : List X) → Rises number ms → find p ms ≡ Some x → insert_by number w (without_first p ms) ≡ without_first p (insert_by number w ms)
      without-insert_other [] up found = absurd (cc)
      without-insert_other (m ∷ ms) up found =
          placed w m (insert_by number w (without_first p (m ∷ ms)) ≡ without_first p (insert_by number w (m ∷ ms)))
          (λ h. test_cases (p m) (insert_by number w (without_first p (m ∷ ms)) ≡ without_first p (insert_by number w (m ∷ ms)))
          (λ e. rw (insert_by-before number w m ms h, not_picked m ms up found h, e)
          (insert_by-front w ms (All-weaker (λ z. number m ≤ number z) (λ z. number w ≤ number z) (λ z v. omega arith) ms up.0)))
          (λ e. rw (insert_by-before number w m ms h, not_picked m ms up found h, e) (insert_by-before number w m (without_first p ms) h)))
          (λ h. test_cases (p m) (insert_by number w (without_first p (m ∷ ms)) ≡ without_first p (insert_by number w (m ∷ ms)))
          (λ e. rw (insert_by-after number w m ms h, e) refl)
          (λ e. rw (insert_by-after number w m ms h, e, insert_by-after number w m (without_first p ms) h)
          (ap (λ zs. m ∷ zs) (without-insert_other ms up.1 (rw e at found)))))

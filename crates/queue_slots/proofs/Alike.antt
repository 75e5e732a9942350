-- Lists of which the items show the same.
use Rattle.std.proofs.Common.{◌≡◌, ℕ, max, Bool, true, false, ◌&&◌, ◌==◌, List, [], ◌∷◌, ◌++◌, length, map, Option, Some, None, refl, sym, ap, ◌∙◌, subst}
use Rattle.std.proofs.lemmas.List.{length-map}
use Rattle.std.specs.Prelude.{find, filter, option_map, if◌then◌else◌}
use Rattle.std.specs.List.{list_any}
use Rattle.mas_types.specs.Lists.{change, change_first, without_first, without, greatest, is_greatest_of, has_first_key_of}
use Rattle.queue_slots.specs.Listed.{listed, StandsFirst}
use Rattle.queue_slots.specs.Telling.{Tell, TellsFirst}
use Rattle.queue_slots.proofs.Cases.{test_cases}

module _ {A C : Type 0} (u : A → C) where
  pub find-map : (p : C → Bool) (xs : List A) → find p (map u xs) ≡ option_map u (find (λ a. p (u a)) xs)
  find-map p [] = refl
  find-map p (x ∷ xs) =
      test_cases (p (u x)) (find p (map u (x ∷ xs)) ≡ option_map u (find (λ a. p (u a)) (x ∷ xs))) (λ e. rw e refl) (λ e. rw e (find-map p xs))

  pub list_any-map : (p : C → Bool) (xs : List A) → list_any p (map u xs) ≡ list_any (λ a. p (u a)) xs
  list_any-map p [] = refl
  list_any-map p (x ∷ xs) =
      test_cases (p (u x)) (list_any p (map u (x ∷ xs)) ≡ list_any (λ a. p (u a)) (x ∷ xs)) (λ e. rw e refl) (λ e. rw e (list_any-map p xs))

  pub greatest-map : (n : C → ℕ) (t : C → Bool) (xs : List A) → greatest n (filter t (map u xs)) ≡ greatest (λ a. n (u a)) (filter (λ a. t (u a)) xs)
  greatest-map n t [] = refl
  greatest-map n t (x ∷ xs) =
      test_cases (t (u x)) (greatest n (filter t (map u (x ∷ xs))) ≡ greatest (λ a. n (u a)) (filter (λ a. t (u a)) (x ∷ xs)))
      (λ e. rw e (ap (λ g. max (n (u x)) g) (greatest-map n t xs)))
      (λ e. rw e (greatest-map n t xs))

  pub is_greatest-map : (n : C → ℕ) (t : C → Bool) (xs : List A) → (λ (a : A). is_greatest_of n t (map u xs) (u a)) ≡ is_greatest_of (λ a. n (u a)) (λ a. t (u a)) xs
  is_greatest-map n t xs = ap (λ (g : ℕ). λ (a : A). t (u a) && (n (u a) == g)) (greatest-map n t xs)

  -- the tests of the first key of those that have one
  pub first_key-map : {K : Type 0} (has : K → C → Bool) (ks : List K) (t : C → Bool) (xs : List A)
      → (λ (a : A). has_first_key_of has ks t (map u xs) (u a)) ≡ has_first_key_of (λ k a. has k (u a)) ks (λ a. t (u a)) xs
  first_key-map has [] t xs = refl
  first_key-map has (k ∷ ks) t xs =
      ap (λ (b : Bool). λ (a : A). if b then t (u a) && has k (u a) else has_first_key_of has ks t (map u xs) (u a)) (list_any-map (λ y. t y && has k y) xs)
      ∙ ap (λ (rest : A → Bool). λ (a : A). if list_any (λ y. t (u y) && has k (u y)) xs then t (u a) && has k (u a) else rest a) (first_key-map has ks t xs)

module _ {A B C : Type 0} (u : A → C) (v : B → C) where
  abbrev Alike : List A → List B → Type 0
  Alike xs ys = map u xs ≡ map v ys

  pub find-alike : (p : C → Bool) (xs : List A) (ys : List B) → Alike xs ys → option_map u (find (λ a. p (u a)) xs) ≡ option_map v (find (λ b. p (v b)) ys)
  find-alike p xs ys same = sym (find-map u p xs) ∙ ap (find p) same ∙ find-map v p ys

  pub find_none-alike : (p : C → Bool) (xs : List A) (ys : List B) → Alike xs ys → find (λ a. p (u a)) xs ≡ None → find (λ b. p (v b)) ys ≡ None
  find_none-alike p xs ys same none = go (find (λ b. p (v b)) ys) (sym (find-alike p xs ys same) ∙ ap (option_map u) none)
    where
      go : (o : Option B) → option_map v o ≡ None → o ≡ None
      go None e = refl
      go (Some b) e = absurd (cc)

  -- the item that is found shows what the record does
  pub record IsShown (o : Option B) (x : A) : Type 0 where
    pub item : B
    pub found : o ≡ Some item
    pub is : v item ≡ u x

  pub find_some-alike : (p : C → Bool) (xs : List A) (ys : List B) (x : A) → Alike xs ys → find (λ a. p (u a)) xs ≡ Some x → IsShown (find (λ b. p (v b)) ys) x
  find_some-alike p xs ys x same some = go (find (λ b. p (v b)) ys) (sym (find-alike p xs ys same) ∙ ap (option_map u) some)
    where
      go : (o : Option B) → option_map v o ≡ Some (u x) → IsShown o x
      go None e = absurd (cc)
      go (Some b) e = record { item = b; found = refl; is = (let w : Some (v b) ≡ Some (u x) = e in cc) }

  pub list_any-alike : (p : C → Bool) (xs : List A) (ys : List B) → Alike xs ys → list_any (λ a. p (u a)) xs ≡ list_any (λ b. p (v b)) ys
  list_any-alike p xs ys same = sym (list_any-map u p xs) ∙ ap (list_any p) same ∙ list_any-map v p ys

  pub length-alike : (xs : List A) (ys : List B) → Alike xs ys → length xs ≡ length ys
  length-alike xs ys same = sym (length-map xs u) ∙ ap length same ∙ length-map ys v

  pub change_first-alike : (p : C → Bool) (y : A) (f : B → B) (b : B) → u y ≡ v (f b) → (xs : List A) (ys : List B) → Alike xs ys → find (λ c. p (v c)) ys ≡ Some b
      → Alike (change_first (λ a. p (u a)) (λ a. y) xs) (change_first (λ c. p (v c)) f ys)
  change_first-alike p y f b is [] [] same found = refl
  change_first-alike p y f b is [] (c ∷ ys) same found = absurd (cc)
  change_first-alike p y f b is (x ∷ xs) [] same found = absurd (cc)
  change_first-alike p y f b is (x ∷ xs) (c ∷ ys) same found =
      let here : u x ≡ v c = cc in
      let rest : map u xs ≡ map v ys = cc in
      test_cases (p (v c)) (Alike (change_first (λ a. p (u a)) (λ a. y) (x ∷ xs)) (change_first (λ d. p (v d)) f (c ∷ ys)))
      (λ e. let t : p (u x) ≡ true = ap p here ∙ e in let it : c ≡ b = (let w = rw e at found in cc) in rw (t, e, it) (cc))
      (λ e. let t : p (u x) ≡ false = ap p here ∙ e in
      let later : map u (change_first (λ a. p (u a)) (λ a. y) xs) ≡ map v (change_first (λ d. p (v d)) f ys) = change_first-alike p y f b is xs ys rest (rw e at found) in
      rw (t, e) (cc))

  pub without_first-alike : (p : C → Bool) (xs : List A) (ys : List B) → Alike xs ys → Alike (without_first (λ a. p (u a)) xs) (without_first (λ c. p (v c)) ys)
  without_first-alike p [] [] same = refl
  without_first-alike p [] (c ∷ ys) same = absurd (cc)
  without_first-alike p (x ∷ xs) [] same = absurd (cc)
  without_first-alike p (x ∷ xs) (c ∷ ys) same =
      let here : u x ≡ v c = cc in
      let rest : map u xs ≡ map v ys = cc in
      test_cases (p (v c)) (Alike (without_first (λ a. p (u a)) (x ∷ xs)) (without_first (λ d. p (v d)) (c ∷ ys)))
      (λ e. let t : p (u x) ≡ true = ap p here ∙ e in rw (t, e) rest)
      (λ e. let t : p (u x) ≡ false = ap p here ∙ e in let later = without_first-alike p xs ys rest in rw (t, e) (cc))

  pub without-alike : (p : C → Bool) (xs : List A) (ys : List B) → Alike xs ys → Alike (without (λ a. p (u a)) xs) (without (λ c. p (v c)) ys)
  without-alike p [] [] same = refl
  without-alike p [] (c ∷ ys) same = absurd (cc)
  without-alike p (x ∷ xs) [] same = absurd (cc)
  without-alike p (x ∷ xs) (c ∷ ys) same =
      let here : u x ≡ v c = cc in
      let rest : map u xs ≡ map v ys = cc in
      let later = without-alike p xs ys rest in
      test_cases (p (v c)) (Alike (without (λ a. p (u a)) (x ∷ xs)) (without (λ d. p (v d)) (c ∷ ys)))
      (λ e. let t : p (u x) ≡ true = ap p here ∙ e in rw (t, e) later)
      (λ e. let t : p (u x) ≡ false = ap p here ∙ e in rw (t, e) (cc))

  pub filter-alike : (p : C → Bool) (xs : List A) (ys : List B) → Alike xs ys → Alike (filter (λ a. p (u a)) xs) (filter (λ c. p (v c)) ys)
  filter-alike p [] [] same = refl
  filter-alike p [] (c ∷ ys) same = absurd (cc)
  filter-alike p (x ∷ xs) [] same = absurd (cc)
  filter-alike p (x ∷ xs) (c ∷ ys) same =
      let here : u x ≡ v c = cc in
      let rest : map u xs ≡ map v ys = cc in
      let later = filter-alike p xs ys rest in
      test_cases (p (v c)) (Alike (filter (λ a. p (u a)) (x ∷ xs)) (filter (λ d. p (v d)) (c ∷ ys)))
      (λ e. let t : p (u x) ≡ true = ap p here ∙ e in rw (t, e) (cc))
      (λ e. let t : p (u x) ≡ false = ap p here ∙ e in rw (t, e) later)

  -- each that the test picks is changed alike
  pub change-alike : (p : C → Bool) (f : A → A) (g : B → B) → ((a : A) (b : B) → u a ≡ v b → u (f a) ≡ v (g b)) → (xs : List A) (ys : List B) → Alike xs ys
      → Alike (change (λ a. p (u a)) f xs) (change (λ b. p (v b)) g ys)
  change-alike p f g so [] [] same = refl
  change-alike p f g so [] (c ∷ ys) same = absurd (cc)
  change-alike p f g so (x ∷ xs) [] same = absurd (cc)
  change-alike p f g so (x ∷ xs) (c ∷ ys) same =
      let here : u x ≡ v c = cc in
      let rest : map u xs ≡ map v ys = cc in
      let later = change-alike p f g so xs ys rest in
      let moved : u (f x) ≡ v (g c) = so x c here in
      test_cases (p (v c)) (Alike (change (λ a. p (u a)) f (x ∷ xs)) (change (λ b. p (v b)) g (c ∷ ys)))
      (λ e. let t : p (u x) ≡ true = ap p here ∙ e in rw (t, e) (cc))
      (λ e. let t : p (u x) ≡ false = ap p here ∙ e in rw (t, e) (cc))

  append-alike : (zs : List C) (ys : List B) (b : B) → zs ≡ map v ys → zs ++ v b ∷ [] ≡ map v (ys ++ b ∷ [])
  append-alike zs [] b same = rw same refl
  append-alike [] (c ∷ ys) b same = absurd (cc)
  append-alike (z ∷ zs) (c ∷ ys) b same =
      let rest : zs ≡ map v ys = cc in let later = append-alike zs ys b rest in cc

  map-append : (xs : List A) (x : A) → map u (xs ++ x ∷ []) ≡ map u xs ++ u x ∷ []
  map-append [] x = refl
  map-append (y ∷ xs) x = ap (λ zs. u y ∷ zs) (map-append xs x)

  -- lists that are alike stay so with one more item at the end
  pub push-alike : (xs : List A) (ys : List B) (x : A) (b : B) → Alike xs ys → u x ≡ v b → Alike (xs ++ x ∷ []) (ys ++ b ∷ [])
  push-alike xs ys x b same last = rw (map-append xs x, last) (append-alike (map u xs) ys b same)

  -- what slots tell of the first item that a test picks
  pub tells_first : (number : A → ℕ) (p : C → Bool) (slots : List (Option A)) (items : List B) (at : ℕ) (x : A) → Tell number u v slots items
      → StandsFirst number (λ a. p (u a)) slots at x → TellsFirst number u v (λ b. p (v b)) slots items at x
  tells_first number p slots items at x tell stands =
      let some = find_some-alike p (listed number slots) items x tell stands.first in
      record {
        item = some.item;
        found = some.found;
        is = some.is;
        here = stands.here;
        changed = λ y f same shows. rw (stands.changed y same) (change_first-alike p y f some.item shows (listed number slots) items tell some.found);
        removed = rw stands.removed (without_first-alike p (listed number slots) items tell);
      }

  -- what slots tell of the item that goes first by rank
  module _ (number : A → ℕ) (n : C → ℕ) (slots : List (Option A)) (items : List B) (tell : Tell number u v slots items) where
    to_greatest : (t : C → Bool) → (λ (b : B). is_greatest_of n t (map u (listed number slots)) (v b)) ≡ is_greatest_of (λ b. n (v b)) (λ b. t (v b)) items
    to_greatest t = ap (λ (zs : List C). λ (b : B). is_greatest_of n t zs (v b)) tell ∙ is_greatest-map v n t items

    pub tells_best : (t : C → Bool) (at : ℕ) (x : A) → StandsFirst number (is_greatest_of (λ a. n (u a)) (λ a. t (u a)) (listed number slots)) slots at x
        → TellsFirst number u v (is_greatest_of (λ b. n (v b)) (λ b. t (v b)) items) slots items at x
    tells_best t at x stands =
        subst (λ (test : B → Bool). TellsFirst number u v test slots items at x) (to_greatest t)
        (tells_first number (is_greatest_of n t (map u (listed number slots))) slots items at x tell
        (subst (λ (test : A → Bool). StandsFirst number test slots at x) (sym (is_greatest-map u n t (listed number slots))) stands))

    pub tells_no_best : (t : C → Bool) → find (is_greatest_of (λ a. n (u a)) (λ a. t (u a)) (listed number slots)) (listed number slots) ≡ None
        → find (is_greatest_of (λ b. n (v b)) (λ b. t (v b)) items) items ≡ None
    tells_no_best t none =
        subst (λ (test : B → Bool). find test items ≡ None) (to_greatest t)
        (find_none-alike (is_greatest_of n t (map u (listed number slots))) (listed number slots) items tell
        (subst (λ (test : A → Bool). find test (listed number slots) ≡ None) (sym (is_greatest-map u n t (listed number slots))) none))

    -- what slots tell of the item that goes first by its key
    module _ {K : Type 0} (has : K → C → Bool) (ks : List K) (t : C → Bool) where
      abbrev keyed : C → Bool
      keyed = has_first_key_of has ks t (map u (listed number slots))

      to_keyed : (λ (b : B). keyed (v b)) ≡ has_first_key_of (λ k b. has k (v b)) ks (λ b. t (v b)) items
      to_keyed = ap (λ (zs : List C). λ (b : B). has_first_key_of has ks t zs (v b)) tell ∙ first_key-map v has ks t items

      pub tells_keyed : (at : ℕ) (x : A) → StandsFirst number (is_greatest_of (λ a. n (u a)) (has_first_key_of (λ k a. has k (u a)) ks (λ a. t (u a)) (listed number slots)) (listed number slots)) slots at x
          → TellsFirst number u v (is_greatest_of (λ b. n (v b)) (has_first_key_of (λ k b. has k (v b)) ks (λ b. t (v b)) items) items) slots items at x
      tells_keyed at x stands =
          subst (λ (test : B → Bool). TellsFirst number u v (is_greatest_of (λ b. n (v b)) test items) slots items at x) to_keyed
          (tells_best keyed at x
          (subst (λ (test : A → Bool). StandsFirst number (is_greatest_of (λ a. n (u a)) test (listed number slots)) slots at x) (sym (first_key-map u has ks t (listed number slots))) stands))

      pub tells_no_keyed : find (is_greatest_of (λ a. n (u a)) (has_first_key_of (λ k a. has k (u a)) ks (λ a. t (u a)) (listed number slots)) (listed number slots)) (listed number slots) ≡ None
          → find (is_greatest_of (λ b. n (v b)) (has_first_key_of (λ k b. has k (v b)) ks (λ b. t (v b)) items) items) items ≡ None
      tells_no_keyed none =
          subst (λ (test : B → Bool). find (is_greatest_of (λ b. n (v b)) test items) items ≡ None) to_keyed
          (tells_no_best keyed
          (subst (λ (test : A → Bool). find (is_greatest_of (λ a. n (u a)) test (listed number slots)) (listed number slots) ≡ None) (sym (first_key-map u has ks t (listed number slots))) none))

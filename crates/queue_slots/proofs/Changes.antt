-- What becomes of the list where slots are written.
use Rattle.std.proofs.Common.{◌≡◌, ℕ, zero, suc, ◌+◌, ◌<◌, ◌≤◌, Bool, true, false, List, [], ◌∷◌, ◌++◌, length, map, Option, Some, None, slice_get, set, take, get_or, length-append, refl, sym, ap, ◌∙◌, arith}
use Rattle.std.specs.Prelude.{filter, not, nat_lt, option_map, is_some, is_none, position, if◌then◌else◌}
use Rattle.std.specs.List.{position_or_len}
use Rattle.std.proofs.lemmas.Bool.Decides.{nat_tests}
use Rattle.std.proofs.lemmas.List.Quantifiers.{position-Some}
use Rattle.std.proofs.lemmas.Option.{slice_get-get_or}
use Rattle.std.proofs.lemmas.List.{take_more}
use Rattle.std.specs.List.{All}
use Rattle.std.proofs.lemmas.List.Elements.{All-cons, All-head, All-tail, All-filter, All-weaker}
use Rattle.mas_types.specs.Lists.{without}
use Rattle.lay_bytes.specs.Used.{used}
use Rattle.mas_types.specs.Sorted.{insert_by, in_order}
use Rattle.queue_slots.specs.Listed.{listed}
use Rattle.queue_slots.proofs.Cases.{test_cases}
use Rattle.queue_slots.proofs.Rising.{placed, insert_by-above, insert_by-last, insert_by-front, All-in_order}
use Rattle.mas_types.proofs.Sorting.{insert_by-before, insert_by-after, Rises, Rises-in_order}

module _ {X : Type 0} (number : X → ℕ) where
  length-insert_by : (x : X) (ys : List X) → length (insert_by number x ys) ≡ suc (length ys)
  length-insert_by x [] = refl
  length-insert_by x (y ∷ ys) =
      placed number x y (length (insert_by number x (y ∷ ys)) ≡ suc (length (y ∷ ys)))
      (λ h. rw (insert_by-before number x y ys h) refl)
      (λ h. rw (insert_by-after number x y ys h, length-insert_by x ys) refl)

  length-in_order : (xs : List X) → length (in_order number xs) ≡ length xs
  length-in_order [] = refl
  length-in_order (x ∷ xs) = rw (length-insert_by x (in_order number xs), length-in_order xs) refl

  -- the list is as long as slots are used
  pub length-listed : (slots : List (Option X)) → length (listed number slots) ≡ length (used slots)
  length-listed slots = length-in_order (used slots)

  module _ (x : X) where
    -- what stands in the slots has lesser numbers
    abbrev pub AreBelow : List (Option X) → Type 0
    AreBelow slots = All (λ y. number y < number x) (used slots)

    -- what is put into a free slot with a number above all others comes last
    pub listed-free : (slots : List (Option X)) (at : ℕ) → slice_get slots at ≡ Some None → AreBelow slots → listed number (set slots at (Some x)) ≡ listed number slots ++ x ∷ []
    listed-free [] at free below = absurd (cc)
    listed-free (None ∷ slots) zero free below = insert_by-above number x (listed number slots) (All-in_order number (λ y. number y < number x) (used slots) below)
    listed-free (Some y ∷ slots) zero free below = absurd (cc)
    listed-free (None ∷ slots) (suc at) free below = listed-free slots at free below
    listed-free (Some y ∷ slots) (suc at) free below =
        ap (insert_by number y) (listed-free slots at free (All-tail (λ z. number z < number x) y (used slots) below))
        ∙ insert_by-last number x y (listed number slots) (All-head (λ z. number z < number x) y (used slots) below)

  -- EACH SLOT

  module _ (f : X → X) (keeps : (x : X) → number (f x) ≡ number x) where
    insert_by-map : (x : X) (ys : List X) → insert_by number (f x) (map f ys) ≡ map f (insert_by number x ys)
    insert_by-map x [] = refl
    insert_by-map x (y ∷ ys) =
        placed number x y (insert_by number (f x) (map f (y ∷ ys)) ≡ map f (insert_by number x (y ∷ ys)))
        (λ h. rw (insert_by-before number (f x) (f y) (map f ys) (rw (keeps x, keeps y) h), insert_by-before number x y ys h) refl)
        (λ h. rw (insert_by-after number (f x) (f y) (map f ys) (rw (keeps x, keeps y) h), insert_by-after number x y ys h) (ap (λ zs. f y ∷ zs) (insert_by-map x ys)))

    -- where what stands in each slot is changed and keeps its number, each item of the list is changed so
    pub listed-map : (slots : List (Option X)) → listed number (map (option_map f) slots) ≡ map f (listed number slots)
    listed-map [] = refl
    listed-map (None ∷ slots) = listed-map slots
    listed-map (Some x ∷ slots) = ap (insert_by number (f x)) (listed-map slots) ∙ insert_by-map x (listed number slots)

  module _ (p : X → Bool) where
    filter-insert_in : (x : X) (ys : List X) → p x ≡ true → Rises number ys → filter p (insert_by number x ys) ≡ insert_by number x (filter p ys)
    filter-insert_in x [] picked up = rw picked refl
    filter-insert_in x (y ∷ ys) picked up =
        placed number x y (filter p (insert_by number x (y ∷ ys)) ≡ insert_by number x (filter p (y ∷ ys)))
        (λ h. rw (insert_by-before number x y ys h, picked) (sym (insert_by-front number x (filter p (y ∷ ys)) (low h))))
        (λ h. test_cases (p y) (filter p (insert_by number x (y ∷ ys)) ≡ insert_by number x (filter p (y ∷ ys)))
        (λ e. rw (insert_by-after number x y ys h, e) (ap (λ zs. y ∷ zs) (filter-insert_in x ys picked up.1) ∙ sym (insert_by-after number x y (filter p ys) h)))
        (λ e. rw (insert_by-after number x y ys h, e) (filter-insert_in x ys picked up.1)))
      where
        low : number x ≤ number y → All (λ z. number x ≤ number z) (filter p (y ∷ ys))
        low h = All-filter p (λ z. number x ≤ number z) (y ∷ ys) (All-cons (λ z. number x ≤ number z) y ys h (All-weaker (λ z. number y ≤ number z) (λ z. number x ≤ number z) (λ z v. omega arith) ys up.0))

    filter-insert_out : (x : X) (ys : List X) → p x ≡ false → filter p (insert_by number x ys) ≡ filter p ys
    filter-insert_out x [] passed = rw passed refl
    filter-insert_out x (y ∷ ys) passed =
        placed number x y (filter p (insert_by number x (y ∷ ys)) ≡ filter p (y ∷ ys))
        (λ h. rw (insert_by-before number x y ys h, passed) refl)
        (λ h. test_cases (p y) (filter p (insert_by number x (y ∷ ys)) ≡ filter p (y ∷ ys))
        (λ e. rw (insert_by-after number x y ys h, e) (ap (λ zs. y ∷ zs) (filter-insert_out x ys passed)))
        (λ e. rw (insert_by-after number x y ys h, e) (filter-insert_out x ys passed)))

module _ {X : Type 0} (number : X → ℕ) (p : X → Bool) where
  -- a slot, emptied where the test picks what stands in it
  abbrev pub emptied_if : Option X → Option X
  emptied_if None = None
  emptied_if (Some x) = if p x then None else Some x

  abbrev not_p : X → Bool
  not_p x = not (p x)

  -- where the slots that the test picks are emptied, the list is without them
  pub listed-emptied : (slots : List (Option X)) → listed number (map emptied_if slots) ≡ without p (listed number slots)
  listed-emptied [] = refl
  listed-emptied (None ∷ slots) = listed-emptied slots
  listed-emptied (Some x ∷ slots) =
      test_cases (p x) (listed number (map emptied_if (Some x ∷ slots)) ≡ without p (listed number (Some x ∷ slots)))
      (λ e. let off : not_p x ≡ false = rw e refl in rw e (listed-emptied slots ∙ sym (filter-insert_out number not_p x (listed number slots) off)))
      (λ e. let on : not_p x ≡ true = rw e refl in rw e (ap (insert_by number x) (listed-emptied slots) ∙ sym (filter-insert_in number not_p x (listed number slots) on (Rises-in_order number (used slots)))))

-- COUNTING

used-append : {X : Type 0} (xs ys : List (Option X)) → used (xs ++ ys) ≡ used xs ++ used ys
used-append [] ys = refl
used-append (None ∷ xs) ys = used-append xs ys
used-append (Some x ∷ xs) ys = ap (λ zs. x ∷ zs) (used-append xs ys)

length-used_last : {X : Type 0} (xs : List X) (s : Option X) → length (xs ++ used (s ∷ [])) ≡ length xs + (if is_some s then 1 else 0)
length-used_last xs None = length-append xs [] ∙ (omega arith)
length-used_last xs (Some x) = length-append xs (x ∷ []) ∙ (omega arith)

-- the number of used slots, where one more slot is seen
pub length-used_more : {X : Type 0} (xs : List (Option X)) (i : ℕ) (s : Option X) → i < length xs → s ≡ get_or xs i s → length (used (take (i + 1) xs)) ≡ length (used (take i xs)) + (if is_some s then 1 else 0)
length-used_more xs i s inside is =
    rw (take_more xs i s inside, ← is, used-append (take i xs) (s ∷ [])) (length-used_last (used (take i xs)) s)

-- FREE SLOTS

none_free : {X : Type 0} (slots : List (Option X)) → length slots ≤ position_or_len is_none slots → length (used slots) ≡ length slots
none_free [] full = refl
none_free (None ∷ slots) full = absurd (omega arith)
none_free (Some x ∷ slots) full = ap suc (none_free slots (omega arith))

position_none : (a b : ℕ) → (if nat_lt a b then Some a else None) ≡ None → b ≤ a
position_none a b h = test_cases (nat_lt a b) (b ≤ a) (λ e. absurd (let w = rw e at h in cc)) (λ e. grind (arith, nat_tests))

-- where no slot is free all are used
pub all_used : {X : Type 0} (slots : List (Option X)) → position is_none slots ≡ None → length (used slots) ≡ length slots
all_used slots h = none_free slots (position_none (position_or_len is_none slots) (length slots) h)

is_none-tells : {X : Type 0} (s : Option X) → is_none s ≡ true → s ≡ None
is_none-tells None h = refl
is_none-tells (Some x) h = absurd (cc)

pub free_at : {X : Type 0} (slots : List (Option X)) (at : ℕ) → position is_none slots ≡ Some at → slice_get slots at ≡ Some None
free_at slots at h =
    let first = position-Some is_none slots at None h in
    slice_get-get_or slots at None first.0 ∙ ap Some (is_none-tells (get_or slots at None) first.1)

-- where one is free not all are used
pub some_free : {X : Type 0} (slots : List (Option X)) (at : ℕ) → slice_get slots at ≡ Some None → length (used slots) < length slots
some_free [] at h = absurd (cc)
some_free (None ∷ slots) zero h = let few = used_few slots in omega arith
  where
    used_few : {Y : Type 0} (ss : List (Option Y)) → length (used ss) ≤ length ss
    used_few [] = omega arith
    used_few (None ∷ ss) = let few = used_few ss in omega arith
    used_few (Some y ∷ ss) = let few = used_few ss in omega arith
some_free (Some x ∷ slots) zero h = absurd (cc)
some_free (None ∷ slots) (suc at) h = let few = some_free slots at h in omega arith
some_free (Some x ∷ slots) (suc at) h = let few = some_free slots at h in omega arith

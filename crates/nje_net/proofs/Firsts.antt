-- The first item that a test picks, by its place.
use Rattle.std.proofs.Common.{◌≡◌, ℕ, zero, suc, ◌<◌, Bool, true, false, List, [], ◌∷◌, length, get_or, slice_get, Option, Some, None, refl, ap, sym, ◌∙◌, arith}
use Rattle.std.specs.Prelude.{IfSome, IfNone}
use Rattle.std.specs.List.{find, position, position_or_len}
use Rattle.std.proofs.lemmas.Option.{get_or_from_slice_get, slice_get_past}
use Rattle.std.proofs.lemmas.Bool.Decides.{nat_tests}
use Rattle.std.proofs.lemmas.List.Quantifiers.{position-Some}
use Rattle.std.proofs.lemmas.List.Folds.{find_at}
use Rattle.mas_types.specs.Lists.{change_first, without_first}
use Rattle.nje_net.specs.Firsts.{StandsAt}
use Rattle.nje_net.proofs.Tests.{test_cases}

module _ {A : Type 0} (p : A → Bool) where
  place_first : (x : A) (ys : List A) → p x ≡ true → StandsAt p (x ∷ ys) 0
  place_first x ys picks = record {
    item = x;
    within = omega arith;
    here = refl;
    found = rw picks refl;
    changed = λ f. rw picks refl;
    removed = rw picks refl;
  }

  place_later : (y : A) (ys : List A) (i : ℕ) → p y ≡ false → StandsAt p ys i → StandsAt p (y ∷ ys) (suc i)
  place_later y ys i passed later = record {
    item = later.item;
    within = let w = later.within in omega arith;
    here = later.here;
    found = rw passed later.found;
    changed = λ f. rw passed (ap (λ zs. y ∷ zs) (later.changed f));
    removed = rw passed (ap (λ zs. y ∷ zs) later.removed);
  }

  place_from : (xs : List A) (i : ℕ) (x : A) → slice_get xs i ≡ Some x → p x ≡ true → ((k : ℕ) → k < i → p (get_or xs k x) ≡ false) → StandsAt p xs i
  place_from [] i x at_i picks passed = absurd (cc)
  place_from (y ∷ ys) zero x at_i picks passed = let same : y ≡ x = cc in place_first y ys (rw same picks)
  place_from (y ∷ ys) (suc i) x at_i picks passed =
      place_later y ys i (passed 0 (omega arith)) (place_from ys i x at_i picks (λ k h. passed (suc k) (omega arith)))

  -- an item below the end of the list
  item_at : (xs : List A) (i : ℕ) → i < length xs → (x : A) × (slice_get xs i ≡ Some x)
  item_at [] i h = let no : ⊥ = omega arith in absurd no
  item_at (x ∷ xs) zero h = (x, refl)
  item_at (x ∷ xs) (suc i) h = item_at xs i (omega arith)

  found_first : (xs : List A) (i : ℕ) (x : A) → slice_get xs i ≡ Some x → position p xs ≡ Some i → StandsAt p xs i
  found_first xs i x here at_i =
      let first = position-Some p xs i x at_i in
      let same : get_or xs i x ≡ x = get_or_from_slice_get xs i x x here in
      place_from xs i x here (rw same at first.1) first.2

  within_of : (y : A) (xs : List A) (i : ℕ) → position p xs ≡ Some i → i < length xs
  within_of y xs i at_i = (position-Some p xs i y at_i).0

  -- what `position` finds
  place_at : (xs : List A) (i : ℕ) → position p xs ≡ Some i → StandsAt p xs i
  place_at [] i at_i = absurd (cc)
  place_at (y ∷ ys) i at_i =
      let some = item_at (y ∷ ys) i (within_of y (y ∷ ys) i at_i) in
      found_first (y ∷ ys) i some.0 some.1 at_i

  -- what `position` doesn't find
  find_nothing : (xs : List A) → position p xs ≡ None → find p xs ≡ None
  find_nothing xs h = find_at p xs ∙ slice_get_past xs (position_or_len p xs) (grind (arith, nat_tests))

  pub placed : (xs : List A) (o : Option ℕ) → o ≡ position p xs → IfSome o (StandsAt p xs)
  placed xs None e = tt
  placed xs (Some i) e = place_at xs i (sym e)

  pub not_placed : (xs : List A) (o : Option ℕ) → o ≡ position p xs → IfNone o (find p xs ≡ None)
  not_placed xs None e = find_nothing xs (sym e)
  not_placed xs (Some i) e = tt

  -- where nothing is found, nothing is changed
  pub change_nothing : (f : A → A) (xs : List A) → find p xs ≡ None → change_first p f xs ≡ xs
  change_nothing f [] h = refl
  change_nothing f (y ∷ ys) h =
      test_cases (p y) (change_first p f (y ∷ ys) ≡ y ∷ ys)
      (λ e. absurd (let w = rw e at h in cc))
      (λ e. rw e (ap (λ zs. y ∷ zs) (change_nothing f ys (rw e at h))))

  pub without_nothing : (xs : List A) → find p xs ≡ None → without_first p xs ≡ xs
  without_nothing [] h = refl
  without_nothing (y ∷ ys) h =
      test_cases (p y) (without_first p (y ∷ ys) ≡ y ∷ ys)
      (λ e. absurd (let w = rw e at h in cc))
      (λ e. rw e (ap (λ zs. y ∷ zs) (without_nothing ys (rw e at h))))

-- what holds where nothing is found
pub nothing : {A P : Type 0} (o : Option A) → o ≡ None → IfNone o P → P
nothing None e h = h
nothing (Some x) e h = absurd (cc)

-- What a search of slots tells of the list that they tell of.
use Rattle.std.proofs.Common.{◌≡◌, ℕ, ◌<◌, Bool, List, length, Option, Some, None, slice_get}
use Rattle.std.specs.Prelude.{find, IfSome, IfNone}
use Rattle.std.proofs.lemmas.Option.{slice_get_within}
use Rattle.mas_types.specs.Lists.{is_greatest_of, has_first_key_of}
use Rattle.queue_slots.specs.declared.slots.Found.{Found}
use Rattle.queue_slots.specs.Listed.{listed, StandsFirst}
use Rattle.queue_slots.specs.Telling.{Tell, TellsFirst}
use Rattle.queue_slots.proofs.Alike.{tells_first, find_none-alike, tells_best, tells_no_best, tells_keyed, tells_no_keyed}

-- an item that is found stands in the slot of its place
pub found_here : {A : Type 0} (number : A → ℕ) (p : A → Bool) (slots : List (Option A)) (o : Option (Found A))
    → IfSome o (λ f. StandsFirst number p slots f.at f.item) → IfSome o (λ f. slice_get slots f.at ≡ Some (Some f.item))
found_here number p slots None h = tt
found_here number p slots (Some f) h = h.here

-- a slot that is found is one of the slots
pub found_within : {A : Type 0} (slots : List (Option A)) (f : Found A) → slice_get slots f.at ≡ Some (Some f.item) → f.at < length slots
found_within slots f h = slice_get_within slots f.at (Some f.item) h

module _ {A B C : Type 0} (number : A → ℕ) (u : A → C) (v : B → C) (slots : List (Option A)) (o : Option (Found A)) where
  module _ (p : C → Bool) where
    pub first_told : IfSome o (λ f. StandsFirst number (λ a. p (u a)) slots f.at f.item)
        → IfSome o (λ f. (items : List B) → Tell number u v slots items → TellsFirst number u v (λ b. p (v b)) slots items f.at f.item)
    first_told = go o
      where
        go : (r : Option (Found A)) → IfSome r (λ f. StandsFirst number (λ a. p (u a)) slots f.at f.item)
            → IfSome r (λ f. (items : List B) → Tell number u v slots items → TellsFirst number u v (λ b. p (v b)) slots items f.at f.item)
        go None h = tt
        go (Some f) h = λ items tell. tells_first u v number p slots items f.at f.item tell h

    pub none_told : IfNone o (find (λ a. p (u a)) (listed number slots) ≡ None) → IfNone o ((items : List B) → Tell number u v slots items → find (λ b. p (v b)) items ≡ None)
    none_told = go o
      where
        go : (r : Option (Found A)) → IfNone r (find (λ a. p (u a)) (listed number slots) ≡ None) → IfNone r ((items : List B) → Tell number u v slots items → find (λ b. p (v b)) items ≡ None)
        go None h = λ items tell. find_none-alike u v p (listed number slots) items tell h
        go (Some f) h = tt

  module _ (n : C → ℕ) (t : C → Bool) where
    pub best_told : IfSome o (λ f. StandsFirst number (is_greatest_of (λ a. n (u a)) (λ a. t (u a)) (listed number slots)) slots f.at f.item)
        → IfSome o (λ f. (items : List B) → Tell number u v slots items → TellsFirst number u v (is_greatest_of (λ b. n (v b)) (λ b. t (v b)) items) slots items f.at f.item)
    best_told = go o
      where
        go : (r : Option (Found A)) → IfSome r (λ f. StandsFirst number (is_greatest_of (λ a. n (u a)) (λ a. t (u a)) (listed number slots)) slots f.at f.item)
            → IfSome r (λ f. (items : List B) → Tell number u v slots items → TellsFirst number u v (is_greatest_of (λ b. n (v b)) (λ b. t (v b)) items) slots items f.at f.item)
        go None h = tt
        go (Some f) h = λ items tell. tells_best u v number n slots items tell t f.at f.item h

    pub no_best_told : IfNone o (find (is_greatest_of (λ a. n (u a)) (λ a. t (u a)) (listed number slots)) (listed number slots) ≡ None)
        → IfNone o ((items : List B) → Tell number u v slots items → find (is_greatest_of (λ b. n (v b)) (λ b. t (v b)) items) items ≡ None)
    no_best_told = go o
      where
        go : (r : Option (Found A)) → IfNone r (find (is_greatest_of (λ a. n (u a)) (λ a. t (u a)) (listed number slots)) (listed number slots) ≡ None)
            → IfNone r ((items : List B) → Tell number u v slots items → find (is_greatest_of (λ b. n (v b)) (λ b. t (v b)) items) items ≡ None)
        go None h = λ items tell. tells_no_best u v number n slots items tell t h
        go (Some f) h = tt

    module _ {K : Type 0} (has : K → C → Bool) (ks : List K) where
      pub keyed_told : IfSome o (λ f. StandsFirst number (is_greatest_of (λ a. n (u a)) (has_first_key_of (λ k a. has k (u a)) ks (λ a. t (u a)) (listed number slots)) (listed number slots)) slots f.at f.item)
          → IfSome o (λ f. (items : List B) → Tell number u v slots items → TellsFirst number u v (is_greatest_of (λ b. n (v b)) (has_first_key_of (λ k b. has k (v b)) ks (λ b. t (v b)) items) items) slots items f.at f.item)
      keyed_told = go o
        where
          go : (r : Option (Found A)) → IfSome r (λ f. StandsFirst number (is_greatest_of (λ a. n (u a)) (has_first_key_of (λ k a. has k (u a)) ks (λ a. t (u a)) (listed number slots)) (listed number slots)) slots f.at f.item)
              → IfSome r (λ f. (items : List B) → Tell number u v slots items → TellsFirst number u v (is_greatest_of (λ b. n (v b)) (has_first_key_of (λ k b. has k (v b)) ks (λ b. t (v b)) items) items) slots items f.at f.item)
          go None h = tt
          go (Some f) h = λ items tell. tells_keyed u v number n slots items tell has ks t f.at f.item h

      pub no_keyed_told : IfNone o (find (is_greatest_of (λ a. n (u a)) (has_first_key_of (λ k a. has k (u a)) ks (λ a. t (u a)) (listed number slots)) (listed number slots)) (listed number slots) ≡ None)
          → IfNone o ((items : List B) → Tell number u v slots items → find (is_greatest_of (λ b. n (v b)) (has_first_key_of (λ k b. has k (v b)) ks (λ b. t (v b)) items) items) items ≡ None)
      no_keyed_told = go o
        where
          go : (r : Option (Found A)) → IfNone r (find (is_greatest_of (λ a. n (u a)) (has_first_key_of (λ k a. has k (u a)) ks (λ a. t (u a)) (listed number slots)) (listed number slots)) (listed number slots) ≡ None)
              → IfNone r ((items : List B) → Tell number u v slots items → find (is_greatest_of (λ b. n (v b)) (has_first_key_of (λ k b. has k (v b)) ks (λ b. t (v b)) items) items) items ≡ None)
          go None h = λ items tell. tells_no_keyed u v number n slots items tell has ks t h
          go (Some f) h = tt

-- The best of slots: of the greatest key, of these of the greatest rank, and of these of the least number.
use Rattle.std.specs.Prelude.{◌≡◌, ◌<◌, ◌≤◌, ℕ, ◌==◌, nat_lt, Bool, true, false, ◌&&◌, ◌||◌, if◌then◌else◌, List, Option, Some, None, slice_get}
use Rattle.queue_slots.specs.declared.slots.Found.{Found}
use Rattle.queue_slots.specs.declared.walking.Best.{Best}
use Rattle.queue_slots.specs.declared.walking.Weight.{Weight}

-- one that is kept goes before another
abbrev pub goes_before : Best → Best → Bool
goes_before a b = nat_lt b.key a.key ||
    ((a.key == b.key) && (nat_lt b.rank a.rank || ((a.rank == b.rank) && nat_lt a.order b.order)))

-- the best so far, where one more was weighed
abbrev pub better : Option Best → Best → Option Best
better None next = Some next
better (Some best) next = if goes_before next best then Some next else Some best

-- what stands in a slot
abbrev pub found_in : {X : Type 0} → ℕ → Option (Option X) → Option (Found X)
found_in at None = None
found_in at (Some None) = None
found_in at (Some (Some x)) = Some (record { at = at; item = x })

-- the best and what stands in its slot
abbrev pub found_of : {X : Type 0} → List (Option X) → Option Best → Option (Found X)
found_of slots None = None
found_of slots (Some best) = found_in best.at (slice_get slots best.at)

-- what a record goes by, where it is one to go first
abbrev pub weight_of : {X : Type 0} → (X → Bool) → (X → ℕ) → (X → ℕ) → X → Option Weight
weight_of weighs key rank x = if weighs x then Some (record { key = key x; rank = rank x }) else None

module _ {X : Type 0} (number key rank : X → ℕ) (weighs : X → Bool) where
  -- the best so far, where one more slot was seen
  abbrev pub better_slot : Option Best → ℕ → Option X → Option Best
  better_slot best at None = best
  better_slot best at (Some x) = if weighs x then better best
      (record { at = at; key = key x; rank = rank x; order = number x }) else best

  -- the best of the first k slots
  pub record IsBestOf (slots : List (Option X)) (k : ℕ) (f : Found X) : Type 0 where
    pub here : slice_get slots f.at ≡ Some (Some f.item)
    pub below : f.at < k
    pub picked : weighs f.item ≡ true
    pub keys : (j : ℕ) (y : X) → j < k → slice_get slots j ≡ Some (Some y) → weighs y ≡ true → key y ≤ key f.item
    pub ranks : (j : ℕ) (y : X) → j < k → slice_get slots j ≡ Some (Some y) → weighs y ≡ true → key y ≡ key f.item
        → rank y ≤ rank f.item
    pub before : (j : ℕ) (y : X) → j < f.at → slice_get slots j ≡ Some (Some y) → weighs y ≡ true → key y ≡ key f.item
        → rank y ≡ rank f.item → number f.item < number y
    pub least : (j : ℕ) (y : X) → j < k → slice_get slots j ≡ Some (Some y) → weighs y ≡ true → key y ≡ key f.item
        → rank y ≡ rank f.item → number f.item ≤ number y

  abbrev pub NonePicked : List (Option X) → ℕ → Type 0
  NonePicked slots k = (j : ℕ) (y : X) → j < k → slice_get slots j ≡ Some (Some y) → weighs y ≡ false

  -- the best of the first k slots, by what is kept of it
  pub record IsKept (slots : List (Option X)) (k : ℕ) (b : Best) : Type 0 where
    pub item : X
    pub has_key : b.key ≡ key item
    pub has_rank : b.rank ≡ rank item
    pub has_order : b.order ≡ number item
    pub best : IsBestOf slots k (record { at = b.at; item = item })

  abbrev pub IsWalked : List (Option X) → ℕ → Option Best → Type 0
  IsWalked slots k None = NonePicked slots k
  IsWalked slots k (Some b) = IsKept slots k b

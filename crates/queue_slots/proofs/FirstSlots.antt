-- The slot of the first record of the list that a test picks.
use Rattle.std.proofs.Common.{◌≡◌, ℕ, zero, suc, ◌<◌, ◌≤◌, Bool, true, List, [], ◌∷◌, Option, Some, None, slice_get, refl, ap, ◌∙◌, arith}
use Rattle.std.specs.List.{All}
use Rattle.std.proofs.lemmas.List.Elements.{All-cons, All-nil}
use Rattle.lay_bytes.specs.Used.{used}
use Rattle.mas_types.specs.Sorted.{insert_by, in_order}
use Rattle.queue_slots.specs.Listed.{listed, StandsFirst}
use Rattle.queue_slots.proofs.Rising.{All-in_order, find-insert_least, change-insert_least, without-insert_least, find-insert_other, change-insert_other, without-insert_other}
use Rattle.mas_types.proofs.Sorting.{Rises-in_order}

-- what holds of what stands in each slot holds of all that stand in slots
pub All-used : {X : Type 0} (P : X → Type 0) (slots : List (Option X)) → ((j : ℕ) (y : X) → slice_get slots j ≡ Some (Some y) → P y) → All P (used slots)
All-used P [] each = All-nil P
All-used P (None ∷ slots) each = All-used P slots (λ j y h. each (suc j) y h)
All-used P (Some x ∷ slots) each = All-cons P x (used slots) (each 0 x refl) (All-used P slots (λ j y h. each (suc j) y h))

module _ {X : Type 0} (number : X → ℕ) (p : X → Bool) where
  -- the test picks the slot's item, which is the first of those of the least number that it picks
  pub record IsFirstSlot (slots : List (Option X)) (at : ℕ) (x : X) : Type 0 where
    pub here : slice_get slots at ≡ Some (Some x)
    pub picked : p x ≡ true
    pub before : (j : ℕ) (y : X) → j < at → slice_get slots j ≡ Some (Some y) → p y ≡ true → number x < number y
    pub least : (j : ℕ) (y : X) → slice_get slots j ≡ Some (Some y) → p y ≡ true → number x ≤ number y

  first_here : (s : Option X) (slots : List (Option X)) (x : X) → s ≡ Some x → IsFirstSlot (s ∷ slots) 0 x → StandsFirst number p (s ∷ slots) 0 x
  first_here None slots x is h = absurd (cc)
  first_here (Some z) slots x is h =
      let same : z ≡ x = cc in
      let rest = All-in_order number (λ y. p y ≡ true → number x ≤ number y) (used slots) (All-used (λ y. p y ≡ true → number x ≤ number y) slots (λ j y e. h.least (suc j) y e)) in
      rw same record {
        here = refl;
        first = find-insert_least number p x h.picked (in_order number (used slots)) rest;
        changed = λ y e. change-insert_least number p x h.picked y e (in_order number (used slots)) rest;
        removed = without-insert_least number p x h.picked (in_order number (used slots)) rest;
      }

  first_later : (s : Option X) (slots : List (Option X)) (at : ℕ) (x : X) → ((w : X) → s ≡ Some w → p w ≡ true → number x < number w) → StandsFirst number p slots at x → StandsFirst number p (s ∷ slots) (suc at) x
  first_later None slots at x behind h = record {
    here = h.here;
    first = h.first;
    changed = h.changed;
    removed = h.removed;
  }
  first_later (Some w) slots at x behind h =
      let up = Rises-in_order number (used slots) in
      record {
        here = h.here;
        first = find-insert_other number p x w (behind w refl) (listed number slots) up h.first;
        changed = λ y e. ap (insert_by number w) (h.changed y e) ∙ change-insert_other number p x w (behind w refl) y e (listed number slots) up h.first;
        removed = ap (insert_by number w) h.removed ∙ without-insert_other number p x w (behind w refl) (listed number slots) up h.first;
      }

  -- the first slot of the least number holds the first item that is picked from the list
  pub stands_first : (slots : List (Option X)) (at : ℕ) (x : X) → IsFirstSlot slots at x → StandsFirst number p slots at x
  stands_first [] at x h = absurd (let w = h.here in cc)
  stands_first (s ∷ slots) zero x h = first_here s slots x (let w = h.here in cc) h
  stands_first (s ∷ slots) (suc at) x h =
      first_later s slots at x (λ w is picked. h.before 0 w (omega arith) (ap Some is) picked)
      (stands_first slots at x record {
        here = h.here;
        picked = h.picked;
        before = λ j y below e picked. h.before (suc j) y (omega arith) e picked;
        least = λ j y e picked. h.least (suc j) y e picked;
      })

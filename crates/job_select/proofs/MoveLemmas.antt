-- What a slot joins and leaves.
use Rattle.std.proofs.Common.{◌≡◌, ℕ, Bool, true, false, ◌&&◌, ◌||◌, ◌==◌, not, [], Option, None, refl, sym, ap, ◌∙◌}
use Rattle.std.specs.Prelude.{nat_eq}
use Rattle.std.specs.Option.{option_map_or}
use Rattle.std.proofs.lemmas.Bool.{eqb-true}
use Rattle.std.specs.declared.vec.Vec.{Vec}
use Rattle.indexmap.specs.IndexMap.{IndexMap, get}
use Rattle.queue_slots.proofs.Cases.{test_cases}
use Rattle.job_select.specs.Chains.{has_slot, slots_of, is_chain, HaveSame, Joins, Leaves, LeavesFor, Moves, StandsIn}

or_same : (h f e : Bool) → (f ≡ true → e ≡ true → h ≡ true) → h ≡ (h || (f && e))
or_same true true true there = refl
or_same true true false there = refl
or_same true false true there = refl
or_same true false false there = refl
or_same false true true there = absurd (let w = there refl refl in cc)
or_same false true false there = refl
or_same false false true there = refl
or_same false false false there = refl

leaves_none : (h f e : Bool) → h ≡ (h && not ((f && not f) && e))
leaves_none true true true = refl
leaves_none true true false = refl
leaves_none true false true = refl
leaves_none true false false = refl
leaves_none false true true = refl
leaves_none false true false = refl
leaves_none false false true = refl
leaves_none false false false = refl

leaves_one : (h f t e : Bool) → (f ≡ true → t ≡ false) → (h && not (f && e)) ≡ (h && not ((f && not t) && e))
leaves_one true true true true apart = absurd (let w = apart refl in cc)
leaves_one true true true false apart = refl
leaves_one true true false true apart = refl
leaves_one true true false false apart = refl
leaves_one true false true true apart = refl
leaves_one true false true false apart = refl
leaves_one true false false true apart = refl
leaves_one true false false false apart = refl
leaves_one false true true true apart = refl
leaves_one false true true false apart = refl
leaves_one false true false true apart = refl
leaves_one false true false false apart = refl
leaves_one false false true true apart = refl
leaves_one false false true false apart = refl
leaves_one false false false true apart = refl
leaves_one false false false false apart = refl

both_moved : (h f t e : Bool) → ((h || (t && e)) && not ((f && not t) && e)) ≡ ((h && not (f && e)) || (t && e))
both_moved true true true true = refl
both_moved true true true false = refl
both_moved true true false true = refl
both_moved true true false false = refl
both_moved true false true true = refl
both_moved true false true false = refl
both_moved true false false true = refl
both_moved true false false false = refl
both_moved false true true true = refl
both_moved false true true false = refl
both_moved false true false true = refl
both_moved false true false false = refl
both_moved false false true true = refl
both_moved false false true false = refl
both_moved false false false true = refl
both_moved false false false false = refl

undone : (h f t e : Bool) → (e ≡ true → h ≡ f) → ((h || (t && e)) && not ((t && not f) && e)) ≡ h
undone true true true true alone = refl
undone true true true false alone = refl
undone true true false true alone = refl
undone true true false false alone = refl
undone true false true true alone = absurd (let w = alone refl in cc)
undone true false true false alone = refl
undone true false false true alone = refl
undone true false false false alone = refl
undone false true true true alone = absurd (let w = alone refl in cc)
undone false true true false alone = refl
undone false true false true alone = refl
undone false true false false alone = refl
undone false false true true alone = refl
undone false false true false alone = refl
undone false false false true alone = refl
undone false false false false alone = refl

module _ {S Z : Type 0} (slot : ℕ) (from to : Option ℕ) where
  -- a slot that stays in its chain joins it
  pub joins_same : (old : IndexMap ℕ (Vec ℕ Z) S) → StandsIn old slot from → from ≡ to → Joins old old slot to
  joins_same old stands same k i =
      or_same (has_slot i (slots_of old k)) (is_chain k to) (i == slot)
      (λ b e. ap (λ (j : ℕ). has_slot j (slots_of old k)) (eqb-true i slot e) ∙ stands k ∙ ap (is_chain k) same ∙ b)

  -- a slot that stays in its chain doesn't leave it
  pub leaves_same : (old : IndexMap ℕ (Vec ℕ Z) S) → from ≡ to → LeavesFor old old slot from to
  leaves_same old same k i =
      leaves_none (has_slot i (slots_of old k)) (is_chain k from) (i == slot)
      ∙ ap (λ (chain : Option ℕ). has_slot i (slots_of old k) && not ((is_chain k from && not (is_chain k chain)) && (i == slot))) same

  pub leaves_other : (old new : IndexMap ℕ (Vec ℕ Z) S) → ((k : ℕ) → is_chain k from ≡ true → is_chain k to ≡ false) → Leaves old new slot from → LeavesFor old new slot from to
  leaves_other old new apart leaves k i = leaves k i ∙ leaves_one (has_slot i (slots_of old k)) (is_chain k from) (is_chain k to) (i == slot) (apart k)

  -- what joins and then leaves is moved
  pub joined_left : (old mid new : IndexMap ℕ (Vec ℕ Z) S) → Joins old mid slot to → LeavesFor mid new slot from to → Moves old new slot from to
  joined_left old mid new joins leaves k i =
      leaves k i
      ∙ ap (λ (h : Bool). h && not ((is_chain k from && not (is_chain k to)) && (i == slot))) (joins k i)
      ∙ both_moved (has_slot i (slots_of old k)) (is_chain k from) (is_chain k to) (i == slot)

  -- what joins and leaves again is as it was
  pub joined_undone : (old mid new : IndexMap ℕ (Vec ℕ Z) S) → StandsIn old slot from → Joins old mid slot to → LeavesFor mid new slot to from → HaveSame old new
  joined_undone old mid new stands joins leaves k i =
      leaves k i
      ∙ ap (λ (h : Bool). h && not ((is_chain k to && not (is_chain k from)) && (i == slot))) (joins k i)
      ∙ undone (has_slot i (slots_of old k)) (is_chain k from) (is_chain k to) (i == slot)
      (λ e. ap (λ (j : ℕ). has_slot j (slots_of old k)) (eqb-true i slot e) ∙ stands k)

-- a chain in which none stands is taken away
pub removed_empty : {S Z : Type 0} (old new : IndexMap ℕ (Vec ℕ Z) S) (chain : ℕ) → slots_of old chain ≡ [] → get nat_eq new chain ≡ None
    → ((q : ℕ) → nat_eq chain q ≡ false → get nat_eq new q ≡ get nat_eq old q) → HaveSame old new
removed_empty old new chain empty gone others k i =
    test_cases (chain == k) (has_slot i (slots_of new k) ≡ has_slot i (slots_of old k))
    (λ e. let same = eqb-true chain k e in
    ap (λ (j : ℕ). has_slot i (slots_of new j)) (sym same) ∙ ap (λ v. has_slot i (option_map_or (λ (w : Vec ℕ _). w.items) v [])) gone
    ∙ sym (ap (has_slot i) empty) ∙ ap (λ (j : ℕ). has_slot i (slots_of old j)) same)
    (λ e. ap (λ v. has_slot i (option_map_or (λ (w : Vec ℕ _). w.items) v [])) (others k e))

pub moves_as : {S Z : Type 0} (old new : IndexMap ℕ (Vec ℕ Z) S) (slot : ℕ) (from f to t : Option ℕ) → from ≡ f → to ≡ t → Moves old new slot from to → Moves old new slot f t
moves_as old new slot from f to t is_from is_to moves = rw (← is_from, ← is_to) moves

pub stands_as : {S Z : Type 0} (chains : IndexMap ℕ (Vec ℕ Z) S) (slot : ℕ) (chain is : Option ℕ) → chain ≡ is → StandsIn chains slot is → StandsIn chains slot chain
stands_as chains slot chain is same stands = rw same stands

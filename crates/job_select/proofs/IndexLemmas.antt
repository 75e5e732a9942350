-- Chains where a slot is moved, of empty slots, and slots that are brought up to others.
use Rattle.std.proofs.Common.{◌≡◌, ℕ, zero, suc, ◌+◌, ◌≤◌, Bool, true, false, ◌&&◌, ◌||◌, ◌==◌, not, List, [], ◌∷◌, ◌++◌, length, take, set, replicate, Option, Some, None, slice_get, refl, sym, ap, ◌∙◌, arith}
use Rattle.std.specs.Prelude.{slice_set}
use Rattle.std.proofs.lemmas.Bool.{eqb-true, eq-eqb}
use Rattle.std.proofs.lemmas.List.{take_more, take_more_set, take_all, length-set}
use Rattle.std.proofs.lemmas.Option.{slice_get_within, get_or_from_slice_get}
use Rattle.std.specs.declared.vec.Vec.{Vec}
use Rattle.indexmap.specs.IndexMap.{IndexMap}
use Rattle.queue_slots.proofs.Cases.{test_cases}
use Rattle.job_select.specs.Chains.{has_slot, slots_of, is_chain, HaveSame, Moves, StandsIn, chain_at, stands_in, AreChains}

pub slice_get-set_same : {A : Type 0} (xs : List A) (i : ℕ) (x y : A) → slice_get xs i ≡ Some x → slice_get (set xs i y) i ≡ Some y
slice_get-set_same [] i x y e = absurd cc
slice_get-set_same (z ∷ xs) zero x y e = refl
slice_get-set_same (z ∷ xs) (suc i) x y e = slice_get-set_same xs i x y e

pub slice_get-set_other : {A : Type 0} (xs : List A) (i j : ℕ) (y : A) → (j ≡ i → ⊥) → slice_get (set xs i y) j ≡ slice_get xs j
slice_get-set_other [] i j y other = refl
slice_get-set_other (z ∷ xs) zero zero y other = absurd (other refl)
slice_get-set_other (z ∷ xs) zero (suc j) y other = refl
slice_get-set_other (z ∷ xs) (suc i) zero y other = refl
slice_get-set_other (z ∷ xs) (suc i) (suc j) y other = slice_get-set_other xs i j y (λ e. other (ap suc e))

here_moved : (a b : Bool) → ((a && not (a && true)) || (b && true)) ≡ b
here_moved true true = refl
here_moved true false = refl
here_moved false true = refl
here_moved false false = refl

elsewhere_moved : (h a b : Bool) → ((h && not (a && false)) || (b && false)) ≡ h
elsewhere_moved true true true = refl
elsewhere_moved true true false = refl
elsewhere_moved true false true = refl
elsewhere_moved true false false = refl
elsewhere_moved false true true = refl
elsewhere_moved false true false = refl
elsewhere_moved false false true = refl
elsewhere_moved false false false = refl

none_stands : {X : Type 0} (chain_of : X → Option ℕ) (n k i : ℕ) → stands_in chain_of k (slice_get (replicate n None) i) ≡ false
none_stands chain_of zero k i = refl
none_stands chain_of (suc n) k zero = refl
none_stands chain_of (suc n) k (suc i) = none_stands chain_of n k i

pub replicate-more : {X : Type 0} (n : ℕ) (x : X) → replicate (n + 1) x ≡ replicate n x ++ x ∷ []
replicate-more zero x = refl
replicate-more (suc n) x =
    let e : suc n + 1 ≡ suc (n + 1) = omega arith in
    ap (λ (m : ℕ). replicate m x) e ∙ ap (λ (xs : List _). x ∷ xs) (replicate-more n x)

module _ {X S Z : Type 0} (chain_of : X → Option ℕ) where
  -- what stands in a slot stands in its chain alone
  pub stands_there : (slots : List (Option X)) (chains : IndexMap ℕ (Vec ℕ Z) S) (slot : ℕ) (was : Option X) → AreChains chain_of slots chains → slice_get slots slot ≡ Some was
      → StandsIn chains slot (chain_at chain_of was)
  stands_there slots chains slot was are there k = are k slot ∙ ap (stands_in chain_of k) there

  -- where each chain has the slots that it had
  pub chains_same : (slots : List (Option X)) (old new : IndexMap ℕ (Vec ℕ Z) S) → AreChains chain_of slots old → HaveSame old new → AreChains chain_of slots new
  chains_same slots old new are same k i = same k i ∙ are k i

  -- where what stands in a slot is moved with the slot
  pub chains_moved : (slots : List (Option X)) (old new : IndexMap ℕ (Vec ℕ Z) S) (slot : ℕ) (was is : Option X)
      → AreChains chain_of slots old → slice_get slots slot ≡ Some was → Moves old new slot (chain_at chain_of was) (chain_at chain_of is)
      → AreChains chain_of (slice_set slots slot is) new
  chains_moved slots old new slot was is are there moves = λ k i. moves k i ∙ test_cases (i == slot) (Moved k i)
      (λ e. rw e (here k i (eqb-true i slot e)))
      (λ e. rw e (elsewhere k i (λ same. absurd (let w = eq-eqb i slot same in cc))))
    where
      Moved : ℕ → ℕ → Type 0
      Moved k i = ((has_slot i (slots_of old k) && not (is_chain k (chain_at chain_of was) && (i == slot))) || (is_chain k (chain_at chain_of is) && (i == slot)))
          ≡ stands_in chain_of k (slice_get (slice_set slots slot is) i)

      here : (k i : ℕ) → i ≡ slot → ((has_slot i (slots_of old k) && not (is_chain k (chain_at chain_of was) && true)) || (is_chain k (chain_at chain_of is) && true))
          ≡ stands_in chain_of k (slice_get (slice_set slots slot is) i)
      here k i same =
          let had : has_slot i (slots_of old k) ≡ is_chain k (chain_at chain_of was) = are k i ∙ ap (stands_in chain_of k) (ap (slice_get slots) same ∙ there) in
          let has : stands_in chain_of k (slice_get (slice_set slots slot is) i) ≡ is_chain k (chain_at chain_of is) = ap (λ (j : ℕ). stands_in chain_of k (slice_get (slice_set slots slot is) j)) same ∙ ap (stands_in chain_of k) (slice_get-set_same slots slot was is there) in
          ap (λ (h : Bool). (h && not (is_chain k (chain_at chain_of was) && true)) || (is_chain k (chain_at chain_of is) && true)) had
          ∙ here_moved (is_chain k (chain_at chain_of was)) (is_chain k (chain_at chain_of is)) ∙ sym has

      elsewhere : (k i : ℕ) → (i ≡ slot → ⊥) → ((has_slot i (slots_of old k) && not (is_chain k (chain_at chain_of was) && false)) || (is_chain k (chain_at chain_of is) && false))
          ≡ stands_in chain_of k (slice_get (slice_set slots slot is) i)
      elsewhere k i other =
          elsewhere_moved (has_slot i (slots_of old k)) (is_chain k (chain_at chain_of was)) (is_chain k (chain_at chain_of is))
          ∙ are k i ∙ ap (stands_in chain_of k) (sym (slice_get-set_other slots slot i is other))

  -- nothing stands in a chain of empty slots
  pub empty_chains : (slots : List (Option X)) (chains : IndexMap ℕ (Vec ℕ Z) S) → chains.entries ≡ [] → slots ≡ replicate (length slots) None → AreChains chain_of slots chains
  empty_chains slots chains none empty = λ k i.
      let left : has_slot i (slots_of chains k) ≡ false = rw none refl in
      left ∙ sym (ap (λ (s : List (Option X)). stands_in chain_of k (slice_get s i)) empty ∙ none_stands chain_of (length slots) k i)

-- the first slots are those of the other list, and the rest of the index is as it was
pub record Follows {X Y : Type 0} (slots : List X) (others : List Y) (to : List X) (before : List Y) (at : ℕ) : Type 0 where
  pub so_far : take at slots ≡ take at to
  pub same : length slots ≡ length to
  pub rest : others ≡ before

pub follows_more : {X Y : Type 0} (slots new to : List X) (others left before : List Y) (at : ℕ) (x : X) → Follows slots others to before at → slice_get to at ≡ Some x
    → new ≡ slice_set slots at x → left ≡ others → Follows new left to before (at + 1)
follows_more slots new to others left before at x follows there is stays =
    let inside = slice_get_within to at x there in
    record {
      so_far = ap (take (at + 1)) is ∙ take_more_set slots at x (omega (arith, inside, follows.same)) ∙ ap (λ (front : List _). front ++ x ∷ []) follows.so_far
          ∙ ap (λ (y : _). take at to ++ y ∷ []) (sym (get_or_from_slice_get to at x x there)) ∙ sym (take_more to at x inside);
      same = ap length is ∙ length-set slots at x ∙ follows.same;
      rest = stays ∙ follows.rest;
    }

pub follows_all : {X Y : Type 0} (slots to : List X) (others before : List Y) (at : ℕ) → length to ≤ at → Follows slots others to before at → slots ≡ to
follows_all slots to others before at all follows =
    sym (take_all at slots (omega (arith, all, follows.same))) ∙ follows.so_far ∙ take_all at to all

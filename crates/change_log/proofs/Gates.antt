-- The gates in memory, and the slots that they are of.
use Rattle.std.proofs.Common.{◌≡◌, ◌≢◌, ℕ, zero, suc, ◌+◌, ◌-◌, ◌*◌, ◌≤◌, ◌<◌, ◌==◌, Bool, true, false, List, [], ◌∷◌, length, get_or, set, slice_index, slice_index_or, refl, sym, ◌∙◌, ap, subst, arith}
use Rattle.std.proofs.lemmas.Bool.Decides.{nat_tests}
use Rattle.std.proofs.lemmas.List.{get_or-set_same, get_or-set_other}
use Rattle.mas_types.specs.Limits.{pages_most}
use Rattle.spool_plant.specs.View.{Disk}
use Rattle.change_log.specs.Logs.{slots, home_block, free_after}
use Rattle.change_log.specs.LogStates.{Stands, lists_any, with_list}
use Rattle.change_log.specs.LogRests.{OpenAs, Rests, next_slot}
use Rattle.change_log.specs.Placing.{place_closed, with_here, with_other}

-- an element that is there, whatever is read elsewhere
pub same_default : (l : List Bool) (i : ℕ) (d e : Bool) → i < length l → get_or l i d ≡ get_or l i e
same_default [] i d e lt = absurd (omega (arith, lt))
same_default (x ∷ l) zero d e lt = refl
same_default (x ∷ l) (suc i) d e lt = same_default l i d e (omega (arith, lt))

-- at most as many slots are free as there are gates after those that are counted already
pub free_most : (gates : List Bool) (free : ℕ) → free_after free gates ≤ free + length gates
free_most [] free = omega arith
free_most (true ∷ gates) free = let rest = free_most gates 0 in omega (arith, rest)
free_most (false ∷ gates) free = let rest = free_most gates (free + 1) in omega (arith, rest)

-- the gates of free slots are closed
closed_from : (gates : List Bool) (free j : ℕ) → length gates ≤ j + free_after free gates → slice_index_or gates j false ≡ false
closed_from [] free j le = refl
closed_from (true ∷ gates) free zero le = absurd (let most = free_most gates 0 in omega (arith, le, most))
closed_from (true ∷ gates) free (suc j) le = closed_from gates 0 j (omega (arith, le))
closed_from (false ∷ gates) free zero le = refl
closed_from (false ∷ gates) free (suc j) le = closed_from gates (free + 1) j (omega (arith, le))

pub closed_above : (gates : List Bool) (j : ℕ) → length gates ≡ slots → next_slot gates ≤ j → slice_index_or gates j false ≡ false
closed_above gates j four le = closed_from gates 0 j (omega (arith, four, le))

-- with more free slots than gates all of them are closed
all_closed : (gates : List Bool) (free other : ℕ) → length gates < free_after free gates → free_after other gates ≡ other + length gates
all_closed [] free other lt = omega arith
all_closed (true ∷ gates) free other lt = absurd (let most = free_most gates 0 in omega (arith, lt, most))
all_closed (false ∷ gates) free other lt = let rest = all_closed gates (free + 1) (other + 1) (omega (arith, lt)) in omega (arith, rest)

opened_free : (gates : List Bool) (free s : ℕ) → s < length gates → length gates ≤ s + free_after free gates → free_after free (set gates s true) + s + 1 ≡ length gates
opened_free [] free s lt le = absurd (omega (arith, lt))
opened_free (true ∷ gates) free zero lt le = absurd (let most = free_most gates 0 in omega (arith, le, most))
opened_free (false ∷ gates) free zero lt le = let rest = all_closed gates (free + 1) 0 (omega (arith, le)) in omega (arith, rest)
opened_free (true ∷ gates) free (suc s) lt le = let rest = opened_free gates 0 s (omega (arith, lt)) (omega (arith, le)) in omega (arith, rest)
opened_free (false ∷ gates) free (suc s) lt le = let rest = opened_free gates (free + 1) s (omega (arith, lt)) (omega (arith, le)) in omega (arith, rest)

-- one slot fewer is free once the next was opened
pub room_opened : (gates : List Bool) (s : ℕ) → length gates ≡ slots → 1 ≤ free_after 0 gates → s ≡ next_slot gates → free_after 0 (set gates s true) ≡ free_after 0 gates - 1
room_opened gates s four some is =
    let most = free_most gates 0 in
    let more = opened_free gates 0 s (omega (arith, four, some, is, most)) (omega (arith, four, is, most)) in
    omega (arith, more, four, is, most, some)

pub next_inside : (gates : List Bool) → 1 ≤ free_after 0 gates → next_slot gates < slots
next_inside gates some = omega (arith, some)

lists_none : (l : List ℕ) → lists_any l ≡ false → l ≡ []
lists_none [] none = refl
lists_none (x ∷ l) none = absurd (cc)

-- the next slot, and those after it, list nothing
pub none_above : (gates : List Bool) (lists : ℕ → List ℕ) → length gates ≡ slots → OpenAs gates lists → (j : ℕ) → next_slot gates ≤ j → lists j ≡ []
none_above gates lists four open_as j le = lists_none (lists j) (sym (open_as j) ∙ closed_above gates j four le)

-- the gates are open where a slot lists a page, with one more slot open
pub opened_as : (gates : List Bool) (lists : ℕ → List ℕ) (s : ℕ) (numbers : List ℕ) → s < length gates → lists_any numbers ≡ true → OpenAs gates lists → OpenAs (set gates s true) (with_list s numbers lists)
opened_as gates lists s numbers lt any open_as j = by_test (j == s) refl where
  by_test : (b : Bool) → (j == s) ≡ b → slice_index_or (set gates s true) j false ≡ lists_any (with_list s numbers lists j)
  by_test true is =
      let e : j ≡ s = grind (arith, nat_tests, is) in
      subst (λ (k : ℕ). slice_index_or (set gates s true) k false ≡ lists_any (with_list s numbers lists k)) (sym e)
      (get_or-set_same gates s true false lt ∙ sym (ap lists_any (with_here s numbers lists) ∙ any))
  by_test false is =
      let ne : j ≢ s = grind (arith, nat_tests, is) in
      get_or-set_other gates s j true false ne ∙ open_as j ∙ sym (ap lists_any (with_other s numbers lists j is))

none_open : (s : ℕ) → slice_index_or (false ∷ false ∷ false ∷ false ∷ []) s false ≡ false
none_open zero = refl
none_open (suc zero) = refl
none_open (suc (suc zero)) = refl
none_open (suc (suc (suc zero))) = refl
none_open (suc (suc (suc (suc s)))) = refl

-- with no slot open each page stands at home
pub rests_home_alone : (n : ℕ) (gates : List Bool) (places pages : List ℕ) (disk : Disk) → gates ≡ false ∷ false ∷ false ∷ false ∷ [] → n ≤ pages_most → ((p : ℕ) → p < pages_most → slice_index places p ≡ home_block p)
    → Stands n (λ s. []) pages disk → Rests n gates places pages disk
rests_home_alone n gates places pages disk shut few home stands = record {
  lists = λ s. [];
  open_as = λ s. ap (λ (g : List Bool). slice_index_or g s false) shut ∙ none_open s;
  stand_as = λ p lt. home p (omega (arith, lt, few)) ∙ sym (place_closed n p (λ s. []) slots (λ s below. refl));
  stands = stands;
}

pub home_inside : (n : ℕ) (places : List ℕ) → n ≤ pages_most → ((p : ℕ) → p < pages_most → slice_index places p ≡ home_block p) → (p : ℕ) → p < n → slice_index places p < 5 + 5 * n
home_inside n places few home p lt = let here = home p (omega (arith, lt, few)) in omega (arith, here, lt)

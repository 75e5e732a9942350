-- The places of jobs by their numbers.
use Rattle.std.proofs.Common.{◌≡◌, ◌≢◌, ℕ, suc, ◌+◌, ◌<◌, ◌%◌, Bool, true, false, ◌&&◌, ◌==◌, List, length, get_or, set, Option, Some, None, slice_get, refl, sym, ap, ◌∙◌, arith, get_or-set_other, get_or-set_same}
use Rattle.std.specs.Prelude.{find, nat_lt}
use Rattle.std.proofs.Math.Nat.{mod-lt}
use Rattle.std.proofs.lemmas.Bool.{eq-eqb}
use Rattle.std.proofs.lemmas.Bool.Decides.{nat_tests}
use Rattle.std.proofs.lemmas.Option.{slice_get_within}
use Rattle.mas_types.specs.declared.ids.JobNo.{JobNo}
use Rattle.mas_types.specs.Ids.{same_number}
use Rattle.lay_bytes.specs.declared.records.JobRec.{JobRec}
use Rattle.lay_bytes.specs.Used.{used}
use Rattle.queue_slots.specs.Listed.{listed}
use Rattle.queue_slots.proofs.Cases.{test_cases}
use Rattle.queue_slots.proofs.Rising.{All-in_order}
use Rattle.queue_slots.proofs.FirstSlots.{All-used, stands_first}
use Rattle.queue_slots.proofs.BestSlots.{find-All_false, both_true}
use Rattle.job_queue.specs.Jobs.{order_of}
use Rattle.job_queue.specs.Places.{many, several, IsPlace, ArePlaces, taken, numbered}

-- a number's place is one of all
pub place_within : (n : ℕ) → n % many < many
place_within n = mod-lt n (omega arith)

module _ (slots : List (Option JobRec)) where
  -- the places before the first slot, where none is taken
  pub no_places : (places : List ℕ) → ((b : ℕ) → get_or places b 0 ≡ 0) → ArePlaces slots 0 places
  no_places places zeros b within = record {
    free = λ is j y low e same. omega arith;
    only = λ i is one j y low e same. absurd (omega arith);
  }

  -- a slot up to the last one is the last or one before it
  at_last : (k : ℕ) (s : Option JobRec) → slice_get slots k ≡ Some s → (j : ℕ) (y : JobRec) → j < k + 1 → slice_get slots j ≡ Some (Some y) → (P : Type 0) → (j < k → P) → (j ≡ k → s ≡ Some y → P) → P
  at_last k s is j y within e P early late =
      test_cases (nat_lt j k) P (λ t. early (grind (arith, nat_tests))) (λ t. let same : j ≡ k = grind (arith, nat_tests) in late same (cc))

  -- a slot that comes to none of the place's jobs
  pub place_stays : (k b place : ℕ) (s : Option JobRec) → slice_get slots k ≡ Some s → ((y : JobRec) → s ≡ Some y → y.number.0 % many ≢ b) → IsPlace slots k b place → IsPlace slots (k + 1) b place
  place_stays k b place s is other old = record {
    free = λ zero' j y low e. at_last k s is j y low e (y.number.0 % many ≢ b) (λ early. old.free zero' j y early e) (λ same late. other y late);
    only = λ i next one j y low e here. at_last k s is j y low e (j ≡ i) (λ early. old.only i next one j y early e here) (λ same late. absurd (other y late here));
  }

  taken_free : (place k : ℕ) → ((place == 0) && nat_lt k 65534) ≡ true → (place ≡ 0) × (taken place k ≡ k + 1)
  taken_free place k h = let parts = both_true (place == 0) (nat_lt k 65534) h in (grind (arith, nat_tests, parts.0), rw h refl)

  -- a slot that comes to a place
  pub place_taken : (k b place : ℕ) (x : JobRec) → slice_get slots k ≡ Some (Some x) → x.number.0 % many ≡ b → IsPlace slots k b place → IsPlace slots (k + 1) b (taken place k)
  place_taken k b place x is here old =
      test_cases ((place == 0) && nat_lt k 65534) (IsPlace slots (k + 1) b (taken place k))
      (λ e. let it = taken_free place k e in
      rw it.1 (record {
        free = λ zero'. absurd (omega arith);
        only = λ i next one j y low e' at. at_last k (Some x) is j y low e' (j ≡ i) (λ early. absurd (old.free it.0 j y early e' at)) (λ same late. omega arith);
      }))
      (λ e. rw e (record {
        free = λ zero'. absurd (omega arith);
        only = λ i next one. absurd (one refl);
      }))

-- the places stay with one more slot that is empty
pub places_stay : (slots : List (Option JobRec)) (k : ℕ) (places : List ℕ) → slice_get slots k ≡ Some None → ArePlaces slots k places → ArePlaces slots (k + 1) places
places_stay slots k places is old b within = place_stays slots k b (get_or places b 0) None is (λ y e. absurd (cc)) (old b within)

pub places_more : (slots : List (Option JobRec)) (k : ℕ) (places : List ℕ) (x : JobRec) → slice_get slots k ≡ Some (Some x) → length places ≡ many → ArePlaces slots k places
    → ArePlaces slots (k + 1) (set places (x.number.0 % many) (taken (get_or places (x.number.0 % many) 0) k))
places_more slots k places x is wide old b within =
    let p = x.number.0 % many in
    let new = taken (get_or places p 0) k in
    test_cases (b == p) (IsPlace slots (k + 1) b (get_or (set places p new) b 0))
    (λ e. let same : b ≡ p = grind (arith, nat_tests, e) in
    let room : p < length places = rw wide (place_within x.number.0) in
    rw (same, get_or-set_same places p new 0 room) (place_taken slots k p (get_or places p 0) x is refl (old p (place_within x.number.0))))
    (λ e. let other : b ≢ p = λ same. let t = eq-eqb b p same in absurd (let w : true ≡ false = sym t ∙ e in cc) in
    rw (get_or-set_other places p b new 0 other)
    (place_stays slots k b (get_or places b 0) (Some x) is (λ y late here. other (let one : x ≡ y = cc in sym here ∙ ap (λ (r : JobRec). r.number.0 % many) (sym one))) (old b within)))

-- WHAT IS LOOKED UP

module _ (slots : List (Option JobRec)) (n : JobNo) where
  abbrev has : JobRec → Bool
  has r = same_number r.number n

  none_has : ((j : ℕ) (y : JobRec) → slice_get slots j ≡ Some (Some y) → has y ≡ false) → find has (listed order_of slots) ≡ None
  none_has none = find-All_false has (listed order_of slots) (All-in_order order_of (λ y. has y ≡ false) (used slots) (All-used (λ y. has y ≡ false) slots none))

  same_place : (y : JobRec) → has y ≡ true → y.number.0 % many ≡ n.0 % many
  same_place y h = let same : y.number.0 ≡ n.0 = grind (arith, nat_tests, h) in ap (λ (m : ℕ). m % many) same

  pub free_place : (place : ℕ) → IsPlace slots (length slots) (n.0 % many) place → place ≡ 0 → None ≡ find has (listed order_of slots)
  free_place place is free =
      sym (none_has (λ j y e. test_cases (has y) (has y ≡ false) (λ h. absurd (is.free free j y (slice_get_within slots j (Some y) e) e (same_place y h))) (λ h. h)))

  pub only_place : (place i : ℕ) → IsPlace slots (length slots) (n.0 % many) place → place ≡ suc i → place ≢ several → numbered n (slice_get slots i) ≡ find has (listed order_of slots)
  only_place place i is next one = go (slice_get slots i) refl
    where
      at : (j : ℕ) (y : JobRec) → slice_get slots j ≡ Some (Some y) → has y ≡ true → j ≡ i
      at j y e h = is.only i next one j y (slice_get_within slots j (Some y) e) e (same_place y h)

      nobody : ((y : JobRec) → slice_get slots i ≡ Some (Some y) → has y ≡ false) → None ≡ find has (listed order_of slots)
      nobody none = sym (none_has (λ j y e. test_cases (has y) (has y ≡ false) (λ h. let same = at j y e h in none y (rw (← same) e)) (λ h. h)))

      go : (o : Option (Option JobRec)) → slice_get slots i ≡ o → numbered n o ≡ find has (listed order_of slots)
      go None e = nobody (λ y e'. absurd (cc))
      go (Some None) e = nobody (λ y e'. absurd (cc))
      go (Some (Some x)) e =
          test_cases (has x) (numbered n (Some (Some x)) ≡ find has (listed order_of slots))
          (λ h. rw h (sym (stands_first order_of has slots i x record {
            here = e;
            picked = h;
            before = λ j y below e' p. absurd (let same = at j y e' p in omega arith);
            least = λ j y e' p. let same = at j y e' p in let one' : x ≡ y = (let w = rw same at e' in cc) in rw one' (omega arith);
          }).first))
          (λ h. rw h (nobody (λ y e'. let one' : x ≡ y = cc in rw (← one') h)))

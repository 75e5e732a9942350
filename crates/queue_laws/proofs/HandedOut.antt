-- What holds of groups that are handed out.
use Rattle.std.proofs.Common.{◌≡◌, ℕ, zero, suc, ◌+◌, ◌<◌, ◌≤◌, Bool, true, false, cond, ◌&&◌, ◌||◌, ◌==◌, List, [], ◌∷◌, length, refl, ap, sym, ◌∙◌, subst, arith}
pub use Rattle.std.proofs.lemmas.Bool.{or_left, or_parts as or_false, or_right}
use Rattle.std.specs.Prelude.{unwrap_or, if◌then◌else◌}
use Rattle.std.specs.List.{list_any, All, count_by}
use Rattle.std.proofs.lemmas.Bool.{eq-eqb, or_parts as or_false}
use Rattle.std.proofs.lemmas.Bool.Decides.{nat_tests}
use Rattle.std.proofs.lemmas.List.Sums.{sum_by-cons}
use Rattle.std.proofs.lemmas.List.Elements.{All-cons, All-head, All-tail, All-nil, All-weaker}
use Rattle.mas_types.specs.declared.ids.MemberId.{MemberId}
use Rattle.mas_types.specs.declared.ids.JobNo.{JobNo}
use Rattle.mas_types.specs.declared.ids.OutNo.{OutNo}
use Rattle.mas_types.specs.declared.queues.Owner.{Owner}
use Rattle.mas_types.specs.declared.queues.Owner.TheVariants as owner
use Rattle.mas_types.specs.Lists.{head, tail}
use Rattle.mas_types.specs.Ids.{same_number, same_index}
use Rattle.mas_types.specs.Owners.{is_members, member_count, handed_out, places, deck_places, is_deck_of}
use Rattle.mas_types.specs.Fit.{AreDistinct}
use Rattle.mas_types.specs.Sound.{same_place, is_place_before_there}
use Rattle.queue_laws.proofs.Finds.{test_cases}

-- a test of things, which neither a Free group nor a member's passes
pub record IsOfThings (t : Owner → Bool) : Type 0 where
  pub free : t owner.Free ≡ false
  pub member : (m : MemberId) → t (owner.Member m) ≡ false

members_fail : (t : Owner → Bool) → IsOfThings t → (m : MemberId) (g : Owner) → is_members m g ≡ true → t g ≡ false
members_fail t things m owner.Free h = absurd (cc)
members_fail t things m (owner.Member k) h = things.member k
members_fail t things m (owner.Deck n p) h = absurd (cc)
members_fail t things m (owner.Output n i p) h = absurd (cc)

or_swap : (a b c : Bool) → (a || (b || c)) ≡ (b || (a || c))
or_swap true true c = refl
or_swap true false c = refl
or_swap false b c = refl

or_assoc : (a b c : Bool) → (a || (b || c)) ≡ ((a || b) || c)
or_assoc true b c = refl
or_assoc false b c = refl

or_none : (a : Bool) → (a || false) ≡ a
or_none true = refl
or_none false = refl

and_none : (a : Bool) → (a && false) ≡ false
and_none true = refl
and_none false = refl

count_one : {A : Type 0} (p : A → Bool) (x : A) (xs : List A) → p x ≡ true → count_by p (x ∷ xs) ≡ 1 + count_by p xs
count_one p x xs h = sum_by-cons (λ y. cond (p y) 1 0) x xs ∙ ap (λ b. cond b 1 0 + count_by p xs) h

count_none : {A : Type 0} (p : A → Bool) (x : A) (xs : List A) → p x ≡ false → count_by p (x ∷ xs) ≡ 0 + count_by p xs
count_none p x xs h = sum_by-cons (λ y. cond (p y) 1 0) x xs ∙ ap (λ b. cond b 1 0 + count_by p xs) h

deck_flip : (n k : JobNo) (p q : ℕ) → (same_number n k && (p == q)) ≡ (same_number k n && (q == p))
deck_flip n k p q = grind (arith, nat_tests)

output_flip : (n k : JobNo) (i l : OutNo) (p q : ℕ) → (same_number n k && same_index i l && (p == q)) ≡ (same_number k n && same_index l i && (q == p))
output_flip n k i l p q = grind (arith, nat_tests)

number_apart : (n k : JobNo) (p q : ℕ) → same_number k n ≡ false → (same_number n k && (p == q)) ≡ false
number_apart n k p q h = grind (arith, nat_tests)

not_same_deck : (n : JobNo) (q : ℕ) (g : Owner) → is_deck_of n g ≡ false → same_place (owner.Deck n q) g ≡ false
not_same_deck n q owner.Free h = refl
not_same_deck n q (owner.Member m) h = refl
not_same_deck n q (owner.Deck k p) h = number_apart n k q p h
not_same_deck n q (owner.Output k i p) h = refl

module _ (m : MemberId) where
  -- where no new owner is left, the member's groups become Free
  pub any-handed_none : (t : Owner → Bool) → IsOfThings t → (gs : List Owner) → list_any t (handed_out m [] gs) ≡ list_any t gs
  any-handed_none t things [] = refl
  any-handed_none t things (g ∷ gs) =
      test_cases (is_members m g) (list_any t (handed_out m [] (g ∷ gs)) ≡ list_any t (g ∷ gs))
      (λ e. rw (e, things.free, members_fail t things m g e) (any-handed_none t things gs))
      (λ e. rw e (ap (λ b. t g || b) (any-handed_none t things gs)))

  -- where the member has enough, what there is afterwards is what was there and what is new
  pub any-handed : (t : Owner → Bool) → IsOfThings t → (new gs : List Owner) → length new ≤ member_count m gs → list_any t (handed_out m new gs) ≡ (list_any t gs || list_any t new)
  any-handed t things [] gs enough = any-handed_none t things gs ∙ sym (or_none (list_any t gs))
  any-handed t things (x ∷ xs) [] enough = absurd (omega arith)
  any-handed t things (x ∷ xs) (g ∷ gs) enough =
      test_cases (is_members m g) (list_any t (handed_out m (x ∷ xs) (g ∷ gs)) ≡ (list_any t (g ∷ gs) || list_any t (x ∷ xs)))
      (λ e. rw (e, members_fail t things m g e) (ap (λ b. t x || b) (any-handed t things xs gs (less_mine e)) ∙ or_swap (t x) (list_any t gs) (list_any t xs)))
      (λ e. rw e (ap (λ b. t g || b) (any-handed t things (x ∷ xs) gs (same_other e)) ∙ or_assoc (t g) (list_any t gs) (list_any t (x ∷ xs))))
    where
      less_mine : is_members m g ≡ true → length xs ≤ member_count m gs
      less_mine e = omega (arith, enough, count_one (is_members m) g gs e)

      same_other : is_members m g ≡ false → length (x ∷ xs) ≤ member_count m gs
      same_other e = omega (arith, enough, count_none (is_members m) g gs e)

  -- what none of the groups and none of the new owners passes, none passes afterwards
  pub none-handed : (t : Owner → Bool) → t owner.Free ≡ false → (new gs : List Owner) → list_any t gs ≡ false → list_any t new ≡ false → list_any t (handed_out m new gs) ≡ false
  none-handed t free new [] none none_new = refl
  none-handed t free new (g ∷ gs) none none_new =
      let parts = or_false (t g) (list_any t gs) none in
      test_cases (is_members m g) (list_any t (handed_out m new (g ∷ gs)) ≡ false)
      (λ e. rw (e, head_fails t free new none_new) (none-handed t free (tail new) gs parts.1 (tail_fails t new none_new)))
      (λ e. rw (e, parts.0) (none-handed t free new gs parts.1 none_new))
    where
      head_fails : (t : Owner → Bool) → t owner.Free ≡ false → (new : List Owner) → list_any t new ≡ false → t (unwrap_or (head new) owner.Free) ≡ false
      head_fails t free [] h = free
      head_fails t free (x ∷ xs) h = (or_false (t x) (list_any t xs) h).0

      tail_fails : (t : Owner → Bool) (new : List Owner) → list_any t new ≡ false → list_any t (tail new) ≡ false
      tail_fails t [] h = refl
      tail_fails t (x ∷ xs) h = (or_false (t x) (list_any t xs) h).1

  -- what holds of Free, of the new owners, and of each group that isn't the member's
  pub All-handed : (P R : Owner → Type 0) → R owner.Free → ((g : Owner) → is_members m g ≡ false → P g → R g) → (new gs : List Owner) → All R new → All P gs → All R (handed_out m new gs)
  All-handed P R free kept new [] all_new all = All-nil R
  All-handed P R free kept new (g ∷ gs) all_new all =
      test_cases (is_members m g) (All R (handed_out m new (g ∷ gs)))
      (λ e. subst (λ b. All R (if b then unwrap_or (head new) owner.Free ∷ handed_out m (tail new) gs else g ∷ handed_out m new gs)) (sym e)
      (All-cons R (unwrap_or (head new) owner.Free) (handed_out m (tail new) gs) (head_holds new all_new) (All-handed P R free kept (tail new) gs (tail_holds new all_new) (All-tail P g gs all))))
      (λ e. subst (λ b. All R (if b then unwrap_or (head new) owner.Free ∷ handed_out m (tail new) gs else g ∷ handed_out m new gs)) (sym e)
      (All-cons R g (handed_out m new gs) (kept g e (All-head P g gs all)) (All-handed P R free kept new gs all_new (All-tail P g gs all))))
    where
      head_holds : (new : List Owner) → All R new → R (unwrap_or (head new) owner.Free)
      head_holds [] h = free
      head_holds (x ∷ xs) h = All-head R x xs h

      tail_holds : (new : List Owner) → All R new → All R (tail new)
      tail_holds [] h = All-nil R
      tail_holds (x ∷ xs) h = All-tail R x xs h

-- PLACES

-- new owners whose places are different, without gaps, and not there yet
pub record AreNew (new gs : List Owner) : Type 0 where
  pub distinct : AreDistinct same_place new
  pub apart : All (λ x. list_any (same_place x) gs ≡ false) new
  pub no_gaps : All (λ x. is_place_before_there new x ≡ true) new

place_flip : (g h : Owner) → same_place g h ≡ same_place h g
place_flip owner.Free owner.Free = refl
place_flip owner.Free (owner.Member m) = refl
place_flip owner.Free (owner.Deck n p) = refl
place_flip owner.Free (owner.Output n i p) = refl
place_flip (owner.Member m) owner.Free = refl
place_flip (owner.Member m) (owner.Member k) = refl
place_flip (owner.Member m) (owner.Deck n p) = refl
place_flip (owner.Member m) (owner.Output n i p) = refl
place_flip (owner.Deck n p) owner.Free = refl
place_flip (owner.Deck n p) (owner.Member m) = refl
place_flip (owner.Deck n p) (owner.Deck k q) = deck_flip n k p q
place_flip (owner.Deck n p) (owner.Output k i q) = refl
place_flip (owner.Output n i p) owner.Free = refl
place_flip (owner.Output n i p) (owner.Member m) = refl
place_flip (owner.Output n i p) (owner.Deck k q) = refl
place_flip (owner.Output n i p) (owner.Output k l q) = output_flip n k i l p q

-- none of the new owners has the place of a group that is there
none_new : (g : Owner) (gs new : List Owner) → All (λ x. list_any (same_place x) (g ∷ gs) ≡ false) new → list_any (same_place g) new ≡ false
none_new g gs [] all = refl
none_new g gs (x ∷ xs) all =
    let here = (or_false (same_place x g) (list_any (same_place x) gs) (All-head (λ x. list_any (same_place x) (g ∷ gs) ≡ false) x xs all)).0 in
    rw (place_flip g x, here) (none_new g gs xs (All-tail (λ x. list_any (same_place x) (g ∷ gs) ≡ false) x xs all))

apart_rest : (g : Owner) (gs new : List Owner) → All (λ x. list_any (same_place x) (g ∷ gs) ≡ false) new → All (λ x. list_any (same_place x) gs ≡ false) new
apart_rest g gs new all = All-weaker (λ x. list_any (same_place x) (g ∷ gs) ≡ false) (λ x. list_any (same_place x) gs ≡ false) (λ x h. (or_false (same_place x g) (list_any (same_place x) gs) h).1) new all

free_alone : (gs : List Owner) → list_any (same_place owner.Free) gs ≡ false
free_alone [] = refl
free_alone (g ∷ gs) = free_alone gs

no_place_free : (g : Owner) → same_place g owner.Free ≡ false
no_place_free owner.Free = refl
no_place_free (owner.Member m) = refl
no_place_free (owner.Deck n p) = refl
no_place_free (owner.Output n i p) = refl

pub places-handed : (m : MemberId) (new gs : List Owner) → AreDistinct same_place new → All (λ x. list_any (same_place x) gs ≡ false) new → AreDistinct same_place gs → AreDistinct same_place (handed_out m new gs)
places-handed m new [] d apart old = tt
places-handed m [] (g ∷ gs) d apart old =
    test_cases (is_members m g) (AreDistinct same_place (handed_out m [] (g ∷ gs)))
    (λ e. rw e (free_alone (handed_out m [] gs), places-handed m [] gs tt (All-nil (λ x. list_any (same_place x) gs ≡ false)) old.1))
    (λ e. rw e (none-handed m (same_place g) (no_place_free g) [] gs old.0 refl, places-handed m [] gs tt (All-nil (λ x. list_any (same_place x) gs ≡ false)) old.1))
places-handed m (x ∷ xs) (g ∷ gs) d apart old =
    let rest = apart_rest g gs (x ∷ xs) apart in
    test_cases (is_members m g) (AreDistinct same_place (handed_out m (x ∷ xs) (g ∷ gs)))
    (λ e. rw e (none-handed m (same_place x) (no_place_free x) xs gs (All-head (λ x. list_any (same_place x) gs ≡ false) x xs rest) d.0, places-handed m xs gs d.1 (All-tail (λ x. list_any (same_place x) gs ≡ false) x xs rest) old.1))
    (λ e. rw e (none-handed m (same_place g) (no_place_free g) (x ∷ xs) gs old.0 (none_new g gs (x ∷ xs) apart), places-handed m (x ∷ xs) gs d rest old.1))

-- a place before stays there, or is new too
before_old : (m : MemberId) (new gs : List Owner) → length new ≤ member_count m gs → (g : Owner) → is_place_before_there gs g ≡ true → is_place_before_there (handed_out m new gs) g ≡ true
before_old m new gs enough owner.Free h = refl
before_old m new gs enough (owner.Member k) h = refl
before_old m new gs enough (owner.Deck n zero) h = refl
before_old m new gs enough (owner.Deck n (suc p)) h = any-handed m (same_place (owner.Deck n p)) (record { free = refl; member = λ k. refl }) new gs enough ∙ or_left _ _ h
before_old m new gs enough (owner.Output n i zero) h = refl
before_old m new gs enough (owner.Output n i (suc p)) h = any-handed m (same_place (owner.Output n i p)) (record { free = refl; member = λ k. refl }) new gs enough ∙ or_left _ _ h

before_new : (m : MemberId) (new gs : List Owner) → length new ≤ member_count m gs → (g : Owner) → is_place_before_there new g ≡ true → is_place_before_there (handed_out m new gs) g ≡ true
before_new m new gs enough owner.Free h = refl
before_new m new gs enough (owner.Member k) h = refl
before_new m new gs enough (owner.Deck n zero) h = refl
before_new m new gs enough (owner.Deck n (suc p)) h = any-handed m (same_place (owner.Deck n p)) (record { free = refl; member = λ k. refl }) new gs enough ∙ or_right _ _ h
before_new m new gs enough (owner.Output n i zero) h = refl
before_new m new gs enough (owner.Output n i (suc p)) h = any-handed m (same_place (owner.Output n i p)) (record { free = refl; member = λ k. refl }) new gs enough ∙ or_right _ _ h

pub gaps-handed : (m : MemberId) (new gs : List Owner) → length new ≤ member_count m gs → All (λ x. is_place_before_there new x ≡ true) new → All (λ g. is_place_before_there gs g ≡ true) gs → All (λ g. is_place_before_there (handed_out m new gs) g ≡ true) (handed_out m new gs)
gaps-handed m new gs enough closed old =
    All-handed m (λ g. is_place_before_there gs g ≡ true) (λ g. is_place_before_there (handed_out m new gs) g ≡ true) refl (λ g other h. before_old m new gs enough g h) new gs
    (All-weaker (λ x. is_place_before_there new x ≡ true) (λ g. is_place_before_there (handed_out m new gs) g ≡ true) (before_new m new gs enough) new closed) old

-- A DECK'S PLACES

pub length-places : (at : ℕ → Owner) (p count : ℕ) → length (places at p count) ≡ count
length-places at p zero = refl
length-places at p (suc count) = ap suc (length-places at (p + 1) count)

deck_later : (n : JobNo) (p q count : ℕ) → p < q → list_any (same_place (owner.Deck n p)) (places (λ r. owner.Deck n r) q count) ≡ false
deck_later n p q zero less = refl
deck_later n p q (suc count) less =
    let other : (p == q) ≡ false = grind (arith, nat_tests) in
    rw (other, and_none (same_number n n)) (deck_later n p (q + 1) count (omega arith))

deck_distinct : (n : JobNo) (p count : ℕ) → AreDistinct same_place (places (λ r. owner.Deck n r) p count)
deck_distinct n p zero = tt
deck_distinct n p (suc count) = (deck_later n p (p + 1) count (omega arith), deck_distinct n (p + 1) count)

deck_has : (n : JobNo) (q p count : ℕ) → p ≤ q → q < p + count → list_any (same_place (owner.Deck n q)) (places (λ r. owner.Deck n r) p count) ≡ true
deck_has n q p zero low high = absurd (omega arith)
deck_has n q p (suc count) low high =
    test_cases (q == p) (list_any (same_place (owner.Deck n q)) (places (λ r. owner.Deck n r) p (suc count)) ≡ true)
    (λ e. rw (eq-eqb n.0 n.0 refl, e) refl)
    (λ e. let more : p + 1 ≤ q = grind (arith, nat_tests) in rw (eq-eqb n.0 n.0 refl, e) (deck_has n q (p + 1) count more (omega arith)))

deck_before : (n : JobNo) (all : List Owner) (p count : ℕ) → ((q : ℕ) → q < p + count → list_any (same_place (owner.Deck n q)) all ≡ true) → All (λ x. is_place_before_there all x ≡ true) (places (λ r. owner.Deck n r) p count)
deck_before n all p zero has = All-nil (λ x. is_place_before_there all x ≡ true)
deck_before n all zero (suc count) has = All-cons (λ x. is_place_before_there all x ≡ true) (owner.Deck n 0) (places (λ r. owner.Deck n r) (0 + 1) count) refl (deck_before n all (0 + 1) count (λ q less. has q (omega arith)))
deck_before n all (suc p) (suc count) has = All-cons (λ x. is_place_before_there all x ≡ true) (owner.Deck n (suc p)) (places (λ r. owner.Deck n r) (suc p + 1) count) (has p (omega arith)) (deck_before n all (suc p + 1) count (λ q less. has q (omega arith)))

no_same_deck : (n : JobNo) (q : ℕ) (gs : List Owner) → list_any (is_deck_of n) gs ≡ false → list_any (same_place (owner.Deck n q)) gs ≡ false
no_same_deck n q [] h = refl
no_same_deck n q (g ∷ gs) h =
    let parts = or_false (is_deck_of n g) (list_any (is_deck_of n) gs) h in
    rw (not_same_deck n q g parts.0) (no_same_deck n q gs parts.1)

deck_apart : (n : JobNo) (gs : List Owner) (p count : ℕ) → list_any (is_deck_of n) gs ≡ false → All (λ x. list_any (same_place x) gs ≡ false) (places (λ r. owner.Deck n r) p count)
deck_apart n gs p zero none = All-nil (λ x. list_any (same_place x) gs ≡ false)
deck_apart n gs p (suc count) none = All-cons (λ x. list_any (same_place x) gs ≡ false) (owner.Deck n p) (places (λ r. owner.Deck n r) (p + 1) count) (no_same_deck n p gs none) (deck_apart n gs (p + 1) count none)

-- the places of a deck that isn't there yet
pub deck_new : (n : JobNo) (count : ℕ) (gs : List Owner) → list_any (is_deck_of n) gs ≡ false → AreNew (deck_places n count) gs
deck_new n count gs none = record {
  distinct = deck_distinct n 0 count;
  apart = deck_apart n gs 0 count none;
  no_gaps = deck_before n (deck_places n count) 0 count (λ q less. deck_has n q 0 count (omega arith) (omega arith));
}

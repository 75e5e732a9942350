-- Slots that are brought up to others, page by page.
use Rattle.std.proofs.Common.{◌≡◌, ◌≢◌, ◌⊎◌, ⊎_elim, inl, inr, ℕ, suc, ◌+◌, ◌<◌, ◌≤◌, ◌==◌, Bool, true, false, List, [], ◌∷◌, length, get_or, Some, Result, Ok, Err, slice_get, refl, sym, ap, ◌∙◌, arith}
use Rattle.std.specs.Prelude.{slice_set, nat_lt, OnOk}
use Rattle.std.specs.Result.{is_ok}
use Rattle.std.proofs.lemmas.Bool.{eqb-true, eq-eqb}
use Rattle.std.proofs.lemmas.Bool.Decides.{nat_tests}
use Rattle.std.proofs.lemmas.List.{length-set}
use Rattle.std.proofs.lemmas.Option.{slice_get-get_or, slice_get_past, slice_get_within}
use Rattle.queue_slots.proofs.Cases.{test_cases}
use Rattle.job_select.specs.Behind.{AreBehind}
use Rattle.job_select.proofs.IndexLemmas.{slice_get-set_same, slice_get-set_other}

sides : (a b : ℕ) → (a < b) ⊎ (b ≤ a)
sides a b = test_cases (nat_lt a b) ((a < b) ⊎ (b ≤ a)) (λ is. inl (grind (arith, nat_tests, is))) (λ is. inr (grind (arith, nat_tests, is)))

-- lists of one length with the same in each place are the same
pub same_slots : {X : Type 0} (xs ys : List X) → length xs ≡ length ys → ((at : ℕ) → at < length xs → slice_get xs at ≡ slice_get ys at) → xs ≡ ys
same_slots [] [] size same = refl
same_slots [] (y ∷ ys) size same = absurd (omega (arith, size))
same_slots (x ∷ xs) [] size same = absurd (omega (arith, size))
same_slots (x ∷ xs) (y ∷ ys) size same =
    let first : Some x ≡ Some y = same 0 (omega arith) in
    let head : x ≡ y = cc in
    let rest : xs ≡ ys = same_slots xs ys (omega (arith, size)) (λ at lt. same (suc at) (omega (arith, lt))) in
    cc

module _ {X : Type 0} (slots new to : List X) (at : ℕ) (x : X) (size : length slots ≡ length to) (there : slice_get to at ≡ Some x) (is : new ≡ slice_set slots at x) where
  -- a slot that is written as it is to be
  pub set_here : slice_get new at ≡ slice_get to at
  set_here =
      let inside : at < length slots = let lt = slice_get_within to at x there in omega (arith, lt, size) in
      ap (λ (s : List X). slice_get s at) is ∙ slice_get-set_same slots at (get_or slots at x) x (slice_get-get_or slots at x inside) ∙ sym there

  -- what was as it is to be stays so
  pub set_stays : (i : ℕ) → slice_get slots i ≡ slice_get to i → slice_get new i ≡ slice_get to i
  set_stays i was = test_cases (i == at) (slice_get new i ≡ slice_get to i)
      (λ e. let same : i ≡ at = eqb-true i at e in ap (slice_get new) same ∙ set_here ∙ ap (slice_get to) (sym same))
      (λ e. ap (λ (s : List X). slice_get s i) is ∙ slice_get-set_other slots at i x (λ same. absurd (let w = eq-eqb i at same in cc)) ∙ was)

-- THE SLOTS OF A PAGE, one after the other

pub record OnPage {X Y : Type 0} (slots was to : List X) (others before : List Y) (first at : ℕ) : Type 0 where
  pub same : length slots ≡ length to
  pub here : (i : ℕ) → first ≤ i → i < at → slice_get slots i ≡ slice_get to i
  pub stays : (i : ℕ) → slice_get was i ≡ slice_get to i → slice_get slots i ≡ slice_get to i
  pub rest : others ≡ before

pub on_page_first : {X Y : Type 0} (slots to : List X) (others : List Y) (first : ℕ) → length slots ≡ length to → OnPage slots slots to others others first first
on_page_first slots to others first size = record { same = size; here = λ i from lt. absurd (omega (arith, from, lt)); stays = λ i was. was; rest = refl }

pub on_page_more : {X Y : Type 0} (slots new was to : List X) (others left before : List Y) (first at : ℕ) (x : X) → OnPage slots was to others before first at → slice_get to at ≡ Some x
    → new ≡ slice_set slots at x → left ≡ others → OnPage new was to left before first (at + 1)
on_page_more slots new was to others left before first at x so_far there is unchanged = record {
  same = ap length is ∙ length-set slots at x ∙ so_far.same;
  here = λ i from lt. test_cases (i == at) (slice_get new i ≡ slice_get to i)
      (λ e. let same : i ≡ at = eqb-true i at e in ap (slice_get new) same ∙ set_here slots new to at x so_far.same there is ∙ ap (slice_get to) (sym same))
      (λ e. let other : i ≢ at = λ same. absurd (let w = eq-eqb i at same in cc) in set_stays slots new to at x so_far.same there is i (so_far.here i from (omega (arith, lt, other))));
  stays = λ i held. set_stays slots new to at x so_far.same there is i (so_far.stays i held);
  rest = unchanged ∙ so_far.rest;
}

-- each slot of the page is as it is to be, where the loop has come to its end or that of the slots
pub on_page_all : {X Y : Type 0} (slots was to : List X) (others before : List Y) (first at : ℕ) → OnPage slots was to others before first at → (i : ℕ) → first ≤ i → (i < length to → i < at) → slice_get slots i ≡ slice_get to i
on_page_all slots was to others before first at so_far i from inside = ⊎_elim
    (λ lt. so_far.here i from (inside lt))
    (λ ge. let past : length slots ≤ i = let size = so_far.same in omega (arith, ge, size) in slice_get_past slots i past ∙ sym (slice_get_past to i ge))
    (sides i (length to))

-- THE PAGES, one after the other

pub record UpTo {X Y : Type 0} (slots to : List X) (others before : List Y) (has_mark : ℕ → Bool) (first : ℕ) : Type 0 where
  pub same : length slots ≡ length to
  pub so_far : (at : ℕ) → at < first → slice_get slots at ≡ slice_get to at
  pub behind : AreBehind has_mark slots to
  pub rest : others ≡ before

pub up_first : {X Y : Type 0} (slots to : List X) (others : List Y) (has_mark : ℕ → Bool) → length slots ≡ length to → AreBehind has_mark slots to → UpTo slots to others others has_mark 0
up_first slots to others has_mark size behind = record { same = size; so_far = λ at lt. absurd (omega (arith, lt)); behind = behind; rest = refl }

pub up_next : {X Y : Type 0} (slots new to : List X) (others left before : List Y) (has_mark : ℕ → Bool) (first next : ℕ) (on : Bool) → UpTo slots to others before has_mark first → length new ≡ length to
    → (on ≡ true → (at : ℕ) → first ≤ at → at < next → slice_get new at ≡ slice_get to at) → ((at : ℕ) → slice_get slots at ≡ slice_get to at → slice_get new at ≡ slice_get to at) → left ≡ others
    → (on ≡ false → (at : ℕ) → first ≤ at → at < next → has_mark at ≡ false) → UpTo new to left before has_mark next
up_next slots new to others left before has_mark first next on up size here stays unchanged none = record {
  same = size;
  so_far = λ at lt. ⊎_elim
      (λ below. stays at (up.so_far at below))
      (λ from. test_cases on (slice_get new at ≡ slice_get to at) (λ yes. here yes at from lt) (λ no. stays at (up.behind at (none no at from lt))))
      (sides at first);
  behind = λ at off. stays at (up.behind at off);
  rest = unchanged ∙ up.rest;
}

pub up_all : {X Y : Type 0} (slots to : List X) (others before : List Y) (has_mark : ℕ → Bool) (first : ℕ) → UpTo slots to others before has_mark first → length to ≤ first → slots ≡ to
up_all slots to others before has_mark first up all = same_slots slots to up.same (λ at lt. let size = up.same in up.so_far at (omega (arith, lt, size, all)))

-- what was done where there was no error
pub done_ok : {T E A : Type 0} (r : Result T E) → OnOk r A → is_ok r ≡ true → A
done_ok (Ok x) done ok = done
done_ok (Err e) done ok = absurd (cc)

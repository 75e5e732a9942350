-- Nobody who is stopped in the book is up after a call of it.
use Rattle.mas_complex.proofs.Names.{◌≡◌, ◌≢◌, ℕ, ◌-◌, ◌==◌, ◌||◌, Bool, true, false, if◌then◌else◌, length, subst, sym, ◌∙◌, ap, arith, is_some, Some, slice_index_or, get_or-set_same, get_or-set_other, MemberId, nobody, Book, IsMember, beginner, standing, is_stopped, is_holder, left_of, with_standing, with_holder, granted, ticked, try_refusal, after_try, noted, after_free, after_stop, seize_refusal, after_seize, after_spend, test_cases, List, ◌∷◌, Option, None, refl, not, true≢false, eq-eqb, Batch, Kept, Dropped, is_somebody, same_member, is_dormant, wakes, same_member_is, Act, ActHalted as Halted, AreSettled, fated, without_last, book_by, ◌⊎◌, inl, inr, ⊎_elim, IsFatedBy, not-false as is_not, not-false}
use Rattle.mas_complex.proofs.Basics.{number_is, apart_is, stays_true, of_if}
use Rattle.mas_complex.proofs.Batches.{as_many}
use Rattle.lock_cycle.specs.declared.standings.Standing.{Standing}

module _ (b : Book) (m : MemberId) (s : Standing) (inside : IsMember b m) where
  at_own : (k : MemberId) → k.0 - 1 ≡ m.0 - 1 → standing (with_standing b m s) k ≡ s
  at_own k same = rw same (get_or-set_same b.members (m.0 - 1) s (beginner 0) (omega (arith, inside.0, inside.1)))

  pub standing_up : (s.stopped ≡ false → is_stopped b m ≡ false) → (k : MemberId) → is_stopped (with_standing b m s) k ≡ false → is_stopped b k ≡ false
  standing_up own k up =
      test_cases ((k.0 - 1) == (m.0 - 1)) (is_stopped b k ≡ false)
      (λ e. let same : k.0 - 1 ≡ m.0 - 1 = number_is (k.0 - 1) (m.0 - 1) e in
      let mine : is_stopped b m ≡ false = own (sym (ap (λ (x : Standing). x.stopped) (at_own k same)) ∙ up) in
      subst (λ (n : ℕ). (slice_index_or b.members n (beginner 0)).stopped ≡ false) (sym same) mine)
      (λ e. sym (ap (λ (x : Standing). x.stopped) (get_or-set_other b.members (m.0 - 1) (k.0 - 1) s (beginner 0) (λ same. apart_is (k.0 - 1) (m.0 - 1) e same))) ∙ up)

pub granted_up : (b : Book) (m : MemberId) → IsMember b m → (k : MemberId) → is_stopped (granted b m) k ≡ false → is_stopped b k ≡ false
granted_up b m inside k up = standing_up (with_holder b m) m (record (standing b m) { left = b.hold }) inside (λ u. u) k up

pub stopped_up : (b : Book) (m : MemberId) → IsMember b m → (k : MemberId) → is_stopped (after_stop b m) k ≡ false → (k.0 ≢ m.0) × (is_stopped b k ≡ false)
stopped_up b m inside k up = (apart, standing_up b m (record (standing b m) { stopped = true }) inside (λ e. absurd (cc)) k up)
  where
    apart : k.0 ≡ m.0 → ⊥
    apart same =
        let at : standing (after_stop b m) k ≡ record (standing b m) { stopped = true } = at_own b m (record (standing b m) { stopped = true }) inside k (ap (λ (n : ℕ). n - 1) same) in
        true≢false (sym (ap (λ (x : Standing). x.stopped) at) ∙ up)

-- What a shared value keeps of its batches on any plant.

-- EACH BATCH HAS ITS FATE

pub settled_without_last : (js : List Batch) (now : ℕ) → AreSettled js now → AreSettled (without_last js) now
settled_without_last (a ∷ next ∷ js) now are = (are.0, are.1, are.2, settled_without_last (next ∷ js) now are.3)
settled_without_last _ now are = tt

-- a batch in flight that gets its fate has its place already
pub as_many_fated : (found reached now : ℕ) (c : Option Batch) (was is : List Batch) → IsFatedBy found reached now c was is → length is ≡ length was
as_many_fated found reached now None was is same = ap (λ (l : List Batch). length l) same
as_many_fated found reached now (Some b) was is fate = ap (λ (l : List Batch). length l) fate ∙ as_many (fated (if found == reached then Dropped else Kept) now b) was

-- WHOSE BATCH IS IN FLIGHT

-- it is of the member that holds, or of one that was stopped
abbrev pub IsOwned : Option Batch → Book → Type 0
IsOwned c book = (batch : Batch) → c ≡ Some batch → batch.by ≢ book.holder → is_stopped book batch.by ≡ true

pub owned_none : (book : Book) → IsOwned None book
owned_none book batch is other = absurd (cc)

-- WHAT A CALL LEAVES OF THE BOOK: who was stopped still is, and what is in flight is still somebody's

pub record Booked (c : Option Batch) (book is : Book) : Type 0 where
  pub up : (k : MemberId) → is_stopped is k ≡ false → is_stopped book k ≡ false
  pub owned : IsOwned c is

module _ (b : Book) (m : MemberId) (c : Option Batch) (inside : IsMember b m) (own : IsOwned c b) where
  -- the same member holds, or the member of a batch in flight was stopped
  books : (is : Book) → ((k : MemberId) → is_stopped is k ≡ false → is_stopped b k ≡ false) → (is.holder ≡ b.holder) ⊎ ((batch : Batch) → c ≡ Some batch → is_stopped b batch.by ≡ true) → Booked c b is
  books is up how = record {
    up = up;
    owned = λ batch e other. stays_true (is_stopped is batch.by) (is_stopped b batch.by) (up batch.by) (⊎_elim (λ same. own batch e (λ x. other (x ∙ sym same))) (λ all. all batch e) how);
  }

  pub stops : Booked c b (after_stop b m)
  stops = books (after_stop b m) (λ k up. (stopped_up b m inside k up).1) (inl refl)

  pub prints : (done : Act) → Booked c b (book_by m done b)
  prints Halted = stops
  prints _ = books b (λ k up. up) (inl refl)

  pub spends : (commands : ℕ) → Booked c b (after_spend b m commands)
  spends commands = books (after_spend b m commands) (standing_up b m (record (standing b m) { left = left_of b m - commands }) inside (λ u. u)) (inl refl)

  -- a try is granted where nobody holds, and nothing is in flight then
  pub tries : (inner : Bool) → (b.holder ≡ nobody → c ≡ None) → Booked c b (after_try b m inner)
  tries inner away =
      test_cases (is_stopped b m) (Booked c b (after_try b m inner)) (λ s. rw s (books b (λ k up. up) (inl refl))) (λ s.
      test_cases (is_holder b m) (Booked c b (after_try b m inner)) (λ h. rw (s, h) (books b (λ k up. up) (inl refl))) (λ h.
      test_cases (is_somebody b.holder) (Booked c b (after_try b m inner)) (λ e. rw (s, h, e) (books (ticked b inner) (λ k up. up) (inl refl))) (λ e.
      test_cases (is_dormant b m inner) (Booked c b (after_try b m inner)) (λ d. rw (s, h, e, d) (books (ticked b inner) (λ k up. up) (inl refl))) (λ d.
      let same : after_try b m inner ≡ granted (ticked b inner) m = rw (s, h, e, d) refl in
      subst (Booked c b) (sym same) (books (granted (ticked b inner) m) (granted_up (ticked b inner) m inside) (inr (λ batch is. let none : c ≡ None = away (same_member_is b.holder nobody (not-false (b.holder.0 == 0) e)) in absurd (cc))))))))

  -- the member that holds has nothing in flight when it gives the lock up
  pub frees : (inner : Bool) → (is_holder b m ≡ true → c ≡ None) → Booked c b (after_free b m inner)
  frees inner none =
      test_cases (is_holder b m) (Booked c b (after_free b m inner))
      (λ e. rw e (books (if inner then with_holder b nobody else with_holder (noted b m) nobody) (of_if (λ (x : Book). (k : MemberId) → is_stopped x k ≡ false → is_stopped b k ≡ false) inner (with_holder b nobody) (with_holder (noted b m) nobody) (λ _ k u. u) (λ _ k u. standing_up b m (record (standing b m) { freed = Some b.tick }) inside (λ w. w) k u)) (inr (λ batch is. let free : c ≡ None = none e in absurd (cc)))))
      (λ e. rw e (books b (λ k up. up) (inl refl)))

  -- the lock is taken over from a member that is stopped
  pub seizes : (of : MemberId) → Booked c b (after_seize b m of)
  seizes of =
      test_cases (is_stopped b of) (Booked c b (after_seize b m of)) (λ s.
      test_cases (is_holder b of) (Booked c b (after_seize b m of)) (λ h. rw (s, h) (books (granted b m) (granted_up b m inside) (inr (stopped s h)))) (λ h. rw (s, h) (books b (λ k up. up) (inl refl))))
      (λ s. rw s (books b (λ k up. up) (inl refl)))
    where
      stopped : is_stopped b of ≡ true → is_holder b of ≡ true → (batch : Batch) → c ≡ Some batch → is_stopped b batch.by ≡ true
      stopped down holds batch is =
          test_cases (same_member batch.by b.holder) (is_stopped b batch.by ≡ true)
          (λ e. subst (λ (k : MemberId). is_stopped b k ≡ true) (sym (same_member_is batch.by b.holder e ∙ same_member_is b.holder of holds)) down)
          (λ e. own batch is (λ same. true≢false (sym (eq-eqb batch.by.0 b.holder.0 (ap (λ (k : MemberId). k.0) same)) ∙ e)))

module _ (b : Book) (m : MemberId) where
  pub tried_up : (inner : Bool) → IsMember b m → (k : MemberId) → is_stopped (after_try b m inner) k ≡ false → is_stopped b k ≡ false
  tried_up inner inside = (tries b m None inside (owned_none b) inner (λ _. refl)).up

  pub freed_up : (inner : Bool) → IsMember b m → (k : MemberId) → is_stopped (after_free b m inner) k ≡ false → is_stopped b k ≡ false
  freed_up inner inside = (frees b m None inside (owned_none b) inner (λ _. refl)).up

  pub seized_up : (of : MemberId) → IsMember b m → (k : MemberId) → is_stopped (after_seize b m of) k ≡ false → is_stopped b k ≡ false
  seized_up of inside = (seizes b m None inside (owned_none b) of).up

  pub spent_up : (commands : ℕ) → IsMember b m → (k : MemberId) → is_stopped (after_spend b m commands) k ≡ false → is_stopped b k ≡ false
  spent_up commands inside = (spends b m None inside (owned_none b) commands).up

-- Calls of the book by one member: nobody else is stopped or up by them, and who holds then held before, or is the
-- member.
use Rattle.std.proofs.Common.{◌≡◌, ◌≢◌, ◌∙◌, ◌⊎◌, inl, inr, ⊎_elim, ◌-◌, ◌<◌, ◌==◌, ◌||◌, if◌then◌else◌, is_some, ℕ, zero, suc, Bool, true, false, length, Some, ap, refl, subst, arith}
use Rattle.std.proofs.lemmas.Bool.{eqb-false as apart_is, eqb-true as number_is}
use Rattle.std.specs.Prelude.{slice_index_or}
use Rattle.std.proofs.lemmas.List.{get_or-set_other, get_or-set_same, length-set}
use Rattle.mas_types.specs.declared.ids.MemberId.{MemberId}
use Rattle.mas_types.specs.Ids.{is_somebody, nobody}
use Rattle.lock_cycle.specs.declared.standings.Standing.{Standing}
use Rattle.lock_cycle.specs.Books.{Book, IsMember, after_free, after_seize, after_spend, after_stop, after_try, beginner, granted, is_holder, is_stopped, left_of, noted, seize_refusal, standing, ticked, try_refusal, with_holder, with_standing}

by_test : {A : Type 0} (b : Bool) → (b ≡ true → A) → (b ≡ false → A) → A
by_test true f g = f refl
by_test false f g = g refl

pub record OnlyBy (by : MemberId) (b c : Book) : Type 0 where
  pub many : length c.members ≡ length b.members
  pub hold : c.hold ≡ b.hold
  pub stays : (k : MemberId) → is_stopped b k ≡ true → is_stopped c k ≡ true
  pub others : (k : MemberId) → is_somebody k ≡ true → k.0 ≢ by.0 → is_stopped c k ≡ is_stopped b k
  pub holder : (c.holder ≡ b.holder) ⊎ (c.holder ≡ by) ⊎ (c.holder ≡ nobody)

pub only_none : (by : MemberId) (b : Book) → OnlyBy by b b
only_none by b = record { many = refl; hold = refl; stays = λ k down. down; others = λ k some apart. refl; holder = inl refl }

pub only_then : (by : MemberId) (b c d : Book) → OnlyBy by b c → OnlyBy by c d → OnlyBy by b d
only_then by b c d one two = record {
  many = two.many ∙ one.many;
  hold = two.hold ∙ one.hold;
  stays = λ k down. two.stays k (one.stays k down);
  others = λ k some apart. two.others k some apart ∙ one.others k some apart;
  holder = ⊎_elim (λ same. ⊎_elim (λ was. inl (same ∙ was)) (λ apart. inr (⊎_elim (λ mine. inl (same ∙ mine)) (λ free. inr (same ∙ free)) apart)) one.holder) (λ apart. inr apart) two.holder;
}

some_number : (n : ℕ) → is_somebody (record { 0 = n }) ≡ true → 0 < n
some_number zero is = absurd (cc)
some_number (suc n) is = omega arith

module _ (by : MemberId) (b : Book) (inside : IsMember b by) where
  -- how the member stands changes, and who holds
  module _ (s : Standing) (holder : MemberId) (stays_so : (standing b by).stopped ≡ true → s.stopped ≡ true) (who : (holder ≡ b.holder) ⊎ (holder ≡ by) ⊎ (holder ≡ nobody)) where
    abbrev c : Book
    c = with_standing (record b { holder = holder }) by s

    at_own : (k : MemberId) → k.0 - 1 ≡ by.0 - 1 → standing c k ≡ s
    at_own k same = rw same (get_or-set_same b.members (by.0 - 1) s (beginner 0) (let one = inside.0 in let two = inside.1 in omega (arith, one, two)))

    at_other : (k : MemberId) → k.0 - 1 ≢ by.0 - 1 → standing c k ≡ standing b k
    at_other k apart = get_or-set_other b.members (by.0 - 1) (k.0 - 1) s (beginner 0) apart

    pub set_only : OnlyBy by b c
    set_only = record {
      many = length-set b.members (by.0 - 1) s;
      hold = refl;
      stays = λ k down. by_test ((k.0 - 1) == (by.0 - 1))
          (λ e.
          let same : k.0 - 1 ≡ by.0 - 1 = number_is (k.0 - 1) (by.0 - 1) e in
          ap (λ (t : Standing). t.stopped) (at_own k same) ∙ stays_so (subst (λ (n : ℕ). (slice_index_or b.members n (beginner 0)).stopped ≡ true) same down))
          (λ e. ap (λ (t : Standing). t.stopped) (at_other k (λ same. apart_is (k.0 - 1) (by.0 - 1) e same)) ∙ down);
      others = λ k some apart. ap (λ (t : Standing). t.stopped) (at_other k (λ same. apart (let one = inside.0 in let two = some_number k.0 some in omega (arith, one, two, same))));
      holder = who;
    }

  -- only who holds
  held_only : (holder : MemberId) → (holder ≡ b.holder) ⊎ (holder ≡ by) ⊎ (holder ≡ nobody) → OnlyBy by b (record b { holder = holder })
  held_only holder who = record { many = refl; hold = refl; stays = λ k down. down; others = λ k some apart. refl; holder = who }

  granted_only : OnlyBy by b (granted b by)
  granted_only = set_only (record (standing b by) { left = b.hold }) by (λ is. is) (inr (inl refl))

  pub spent_only : (commands : ℕ) → OnlyBy by b (after_spend b by commands)
  spent_only commands = set_only (record (standing b by) { left = left_of b by - commands }) b.holder (λ is. is) (inl refl)

  pub stopped_only : OnlyBy by b (after_stop b by)
  stopped_only = set_only (record (standing b by) { stopped = true }) b.holder (λ is. refl) (inl refl)

  pub freed_only : (inner : Bool) → OnlyBy by b (after_free b by inner)
  freed_only inner = by_holder (is_holder b by) where
    by_inner : (t : Bool) → OnlyBy by b (if t then with_holder b nobody else with_holder (noted b by) nobody)
    by_inner true = held_only nobody (inr (inr refl))
    by_inner false = set_only (record (standing b by) { freed = Some b.tick }) nobody (λ is. is) (inr (inr refl))

    by_holder : (h : Bool) → OnlyBy by b (if h then (if inner then with_holder b nobody else with_holder (noted b by) nobody) else b)
    by_holder true = by_inner inner
    by_holder false = only_none by b

  pub tried_only : (inner : Bool) → OnlyBy by b (after_try b by inner)
  tried_only inner = by_first (is_stopped b by || is_holder b by) where
    by_refusal : (r : Bool) → OnlyBy by b (if r then ticked b inner else granted (ticked b inner) by)
    by_refusal true = record { many = refl; hold = refl; stays = λ k down. down; others = λ k some apart. refl; holder = inl refl }
    by_refusal false = let g = set_only (record (standing b by) { left = b.hold }) by (λ is. is) (inr (inl refl)) in record { many = g.many; hold = refl; stays = g.stays; others = g.others; holder = inr (inl refl) }

    by_first : (t : Bool) → OnlyBy by b (if t then b else if is_some (try_refusal b by inner) then ticked b inner else granted (ticked b inner) by)
    by_first true = only_none by b
    by_first false = by_refusal (is_some (try_refusal b by inner))

  pub seized_only : (of : MemberId) → OnlyBy by b (after_seize b by of)
  seized_only of = by_refusal (is_some (seize_refusal b of)) where
    by_refusal : (r : Bool) → OnlyBy by b (if r then b else granted b by)
    by_refusal true = only_none by b
    by_refusal false = granted_only

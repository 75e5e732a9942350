-- Books that differ at most in what is left of holds: each member was stopped and gave the lock up alike.
use Rattle.std.proofs.Common.{◌≡◌, ⊎_elim, ℕ, zero, suc, ◌-◌, ◌<◌, Bool, true, false, not, ◌&&◌, nat_lt, if◌then◌else◌, List, [], ◌∷◌, get_or, length, set, Option, Some, None, refl, sym, ap, ◌∙◌, subst}
use Rattle.std.proofs.lemmas.List.{length-set}
use Rattle.mas_types.specs.declared.ids.MemberId.{MemberId}
use Rattle.mas_types.specs.declared.journals.Entry.{Entry}
use Rattle.mas_types.specs.Ids.{is_somebody, nobody, same_member}
use Rattle.lock_cycle.specs.declared.answers.LockNo.{LockNo}
use Rattle.lock_cycle.specs.declared.answers.LockNo.TheVariants as lock
use Rattle.lock_cycle.specs.declared.standings.Standing.{Standing}
use Rattle.lock_cycle.specs.Books.{Book, after_free, beginner, granted, is_holder, is_stopped, left_of, noted, standing, tick_of, ticked, try_refusal, wakes_at, with_holder, with_standing}
use Rattle.step_turns.specs.Entries.{all_entries}
use Rattle.step_turns.specs.declared.states.Release.TheVariants.{Inner, Outer}
use Rattle.run_turns.specs.Pieces.{entered, released_by, spent}
use Rattle.run_turns.proofs.Alone.{Holds, MayHold, at_holder, grant_after, holds_it, is_then, no_refusal, nobody_there}

-- STANDINGS

pub record Same (s t : Standing) : Type 0 where
  pub stopped : s.stopped ≡ t.stopped
  pub freed : s.freed ≡ t.freed

abbrev AreSame : List Standing → List Standing → Type 0
AreSame xs ys = (k : ℕ) → Same (get_or xs k (beginner 0)) (get_or ys k (beginner 0))

same_again : (s : Standing) → Same s s
same_again s = record { stopped = refl; freed = refl }

-- of two lists of one length the same place is set
set_alike : (xs ys : List Standing) (i : ℕ) (s t : Standing) → length xs ≡ length ys → Same s t → AreSame xs ys → AreSame (set xs i s) (set ys i t)
set_alike [] [] i s t many same all k = all k
set_alike [] (y ∷ ys) i s t many same all k = absurd (cc)
set_alike (x ∷ xs) [] i s t many same all k = absurd (cc)
set_alike (x ∷ xs) (y ∷ ys) zero s t many same all zero = same
set_alike (x ∷ xs) (y ∷ ys) zero s t many same all (suc k) = all (suc k)
set_alike (x ∷ xs) (y ∷ ys) (suc i) s t many same all zero = all zero
set_alike (x ∷ xs) (y ∷ ys) (suc i) s t many same all (suc k) = set_alike xs ys i s t (let e : suc (length xs) ≡ suc (length ys) = many in cc) same (λ n. all (suc n)) k

-- a standing takes the place of one that is the same
set_same : (xs ys : List Standing) (i : ℕ) (s : Standing) → Same s (get_or xs i (beginner 0)) → AreSame xs ys → AreSame (set xs i s) ys
set_same [] ys i s same all k = all k
set_same (x ∷ xs) ys zero s same all zero =
    let old = all zero in record { stopped = same.stopped ∙ old.stopped; freed = same.freed ∙ old.freed }
set_same (x ∷ xs) ys zero s same all (suc k) = all (suc k)
set_same (x ∷ xs) [] (suc i) s same all zero = all zero
set_same (x ∷ xs) [] (suc i) s same all (suc k) = set_same xs [] i s same (λ n. all (suc n)) k
set_same (x ∷ xs) (y ∷ ys) (suc i) s same all zero = all zero
set_same (x ∷ xs) (y ∷ ys) (suc i) s same all (suc k) = set_same xs ys i s same (λ n. all (suc n)) k

-- BOOKS

pub record Near (b c : Book) : Type 0 where
  pub tick : b.tick ≡ c.tick
  pub hold : b.hold ≡ c.hold
  pub dormancy : b.dormancy ≡ c.dormancy
  pub many : length b.members ≡ length c.members
  pub each : AreSame b.members c.members

module _ (m : MemberId) where
  near_with : (b c : Book) (s : Standing) → Same s (standing b m) → Near b c → Near (with_standing b m s) c
  near_with b c s same near = record {
    tick = near.tick;
    hold = near.hold;
    dormancy = near.dormancy;
    many = length-set b.members (m.0 - 1) s ∙ near.many;
    each = set_same b.members c.members (m.0 - 1) s same near.each;
  }

  near_both : (b c : Book) (s t : Standing) → Same s t → Near b c → Near (with_standing b m s) (with_standing c m t)
  near_both b c s t same near = record {
    tick = near.tick;
    hold = near.hold;
    dormancy = near.dormancy;
    many = length-set b.members (m.0 - 1) s ∙ near.many ∙ sym (length-set c.members (m.0 - 1) t);
    each = set_alike b.members c.members (m.0 - 1) s t near.many same near.each;
  }

  near_holders : (b c : Book) (k n : MemberId) → Near b c → Near (with_holder b k) (with_holder c n)
  near_holders b c k n near = record { tick = near.tick; hold = near.hold; dormancy = near.dormancy; many = near.many; each = near.each }

  near_holder : (b c : Book) (k : MemberId) → Near b c → Near (with_holder b k) c
  near_holder b c k near = record { tick = near.tick; hold = near.hold; dormancy = near.dormancy; many = near.many; each = near.each }

  pub near_ticked : (b c : Book) (inner : Bool) → Near b c → Near (ticked b inner) (ticked c inner)
  near_ticked b c inner near = record {
    tick = ap (λ (n : ℕ). tick_of n inner) near.tick;
    hold = near.hold;
    dormancy = near.dormancy;
    many = near.many;
    each = near.each;
  }

  pub near_granted : (b c : Book) → Near b c → Near (granted (ticked b false) m) (granted (ticked c false) m)
  near_granted b c near =
      near_both (with_holder (ticked b false) m) (with_holder (ticked c false) m) (record (standing b m) { left = b.hold }) (record (standing c m) { left = c.hold })
      (let old = near.each (m.0 - 1) in record { stopped = old.stopped; freed = old.freed })
      (near_holders (ticked b false) (ticked c false) m m (near_ticked b c false near))

  module _ (some : 0 < m.0) where
    pub near_entered : (b c : Book) → MayHold b m → Near b c → Near (entered b m) c
    near_entered b c may near =
        ⊎_elim
        (λ is. subst (λ (d : Book). Near d c) (sym (at_holder (is_stopped b m) (is_holder b m) b _ (holds_it m some b is))) near)
        (λ is.
        subst (λ (d : Book). Near d c)
        (sym (grant_after m some b true may.up is (no_refusal (is_stopped b m) (is_holder b m) (is_somebody b.holder) _ _ may.up (nobody_there m some b is))))
        (near_with (with_holder (ticked b true) m) c (record (standing b m) { left = b.hold }) (record { stopped = refl; freed = refl })
        (near_holder (ticked b true) c m (record { tick = near.tick; hold = near.hold; dormancy = near.dormancy; many = near.many; each = near.each }))))
        may.holder

    pub near_spent : (b c : Book) (ess : List (List Entry)) → Near b c → Near (spent b m ess) c
    near_spent b c ess near =
        near_with b c (record (standing b m) { left = left_of b m - length (all_entries ess) }) (record { stopped = refl; freed = refl }) near

    pub near_inner : (b c : Book) → Holds b m → Near b c → Near (released_by Inner b m) c
    near_inner b c h near =
        subst (λ (d : Book). Near d c) (sym (is_then (is_holder b m) (with_holder b nobody) b (holds_it m some b h.holder))) (near_holder b c nobody near)

    pub near_outer : (b c : Book) → Holds b m → Holds c m → Near b c → Near (released_by Outer b m) (after_free c m false)
    near_outer b c h g near =
        subst (λ (d : Book). Near d (after_free c m false)) (sym (is_then (is_holder b m) (with_holder (noted b m) nobody) b (holds_it m some b h.holder)))
        (subst (λ (d : Book). Near (with_holder (noted b m) nobody) d) (sym (is_then (is_holder c m) (with_holder (noted c m) nobody) c (holds_it m some c g.holder)))
        (near_holders (noted b m) (noted c m) nobody nobody
        (near_both b c (record (standing b m) { freed = Some b.tick }) (record (standing c m) { freed = Some c.tick })
        (let old = near.each (m.0 - 1) in let tick = near.tick in record { stopped = old.stopped; freed = ap (λ (n : ℕ). Some n) tick }) near)))

-- WHAT A TRY IS ANSWERED

abbrev refusal_as : MemberId → Bool → MemberId → ℕ → ℕ → Option ℕ → Option LockNo
refusal_as m stopped holder tick dormancy freed =
    if stopped then Some lock.Down
    else if same_member holder m then None
    else if is_somebody holder then Some (lock.Busy holder)
    else if not false && nat_lt (tick_of tick false) (wakes_at dormancy freed) then Some (lock.Dormant (wakes_at dormancy freed))
    else None

pub same_refusal : (m : MemberId) (b c : Book) → b.holder ≡ c.holder → Near b c → try_refusal b m false ≡ try_refusal c m false
same_refusal m b c holder near =
    let old = near.each (m.0 - 1) in
    ap (λ (s : Bool). refusal_as m s b.holder b.tick b.dormancy (standing b m).freed) old.stopped
    ∙ ap (λ (h : MemberId). refusal_as m (is_stopped c m) h b.tick b.dormancy (standing b m).freed) holder
    ∙ ap (λ (n : ℕ). refusal_as m (is_stopped c m) c.holder n b.dormancy (standing b m).freed) near.tick
    ∙ ap (λ (n : ℕ). refusal_as m (is_stopped c m) c.holder c.tick n (standing b m).freed) near.dormancy
    ∙ ap (λ (f : Option ℕ). refusal_as m (is_stopped c m) c.holder c.tick c.dormancy f) old.freed

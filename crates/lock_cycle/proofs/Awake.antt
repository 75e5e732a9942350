-- With a dormancy of 0 nobody is dormant, whatever was called.
use Rattle.std.proofs.Common.{◌≡◌, ℕ, zero, suc, ◌-◌, ◌≤◌, ◌⊎◌, Bool, true, false, List, [], ◌∷◌, get_or, set, replicate, refl, sym, subst, inl, inr, ⊎_elim, arith, Some, if◌then◌else◌}
use Rattle.std.proofs.lemmas.Grind.{common_steps}
use Rattle.lock_cycle.specs.declared.standings.Standing.{Standing}
use Rattle.lock_cycle.specs.declared.answers.LockNo.TheVariants as lock
use Rattle.mas_types.specs.declared.ids.MemberId.{MemberId}
use Rattle.mas_types.specs.Ids.{nobody}
use Rattle.lock_cycle.specs.Books.{Book, tick_most, beginner, new_book, wakes_at, ticked, with_holder, with_standing, noted, granted, try_refusal}
use Rattle.lock_cycle.specs.Laws.{Call, tries, frees, stops, seizes, spends, moved, moved_by}

-- an item of a list of which one was set is the new one, or as before
get_or-set_either : {A : Type 0} (l : List A) (i k : ℕ) (x d : A) → (get_or (set l i x) k d ≡ x) ⊎ (get_or (set l i x) k d ≡ get_or l k d)
get_or-set_either [] i k x d = inr refl
get_or-set_either (y ∷ l) zero zero x d = inl refl
get_or-set_either (y ∷ l) zero (suc k) x d = inr refl
get_or-set_either (y ∷ l) (suc i) zero x d = inr refl
get_or-set_either (y ∷ l) (suc i) (suc k) x d = get_or-set_either l i k x d

-- at this tick a member that stands so isn't dormant
abbrev Wakes : ℕ → Standing → Type 0
Wakes tick s = wakes_at 0 s.freed ≤ tick

pub record IsAwake (b : Book) : Type 0 where
  pub dormancy : b.dormancy ≡ 0
  pub most : b.tick ≤ tick_most
  pub each : (k : ℕ) → Wakes b.tick (get_or b.members k (beginner 0))

-- where one standing changes to one that isn't dormant, none is
awake_with : (b : Book) (m : MemberId) (s : Standing) → IsAwake b → Wakes b.tick s → IsAwake (with_standing b m s)
awake_with b m s a w = record {
  dormancy = a.dormancy;
  most = a.most;
  each = λ k.
      ⊎_elim
      (λ e. subst (Wakes b.tick) (sym e) w)
      (λ e. subst (Wakes b.tick) (sym e) (a.each k))
      (get_or-set_either b.members (m.0 - 1) k s (beginner 0));
}

awake_held : (b : Book) (m : MemberId) → IsAwake b → IsAwake (with_holder b m)
awake_held b m a = record { dormancy = a.dormancy; most = a.most; each = a.each }

awake_granted : (b : Book) (m : MemberId) → IsAwake b → IsAwake (granted b m)
awake_granted b m a = awake_with (with_holder b m) m _ (awake_held b m a) (a.each (m.0 - 1))

awake_ticked : (b : Book) (inner : Bool) → IsAwake b → IsAwake (ticked b inner)
awake_ticked b true a = record { dormancy = a.dormancy; most = a.most; each = a.each }
awake_ticked b false a = record {
  dormancy = a.dormancy;
  most = let most = a.most in omega arith;
  each = λ k. let most = a.most in let w = a.each k in omega arith;
}

awake_noted : (b : Book) (m : MemberId) → IsAwake b → IsAwake (noted b m)
awake_noted b m a = awake_with b m _ a (let most = a.most in omega arith)

-- a choice of two books that are awake
awake_either : (test : Bool) (b c : Book) → IsAwake b → IsAwake c → IsAwake (if test then b else c)
awake_either true b c x y = x
awake_either false b c x y = y

awake_moved : (b : Book) (c : Call) → IsAwake b → IsAwake (moved b c)
awake_moved b (tries m inner) a =
    awake_either _ b _ a (awake_either _ (ticked b inner) (granted (ticked b inner) m) (awake_ticked b inner a) (awake_granted (ticked b inner) m (awake_ticked b inner a)))
awake_moved b (frees m inner) a =
    awake_either _ _ b (awake_either inner (with_holder b nobody) (with_holder (noted b m) nobody) (awake_held b nobody a) (awake_held (noted b m) nobody (awake_noted b m a))) a
awake_moved b (stops m) a = awake_with b m _ a (a.each (m.0 - 1))
awake_moved b (seizes m of) a = awake_either _ b (granted b m) a (awake_granted b m a)
awake_moved b (spends m commands) a = awake_with b m _ a (a.each (m.0 - 1))

pub awake_moved_by : (b : Book) (cs : List Call) → IsAwake b → IsAwake (moved_by b cs)
awake_moved_by b [] a = a
awake_moved_by b (c ∷ cs) a = awake_moved_by (moved b c) cs (awake_moved b c a)

beginners_wake : (count hold k : ℕ) → Wakes 0 (get_or (replicate count (beginner hold)) k (beginner 0))
beginners_wake zero hold k = omega arith
beginners_wake (suc count) hold zero = omega arith
beginners_wake (suc count) hold (suc k) = beginners_wake count hold k

pub awake_new : (count hold : ℕ) → IsAwake (new_book count hold 0)
awake_new count hold = record { dormancy = refl; most = omega arith; each = beginners_wake count hold }

-- who isn't dormant finds no dormancy
pub awake_tries : (b : Book) (m : MemberId) (inner : Bool) (until : ℕ) → IsAwake b → try_refusal b m inner ≡ Some (lock.Dormant until) → ⊥
awake_tries b m inner until a e =
    let none = a.dormancy in let most = a.most in let w = a.each (m.0 - 1) in grind (arith, common_steps)

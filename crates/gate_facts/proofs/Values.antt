-- Desks that may have become synced, and marks that grow.
use Rattle.std.proofs.Common.{◌≡◌, ℕ, Bool, true, List, [], ◌∷◌, refl, ◌∙◌, inl, inr, ⊎_elim, arith}
use Rattle.gate_facts.specs.declared.desks.Group.{Group}
use Rattle.gate_facts.specs.declared.desks.Desk.{Desk}
use Rattle.gate_facts.specs.declared.marks.Marks.{Marks}
use Rattle.gate_facts.specs.Values.{marked_at, number_at, no_desk, SyncedGroups, Synced, PlaysOperator, LostOnce, LostAtMostOnce, LostAgain, Later}
use Rattle.gate_facts.proofs.Lists.{true_false, not_true}

groups_refl : (gs : List Group) → SyncedGroups gs gs
groups_refl [] = tt
groups_refl (g ∷ gs) = (refl, refl, (λ e. e), groups_refl gs)

groups_trans : (a b c : List Group) → SyncedGroups a b → SyncedGroups b c → SyncedGroups a c
groups_trans [] [] [] s t = tt
groups_trans [] [] (z ∷ c) s t = t
groups_trans [] (y ∷ b) c s t = absurd s
groups_trans (x ∷ a) [] c s t = absurd s
groups_trans (x ∷ a) (y ∷ b) [] s t = t
groups_trans (x ∷ a) (y ∷ b) (z ∷ c) s t = (s.0 ∙ t.0, s.1 ∙ t.1, (λ e. t.2 (s.2 e)), groups_trans a b c s.3 t.3)

groups_none : (gs : List Group) → SyncedGroups gs [] → gs ≡ []
groups_none [] s = refl
groups_none (g ∷ gs) s = absurd s

pub synced_refl : (d : Desk) → Synced d d
synced_refl d = record { hold = refl; printed = refl; told = refl; groups = groups_refl d.groups; noted = refl }

pub synced_trans : (a b c : Desk) → Synced a b → Synced b c → Synced a c
synced_trans a b c s t = record { hold = s.hold ∙ t.hold; printed = s.printed ∙ t.printed; told = s.told ∙ t.told; groups = groups_trans a.groups b.groups c.groups s.groups t.groups; noted = s.noted ∙ t.noted }

pub synced_none : (d : Desk) → Synced d no_desk → d ≡ no_desk
synced_none d s = λ i. record { hold = s.hold i; printed = s.printed i; told = s.told i; groups = groups_none d.groups s.groups i; noted = s.noted i }

pub later_refl : (cares : List Bool) (a : Marks) → Later cares a a
later_refl cares a = record { since = refl; arms = refl; own_stops = λ m e. refl; stops = λ m. omega arith; faults = λ k. omega arith; lost = λ d e. e; own_loses = λ op d. inl refl; loses = λ d. (omega arith, λ alive. refl) }

-- LOSSES

module _ (a b c : Marks) (d : ℕ) (stays : marked_at b.lost d ≡ true → marked_at a.lost d ≡ true) where
  pub once_trans : (marked_at c.lost d ≡ true → marked_at b.lost d ≡ true) → LostOnce a b d → LostOnce b c d → LostOnce a c d
  once_trans before s t = ⊎_elim
      (λ x. ⊎_elim (λ y. inl (x ∙ y)) (λ y. inr (x ∙ y.0, stays y.1, y.2)) t)
      (λ x. ⊎_elim
      (λ y. inr ((let p = x.0 in omega arith), x.1, not_true (marked_at c.lost d) (λ l. true_false (marked_at b.lost d) (before l) x.2)))
      (λ y. true_false (marked_at b.lost d) y.1 x.2)
      t)
      s

  pub at_most_trans : LostOnce a b d → LostAtMostOnce b c d → LostAtMostOnce a c d
  at_most_trans s t = ⊎_elim
      (λ x. ⊎_elim (λ y. inl (x ∙ y)) (λ y. inr (x ∙ y.0, stays y.1)) t)
      (λ x. ⊎_elim
      (λ y. inr ((let p = x.0 in omega arith), x.1))
      (λ y. true_false (marked_at b.lost d) y.1 x.2)
      t)
      s

  pub again_trans : LostAgain a b d → LostAgain b c d → LostAgain a c d
  again_trans s t = (
    (let p = s.0 in let q = t.0 in omega arith),
    λ alive. s.1 alive ∙ t.1 (not_true (marked_at b.lost d) (λ l. true_false (marked_at a.lost d) (stays l) alive)),
  )

-- who was lost at most once may have been lost again
pub once_again : (a b : Marks) (d : ℕ) → LostOnce a b d → LostAgain a b d
once_again a b d once = ⊎_elim
    (λ x. ((let p = x in omega arith), λ alive. x))
    (λ x. ((let p = x.0 in omega arith), λ alive. true_false (marked_at a.lost d) x.1 alive))
    once

-- what is later than later marks is later
pub later_trans : (cares : List Bool) (a b c : Marks) → Later [] a b → ((m : ℕ) → marked_at cares m ≡ true → number_at a.stops m ≡ number_at b.stops m)
    → (PlaysOperator cares → (d : ℕ) → LostOnce a b d) → Later cares b c → Later cares a c
later_trans cares a b c s own once t = record {
  since = s.since ∙ t.since;
  arms = s.arms ∙ t.arms;
  own_stops = λ m e. own m e ∙ t.own_stops m e;
  stops = λ m. let x = s.stops m in let y = t.stops m in omega arith;
  faults = λ k. let x = s.faults k in let y = t.faults k in omega arith;
  lost = λ d e. s.lost d (t.lost d e);
  own_loses = λ op d. at_most_trans a b c d (s.lost d) (once op d) (t.own_loses op d);
  loses = λ d. again_trans a b c d (s.lost d) (s.loses d) (t.loses d);
}

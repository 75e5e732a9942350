-- Marks that two passes know.
use Rattle.std.proofs.Common.{◌≡◌, ◌≢◌, ℕ, ◌+◌, ◌≤◌, ◌⊎◌, Bool, true, List, inl, inr, ⊎_elim, arith}
use mathlib.Core.Logic.{dite}
use native.Mathlib.Decide.{ℕ_discrete}
use Rattle.gate_facts.specs.declared.marks.Marks.{Marks}
use Rattle.gate_facts.specs.Values.{marked_at, number_at, LostAtMostOnce, Later}
use Rattle.member_gate.specs.Marking.{either_of, greater}
use Rattle.member_gate.specs.Views.{both_marks}
use Rattle.member_gate.proofs.Places.{greatest_at, either_at}

-- marks that are later than each of two are later than both
pub later_both : (cs ds : List Bool) (a b c : Marks) → Later cs a b → Later ds a c → Later (either_of cs ds) a (both_marks b c)
later_both cs ds a b c s t = record {
  since = s.since;
  arms = s.arms;
  own_stops = λ m e.
      let g = greatest_at b.stops c.stops m in let x = s.stops m in let y = t.stops m in
      ⊎_elim (λ p. let q = s.own_stops m p in omega arith) (λ p. let q = t.own_stops m p in omega arith) (either_at cs ds m e);
  stops = λ m. let g = greatest_at b.stops c.stops m in let x = s.stops m in let y = t.stops m in omega arith;
  faults = λ k. let g = greatest_at b.faults c.faults k in let x = s.faults k in let y = t.faults k in omega arith;
  lost = λ d e. ⊎_elim (λ p. s.lost d p) (λ p. t.lost d p) (either_at b.lost c.lost d e);
  own_loses = λ op d.
      let g = greatest_at b.loses c.loses d in
      ⊎_elim
      (λ p. at_most (number_at b.loses d) (number_at c.loses d) d g (t.loses d).0 (s.own_loses p d))
      (λ p. at_most_second (number_at b.loses d) (number_at c.loses d) d g (s.loses d).0 (t.own_loses p d))
      (either_at cs ds 0 op);
  loses = λ d.
      let g = greatest_at b.loses c.loses d in
      let x = (s.loses d).0 in
      let y = (t.loses d).0 in (
        (omega arith),
        λ alive. let p = (s.loses d).1 alive in let q = (t.loses d).1 alive in omega arith,
      );
} where
  both : Marks
  both = both_marks b c

  -- the count is one of the two, the greater
  at_most : (n k d : ℕ) → number_at both.loses d ≡ greater n k → k ≤ number_at a.loses d → (number_at a.loses d ≡ n) ⊎ ((number_at a.loses d ≡ n + 1) × (marked_at a.lost d ≡ true)) → LostAtMostOnce a both d
  at_most n k d g le once = ⊎_elim
      (λ same. let p = same in inl (omega arith))
      (λ more. let p = more.0 in dite (ℕ_discrete k (number_at a.loses d)) (λ e. inl (omega arith)) (λ ne. let other : k ≢ number_at a.loses d = ne in inr ((omega arith), more.1)))
      once

  at_most_second : (n k d : ℕ) → number_at both.loses d ≡ greater n k → n ≤ number_at a.loses d → (number_at a.loses d ≡ k) ⊎ ((number_at a.loses d ≡ k + 1) × (marked_at a.lost d ≡ true)) → LostAtMostOnce a both d
  at_most_second n k d g le once = ⊎_elim
      (λ same. let p = same in inl (omega arith))
      (λ more. let p = more.0 in dite (ℕ_discrete n (number_at a.loses d)) (λ e. inl (omega arith)) (λ ne. let other : n ≢ number_at a.loses d = ne in inr ((omega arith), more.1)))
      once

-- What Takes reply, one after another, and which are given.
use Rattle.member_decks.proofs.Names.{◌≡◌, ℕ, zero, suc, ◌-◌, ◌≤◌, ◌==◌, min, true, false, [], ◌∷◌, None, refl, arith, nat_tests, MemberId, Queue, Reply, free_count, test_cases, step, are_refused, left_after, takes}
use Rattle.mas_types.specs.declared.commands.Command.TheVariants as command
use Rattle.mas_types.specs.declared.commands.Reply.TheVariants as reply

module _ (Q : Queue) (by : MemberId) where
  -- a Take that isn't refused takes at least one group, and no more than are wanted
  pub take_counts : (want n : ℕ) → 1 ≤ want → (step Q by (command.Take want)).1 ≡ reply.Count n → (1 ≤ n) × (n ≤ want)
  take_counts want n some is =
      test_cases (free_count Q.owners == 0) ((1 ≤ n) × (n ≤ want))
      (λ e. absurd (let w = rw e at is in cc))
      (λ e. let counted : reply.Count (min want (free_count Q.owners)) ≡ reply.Count n = rw e at is in
      let same : min want (free_count Q.owners) ≡ n = cc in
      let there : 1 ≤ free_count Q.owners = grind (arith, nat_tests) in
      (omega (arith, some, there, same), omega (arith, same)))

  -- the first Take, and the Takes after it
  pub take_next : (times missing n : ℕ) → 1 ≤ missing → (step Q by (command.Take missing)).1 ≡ reply.Count n
      → (takes (suc times) Q by missing ≡ command.Take missing ∷ takes times (step Q by (command.Take missing)).0 by (missing - n)) × (are_refused (suc times) Q by missing ≡ are_refused times (step Q by (command.Take missing)).0 by (missing - n))
  take_next times zero n some is = absurd (omega (arith, some))
  take_next times (suc missing) n some is = (rw is refl, rw is refl)

  pub take_first : (times missing n : ℕ) → 1 ≤ missing → missing ≤ times → (step Q by (command.Take missing)).1 ≡ reply.Count n
      → (left : ℕ) × (missing - n ≤ left) × (takes times Q by missing ≡ command.Take missing ∷ takes left (step Q by (command.Take missing)).0 by (missing - n)) × (are_refused times Q by missing ≡ are_refused left (step Q by (command.Take missing)).0 by (missing - n))
  take_first zero missing n some le is = absurd (omega (arith, some, le))
  take_first (suc times) missing n some le is = let counts = take_counts missing n some is in let next = take_next times missing n some is in (times, omega (arith, le, counts.0), next.0, next.1)

  none_left : (missing : ℕ) (r : Reply) → ((n : ℕ) → r ≡ reply.Count n → ⊥) → left_after missing r ≡ None
  none_left missing (reply.Count n) other = absurd (other n refl)
  none_left missing _ other = refl

  -- a Take that is refused is the last one
  pub take_last : (times missing : ℕ) → 1 ≤ times → 1 ≤ missing → ((n : ℕ) → (step Q by (command.Take missing)).1 ≡ reply.Count n → ⊥) → (takes times Q by missing ≡ command.Take missing ∷ []) × (are_refused times Q by missing ≡ true)
  take_last zero missing some some' other = absurd (omega (arith, some))
  take_last (suc times) zero some some' other = absurd (omega (arith, some'))
  take_last (suc times) (suc missing) some some' other = let is = none_left (suc missing) (step Q by (command.Take (suc missing))).1 other in (rw is refl, rw is refl)

  -- nothing is missing
  pub take_none : (times missing : ℕ) → missing ≡ 0 → (takes times Q by missing ≡ []) × (are_refused times Q by missing ≡ false)
  take_none zero missing none = (refl, refl)
  take_none (suc times) zero none = (refl, refl)
  take_none (suc times) (suc missing) none = absurd (omega (arith, none))

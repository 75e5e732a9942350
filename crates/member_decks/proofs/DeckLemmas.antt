-- What a deck's first batch gives, command by command.
use Rattle.member_decks.proofs.Names.{◌≡◌, ℕ, zero, suc, ◌+◌, ◌-◌, ◌≤◌, ◌==◌, min, nat_lt, cond, Bool, true, false, if◌then◌else◌, List, [], ◌∷◌, ◌++◌, All, append-nil, refl, sym, ◌∙◌, ap, subst, arith, eq-eqb, nat_tests, sum_by-cons, All-nil, All-cons, All-head, All-tail, MemberId, JobNo, JobFields, Command, Reply, Entry, Owner, Queue, free_count, is_free, is_members, member_count, taken, test_cases, run, step, entry_of, are_refused, behind_begin, ends_as, ends_begun, given_in, opening, takes}
use Rattle.mas_types.specs.declared.commands.Command.TheVariants as command
use Rattle.mas_types.specs.declared.commands.Reply.TheVariants as reply
use Rattle.mas_types.specs.declared.queues.Owner.TheVariants as owner
pub use Rattle.queue_effect.proofs.GroupLemmas.{groups_small as groups_few}
use Rattle.queue_laws.proofs.FreeGroups.{free_then}
use Rattle.member_steps.specs.Steps.{entry_with}
use Rattle.member_decks.specs.declared.opening.Opened.{Opened}
use Rattle.member_decks.specs.declared.opening.Opened.TheVariants as opened
use Rattle.member_decks.specs.Steps.{AreOf}
use Rattle.member_decks.proofs.TakeLemmas.{take_next}

-- COMMANDS GIVEN ONE AFTER ANOTHER

pub given_append : (by : MemberId) (at : ℕ) (cs ds : List Command) (Q : Queue) → given_in Q by at (cs ++ ds) ≡ given_in Q by at cs ++ given_in (run Q (given_in Q by at cs)) by at ds
given_append by at [] ds Q = refl
given_append by at (c ∷ cs) ds Q = ap (λ (es : List Entry). entry_of Q by at c ∷ es) (given_append by at cs ds (step Q by c).0)

-- what each command brings its entry
pub given_each : (by : MemberId) (at : ℕ) (R : Command → Type 0) (P : Entry → Type 0) → ((c : Command) (r : Reply) → R c → P (entry_with by at c r)) → (cs : List Command) (Q : Queue) → All R cs → All P (given_in Q by at cs)
given_each by at R P to [] Q all = All-nil P
given_each by at R P to (c ∷ cs) Q all = All-cons P (entry_of Q by at c) (given_in (step Q by c).0 by at cs) (to c _ (All-head R c cs all)) (given_each by at R P to cs (step Q by c).0 (All-tail R c cs all))

-- commands that a member gives in a step are of that step
pub given_of : (by : MemberId) (at : ℕ) (cs : List Command) (Q : Queue) → AreOf by at (given_in Q by at cs)
given_of by at cs Q = given_each by at (λ c. Unit {0}) (λ e. (e.by ≡ by) × (e.step ≡ at)) (λ c r u. (refl, refl)) cs Q (λ k d lt. tt)

-- HOW A DECK BEGINS

module _ (by : MemberId) (fields : JobFields) (groups : ℕ) (Q : Queue) where
  abbrev begin : Command
  begin = command.Begin fields

  abbrev begun : Queue
  begun = (step Q by begin).0

  -- Begin was refused
  pub begins_alone : ((n : JobNo) → (step Q by begin).1 ≡ reply.Job n → ⊥) → (opening Q by fields groups ≡ begin ∷ []) × (ends_as Q by fields groups ≡ opened.Closed)
  begins_alone other = none (step Q by begin).1 other where
    none : (r : Reply) → ((n : JobNo) → r ≡ reply.Job n → ⊥) → (begin ∷ behind_begin begun by groups r ≡ begin ∷ []) × (ends_begun begun by groups r ≡ opened.Closed)
    none (reply.Job n) other = absurd (other n refl)
    none _ other = (refl, refl)

  -- the job is there: whether a Take was refused, after which the job is dropped
  pub begins_job : (n : JobNo) (b : Bool) → (step Q by begin).1 ≡ reply.Job n → are_refused groups begun by groups ≡ b
      → (opening Q by fields groups ≡ begin ∷ (takes groups begun by groups ++ (if b then command.Drop n ∷ [] else []))) × (ends_as Q by fields groups ≡ (if b then opened.Closed else opened.Ready n))
  begins_job n b got refused = (rw (got, refused) refl, rw (got, refused) refl)

-- what didn't come to groups is closed
pub closed_of : (o : Opened) → ((n : JobNo) → o ≡ opened.Ready n → ⊥) → o ≡ opened.Closed
closed_of opened.Closed other = refl
closed_of (opened.Ready n) other = absurd (other n refl)

-- THE MEMBER HAS THE GROUPS

module _ (m : MemberId) where
  abbrev both : List Owner → ℕ
  both gs = member_count m gs + free_count gs

  abbrev weight : Owner → ℕ
  weight o = cond (is_members m o) 1 0 + cond (is_free o) 1 0

  both_cons : (o : Owner) (gs : List Owner) → both (o ∷ gs) ≡ weight o + both gs
  both_cons o gs = rw (sum_by-cons (λ x. cond (is_members m x) 1 0) o gs, sum_by-cons (λ x. cond (is_free x) 1 0) o gs) (omega arith)

  -- what a Take gives the member was free
  both_taken : (want : ℕ) (gs : List Owner) → both (taken m want gs) ≡ both gs
  both_taken want [] = refl
  both_taken want (owner.Free ∷ gs) =
      test_cases (nat_lt 0 want) (both (taken m want (owner.Free ∷ gs)) ≡ both (owner.Free ∷ gs))
      (λ e. rw (e, both_cons (owner.Member m) (taken m (want - 1) gs), both_cons owner.Free gs, eq-eqb m.0 m.0 refl) (let rest = both_taken (want - 1) gs in omega (arith, rest)))
      (λ e. rw (e, both_cons owner.Free (taken m want gs), both_cons owner.Free gs) (let rest = both_taken want gs in omega (arith, rest)))
  both_taken want (o ∷ gs) = rw (both_cons o (taken m want gs), both_cons o gs) (ap (λ (n : ℕ). weight o + n) (both_taken want gs))

  -- Takes that aren't refused give as many groups as were missing
  pub takes_enough : (at times missing : ℕ) (Q : Queue) → missing ≤ times → are_refused times Q m missing ≡ false → missing + member_count m Q.owners ≤ member_count m (run Q (given_in Q m at (takes times Q m missing))).owners
  takes_enough at zero missing Q le all = omega (arith, le)
  takes_enough at (suc times) zero Q le all = omega arith
  takes_enough at (suc times) (suc missing) Q le all =
      test_cases (free_count Q.owners == 0) (suc missing + member_count m Q.owners ≤ member_count m (run Q (given_in Q m at (takes (suc times) Q m (suc missing)))).owners)
      (λ e. absurd (let never : true ≡ false = rw e at all in cc))
      (λ e.
      let c = command.Take (suc missing) in
      let some : 1 ≤ free_count Q.owners = grind (arith, nat_tests) in
      let left = free_then m (suc missing) Q.owners in
      let same = both_taken (suc missing) Q.owners in
      let owners : member_count m (step Q m c).0.owners ≡ member_count m (taken m (suc missing) Q.owners) = rw e refl in
      let next = take_next Q m times (suc missing) (min (suc missing) (free_count Q.owners)) (omega arith) (rw e refl) in
      let rest = takes_enough at times (suc missing - min (suc missing) (free_count Q.owners)) (step Q m c).0 (omega (arith, le, some)) (sym next.1 ∙ all) in
      subst (λ (cs : List Command). suc missing + member_count m Q.owners ≤ member_count m (run Q (given_in Q m at cs)).owners) (sym next.0) (omega (arith, rest, left, same, owners, some)))

  -- a deck that got its groups
  pub opened_enough : (at : ℕ) (fields : JobFields) (groups : ℕ) (Q : Queue) (n : JobNo) → ends_as Q m fields groups ≡ opened.Ready n → groups ≤ member_count m (run Q (given_in Q m at (opening Q m fields groups))).owners
  opened_enough at fields groups Q n is = behind (step Q m (command.Begin fields)).0 (step Q m (command.Begin fields)).1 is where
    behind : (R : Queue) (r : Reply) → ends_begun R m groups r ≡ opened.Ready n → groups ≤ member_count m (run R (given_in R m at (behind_begin R m groups r))).owners
    behind R (reply.Job k) is =
        test_cases (are_refused groups R m groups) (groups ≤ member_count m (run R (given_in R m at (behind_begin R m groups (reply.Job k)))).owners)
        (λ e. absurd (let never : opened.Closed ≡ opened.Ready n = rw e at is in cc))
        (λ e. rw (e, append-nil (takes groups R m groups)) (let enough = takes_enough at groups groups R (omega arith) e in omega (arith, enough)))
    behind R _ is = absurd (cc)

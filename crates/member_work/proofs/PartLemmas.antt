-- The parts of a job's end, one after another.
use Rattle.member_work.proofs.Names.{◌≡◌, ◌+◌, ℕ, ◌-◌, ◌≤◌, ◌==◌, false, List, [], ◌∷◌, ◌∙◌, inl, inr, refl, ap, subst, sym, arith, find, GroupNo, JobNo, MemberId, Command, OutSpec, Entry, Queue, free_count, has_number, is_of, Spools, run, step, are_refused, given_in, leb_tells, list_any, test_cases, take_counts, AreSpooled, IsUnderWay, taken_end, taking, min, Owner, Tables, Tell, member_count, groups_of_outputs, sum-groups, one_group}
use Rattle.mas_types.specs.declared.commands.Command.TheVariants as command
use Rattle.mas_types.specs.declared.commands.Reply.TheVariants as reply
use Rattle.job_outcome.specs.declared.units.UnitEnd.TheVariants as ends
use Rattle.member_decks.proofs.DeckLemmas.{takes_enough}
use Rattle.member_work.proofs.GivingLemmas.{all_of, next_refused, none_free, take_not_done, taken_all, taken_none, taken_some}

-- ALL GROUPS WERE TAKEN

module _ (Q : Queue) (by : MemberId) (at needed : ℕ) (some : 1 ≤ needed) (is : taken_end Q by at needed ≡ ends.Done) where
  abbrev first : Command
  first = command.Take needed

  by_count : (k : ℕ) → (step Q by first).1 ≡ reply.Count k → (step Q by first).1 ≡ reply.Count needed
  by_count k got = elim (leb_tells needed k) [
    | inl w ↦ let le = (take_counts Q by needed k some got).1 in let same : k ≡ needed = omega (arith, w.1, le) in got ∙ ap reply.Count same
    | inr w ↦
        let Q1 : Queue = (step Q by first).0 in
        absurd (take_not_done Q1 by (needed - k) (next_refused Q1 by (needed - k) (none_free Q by needed k got w.1)) (sym (taken_some Q by at needed some k got w.1).1 ∙ is))
  ]

  taken_got : (step Q by first).1 ≡ reply.Count needed
  taken_got =
      test_cases (free_count Q.owners == 0) ((step Q by first).1 ≡ reply.Count needed)
      (λ e. let other : (k : ℕ) → (step Q by first).1 ≡ reply.Count k → ⊥ = λ k count. (let w = rw e at count in cc) in absurd (take_not_done Q by needed other (sym (taken_none Q by at needed some other).1 ∙ is)))
      (λ e. by_count (min needed (free_count Q.owners)) (rw e refl))

  pub not_refused : are_refused needed Q by needed ≡ false
  not_refused = (all_of Q by at needed some taken_got).1

  -- the member has as many more
  has_more : needed ≤ member_count by (step Q by first).0.owners
  has_more =
      let enough = subst (λ (cs : List Command). needed + member_count by Q.owners ≤ member_count by (run Q (given_in Q by at cs)).owners) (all_of Q by at needed some taken_got).0 (takes_enough by at needed needed Q (omega arith) not_refused) in
      omega (arith, enough)

  module _ (part : List Entry) (one : part ≡ given_in Q by at (taking Q by needed)) where
    pub queue_is : run Q part ≡ (step Q by first).0
    queue_is = ap (run Q) (one ∙ ap (given_in Q by at) (taken_all Q by at needed some taken_got).0)

    -- the member has them
    pub has_groups : (t : Tables) → Tell t (run Q part) → needed ≤ member_count by t.owners
    has_groups t told = subst (λ (gs : List Owner). needed ≤ member_count by gs) (ap (λ (R : Queue). R.owners) (sym queue_is) ∙ told.owners) has_more

-- a Take leaves jobs and outputs
take_leaves : (Q : Queue) (by : MemberId) (want : ℕ) → ((step Q by (command.Take want)).0.jobs ≡ Q.jobs) × ((step Q by (command.Take want)).0.outputs ≡ Q.outputs)
take_leaves Q by want = test_cases (free_count Q.owners == 0) (((step Q by (command.Take want)).0.jobs ≡ Q.jobs) × ((step Q by (command.Take want)).0.outputs ≡ Q.outputs)) (λ e. (rw e refl, rw e refl)) (λ e. (rw e refl, rw e refl))

pub under_way_taken : (Q R : Queue) (by at : MemberId) (want : ℕ) (n : JobNo) → R ≡ (step Q by (command.Take want)).0 → IsUnderWay Q at n → IsUnderWay R at n
under_way_taken Q R by at want n same u = record {
  job = u.job;
  there = ap (λ (S : Queue). find (has_number n) S.jobs) same ∙ ap (find (has_number n)) (take_leaves Q by want).0 ∙ u.there;
  busy = u.busy;
  phase = u.phase;
  none = ap (λ (S : Queue). list_any (is_of n) S.outputs) same ∙ ap (list_any (is_of n)) (take_leaves Q by want).1 ∙ u.none;
}

-- outputs that need no groups are none, since each needs one at least
pub spooled_nowhere : (disks : Spools) (per : ℕ) (specs : List OutSpec) (groups : List GroupNo) → groups_of_outputs specs ≡ 0 → AreSpooled disks per specs groups
spooled_nowhere disks per [] groups none = tt
spooled_nowhere disks per (s ∷ specs) groups none = absurd (let sum = sum-groups s specs in let one = one_group 0 s.text in omega (arith, none, sum, one))

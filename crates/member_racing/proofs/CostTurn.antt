-- What a turn costs once it was ended: what its acts did to the devices, and the operator's line where its member was
-- stopped.
use Rattle.std.proofs.Common.{◌≡◌, ◌≢◌, ◌∙◌, ◌⊎◌, inl, inr, ℕ, ◌≤◌, Bool, true, false, Result, Ok, Err, refl, subst, sym}
use Rattle.mas_types.specs.declared.ids.Dev.TheVariants.{Ckpt1, Ckpt2, Spool}
use Rattle.mas_types.specs.declared.ids.MemberId.{MemberId}
use Rattle.mas_types.specs.Ids.{is_somebody}
use Rattle.lock_cycle.specs.Books.{is_stopped}
use Rattle.spool_plant.specs.declared.plant.Plant.{Ghosts as PlantGhosts}
use Rattle.spool_plant.specs.declared.plant.Part.TheVariants.{Console}
use Rattle.spool_plant.specs.View.{View}
use Rattle.spool_plant.specs.Acts.{Rose}
use Rattle.ckpt_copy.specs.declared.copying.Copying.{Ghosts as CopyGhosts}
use Rattle.ckpt_form.specs.declared.steady.Steady.{Ghosts as SteadyGhosts}
use Rattle.duplex_pair.specs.Halves.{IsBothLost}
use Rattle.mas_complex.specs.CallCounts.{IsLostOnce, pair_at}
use Rattle.mas_complex.specs.declared.complex.Complex.{Complex}
use Rattle.mas_complex.specs.Paper.{counts_of}
use Rattle.mas_complex.specs.Parts.{Parts, parts_of, unreserved_in}
use Rattle.member_node.specs.Calls.{IsLeft}
use Rattle.member_node.specs.Spares.{Spares}
use Rattle.member_node.specs.declared.member.NodeNo.{NodeNo}
use Rattle.member_node.specs.declared.member.NodeNo.TheVariants as no_node
use Rattle.member_node.proofs.CourseLemmas.{rose_later}
use Rattle.member_asides.specs.Asides.{stopped_at}
use Rattle.member_steps.specs.Noting.{OtherNotesStay}
use Rattle.member_steps.specs.Saying.{OnConsole}
use Rattle.member_steps.specs.Steps.{StepCauses}
use Rattle.member_resets.specs.Plays.{Passage}
use Rattle.member_resets.proofs.Passages.{passage_then}
use Rattle.member_lines.specs.Closes.{HasCause}
use Rattle.member_racing.specs.Opened.{done_of}
use Rattle.member_resets.specs.Resetting.{AreLostOnce}
use Rattle.member_resets.specs.Settling.{IfRuns}
use Rattle.member_racing.specs.Turned.{HasCost}
use Rattle.member_racing.specs.Turning.{EndsTurn, closed_by}
use Rattle.member_racing.specs.declared.stages.Stage.{Stage as Stands}
use Rattle.member_racing.proofs.Costing.{TurnActs, said_passage}

-- THE CAUSE of an answer that ends a turn

module _ (by : ℕ) (a a' b b' : Bool) (old new : View) where
  both_of : (r : Result Stands NodeNo) → StepCauses (done_of r) by (pair_at a b old) (pair_at a' b' new) → r ≡ Err no_node.BothLost → IsBothLost a' b'
  both_of (Ok s) cause e = absurd (cc)
  both_of (Err no_node.NoMemory) cause e = absurd (cc)
  both_of (Err no_node.BothLost) cause e = cause
  both_of (Err no_node.Halted) cause e = absurd (cc)
  both_of (Err no_node.ConsoleFault) cause e = absurd (cc)

  some_of : (r : Result Stands NodeNo) → StepCauses (done_of r) by (pair_at a b old) (pair_at a' b' new) → IfRuns r (IsLeft a a' b b')
  some_of (Ok s) cause = cause
  some_of (Err no_node.NoMemory) cause = tt
  some_of (Err no_node.BothLost) cause = tt
  some_of (Err no_node.Halted) cause = cause.0
  some_of (Err no_node.ConsoleFault) cause = tt

  failed_of : (r : Result Stands NodeNo) → StepCauses (done_of r) by (pair_at a b old) (pair_at a' b' new) → r ≡ Err no_node.ConsoleFault → Rose (old.faults Console) (new.faults Console)
  failed_of (Ok s) cause e = absurd (cc)
  failed_of (Err no_node.NoMemory) cause e = absurd (cc)
  failed_of (Err no_node.BothLost) cause e = absurd (cc)
  failed_of (Err no_node.Halted) cause e = absurd (cc)
  failed_of (Err no_node.ConsoleFault) cause e = cause.1

-- the same of an answer once the operator spoke
both_said : (one two : Bool) (old new : View) (said : Result (Unit {0}) NodeNo) → HasCause said 0 old new → closed_by said ≡ Err no_node.BothLost → IsBothLost one two
both_said one two old new (Ok done) cause e = absurd (cc)
both_said one two old new (Err no_node.NoMemory) cause e = absurd (cc)
both_said one two old new (Err no_node.BothLost) cause e = absurd cause
both_said one two old new (Err no_node.Halted) cause e = absurd (cc)
both_said one two old new (Err no_node.ConsoleFault) cause e = absurd (cc)

some_said : (A : Type 0) (said : Result (Unit {0}) NodeNo) → A → IfRuns (closed_by said) A
some_said A (Ok done) some = some
some_said A (Err no_node.NoMemory) some = tt
some_said A (Err no_node.BothLost) some = tt
some_said A (Err no_node.Halted) some = some
some_said A (Err no_node.ConsoleFault) some = tt

failed_said : (was : ℕ) (old new : View) (said : Result (Unit {0}) NodeNo) → HasCause said 0 old new → was ≤ old.faults Console → closed_by said ≡ Err no_node.ConsoleFault → Rose was (new.faults Console)
failed_said was old new (Ok done) cause less e = absurd (cc)
failed_said was old new (Err no_node.NoMemory) cause less e = absurd (cc)
failed_said was old new (Err no_node.BothLost) cause less e = absurd cause
failed_said was old new (Err no_node.Halted) cause less e = absurd (cc)
failed_said was old new (Err no_node.ConsoleFault) cause less e = rose_later was (old.faults Console) (new.faults Console) less cause

-- A TURN THAT WAS ENDED

module _ {P C : Type 0} (plants : PlantGhosts P) where
  abbrev u : Parts P C → View
  u x = plants.view x.plant

  pub record EndedActs (by : MemberId) (x y : Parts P C) (result : Result Stands NodeNo) : Type 0 where
    pub passage : Passage x.first_alive y.first_alive x.second_alive y.second_alive (u x) (u y)
    pub once : AreLostOnce plants x y
    pub others : (m : ℕ) → m ≢ by.0 → (u y).stops m ≡ (u x).stops m
    pub volumes : (n : ℕ) → (u y).loses (Spool n) ≡ (u x).loses (Spool n)
    pub both : result ≡ Err no_node.BothLost → IsBothLost y.first_alive y.second_alive
    pub some : IfRuns result (IsLeft x.first_alive y.first_alive x.second_alive y.second_alive)
    pub failed : result ≡ Err no_node.ConsoleFault → Rose ((u x).faults Console) ((u y).faults Console)
    pub notes : OtherNotesStay by x.had y.had
    pub counts : (m : MemberId) → m ≢ by → counts_of y.printed m ≡ counts_of x.printed m

  -- no more was done, but that what was reserved may have been given up
  plain_ended : (by : MemberId) (x y : Parts P C) (r : Result Stands NodeNo) → TurnActs plants by x y (done_of r) → EndedActs by x y r
  plain_ended by x y r a = record {
    passage = a.passage;
    once = a.once;
    others = λ m other. a.spares.stops m (inl other);
    volumes = a.spares.volumes;
    both = both_of by.0 x.first_alive y.first_alive x.second_alive y.second_alive (u x) (u y) r a.cause;
    some = some_of by.0 x.first_alive y.first_alive x.second_alive y.second_alive (u x) (u y) r a.cause;
    failed = failed_of by.0 x.first_alive y.first_alive x.second_alive y.second_alive (u x) (u y) r a.cause;
    notes = a.notes;
    counts = a.counts;
  }

  given_up : (by : MemberId) (x y : Parts P C) (r : Result Stands NodeNo) → EndedActs by x y r → EndedActs by x (unreserved_in y) r
  given_up by x y r a = record { passage = a.passage; once = record { first = a.once.first; second = a.once.second }; others = a.others; volumes = a.volumes; both = a.both; some = a.some; failed = a.failed; notes = a.notes; counts = a.counts }

  halted_there : (by : MemberId) (x mid : Parts P C) (r : Result (Unit {0}) NodeNo) → TurnActs plants by x mid r → TurnActs plants by x (unreserved_in (stopped_at by mid)) r
  halted_there by x mid r a = record { passage = a.passage; once = record { first = a.once.first; second = a.once.second }; spares = a.spares; cause = a.cause; notes = a.notes; counts = a.counts }

  -- what is said then loses none
  said_once : (x there y : Parts P C) → AreLostOnce plants x there → OnConsole plants.tells (u there) (u y) → AreLostOnce plants x (record there { plant = y.plant })
  said_once x there y a acts = record {
    first = subst (λ (k : ℕ). IsLostOnce x.first_alive there.first_alive ((u x).loses Ckpt1) k) (sym (acts.loses Ckpt1)) a.first;
    second = subst (λ (k : ℕ). IsLostOnce x.second_alive there.second_alive ((u x).loses Ckpt2) k) (sym (acts.loses Ckpt2)) a.second;
  }

  -- its member was halted, and the operator says so
  halted_ended : (by : MemberId) (x there y : Parts P C) (said : Result (Unit {0}) NodeNo) → TurnActs plants by x there (Err no_node.Halted) → OnConsole plants.tells (u there) (u y) → Spares 0 false (u there) (u y)
      → HasCause said 0 (u there) (u y) → y ≡ record there { plant = y.plant } → EndedActs by x y (closed_by said)
  halted_ended by x there y said a acts spares cause frame =
      subst (λ (q : Parts P C). EndedActs by x q (closed_by said)) (sym frame) (record {
        passage = passage_then x.first_alive there.first_alive there.first_alive x.second_alive there.second_alive there.second_alive (u x) (u there) (u y) a.passage
            (said_passage plants.tells there.first_alive there.second_alive (u there) (u y) acts);
        once = said_once x there y a.once acts;
        others = λ m other. spares.stops m (inr refl) ∙ a.spares.stops m (inl other);
        volumes = λ n. spares.volumes n ∙ a.spares.volumes n;
        both = both_said there.first_alive there.second_alive (u there) (u y) said cause;
        some = some_said (IsLeft x.first_alive there.first_alive x.second_alive there.second_alive) said a.cause.0;
        failed = failed_said ((u x).faults Console) (u there) (u y) said cause (a.passage.goes.faults Console);
        notes = a.notes;
        counts = a.counts;
      })

module _ {P C : Type 0} {plants : PlantGhosts P} {steadies : SteadyGhosts C} {copies : CopyGhosts C} (by : MemberId) (at : ℕ) (p : Parts P C) (x y : Complex P C plants steadies copies) where
  -- the same answer, over what stands alike
  ended_at : (q : Parts P C) (r result : Result Stands NodeNo) → parts_of y ≡ q → result ≡ r → EndedActs plants by p q r → EndedActs plants by p (parts_of y) result
  ended_at q r result same answer a = subst (λ (k : Result Stands NodeNo). EndedActs plants by p (parts_of y) k) (sym answer) (subst (λ (z : Parts P C). EndedActs plants by p z r) (sym same) a)

  pub acts_ended : (tried result : Result Stands NodeNo) → EndsTurn by at x y tried result → TurnActs plants by p (parts_of x) (done_of tried) → EndedActs plants by p (parts_of y) result
  acts_ended (Ok s) result e a = ended_at (parts_of x) (Ok s) result e.0 e.1 (plain_ended plants by p (parts_of x) (Ok s) a)
  acts_ended (Err no_node.BothLost) result e a = ended_at (parts_of x) (Err no_node.BothLost) result e.0 e.1 (plain_ended plants by p (parts_of x) (Err no_node.BothLost) a)
  acts_ended (Err no_node.NoMemory) result e a =
      ended_at (unreserved_in (parts_of x)) (Err no_node.NoMemory) result e.0 e.1 (given_up plants by p (parts_of x) (Err no_node.NoMemory) (plain_ended plants by p (parts_of x) (Err no_node.NoMemory) a))
  acts_ended (Err no_node.ConsoleFault) result e a =
      ended_at (unreserved_in (parts_of x)) (Err no_node.ConsoleFault) result e.0 e.1 (given_up plants by p (parts_of x) (Err no_node.ConsoleFault) (plain_ended plants by p (parts_of x) (Err no_node.ConsoleFault) a))
  acts_ended (Err no_node.Halted) result e a =
      let there : TurnActs plants by p (parts_of e.there) (Err no_node.Halted) =
      subst (λ (z : Parts P C). TurnActs plants by p z (Err no_node.Halted)) (sym e.stopped) (halted_there plants by p (parts_of x) (Err no_node.Halted) a) in
      ended_at (parts_of y) (closed_by e.said) result refl e.answer
      (halted_ended plants by p (parts_of e.there) (parts_of y) e.said there e.says.acts e.says.spares e.says.cause e.frame)

  -- what it costs, where copies were replaced as before, and who is stopped in the book is known
  pub cost_of : (result : Result Stands NodeNo) → EndedActs plants by p (parts_of y) result → (parts_of y).renewals ≡ p.renewals
      → ((m : MemberId) → is_somebody m ≡ true → is_stopped y.book m ≡ true → (is_stopped p.book m ≡ true) ⊎ Rose ((plants.view p.plant).stops m.0) ((plants.view y.plant).stops m.0))
      → HasCost plants by p (parts_of y) result
  cost_of result a renewals stopped = record {
    passage = a.passage;
    others = a.others;
    volumes = λ told n. a.volumes n;
    renewals = renewals;
    stopped = stopped;
    both = a.both;
    some = a.some;
    failed = a.failed;
  }

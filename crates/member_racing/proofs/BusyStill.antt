-- What is busy at a member is so under the commands of others: its job is under way still, and its output is printed.
use Rattle.std.proofs.Common.{◌≡◌, ◌∙◌, ◌<◌, if◌then◌else◌, ℕ, ◌+◌, ◌*◌, Bool, true, false, List, [], ◌∷◌, All, Option, Some, None, ap, refl, subst, sym}
use Rattle.std.specs.Coded.{Coded-set}
use Rattle.std.specs.List.{find, list_any}
use Rattle.std.specs.Option.{option_map_or}
use Rattle.std.proofs.Math.Bool.{Bool-set}
use Rattle.std.proofs.Math.Logic.{∥∥₁_elim, ∥∥₁_map}
use Rattle.std.proofs.Math.Nat.{ℕ_set}
use Rattle.std.proofs.lemmas.Bool.{eq-eqb, eqb-true}
use Rattle.std.proofs.lemmas.List.Elements.{All-head, All-tail}
use Rattle.mas_types.specs.declared.ids.GroupNo.{GroupNo}
use Rattle.mas_types.specs.declared.ids.JobNo.{JobNo}
use Rattle.mas_types.specs.declared.ids.MemberId.{MemberId}
use Rattle.mas_types.specs.declared.ids.OutNo.{OutNo}
use Rattle.mas_types.specs.declared.jobs.Job.{Job}
use Rattle.mas_types.specs.declared.jobs.Output.{Output}
use Rattle.mas_types.specs.declared.jobs.Phase.{Phase}
use Rattle.mas_types.specs.declared.jobs.Phase.TheVariants as phase
use Rattle.mas_types.specs.declared.jobs.Text.{Text}
use Rattle.mas_types.specs.declared.queues.Config.{Config}
use Rattle.mas_types.specs.declared.queues.Owner.{Owner}
use Rattle.mas_types.specs.declared.queues.Queue.{Queue}
use Rattle.mas_types.specs.contracts.ids.MemberId.{the_row as member_row}
use Rattle.mas_types.specs.contracts.jobs.Text.{the_row as text_row}
use Rattle.mas_types.specs.Commands.Life.{runs}
use Rattle.mas_types.specs.Ids.{is_somebody, same_member, same_number}
use Rattle.mas_types.specs.Owners.{is_members}
use Rattle.mas_types.specs.Queue.{has_key, has_number, is_of, job_at, line_count, output_at, printing_at, prints_at}
use Rattle.mas_types.specs.Sound.{IsSound, IsSoundOutput, is_there, may_have_outputs}
use Rattle.gate_turns.specs.Desks.{groups_from}
use Rattle.paper_laws.proofs.Printed.{one_printer}
use Rattle.queue_laws.specs.Laws.{IsBusyKept, IsJobKept, IsOutputKept}
use Rattle.track_groups.specs.Groups.{groups_where, held_by}
use Rattle.member_work.specs.Printing.{IsPrinting}
use Rattle.member_work.specs.Steps.{IsUnderWay}

by_test : {A : Type 0} (b : Bool) → (b ≡ true → A) → (b ≡ false → A) → A
by_test true f g = f refl
by_test false f g = g refl

-- A JOB THAT RUNS has no outputs

pub runs_none : (p : Phase) → runs p ≡ true → may_have_outputs p ≡ false
runs_none phase.Input is = refl
runs_none phase.Convert is = refl
runs_none phase.Execute is = refl
runs_none phase.Output is = absurd (cc)
runs_none phase.Hardcopy is = absurd (cc)
runs_none phase.Purge is = refl
runs_none phase.Xmit is = refl

module _ (config : Config) (jobs : List Job) (n : JobNo) (j : Job) (there : find (has_number n) jobs ≡ Some j) (running : runs j.phase ≡ true) where
  its_job : (o : Output) → same_number o.job n ≡ true → is_there (λ k. may_have_outputs k.phase) jobs o.job ≡ true → may_have_outputs j.phase ≡ true
  its_job o same there_so =
      let one : o.job ≡ n = ap (λ (k : ℕ). let i : JobNo = record { 0 = k } in i) (eqb-true o.job.0 n.0 same) in
      sym (ap (λ (found : Option Job). option_map_or (λ (k : Job). may_have_outputs k.phase) found false) (ap (λ (i : JobNo). find (has_number i) jobs) one ∙ there)) ∙ there_so

  pub no_outputs : (os : List Output) → All (IsSoundOutput config jobs) os → list_any (is_of n) os ≡ false
  no_outputs [] sound = refl
  no_outputs (o ∷ os) sound = by_test (same_number o.job n)
      (λ same. absurd (let may : may_have_outputs j.phase ≡ true = its_job o same (All-head (IsSoundOutput config jobs) o os sound).job in let bad : true ≡ false = sym may ∙ runs_none j.phase running in cc))
      (λ other. rw other (no_outputs os (All-tail (IsSoundOutput config jobs) o os sound)))

-- IT STAYS BUSY

same_self : (m : MemberId) → same_member m m ≡ true
same_self m = eq-eqb m.0 m.0 refl

module _ (Q R : Queue) (m : MemberId) (somebody : is_somebody m ≡ true) (kept : ∥ IsBusyKept m Q R ∥₁) (sound : IsSound R) where
  no_some : {A : Type 0} (a : A) → Some a ≡ None → ⊥
  no_some a e = absurd (cc)

  some_is : {A : Type 0} (a b : A) → Some a ≡ Some b → a ≡ b
  some_is a b e = cc

  -- a job that is busy at it
  pub record HasJob (n : JobNo) (j : Job) : Type 0 where
    pub job : Job
    pub there : job_at R n ≡ Some job
    pub busy : job.busy ≡ m
    pub running : runs j.phase ≡ true → runs job.phase ≡ true
    pub text : job.text ≡ j.text

  pub job_on : (n : JobNo) (j : Job) → job_at Q n ≡ Some j → j.busy ≡ m → HasJob n j
  job_on n j there busy = by_found (job_at R n) refl where
    by_found : (o : Option Job) → job_at R n ≡ o → HasJob n j
    by_found None none = absurd (∥∥₁_elim kept (λ a b. absurd a) (λ k. let s = k.jobs n j there busy in no_some s.0 (sym s.1 ∙ none)))
    by_found (Some job) found =
        let its : ∥ IsJobKept m j job ∥₁ = ∥∥₁_map kept (λ k. let s = k.jobs n j there busy in subst (λ (i : Job). IsJobKept m j i) (some_is s.0 job (sym s.1 ∙ found)) s.2) in
        record {
          job = job;
          there = found;
          busy = ∥∥₁_elim its (Coded-set member_row.coded _ _) (λ k. k.busy);
          running = λ was. ∥∥₁_elim its (Bool-set _ _) (λ k. ap runs k.phase ∙ was);
          text = ∥∥₁_elim its (Coded-set text_row.coded _ _) (λ k. k.text);
        }

  pub working_on : (n : JobNo) → IsUnderWay Q m n → IsUnderWay R m n
  working_on n w =
      let s = job_on n w.job w.there w.busy in
      let running : runs s.job.phase ≡ true = s.running w.phase in
      record {
        job = s.job;
        there = s.there;
        busy = s.busy;
        phase = running;
        none = no_outputs R.config R.jobs n s.job s.there running R.outputs sound.outputs;
      }

  -- its output is the one that is busy at it
  pub at_its : (o : Output) → printing_at Q m ≡ Some o → o.busy ≡ m
  at_its o is = found_passes Q.outputs (sym (ap (λ (t : Bool). if t then find (prints_at m) Q.outputs else None) somebody) ∙ is) where
    found_passes : (xs : List Output) → find (prints_at m) xs ≡ Some o → o.busy ≡ m
    found_passes [] e = absurd (cc)
    found_passes (x ∷ xs) e = by_test (prints_at m x)
        (λ here. let first : x ≡ o = (let w = rw here at e in cc) in ap (λ (y : Output). y.busy) (sym first) ∙ ap (λ (k : ℕ). let i : MemberId = record { 0 = k } in i) (eqb-true x.busy.0 m.0 here))
        (λ not_here. found_passes xs (rw not_here at e))

  -- one that is busy at a member is found as such
  find_some : (n : JobNo) (i : OutNo) (xs : List Output) (o : Output) → find (has_key n i) xs ≡ Some o → same_member o.busy m ≡ true → (a : Output) × (find (prints_at m) xs ≡ Some a)
  find_some n i [] o here busy = absurd (cc)
  find_some n i (x ∷ xs) o here busy = by_test (prints_at m x)
      (λ first. (x, rw first refl))
      (λ later. by_test (has_key n i x)
      (λ key. absurd (let same : x ≡ o = (let w = rw key at here in cc) in let its : prints_at m x ≡ true = subst (λ (y : Output). same_member y.busy m ≡ true) (sym same) busy in let bad : true ≡ false = sym its ∙ later in cc))
      (λ other. let more = find_some n i xs o (rw other at here) busy in (more.0, rw later more.1)))

  -- an output that is busy at it
  pub record HasOutput (n : JobNo) (i : OutNo) (o : Output) : Type 0 where
    pub output : Output
    pub there : output_at R n i ≡ Some output
    pub printing : printing_at R m ≡ Some output
    pub mark : output.mark ≡ o.mark
    pub text : output.text ≡ o.text
    pub copies : output.copies ≡ o.copies

  pub output_on : (n : JobNo) (i : OutNo) (o : Output) → output_at Q n i ≡ Some o → o.busy ≡ m → HasOutput n i o
  output_on n i o there busy = by_found (output_at R n i) refl where
    by_found : (found : Option Output) → output_at R n i ≡ found → HasOutput n i o
    by_found None none = absurd (∥∥₁_elim kept (λ a b. absurd a) (λ k. let s = k.outputs n i o there busy in no_some s.0 (sym s.1 ∙ none)))
    by_found (Some output) found =
        let its : ∥ IsOutputKept m o output ∥₁ = ∥∥₁_map kept (λ k. let s = k.outputs n i o there busy in subst (λ (q : Output). IsOutputKept m o q) (some_is s.0 output (sym s.1 ∙ found)) s.2) in
        let at_m : output.busy ≡ m = ∥∥₁_elim its (Coded-set member_row.coded _ _) (λ k. k.busy) in
        let here : same_member output.busy m ≡ true = subst (λ (h : MemberId). same_member h m ≡ true) (sym at_m) (same_self m) in
        let prints = find_some n i R.outputs output found here in
        let one : prints.0 ≡ output = one_printer m n i R.outputs prints.0 output somebody sound.printers prints.1 found here in
        record {
          output = output;
          there = found;
          printing = ap (λ (t : Bool). if t then find (prints_at m) R.outputs else None) somebody ∙ prints.1 ∙ ap (λ (q : Output). let r : Option Output = Some q in r) one;
          mark = ∥∥₁_elim its (ℕ_set _ _) (λ k. k.mark);
          text = ∥∥₁_elim its (Coded-set text_row.coded _ _) (λ k. k.text);
          copies = ∥∥₁_elim its (ℕ_set _ _) (λ k. k.copies);
        }

  pub printing_on : (n : JobNo) (i : OutNo) → IsPrinting Q m n i → IsPrinting R m n i
  printing_on n i p =
      let s = output_on n i p.output p.there (at_its p.output p.busy) in
      let below = p.below in
      record {
        output = s.output;
        there = s.there;
        busy = s.printing;
        below = subst (λ (c : ℕ). s.output.mark < line_count s.output.text * c) (sym s.copies)
            (subst (λ (t : Text). s.output.mark < line_count t * p.output.copies) (sym s.text) (subst (λ (at : ℕ). at < line_count p.output.text * p.output.copies) (sym s.mark) below));
      }

-- THE MEMBER'S GROUPS

pub same_held : (m : MemberId) (at : ℕ) (os : List Owner) → groups_from m at os ≡ groups_where (is_members m) at os
same_held m at [] = refl
same_held m at (o ∷ os) = by_test (is_members m o)
    (λ mine. rw mine (ap (λ (gs : List GroupNo). let g : GroupNo = record { 0 = at } in g ∷ gs) (same_held m (at + 1) os)))
    (λ other. rw other (same_held m (at + 1) os))

pub held_on : (m : MemberId) (os ps : List Owner) → groups_from m 0 ps ≡ groups_from m 0 os → held_by m ps ≡ held_by m os
held_on m os ps same = sym (same_held m 0 ps) ∙ same ∙ same_held m 0 os

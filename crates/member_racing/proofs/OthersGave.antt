-- What others gave between two turns of a member: it passes by the member, and leaves what is busy at it.
use Rattle.std.proofs.Common.{◌≡◌, ◌∙◌, true, List, [], ◌∷◌, All, Some, ap, refl, subst, sym}
use Rattle.std.specs.Coded.{Coded-set, coded_list}
use Rattle.std.proofs.Math.Logic.{∥∥₁_elim}
use Rattle.std.proofs.Math.Nat.{ℕ_set}
use Rattle.std.proofs.lemmas.List.Elements.{All-head, All-tail}
use Rattle.mas_types.specs.declared.ids.JobNo.{JobNo}
use Rattle.mas_types.specs.declared.ids.MemberId.{MemberId}
use Rattle.mas_types.specs.declared.ids.OutNo.{OutNo}
use Rattle.mas_types.specs.declared.jobs.Job.{Job}
use Rattle.mas_types.specs.declared.jobs.Output.{Output}
use Rattle.mas_types.specs.declared.journals.Entry.{Entry}
use Rattle.mas_types.specs.declared.queues.Queue.{Queue}
use Rattle.mas_types.specs.declared.queues.Thing.TheVariants.{Deck, Output as OutputThing}
use Rattle.mas_types.specs.contracts.ids.GroupNo.{the_row as group_row}
use Rattle.mas_types.specs.Ids.{is_somebody}
use Rattle.mas_types.specs.Queue.{job_at, output_at}
use Rattle.mas_types.specs.Sound.{IsSound}
use Rattle.mas_complex.specs.Meaning.{run, step}
use Rattle.paper_laws.specs.Next.{limit_of}
use Rattle.queue_laws.specs.Runs.{IsGiven}
use Rattle.queue_laws.proofs.Others.{keeps_busy}
use Rattle.queue_laws.proofs.RunLaws.{runs_keep_sound}
use Rattle.queue_laws.proofs.SoundAll.{keeps_sound}
use Rattle.paper_laws.proofs.Runs.{all_given_after}
use Rattle.track_groups.specs.Places.{groups_of}
use Rattle.gate_turns.specs.Busy.{Stays}
use Rattle.gate_turns.specs.Laws.{Passes}
use Rattle.gate_turns.proofs.Busy.{busy_stays}
use Rattle.member_racing.proofs.BusyGroups.{deck_stays}
use Rattle.member_racing.proofs.BusyOutputs.{limit_stays, output_stays}

-- the second queue is the first after entries of others, none of which resets the member
pub record OthersGave (m : MemberId) (Q R : Queue) : Type 0 where
  pub es : List Entry
  pub is : R ≡ run Q es
  pub passes : All (Passes m) es
  pub given : All (IsGiven Q) es
  pub sound : IsSound Q

module _ (m : MemberId) (somebody : is_somebody m ≡ true) where
  pub others_stay : (Q R : Queue) → OthersGave m Q R → Stays m Q R
  others_stay Q R o = subst (λ (S : Queue). Stays m Q S) (sym o.is) (busy_stays Q m o.es o.sound o.given somebody o.passes)

  pub sound_after : (Q R : Queue) → OthersGave m Q R → IsSound R
  sound_after Q R o = subst IsSound (sym o.is) (runs_keep_sound Q o.es o.sound o.given)

  -- the groups of the text of a job that is busy at it
  deck_run : (n : JobNo) (es : List Entry) (Q : Queue) → IsSound Q → All (IsGiven Q) es → All (Passes m) es → (j : Job) → job_at Q n ≡ Some j → j.busy ≡ m
      → groups_of (Deck n) (run Q es).owners ≡ groups_of (Deck n) Q.owners
  deck_run n [] Q sound given passes j there busy = refl
  deck_run n (e ∷ es) Q sound given passes j there busy =
      let mine : IsGiven Q e = All-head (IsGiven Q) e es given in
      let other = All-head (Passes m) e es passes in
      let next : Queue = (step Q e.by e.command).0 in
      let kept = keeps_busy Q e.by m e.command sound somebody other.0 other.1 in
      let k = kept.jobs n j there busy in
      deck_run n es next (keeps_sound Q e.by e.command sound mine.fit mine.by) (all_given_after Q (e ∷ []) es (All-tail (IsGiven Q) e es given)) (All-tail (Passes m) e es passes) k.0 k.1 k.2.busy
      ∙ deck_stays Q e.by m sound somebody other.0 n j there busy e.command other.1

  pub deck_still : (Q R : Queue) → OthersGave m Q R → (n : JobNo) (j : Job) → job_at Q n ≡ Some j → j.busy ≡ m → groups_of (Deck n) R.owners ≡ groups_of (Deck n) Q.owners
  deck_still Q R o n j there busy = ap (λ (S : Queue). groups_of (Deck n) S.owners) o.is ∙ deck_run n o.es Q o.sound o.given o.passes j there busy

  -- where it is so somehow
  pub deck_somehow : (Q R : Queue) → ∥ OthersGave m Q R ∥₁ → (n : JobNo) (j : Job) → job_at Q n ≡ Some j → j.busy ≡ m → groups_of (Deck n) R.owners ≡ groups_of (Deck n) Q.owners
  deck_somehow Q R o n j there busy = ∥∥₁_elim o (Coded-set (coded_list group_row.coded) _ _) (λ one. deck_still Q R one n j there busy)

  -- and of the text of an output that is busy at it
  output_run : (n : JobNo) (i : OutNo) (es : List Entry) (Q : Queue) → IsSound Q → All (IsGiven Q) es → All (Passes m) es → (o : Output) → output_at Q n i ≡ Some o → o.busy ≡ m
      → groups_of (OutputThing n i) (run Q es).owners ≡ groups_of (OutputThing n i) Q.owners
  output_run n i [] Q sound given passes o there busy = refl
  output_run n i (e ∷ es) Q sound given passes o there busy =
      let mine : IsGiven Q e = All-head (IsGiven Q) e es given in
      let other = All-head (Passes m) e es passes in
      let next : Queue = (step Q e.by e.command).0 in
      let kept = keeps_busy Q e.by m e.command sound somebody other.0 other.1 in
      let k = kept.outputs n i o there busy in
      output_run n i es next (keeps_sound Q e.by e.command sound mine.fit mine.by) (all_given_after Q (e ∷ []) es (All-tail (IsGiven Q) e es given)) (All-tail (Passes m) e es passes) k.0 k.1 k.2.busy
      ∙ output_stays Q e.by m sound somebody other.0 n i o there busy e.command other.1

  pub output_somehow : (Q R : Queue) → ∥ OthersGave m Q R ∥₁ → (n : JobNo) (i : OutNo) (o : Output) → output_at Q n i ≡ Some o → o.busy ≡ m → groups_of (OutputThing n i) R.owners ≡ groups_of (OutputThing n i) Q.owners
  output_somehow Q R gave n i o there busy =
      ∥∥₁_elim gave (Coded-set (coded_list group_row.coded) _ _)
      (λ g. ap (λ (S : Queue). groups_of (OutputThing n i) S.owners) g.is ∙ output_run n i g.es Q g.sound g.given g.passes o there busy)

  -- and the limit of its printer
  limit_run : (es : List Entry) (Q : Queue) → All (Passes m) es → limit_of (run Q es) m ≡ limit_of Q m
  limit_run [] Q passes = refl
  limit_run (e ∷ es) Q passes = limit_run es (step Q e.by e.command).0 (All-tail (Passes m) e es passes) ∙ limit_stays Q e.by m somebody (All-head (Passes m) e es passes).0 e.command

  pub limit_somehow : (Q R : Queue) → ∥ OthersGave m Q R ∥₁ → limit_of R m ≡ limit_of Q m
  limit_somehow Q R gave = ∥∥₁_elim gave (ℕ_set _ _) (λ g. ap (λ (S : Queue). limit_of S m) g.is ∙ limit_run g.es Q g.passes)

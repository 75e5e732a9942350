-- Which batches of a work step may begin.
use Rattle.member_work.proofs.Names.{◌≡◌, ℕ, Bool, true, false, if◌then◌else◌, List, [], ◌∷◌, ◌++◌, All, refl, subst, Command, Reply, JobNo, MemberId, OutSpec, Batch, Entry, Queue, IsFit, is_member, kept_all, run, MayBegin, counts_of, reply_to, entry_with, are_refused, takes, All-nil, All-cons, All-append, IsSound, drop_groups, ending, taking, is_refusal, ∥∥₁_map, run_append}
use Rattle.mas_types.specs.declared.commands.Command.TheVariants as command
use Rattle.mas_types.specs.Step.{may_give}
use Rattle.job_exec.specs.Running.{AreOutputs}
use Rattle.paper_laws.specs.Counts.{IsMarkRight, counts_after}
use Rattle.paper_laws.proofs.Plain.{allowed_push}
use Rattle.member_decks.proofs.MayLemmas.{IsUnmarked, takes_unmarked}

module _ (base : Queue) (by : MemberId) (js : List Batch) (printed : List ℕ) where
  -- one command more
  pub more_begins : (es : List Entry) (at : ℕ) (c : Command) (r : Reply) → may_give base by c ≡ true → IsFit c
      → (IsSound base → IsMarkRight (run base (kept_all js ++ es)) by (counts_after es (counts_of printed) by) c) → MayBegin base js printed es → MayBegin base js printed (es ++ entry_with by at c r ∷ [])
  more_begins es at c r may fit right begins sound =
      ∥∥₁_map (begins sound) (λ are. allowed_push base (run base (kept_all js)) (counts_of printed) es (entry_with by at c r) are
      (record { given = record { by = may; fit = fit }; mark = subst (λ (Q : Queue). IsMarkRight Q by (counts_after es (counts_of printed) by) c) (run_append base (kept_all js) es) (right sound) }))

module _ (base : Queue) (by : MemberId) (member : is_member base.config by ≡ true) where
  pub dropping_unmarked : All (IsUnmarked base by) (drop_groups ∷ [])
  dropping_unmarked = All-cons (IsUnmarked base by) drop_groups [] (member, tt, refl) (All-nil (IsUnmarked base by))

  dropped : (b : Bool) → All (IsUnmarked base by) (if b then drop_groups ∷ [] else [])
  dropped true = dropping_unmarked
  dropped false = All-nil (IsUnmarked base by)

  pub taking_unmarked : (Q : Queue) (needed : ℕ) → All (IsUnmarked base by) (taking Q by needed)
  taking_unmarked Q needed = All-append (IsUnmarked base by) (takes needed Q by needed) _ (takes_unmarked base by member needed Q needed) (dropped (are_refused needed Q by needed))

  pub ending_unmarked : (Q : Queue) (n : JobNo) (specs : List OutSpec) → AreOutputs specs → All (IsUnmarked base by) (ending Q by n specs)
  ending_unmarked Q n specs fit = All-cons (IsUnmarked base by) (command.Ended n specs) _ (member, (fit.few, fit.each), refl) (dropped (is_refusal (reply_to Q by (command.Ended n specs))))

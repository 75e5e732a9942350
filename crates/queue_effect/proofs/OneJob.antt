-- A display of one job says no more of a queue than the job and its outputs.
use Rattle.std.proofs.Common.{◌≡◌, ℕ, ◌≤◌, Bool, true, List, [], ◌∷◌, map, Option, Some, None, refl, ap, sym, ◌∙◌}
use Rattle.std.specs.List.{All}
use Rattle.std.specs.Prelude.{filter, find, not}
use Rattle.std.proofs.lemmas.List.Elements.{All-filter}
use Rattle.mas_types.specs.declared.ids.JobNo.{JobNo}
use Rattle.mas_types.specs.declared.jobs.Job.{Job}
use Rattle.mas_types.specs.declared.jobs.Output.{Output}
use Rattle.mas_types.specs.declared.queues.Queue.{Queue}
use Rattle.mas_types.specs.declared.commands.What.TheVariants as what
use Rattle.mas_types.specs.Ids.{same_number}
use Rattle.mas_types.specs.Limits.{members_most}
use Rattle.mas_types.specs.Lists.{without}
use Rattle.mas_types.specs.Queue.{has_number, is_of}
use Rattle.mas_types.specs.Shown.{output_line}
use Rattle.mas_types.specs.Sorted.{in_order}
use Rattle.lay_bytes.specs.declared.records.JobRec.{JobRec}
use Rattle.lay_bytes.specs.declared.records.OutRec.{OutRec}
use Rattle.lay_bytes.specs.Used.{used}
use Rattle.ckpt_tables.specs.declared.tables.Tables.{Tables}
use Rattle.queue_slots.specs.Listed.{listed}
use Rattle.queue_slots.proofs.Alike.{filter-alike}
use Rattle.queue_slots.proofs.Cases.{test_cases}
use Rattle.queue_slots.proofs.Changes.{emptied_if, listed-emptied}
use Rattle.queue_slots.proofs.Rising.{All-in_order}
use Rattle.job_queue.specs.Jobs as jobs
use Rattle.output_queue.specs.Outputs as outputs
use Rattle.queue_telling.specs.Telling.{Tell}
use Rattle.queue_effect.specs.Gone.{job_of, output_of, SaysAs, TellJob}
use Rattle.queue_effect.specs.Standing.{AreFit, IsFitOutput}
use Rattle.queue_effect.proofs.Changing.{found_passes}
use Rattle.queue_effect.proofs.Showing.{lines_alike, named_outputs, one_said, os, outputs_alike, part}

module _ {X : Type 0} (number : X → ℕ) (p : X → Bool) where
  abbrev others : X → Bool
  others x = not (p x)

  kept : (slots : List (Option X)) → filter p (used slots) ≡ used (map (emptied_if number others) slots)
  kept [] = refl
  kept (None ∷ slots) = kept slots
  kept (Some x ∷ slots) =
      test_cases (p x) (filter p (used (Some x ∷ slots)) ≡ used (map (emptied_if number others) (Some x ∷ slots)))
      (λ e. rw e (ap (λ xs. x ∷ xs) (kept slots)))
      (λ e. rw e (kept slots))

  twice : (xs : List X) → without others xs ≡ filter p xs
  twice [] = refl
  twice (x ∷ xs) = test_cases (p x) (without others (x ∷ xs) ≡ filter p (x ∷ xs)) (λ e. rw e (ap (λ ys. x ∷ ys) (twice xs))) (λ e. rw e (twice xs))

  -- what a test picks may be picked before it is put in order
  pub listed_kept : (slots : List (Option X)) → in_order number (filter p (used slots)) ≡ filter p (listed number slots)
  listed_kept slots = ap (in_order number) (kept slots) ∙ listed-emptied number others slots ∙ twice (listed number slots)

-- THE OUTPUTS OF THE JOB

abbrev of_job : JobNo → OutRec → Bool
of_job n r = same_number r.job n

again : (n : JobNo) (rs : List OutRec) → filter (is_of n) (map output_of (filter (of_job n) rs)) ≡ filter (is_of n) (map output_of rs)
again n [] = refl
again n (r ∷ rs) =
    test_cases (of_job n r) (filter (is_of n) (map output_of (filter (of_job n) (r ∷ rs))) ≡ filter (is_of n) (map output_of (r ∷ rs)))
    (λ e. rw (e, e) (ap (λ (qs : List Output). output_of r ∷ qs) (again n rs)))
    (λ e. rw e (again n rs))

-- THE JOB

-- slots with the same used ones tell of the same jobs
pub are_front : (front slots : List (Option JobRec)) (items : List Job) → used front ≡ used slots → jobs.AreJobs slots items → jobs.AreJobs front items
are_front front slots items same are = ap (λ (rs : List JobRec). map jobs.unordered (in_order jobs.order_of rs)) same ∙ are

-- a job that was found tells what the queue's tells
pub found_told : (n : JobNo) (items : List Job) (x : JobRec) (j : Job) → find (has_number n) items ≡ Some j → jobs.rec_of j ≡ jobs.unordered x → TellJob n (job_of x ∷ []) items
found_told n items x j found is =
    let same : j.number ≡ x.number = ap (λ (r : JobRec). r.number) is in
    let passes : same_number x.number n ≡ true = rw (← same) (found_passes (has_number n) items j found) in
    rw (found, passes) (ap Some (sym is))

module _ (t : Tables) (fit : AreFit t) (n : JobNo) where
  pub outputs_kept_named : All (λ o. o.busy.0 ≤ members_most) (map output_of (filter (of_job n) (listed outputs.order_of t.outputs)))
  outputs_kept_named = named_outputs t.order (filter (of_job n) (listed outputs.order_of t.outputs))
      (All-filter (of_job n) (IsFitOutput t.order) (listed outputs.order_of t.outputs) (All-in_order outputs.order_of (IsFitOutput t.order) (used t.outputs) fit.outputs))

  pub says_one : (Q : Queue) → Tell t Q → (js : List Job) → TellJob n js Q.jobs → SaysAs (what.Job n) (part t fit js (map output_of (filter (of_job n) (listed outputs.order_of t.outputs))) [] []) Q
  says_one Q stands js same =
      one_said (part t fit js (map output_of (filter (of_job n) (listed outputs.order_of t.outputs))) [] []) Q n (find (has_number n) js) (find (has_number n) Q.jobs) same
      (ap (map output_line) (again n (listed outputs.order_of t.outputs))
      ∙ lines_alike outputs.rec_of outputs.rec_of (λ (r : OutRec). output_line (output_of r)) (filter (is_of n) (os t fit)) (filter (is_of n) Q.outputs)
      (filter-alike outputs.rec_of outputs.rec_of (of_job n) (os t fit) Q.outputs (outputs_alike t fit Q stands)))

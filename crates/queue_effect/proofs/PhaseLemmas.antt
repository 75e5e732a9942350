-- Whether any job is in a phase.
use Rattle.std.proofs.Common.{◌≡◌, ℕ, ◌+◌, ◌<◌, Bool, false, ◌&&◌, ◌||◌, List, length, Option, Some, None, get_or, refl, sym, ◌∙◌, arith}
use Rattle.std.proofs.lemmas.Bool.{or_parts as either_false}
use Rattle.std.specs.Prelude.{find, nat_lt, option_map}
use Rattle.std.proofs.lemmas.Bool.Decides.{nat_tests}
use Rattle.std.proofs.lemmas.Option.{get_or_from_slice_get, slice_get_within}
use Rattle.mas_types.specs.declared.ids.MemberId.{MemberId}
use Rattle.mas_types.specs.declared.jobs.Phase.{Phase}
use Rattle.mas_types.specs.declared.jobs.Job.{Job}
use Rattle.mas_types.specs.declared.queues.Queue.{Queue}
use Rattle.mas_types.specs.Ids.{same_member, is_somebody}
use Rattle.mas_types.specs.Units.{working_at}
use Rattle.mas_types.specs.Queue.{is_in, is_busy_at}
use Rattle.lay_bytes.specs.declared.records.JobRec.{JobRec}
use Rattle.lay_bytes.specs.Used.{used}
use Rattle.queue_slots.specs.Listed.{listed}
use Rattle.queue_slots.proofs.Cases.{test_cases}
use Rattle.queue_slots.proofs.Rising.{All-in_order}
use Rattle.queue_slots.proofs.FirstSlots.{All-used}
use Rattle.queue_slots.proofs.BestSlots.{find-All_false}
use Rattle.queue_slots.proofs.Alike.{find_none-alike}
use Rattle.std.specs.List.{All}
use Rattle.job_queue.specs.Jobs.{AreJobs, in_phase, order_of, unordered, rec_of}
use Rattle.queue_effect.specs.Phases.{Tells, stands_in}

-- one more slot
pub tells_more : (phase : Phase) (slots : List (Option JobRec)) (k : ℕ) (before now : Bool) → now ≡ (stands_in phase (get_or slots k None) || before) → k < length slots → Tells phase slots k before → Tells phase slots (k + 1) now
tells_more phase slots k before now e lt so_far none j y low is =
    let parts = either_false (stands_in phase (get_or slots k None)) before (sym e ∙ none) in
    test_cases (nat_lt j k) (in_phase phase y.phase ≡ false)
    (λ t. so_far parts.1 j y (grind (arith, nat_tests)) is)
    (λ t. let same : j ≡ k = grind (arith, nat_tests) in
    let here : get_or slots k None ≡ Some y = get_or_from_slice_get slots k (Some y) None (rw same at is) in
    rw here at parts.0)

module _ (phase : Phase) (slots : List (Option JobRec)) (answer : Bool) (tells : Tells phase slots (length slots) answer) (no_one : answer ≡ false) (js : List Job) (are : AreJobs slots js) where
  none_of : (q : JobRec → Bool) → All (λ r. (in_phase phase r.phase && q r) ≡ false) (listed order_of slots)
  none_of q =
      All-in_order order_of (λ r. (in_phase phase r.phase && q r) ≡ false) (used slots)
      (All-used (λ r. (in_phase phase r.phase && q r) ≡ false) slots (λ j y e. rw (tells no_one j y (slice_get_within slots j (Some y) e) e) refl))

  pub none_in : find (is_in (in_phase phase)) js ≡ None
  none_in =
      find_none-alike unordered rec_of (λ r. in_phase phase r.phase) (listed order_of slots) js are
      (find-All_false (λ r. in_phase phase r.phase) (listed order_of slots)
      (All-in_order order_of (λ r. in_phase phase r.phase ≡ false) (used slots) (All-used (λ r. in_phase phase r.phase ≡ false) slots (λ j y e. tells no_one j y (slice_get_within slots j (Some y) e) e))))

  pub none_working : (m : MemberId) → find (λ j. in_phase phase j.phase && is_busy_at m j) js ≡ None
  none_working m =
      find_none-alike unordered rec_of (λ r. in_phase phase r.phase && same_member r.busy m) (listed order_of slots) js are
      (find-All_false (λ r. in_phase phase r.phase && same_member r.busy m) (listed order_of slots) (none_of (λ r. same_member r.busy m)))

-- where no slot tells a job in the phase, nobody is at work in it
pub none_at_work : (phase : Phase) (slots : List (Option JobRec)) (answer : Bool) → Tells phase slots (length slots) answer → answer ≡ false → (Q : Queue) → AreJobs slots Q.jobs → (m : MemberId) → None ≡ option_map (λ j. j.number) (working_at Q m (in_phase phase))
none_at_work phase slots answer tells no_one Q are m =
    test_cases (is_somebody m) (None ≡ option_map (λ j. j.number) (working_at Q m (in_phase phase)))
    (λ e. rw (e, none_working phase slots answer tells no_one Q.jobs are m) refl)
    (λ e. rw e refl)

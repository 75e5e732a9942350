-- What holds of all that stands in slots, where slots are written.
use Rattle.std.proofs.Common.{◌≡◌, ℕ, zero, suc, ◌+◌, ◌≤◌, List, [], ◌∷◌, length, map, drop, Option, Some, None, slice_get, set, sym, ap, ◌∙◌, arith}
use Rattle.std.specs.List.{All}
use Rattle.std.specs.Prelude.{Bool, if◌then◌else◌}
use Rattle.std.proofs.Math.ListN.{length-set}
use Rattle.std.proofs.lemmas.List.Elements.{All-cons, All-head, All-tail, All-weaker}
use Rattle.std.proofs.lemmas.List.{length-map, drop_all, take_all, append-nil}
use Rattle.mas_types.specs.declared.queues.Owner.{Owner}
use Rattle.mas_types.specs.declared.queues.Setting.{Setting}
use Rattle.mas_types.specs.declared.queues.LineCount.{LineCount}
use Rattle.mas_types.specs.Fit.{IsSetting}
use Rattle.mas_types.specs.Limits.{number_most, members_most}
use Rattle.mas_types.specs.declared.ids.JobNo.{JobNo}
use Rattle.mas_types.specs.declared.ids.OutNo.{OutNo}
use Rattle.mas_types.specs.declared.ids.MemberId.{MemberId}
use Rattle.mas_types.specs.declared.jobs.JobFields.{JobFields}
use Rattle.mas_types.specs.declared.jobs.OutSpec.{OutSpec}
use Rattle.std.specs.List.{refill}
use Rattle.job_queue.specs.Jobs.{new_rec}
use Rattle.output_queue.specs.Outputs as outputs
use Rattle.lay_bytes.specs.declared.records.JobRec.{JobRec}
use Rattle.lay_bytes.specs.declared.records.OutRec.{OutRec}
use Rattle.ckpt_tables.specs.declared.tables.Tables.{Tables}
use Rattle.lay_bytes.specs.Used.{used}
use Rattle.queue_slots.proofs.Cases.{test_cases}
use Rattle.queue_resets.specs.Resets.{job_reset, output_reset}
use Rattle.queue_effect.specs.Slots.{emptied_where}
use Rattle.queue_resets.specs.Resets.{changed_where}
use Rattle.queue_effect.specs.Standing.{IsFitJob, IsFitOutput, AreFit}

module _ {X : Type 0} (P : X → Type 0) where
  pub used_get : (slots : List (Option X)) (at : ℕ) (x : X) → All P (used slots) → slice_get slots at ≡ Some (Some x) → P x
  used_get [] at x all here = absurd (cc)
  used_get (None ∷ slots) zero x all here = absurd (cc)
  used_get (Some y ∷ slots) zero x all here = let same : y ≡ x = cc in rw (← same) (All-head P y (used slots) all)
  used_get (None ∷ slots) (suc at) x all here = used_get slots at x all here
  used_get (Some y ∷ slots) (suc at) x all here = used_get slots at x (All-tail P y (used slots) all) here

  pub used_set : (slots : List (Option X)) (at : ℕ) (y : X) → All P (used slots) → P y → All P (used (set slots at (Some y)))
  used_set [] at y all h = all
  used_set (None ∷ slots) zero y all h = All-cons P y (used slots) h all
  used_set (Some x ∷ slots) zero y all h = All-cons P y (used slots) h (All-tail P x (used slots) all)
  used_set (None ∷ slots) (suc at) y all h = used_set slots at y all h
  used_set (Some x ∷ slots) (suc at) y all h =
      All-cons P x (used (set slots at (Some y))) (All-head P x (used slots) all) (used_set slots at y (All-tail P x (used slots) all) h)

  pub used_empty : (slots : List (Option X)) (at : ℕ) → All P (used slots) → All P (used (set slots at None))
  used_empty [] at all = all
  used_empty (None ∷ slots) zero all = all
  used_empty (Some x ∷ slots) zero all = All-tail P x (used slots) all
  used_empty (None ∷ slots) (suc at) all = used_empty slots at all
  used_empty (Some x ∷ slots) (suc at) all =
      All-cons P x (used (set slots at None)) (All-head P x (used slots) all) (used_empty slots at (All-tail P x (used slots) all))

  pub used_emptied : (test : X → Bool) (slots : List (Option X)) → All P (used slots) → All P (used (map (emptied_where test) slots))
  used_emptied test [] all = all
  used_emptied test (None ∷ slots) all = used_emptied test slots all
  used_emptied test (Some x ∷ slots) all =
      let rest = used_emptied test slots (All-tail P x (used slots) all) in
      test_cases (test x) (All P (used (map (emptied_where test) (Some x ∷ slots))))
      (λ e. rw e rest)
      (λ e. rw e (All-cons P x (used (map (emptied_where test) slots)) (All-head P x (used slots) all) rest))

  pub used_changed : (test : X → Bool) (f : X → X) → ((x : X) → P x → P (f x)) → (slots : List (Option X)) → All P (used slots) → All P (used (map (changed_where test f) slots))
  used_changed test f keeps [] all = all
  used_changed test f keeps (None ∷ slots) all = used_changed test f keeps slots all
  used_changed test f keeps (Some x ∷ slots) all =
      let rest = used_changed test f keeps slots (All-tail P x (used slots) all) in
      let first : P x = All-head P x (used slots) all in
      let here : P (if test x then f x else x) = test_cases (test x) (P (if test x then f x else x)) (λ e. rw e (keeps x first)) (λ e. rw e first) in
      All-cons P (if test x then f x else x) (used (map (changed_where test f) slots)) here rest

-- one more is used where a free slot is written
pub length-used_set : {X : Type 0} (slots : List (Option X)) (at : ℕ) (y : X) → slice_get slots at ≡ Some None → length (used (set slots at (Some y))) ≡ length (used slots) + 1
length-used_set [] at y free = absurd (cc)
length-used_set (None ∷ slots) zero y free = omega arith
length-used_set (Some x ∷ slots) zero y free = absurd (cc)
length-used_set (None ∷ slots) (suc at) y free = length-used_set slots at y free
length-used_set (Some x ∷ slots) (suc at) y free = let more = length-used_set slots at y free in omega arith

module _ (t : Tables) (fit : AreFit t) where
  pub jobs_fit : (js : List (Option JobRec)) → length js ≡ length t.jobs → All (IsFitJob t.order) (used js) → AreFit (record t { jobs = js })
  jobs_fit js same all = record {
    shape = record { config = fit.shape.config; jobs = same ∙ fit.shape.jobs; outputs = fit.shape.outputs; owners = fit.shape.owners; members = fit.shape.members; settings = fit.shape.settings; routes = fit.shape.routes; lines = fit.shape.lines; last = fit.shape.last };
    jobs = all;
    outputs = fit.outputs;
  }

  pub outputs_fit : (os : List (Option OutRec)) → length os ≡ length t.outputs → All (IsFitOutput t.order) (used os) → AreFit (record t { outputs = os })
  outputs_fit os same all = record {
    shape = record { config = fit.shape.config; jobs = fit.shape.jobs; outputs = same ∙ fit.shape.outputs; owners = fit.shape.owners; members = fit.shape.members; settings = fit.shape.settings; routes = fit.shape.routes; lines = fit.shape.lines; last = fit.shape.last };
    jobs = fit.jobs;
    outputs = all;
  }

  pub owners_fit : (gs : List Owner) → length gs ≡ length t.owners → AreFit (record t { owners = gs })
  owners_fit gs same = record {
    shape = record { config = fit.shape.config; jobs = fit.shape.jobs; outputs = fit.shape.outputs; owners = same ∙ fit.shape.owners; members = fit.shape.members; settings = fit.shape.settings; routes = fit.shape.routes; lines = fit.shape.lines; last = fit.shape.last };
    jobs = fit.jobs;
    outputs = fit.outputs;
  }

  pub members_fit : (ss : List Setting) → length ss ≡ length t.members → All IsSetting ss → AreFit (record t { members = ss })
  members_fit ss same all = record {
    shape = record { config = fit.shape.config; jobs = fit.shape.jobs; outputs = fit.shape.outputs; owners = fit.shape.owners; members = same ∙ fit.shape.members; settings = all; routes = fit.shape.routes; lines = fit.shape.lines; last = fit.shape.last };
    jobs = fit.jobs;
    outputs = fit.outputs;
  }

  pub lines_fit : (ls : List LineCount) → length ls ≡ length t.lines → AreFit (record t { lines = ls })
  lines_fit ls same = record {
    shape = record { config = fit.shape.config; jobs = fit.shape.jobs; outputs = fit.shape.outputs; owners = fit.shape.owners; members = fit.shape.members; settings = fit.shape.settings; routes = fit.shape.routes; lines = same ∙ fit.shape.lines; last = fit.shape.last };
    jobs = fit.jobs;
    outputs = fit.outputs;
  }

  -- a higher next order
  pub order_fit : (n : ℕ) → t.order ≤ n → AreFit (record t { order = n })
  order_fit n above = record {
    shape = record { config = fit.shape.config; jobs = fit.shape.jobs; outputs = fit.shape.outputs; owners = fit.shape.owners; members = fit.shape.members; settings = fit.shape.settings; routes = fit.shape.routes; lines = fit.shape.lines; last = fit.shape.last };
    jobs = All-weaker (IsFitJob t.order) (IsFitJob n) (λ j h. record { below = (let low = h.below in omega arith); busy = h.busy }) (used t.jobs) fit.jobs;
    outputs = All-weaker (IsFitOutput t.order) (IsFitOutput n) (λ o h. record { below = (let low = h.below in omega arith); busy = h.busy }) (used t.outputs) fit.outputs;
  }

  pub last_fit : (n : JobNo) → n.0 ≤ number_most → AreFit (record t { last = n })
  last_fit n small = record {
    shape = record { config = fit.shape.config; jobs = fit.shape.jobs; outputs = fit.shape.outputs; owners = fit.shape.owners; members = fit.shape.members; settings = fit.shape.settings; routes = fit.shape.routes; lines = fit.shape.lines; last = small };
    jobs = fit.jobs;
    outputs = fit.outputs;
  }

-- the slot of a job is written
pub job_put_fit : (t : Tables) (at : ℕ) (x y : JobRec) → slice_get t.jobs at ≡ Some (Some x) → (IsFitJob t.order x → IsFitJob t.order y) → AreFit t → AreFit (record t { jobs = set t.jobs at (Some y) })
job_put_fit t at x y here keeps fit =
    jobs_fit t fit (set t.jobs at (Some y)) (length-set t.jobs at (Some y)) (used_set (IsFitJob t.order) t.jobs at y fit.jobs (keeps (used_get (IsFitJob t.order) t.jobs at x fit.jobs here)))

pub job_taken_fit : (t : Tables) (at : ℕ) → AreFit t → AreFit (record t { jobs = set t.jobs at None })
job_taken_fit t at fit = jobs_fit t fit (set t.jobs at None) (length-set t.jobs at None) (used_empty (IsFitJob t.order) t.jobs at fit.jobs)

pub output_put_fit : (t : Tables) (at : ℕ) (x y : OutRec) → slice_get t.outputs at ≡ Some (Some x) → (IsFitOutput t.order x → IsFitOutput t.order y) → AreFit t → AreFit (record t { outputs = set t.outputs at (Some y) })
output_put_fit t at x y here keeps fit =
    outputs_fit t fit (set t.outputs at (Some y)) (length-set t.outputs at (Some y)) (used_set (IsFitOutput t.order) t.outputs at y fit.outputs (keeps (used_get (IsFitOutput t.order) t.outputs at x fit.outputs here)))

pub output_taken_fit : (t : Tables) (at : ℕ) → AreFit t → AreFit (record t { outputs = set t.outputs at None })
output_taken_fit t at fit = outputs_fit t fit (set t.outputs at None) (length-set t.outputs at None) (used_empty (IsFitOutput t.order) t.outputs at fit.outputs)

-- A NEW JOB, A NEW OUTPUT

pub refill_whole : {X : Type 0} (xs ws : List X) → length xs ≡ length ws → refill (length xs) xs ws ≡ ws
refill_whole xs ws same =
    let none : drop (length ws) xs ≡ [] = drop_all (length ws) xs (omega arith) in
    rw (none, append-nil ws) (take_all (length xs) ws (omega arith))

pub job_added_fit : (t : Tables) → AreFit t → (m : MemberId) (n : JobNo) (fields : JobFields) (at : ℕ) (js : List (Option JobRec)) → m.0 ≤ members_most → n.0 ≤ number_most
    → js ≡ set t.jobs at (Some (new_rec m n fields t.order)) → AreFit (record t { jobs = js; last = n; order = t.order + 1 })
job_added_fit t fit m n fields at js member small is =
    let more = order_fit t fit (t.order + 1) (omega arith) in
    let new : IsFitJob (t.order + 1) (new_rec m n fields t.order) = record { below = omega arith; busy = member } in
    let put = jobs_fit (record t { order = t.order + 1 }) more (set t.jobs at (Some (new_rec m n fields t.order))) (length-set t.jobs at (Some (new_rec m n fields t.order))) (used_set (IsFitJob (t.order + 1)) t.jobs at (new_rec m n fields t.order) more.jobs new) in
    rw is (last_fit (record t { jobs = set t.jobs at (Some (new_rec m n fields t.order)); order = t.order + 1 }) put n small)

pub output_added_fit : (t : Tables) → AreFit t → (n : JobNo) (i : OutNo) (s : OutSpec) (at : ℕ) (os : List (Option OutRec))
    → os ≡ set t.outputs at (Some (outputs.new_rec n i s t.order)) → AreFit (record t { outputs = os; order = t.order + 1 })
output_added_fit t fit n i s at os is =
    let more = order_fit t fit (t.order + 1) (omega arith) in
    let new : IsFitOutput (t.order + 1) (outputs.new_rec n i s t.order) = record { below = omega arith; busy = omega arith } in
    rw is (outputs_fit (record t { order = t.order + 1 }) more (set t.outputs at (Some (outputs.new_rec n i s t.order))) (length-set t.outputs at (Some (outputs.new_rec n i s t.order))) (used_set (IsFitOutput (t.order + 1)) t.outputs at (outputs.new_rec n i s t.order) more.outputs new))

pub refill_map : {X : Type 0} (xs ws : List X) (f : X → X) → ws ≡ map f xs → refill (length xs) xs ws ≡ map f xs
refill_map xs ws f is = refill_whole xs ws (sym (ap length is ∙ length-map xs f)) ∙ is

pub reset_job_fit : (n : ℕ) (r : JobRec) → IsFitJob n r → IsFitJob n (job_reset r)
reset_job_fit n r fit = record { below = fit.below; busy = omega arith }

pub reset_output_fit : (n : ℕ) (r : OutRec) → IsFitOutput n r → IsFitOutput n (output_reset r)
reset_output_fit n r fit = record { below = fit.below; busy = omega arith }

-- SETTINGS

all_get : {X : Type 0} (P : X → Type 0) (xs : List X) (i : ℕ) (x : X) → All P xs → slice_get xs i ≡ Some x → P x
all_get P [] i x all here = absurd (cc)
all_get P (y ∷ ys) zero x all here = let same : y ≡ x = cc in rw (← same) (All-head P y ys all)
all_get P (y ∷ ys) (suc i) x all here = all_get P ys i x (All-tail P y ys all) here

all_set : {X : Type 0} (P : X → Type 0) (xs : List X) (i : ℕ) (x : X) → All P xs → P x → All P (set xs i x)
all_set P [] i x all here = all
all_set P (y ∷ ys) zero x all here = All-cons P x ys here (All-tail P y ys all)
all_set P (y ∷ ys) (suc i) x all here = All-cons P y (set ys i x) (All-head P y ys all) (all_set P ys i x (All-tail P y ys all) here)

pub setting_fit : (t : Tables) (at : ℕ) (old new : Setting) → slice_get t.members at ≡ Some old → (IsSetting old → IsSetting new) → AreFit t → AreFit (record t { members = set t.members at new })
setting_fit t at old new here keeps fit =
    members_fit t fit (set t.members at new) (length-set t.members at new) (all_set IsSetting t.members at new fit.shape.settings (keeps (all_get IsSetting t.members at old fit.shape.settings here)))

-- Orders of jobs and outputs, where slots are written.
use Rattle.std.proofs.Common.{◌≡◌, ℕ, zero, suc, ◌+◌, ◌<◌, ◌==◌, Bool, false, List, [], ◌∷◌, map, Option, Some, None, slice_get, slice_index_or, set, refl, sym, ap, ◌∙◌, subst, arith}
use Rattle.std.specs.List.{list_any, All}
use Rattle.std.specs.Prelude.{if◌then◌else◌}
use Rattle.std.proofs.lemmas.Bool.{or_parts, or_from}
use Rattle.std.proofs.lemmas.Bool.Decides.{nat_tests}
use Rattle.std.proofs.lemmas.List.Elements.{All-nil, All-cons, All-head, All-tail, All-weaker}
use Rattle.std.proofs.lemmas.List.Folds.{list_any_none}
use Rattle.mas_types.specs.Fit.{AreDistinct}
use Rattle.lay_bytes.specs.declared.records.JobRec.{JobRec}
use Rattle.lay_bytes.specs.declared.records.OutRec.{OutRec}
use Rattle.ckpt_tables.specs.declared.tables.Tables.{Tables}
use Rattle.lay_bytes.specs.Used.{used}
use Rattle.queue_slots.proofs.Cases.{test_cases}
use Rattle.job_queue.specs.Jobs as jobs
use Rattle.output_queue.specs.Outputs as outputs
use Rattle.queue_telling.specs.Orders.{AreOrdered, HaveOrders}
use Rattle.queue_effect.specs.Slots.{emptied_where}
use Rattle.queue_resets.specs.Resets.{changed_where}
use Rattle.queue_effect.proofs.FitLemmas.{used_set}

less_apart : (a b : ℕ) → a < b → (a == b) ≡ false
less_apart a b lt = grind (arith, nat_tests)

more_apart : (a b : ℕ) → a < b → (b == a) ≡ false
more_apart a b lt = grind (arith, nat_tests)

module _ {X : Type 0} (number : X → ℕ) where
  -- SLOTS THAT HOLD NO OTHER NUMBERS

  -- a slot is free, or holds the number that it held
  abbrev pub IsWithin : Option X → Option X → Type 0
  IsWithin None old = Unit {0}
  IsWithin (Some y) None = ⊥
  IsWithin (Some y) (Some x) = number y ≡ number x

  abbrev pub AreWithin : List (Option X) → List (Option X) → Type 0
  AreWithin [] [] = Unit {0}
  AreWithin [] (r ∷ old) = ⊥
  AreWithin (s ∷ new) [] = ⊥
  AreWithin (s ∷ new) (r ∷ old) = IsWithin s r × AreWithin new old

  same_slot : (s : Option X) → IsWithin s s
  same_slot None = tt
  same_slot (Some x) = refl

  pub within_same : (slots : List (Option X)) → AreWithin slots slots
  within_same [] = tt
  within_same (s ∷ slots) = (same_slot s, within_same slots)

  pub within_put : (slots : List (Option X)) (at : ℕ) (x y : X) → slice_get slots at ≡ Some (Some x) → number y ≡ number x → AreWithin (set slots at (Some y)) slots
  within_put [] at x y here same = tt
  within_put (None ∷ slots) zero x y here same = absurd (cc)
  within_put (Some z ∷ slots) zero x y here same = let is : x ≡ z = cc in (same ∙ ap number is, within_same slots)
  within_put (s ∷ slots) (suc at) x y here same = (same_slot s, within_put slots at x y here same)

  pub within_taken : (slots : List (Option X)) (at : ℕ) → AreWithin (set slots at None) slots
  within_taken [] at = tt
  within_taken (s ∷ slots) zero = (tt, within_same slots)
  within_taken (s ∷ slots) (suc at) = (same_slot s, within_taken slots at)

  within_map : (f : Option X → Option X) → ((s : Option X) → IsWithin (f s) s) → (slots : List (Option X)) → AreWithin (map f slots) slots
  within_map f each [] = tt
  within_map f each (s ∷ slots) = (each s, within_map f each slots)

  pub within_emptied : (test : X → Bool) (slots : List (Option X)) → AreWithin (map (emptied_where test) slots) slots
  within_emptied test = within_map (emptied_where test) each where
    each : (s : Option X) → IsWithin (emptied_where test s) s
    each None = tt
    each (Some x) = test_cases (test x) (IsWithin (emptied_where test (Some x)) (Some x)) (λ e. rw e tt) (λ e. rw e refl)

  pub within_changed : (test : X → Bool) (f : X → X) → ((x : X) → number (f x) ≡ number x) → (slots : List (Option X)) → AreWithin (map (changed_where test f) slots) slots
  within_changed test f keeps = within_map (changed_where test f) each where
    each : (s : Option X) → IsWithin (changed_where test f s) s
    each None = tt
    each (Some x) = test_cases (test x) (number (if test x then f x else x) ≡ number x) (λ e. rw e (keeps x)) (λ e. rw e refl)

  pub any_within : (t : ℕ → Bool) (new old : List (Option X)) → AreWithin new old → list_any (λ x. t (number x)) (used old) ≡ false → list_any (λ x. t (number x)) (used new) ≡ false
  any_within t [] [] w none = refl
  any_within t [] (r ∷ old) w none = absurd w
  any_within t (s ∷ new) [] w none = absurd w
  any_within t (None ∷ new) (None ∷ old) w none = any_within t new old w.1 none
  any_within t (None ∷ new) (Some x ∷ old) w none = any_within t new old w.1 (or_parts (t (number x)) (list_any (λ z. t (number z)) (used old)) none).1
  any_within t (Some y ∷ new) (None ∷ old) w none = absurd w.0
  any_within t (Some y ∷ new) (Some x ∷ old) w none =
      let p = or_parts (t (number x)) (list_any (λ z. t (number z)) (used old)) none in
      or_from (t (number y)) (list_any (λ z. t (number z)) (used new)) (ap t w.0 ∙ p.0) (any_within t new old w.1 p.1)

  pub all_within : (P : ℕ → Type 0) (new old : List (Option X)) → AreWithin new old → All (λ x. P (number x)) (used old) → All (λ x. P (number x)) (used new)
  all_within P [] [] w all = all
  all_within P [] (r ∷ old) w all = absurd w
  all_within P (s ∷ new) [] w all = absurd w
  all_within P (None ∷ new) (None ∷ old) w all = all_within P new old w.1 all
  all_within P (None ∷ new) (Some x ∷ old) w all = all_within P new old w.1 (All-tail (λ z. P (number z)) x (used old) all)
  all_within P (Some y ∷ new) (None ∷ old) w all = absurd w.0
  all_within P (Some y ∷ new) (Some x ∷ old) w all =
      All-cons (λ z. P (number z)) y (used new) (subst P (sym w.0) (All-head (λ z. P (number z)) x (used old) all)) (all_within P new old w.1 (All-tail (λ z. P (number z)) x (used old) all))

  pub distinct_within : (new old : List (Option X)) → AreWithin new old → AreDistinct (λ a b. number a == number b) (used old) → AreDistinct (λ a b. number a == number b) (used new)
  distinct_within [] [] w d = d
  distinct_within [] (r ∷ old) w d = absurd w
  distinct_within (s ∷ new) [] w d = absurd w
  distinct_within (None ∷ new) (None ∷ old) w d = distinct_within new old w.1 d
  distinct_within (None ∷ new) (Some x ∷ old) w d = distinct_within new old w.1 d.1
  distinct_within (Some y ∷ new) (None ∷ old) w d = absurd w.0
  distinct_within (Some y ∷ new) (Some x ∷ old) w d =
      (any_within (λ n. number y == n) new old w.1 (subst (λ (n : ℕ). list_any (λ z. n == number z) (used old) ≡ false) (sym w.0) d.0), distinct_within new old w.1 d.1)

  -- ONE MORE, WHICH IS ABOVE THEM

  pub any_added : (t : X → Bool) (slots : List (Option X)) (at : ℕ) (y : X) → t y ≡ false → list_any t (used slots) ≡ false → list_any t (used (set slots at (Some y))) ≡ false
  any_added t [] at y off none = none
  any_added t (None ∷ slots) zero y off none = or_from (t y) (list_any t (used slots)) off none
  any_added t (Some x ∷ slots) zero y off none = or_from (t y) (list_any t (used slots)) off (or_parts (t x) (list_any t (used slots)) none).1
  any_added t (None ∷ slots) (suc at) y off none = any_added t slots at y off none
  any_added t (Some x ∷ slots) (suc at) y off none =
      let p = or_parts (t x) (list_any t (used slots)) none in
      or_from (t x) (list_any t (used (set slots at (Some y)))) p.0 (any_added t slots at y off p.1)

  none_above : (y : X) (xs : List X) → All (λ x. number x < number y) xs → list_any (λ x. number y == number x) xs ≡ false
  none_above y xs below = list_any_none (λ x. number y == number x) xs (All-weaker (λ x. number x < number y) (λ x. (number y == number x) ≡ false) (λ x lt. more_apart (number x) (number y) lt) xs below)

  pub distinct_added : (slots : List (Option X)) (at : ℕ) (y : X) → All (λ x. number x < number y) (used slots) → AreDistinct (λ a b. number a == number b) (used slots) → AreDistinct (λ a b. number a == number b) (used (set slots at (Some y)))
  distinct_added [] at y below d = d
  distinct_added (None ∷ slots) zero y below d = (none_above y (used slots) below, d)
  distinct_added (Some x ∷ slots) zero y below d = (none_above y (used slots) (All-tail (λ z. number z < number y) x (used slots) below), d.1)
  distinct_added (None ∷ slots) (suc at) y below d = distinct_added slots at y below d
  distinct_added (Some x ∷ slots) (suc at) y below d =
      (any_added (λ z. number x == number z) slots at y (less_apart (number x) (number y) (All-head (λ z. number z < number y) x (used slots) below)) d.0, distinct_added slots at y (All-tail (λ z. number z < number y) x (used slots) below) d.1)

-- TABLES

pub orders_within : (js js' : List (Option JobRec)) (os os' : List (Option OutRec)) (next : ℕ) → AreWithin jobs.order_of js' js → AreWithin outputs.order_of os' os → AreOrdered js os next → AreOrdered js' os' next
orders_within js js' os os' next w v had = record {
  jobs = distinct_within jobs.order_of js' js w had.jobs;
  outputs = distinct_within outputs.order_of os' os v had.outputs;
  apart = all_within outputs.order_of (λ n. list_any (λ (j : JobRec). j.order == n) (used js') ≡ false) os' os v
      (All-weaker (λ (o : OutRec). list_any (λ (j : JobRec). j.order == o.order) (used js) ≡ false) (λ (o : OutRec). list_any (λ (j : JobRec). j.order == o.order) (used js') ≡ false)
      (λ o none. any_within jobs.order_of (λ n. n == o.order) js' js w none) (used os) had.apart);
  jobs_below = all_within jobs.order_of (λ n. n < next) js' js w had.jobs_below;
  outputs_below = all_within outputs.order_of (λ n. n < next) os' os v had.outputs_below;
}

pub job_put_orders : (t : Tables) (at : ℕ) (x y : JobRec) → slice_get t.jobs at ≡ Some (Some x) → y.order ≡ x.order → HaveOrders t → HaveOrders (record t { jobs = set t.jobs at (Some y) })
job_put_orders t at x y here same = orders_within t.jobs (set t.jobs at (Some y)) t.outputs t.outputs t.order (within_put jobs.order_of t.jobs at x y here same) (within_same outputs.order_of t.outputs)

pub job_taken_orders : (t : Tables) (at : ℕ) → HaveOrders t → HaveOrders (record t { jobs = set t.jobs at None })
job_taken_orders t at = orders_within t.jobs (set t.jobs at None) t.outputs t.outputs t.order (within_taken jobs.order_of t.jobs at) (within_same outputs.order_of t.outputs)

pub output_put_orders : (t : Tables) (at : ℕ) (x y : OutRec) → slice_get t.outputs at ≡ Some (Some x) → y.order ≡ x.order → HaveOrders t → HaveOrders (record t { outputs = set t.outputs at (Some y) })
output_put_orders t at x y here same = orders_within t.jobs t.jobs t.outputs (set t.outputs at (Some y)) t.order (within_same jobs.order_of t.jobs) (within_put outputs.order_of t.outputs at x y here same)

pub output_taken_orders : (t : Tables) (at : ℕ) → HaveOrders t → HaveOrders (record t { outputs = set t.outputs at None })
output_taken_orders t at = orders_within t.jobs t.jobs t.outputs (set t.outputs at None) t.order (within_same jobs.order_of t.jobs) (within_taken outputs.order_of t.outputs at)

pub jobs_changed_orders : (t : Tables) (test : JobRec → Bool) (f : JobRec → JobRec) → ((r : JobRec) → (f r).order ≡ r.order) → HaveOrders t → HaveOrders (record t { jobs = map (changed_where test f) t.jobs })
jobs_changed_orders t test f keeps = orders_within t.jobs (map (changed_where test f) t.jobs) t.outputs t.outputs t.order (within_changed jobs.order_of test f keeps t.jobs) (within_same outputs.order_of t.outputs)

pub outputs_changed_orders : (t : Tables) (test : OutRec → Bool) (f : OutRec → OutRec) → ((r : OutRec) → (f r).order ≡ r.order) → HaveOrders t → HaveOrders (record t { outputs = map (changed_where test f) t.outputs })
outputs_changed_orders t test f keeps = orders_within t.jobs t.jobs t.outputs (map (changed_where test f) t.outputs) t.order (within_same jobs.order_of t.jobs) (within_changed outputs.order_of test f keeps t.outputs)

pub outputs_emptied_orders : (t : Tables) (test : OutRec → Bool) → HaveOrders t → HaveOrders (record t { outputs = map (emptied_where test) t.outputs })
outputs_emptied_orders t test = orders_within t.jobs t.jobs t.outputs (map (emptied_where test) t.outputs) t.order (within_same jobs.order_of t.jobs) (within_emptied outputs.order_of test t.outputs)

-- a new job, or a new output, has the next order
pub job_added_orders : (js : List (Option JobRec)) (os : List (Option OutRec)) (at : ℕ) (r : JobRec) → AreOrdered js os r.order → AreOrdered (set js at (Some r)) os (r.order + 1)
job_added_orders js os at r had = record {
  jobs = distinct_added jobs.order_of js at r had.jobs_below had.jobs;
  outputs = had.outputs;
  apart = λ k o lt. apart (slice_index_or (used os) k o) (had.apart k o lt) (had.outputs_below k o lt);
  jobs_below = used_set (λ (j : JobRec). j.order < r.order + 1) js at r (All-weaker (λ (j : JobRec). j.order < r.order) (λ (j : JobRec). j.order < r.order + 1) (λ j lt. omega (arith, lt)) (used js) had.jobs_below) (omega arith);
  outputs_below = All-weaker (λ (o : OutRec). o.order < r.order) (λ (o : OutRec). o.order < r.order + 1) (λ o lt. omega (arith, lt)) (used os) had.outputs_below;
} where
  apart : (o : OutRec) → list_any (λ (j : JobRec). j.order == o.order) (used js) ≡ false → o.order < r.order → list_any (λ (j : JobRec). j.order == o.order) (used (set js at (Some r))) ≡ false
  apart o none below = any_added jobs.order_of (λ (j : JobRec). j.order == o.order) js at r (more_apart o.order r.order below) none

pub output_added_orders : (js : List (Option JobRec)) (os : List (Option OutRec)) (at : ℕ) (o : OutRec) → AreOrdered js os o.order → AreOrdered js (set os at (Some o)) (o.order + 1)
output_added_orders js os at o had = record {
  jobs = had.jobs;
  outputs = distinct_added outputs.order_of os at o had.outputs_below had.outputs;
  apart = used_set (λ (p : OutRec). list_any (λ (j : JobRec). j.order == p.order) (used js) ≡ false) os at o had.apart
      (list_any_none (λ (j : JobRec). j.order == o.order) (used js) (All-weaker (λ (j : JobRec). j.order < o.order) (λ (j : JobRec). (j.order == o.order) ≡ false) (λ j lt. less_apart j.order o.order lt) (used js) had.jobs_below));
  jobs_below = All-weaker (λ (j : JobRec). j.order < o.order) (λ (j : JobRec). j.order < o.order + 1) (λ j lt. omega (arith, lt)) (used js) had.jobs_below;
  outputs_below = used_set (λ (p : OutRec). p.order < o.order + 1) os at o (All-weaker (λ (p : OutRec). p.order < o.order) (λ (p : OutRec). p.order < o.order + 1) (λ p lt. omega (arith, lt)) (used os) had.outputs_below) (omega arith);
}

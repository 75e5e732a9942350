-- The orders of tables that have no fault, of empty ones, and of those of which it is known for some choice.
use Rattle.std.proofs.Common.{◌≡◌, ℕ, zero, suc, ◌*◌, ◌<◌, ◌==◌, nat_le, nat_lt, Bool, false, not, ◌&&◌, ◌||◌, List, [], ◌∷◌, length, Option, Some, None, replicate, refl, sym, ◌∙◌, subst, arith}
use Rattle.std.specs.List.{list_any, All}
use Rattle.std.proofs.Math.Bool.{Bool-set}
use Rattle.std.proofs.Math.Bridge.{le_prop}
use Rattle.std.proofs.Math.Logic.{∥∥₁_elim, ∥∥₁_map}
use Rattle.std.proofs.lemmas.Bool.{or_parts}
use Rattle.std.proofs.lemmas.Bool.Decides.{nat_tests}
use Rattle.std.proofs.lemmas.List.Elements.{All-nil}
use Rattle.mas_types.specs.declared.queues.Config.{Config}
use Rattle.mas_types.specs.declared.queues.Route.{Route}
use Rattle.mas_types.specs.Fit.{AreDistinct}
use Rattle.mas_types.specs.Ids.{same_member, same_number, is_somebody}
use Rattle.mas_types.specs.Owners.{is_deck_of, is_output_of}
use Rattle.mas_types.specs.Queue.{in_input}
use Rattle.mas_types.specs.Sound.{may_be_busy}
use Rattle.lay_bytes.specs.declared.records.JobRec.{JobRec}
use Rattle.lay_bytes.specs.declared.records.OutRec.{OutRec}
use Rattle.lay_bytes.specs.Slots.{IfUsed}
use Rattle.ckpt_tables.specs.declared.tables.Tables.{Tables}
use Rattle.lay_bytes.specs.Used.{used}
use Rattle.ckpt_pages.specs.Sound.{is_there, is_above, is_wrong_job_slot, has_outputs, same_print, is_wrong_output_slot, AreSound}
use Rattle.ckpt_pages.specs.Starts.{empty_tables}
use Rattle.ckpt_pages.proofs.SlotLists.{all_right, all_used, any_never, any_used, apart_right, distinct_used, in_slots}
use Rattle.ckpt_pages.proofs.SoundLemmas.{none_wrong}
use Rattle.queue_tables.specs.Laws.{EmptyHaveOrders, SoundHaveOrders}
use Rattle.queue_telling.specs.Orders.{AreOrdered, HaveOrders}

-- TABLES WITHOUT A FAULT

below_next : (next n : ℕ) → nat_le next n ≡ false → n < next
below_next next n h = grind (arith, nat_tests)

module _ (t : Tables) where
  -- what isn't wrong of a job's order
  pub record IsNewJob (before : List (Option JobRec)) (j : JobRec) : Type 0 where
    pub new : is_there (λ i. i.order == j.order) before ≡ false
    pub below : j.order < t.order

  new_job : (before : List (Option JobRec)) (j : JobRec) → is_wrong_job_slot t before (Some j) ≡ false → IsNewJob before j
  new_job before j h =
      let number : Bool = is_there (λ (i : JobRec). same_number i.number j.number) before in
      let order : Bool = is_there (λ (i : JobRec). i.order == j.order) before in
      let next : Bool = nat_le t.order j.order in
      let above : Bool = is_above t j.busy in
      let phase : Bool = is_somebody j.busy && not (may_be_busy j.phase) in
      let cards : Bool = in_input j.phase && nat_lt 0 j.cards in
      let group : Bool = nat_lt 0 j.cards && not (list_any (is_deck_of j.number) t.owners) in
      let g = or_parts (((((number || order) || next) || above) || phase) || cards) group h in
      let f = or_parts ((((number || order) || next) || above) || phase) cards g.0 in
      let e = or_parts (((number || order) || next) || above) phase f.0 in
      let d = or_parts ((number || order) || next) above e.0 in
      let c = or_parts (number || order) next d.0 in
      let b = or_parts number order c.0 in
      record { new = b.1; below = below_next t.order j.order c.1 }

  job_apart : (before : List (Option JobRec)) (slot : Option JobRec) → is_wrong_job_slot t before slot ≡ false → list_any (λ y. in_slots (λ (a b : JobRec). a.order == b.order) y slot) before ≡ false
  job_apart before None h = any_never (λ (y : Option JobRec). false) (λ y. refl) before
  job_apart before (Some j) h = (new_job before j h).new

  job_below : (before : List (Option JobRec)) (slot : Option JobRec) → is_wrong_job_slot t before slot ≡ false → IfUsed (λ j. j.order < t.order) slot
  job_below before None h = tt
  job_below before (Some j) h = (new_job before j h).below

  -- the order of an output's record is new, and below the next order
  pub record IsNewOutput (before : List (Option OutRec)) (o : OutRec) : Type 0 where
    pub apart : is_there (λ j. j.order == o.order) t.jobs ≡ false
    pub new : is_there (λ p. p.order == o.order) before ≡ false
    pub below : o.order < t.order

  new_output : (before : List (Option OutRec)) (o : OutRec) → is_wrong_output_slot t before (Some o) ≡ false → IsNewOutput before o
  new_output before o h =
      let of_jobs : Bool = is_there (λ (j : JobRec). j.order == o.order) t.jobs in
      let order : Bool = is_there (λ (p : OutRec). p.order == o.order) before in
      let next : Bool = nat_le t.order o.order in
      let job : Bool = is_there (has_outputs o.job) t.jobs in
      let key : Bool = is_there (same_print o) before in
      let printer : Bool = is_somebody o.busy && is_there (λ (p : OutRec). same_member p.busy o.busy) before in
      let above : Bool = is_above t o.busy in
      let mark : Bool = nat_lt (o.lines * o.copies) o.mark in
      let group : Bool = nat_lt 0 o.lines && not (list_any (is_output_of o.job o.index) t.owners) in
      let i = or_parts (((((((of_jobs || order) || next) || not job) || key) || printer) || above) || mark) group h in
      let g = or_parts ((((((of_jobs || order) || next) || not job) || key) || printer) || above) mark i.0 in
      let f = or_parts (((((of_jobs || order) || next) || not job) || key) || printer) above g.0 in
      let e = or_parts ((((of_jobs || order) || next) || not job) || key) printer f.0 in
      let d = or_parts (((of_jobs || order) || next) || not job) key e.0 in
      let c = or_parts ((of_jobs || order) || next) (not job) d.0 in
      let b = or_parts (of_jobs || order) next c.0 in
      let a = or_parts of_jobs order b.0 in
      record { apart = a.0; new = a.1; below = below_next t.order o.order b.1 }

  output_apart : (before : List (Option OutRec)) (slot : Option OutRec) → is_wrong_output_slot t before slot ≡ false → list_any (λ y. in_slots (λ (a b : OutRec). a.order == b.order) y slot) before ≡ false
  output_apart before None h = any_never (λ (y : Option OutRec). false) (λ y. refl) before
  output_apart before (Some o) h = (new_output before o h).new

  -- an output's order is no job's and below the next
  output_right : (before : List (Option OutRec)) (slot : Option OutRec) → is_wrong_output_slot t before slot ≡ false → IfUsed (λ o. (list_any (λ j. j.order == o.order) (used t.jobs) ≡ false) × (o.order < t.order)) slot
  output_right before None h = tt
  output_right before (Some o) h = let n = new_output before o h in (sym (any_used (λ (j : JobRec). j.order == o.order) t.jobs) ∙ n.apart, n.below)

pub sound_orders : SoundHaveOrders
sound_orders t sound =
    let none = none_wrong t sound in
    let right = all_used (λ o. (list_any (λ j. j.order == o.order) (used t.jobs) ≡ false) × (o.order < t.order)) t.outputs
    (all_right (is_wrong_output_slot t) (IfUsed (λ o. (list_any (λ j. j.order == o.order) (used t.jobs) ≡ false) × (o.order < t.order))) (output_right t) [] (length t.jobs) t.outputs none.outputs) in
    record {
      jobs = distinct_used (λ a b. a.order == b.order) t.jobs (apart_right (is_wrong_job_slot t) (in_slots (λ (a b : JobRec). a.order == b.order)) (job_apart t) [] 0 t.jobs none.jobs).0;
      outputs = distinct_used (λ a b. a.order == b.order) t.outputs (apart_right (is_wrong_output_slot t) (in_slots (λ (a b : OutRec). a.order == b.order)) (output_apart t) [] (length t.jobs) t.outputs none.outputs).0;
      apart = λ k o lt. (right k o lt).0;
      jobs_below = all_used (λ j. j.order < t.order) t.jobs (all_right (is_wrong_job_slot t) (IfUsed (λ j. j.order < t.order)) (job_below t) [] 0 t.jobs none.jobs);
      outputs_below = λ k o lt. (right k o lt).1;
    }

-- EMPTY TABLES

none_used : {X : Type 0} (n : ℕ) → used {X = X} (replicate n None) ≡ []
none_used zero = refl
none_used (suc n) = none_used n

pub none_ordered : (next : ℕ) (js : List (Option JobRec)) (os : List (Option OutRec)) → used js ≡ [] → used os ≡ [] → AreOrdered js os next
none_ordered next js os no_job no_output = record {
  jobs = subst (AreDistinct (λ a b. a.order == b.order)) (sym no_job) tt;
  outputs = subst (AreDistinct (λ a b. a.order == b.order)) (sym no_output) tt;
  apart = subst (All (λ o. list_any (λ j. j.order == o.order) (used js) ≡ false)) (sym no_output) (All-nil (λ o. list_any (λ j. j.order == o.order) (used js) ≡ false));
  jobs_below = subst (All (λ j. j.order < next)) (sym no_job) (All-nil (λ j. j.order < next));
  outputs_below = subst (All (λ o. o.order < next)) (sym no_output) (All-nil (λ o. o.order < next));
}

pub empty_orders : EmptyHaveOrders
empty_orders config routes = none_ordered 0 (replicate config.jobs None) (replicate config.outputs None) (none_used config.jobs) (none_used config.outputs)

-- WHATEVER THE CHOICE

distinct_is : {X : Type 0} (same : X → X → Bool) (xs : List X) → ∥ AreDistinct same xs ∥₁ → AreDistinct same xs
distinct_is same [] some = tt
distinct_is same (x ∷ xs) some = (∥∥₁_elim some (Bool-set _ _) (λ d. d.0), distinct_is same xs (∥∥₁_map some (λ d. d.1)))

-- tests say so
pub orders_are : (t : Tables) → ∥ HaveOrders t ∥₁ → HaveOrders t
orders_are t some = record {
  jobs = distinct_is (λ a b. a.order == b.order) (used t.jobs) (∥∥₁_map some (λ h. h.jobs));
  outputs = distinct_is (λ a b. a.order == b.order) (used t.outputs) (∥∥₁_map some (λ h. h.outputs));
  apart = λ k o lt. ∥∥₁_elim some (Bool-set _ _) (λ h. h.apart k o lt);
  jobs_below = λ k j lt. ∥∥₁_elim some le_prop (λ h. h.jobs_below k j lt);
  outputs_below = λ k o lt. ∥∥₁_elim some le_prop (λ h. h.outputs_below k o lt);
}

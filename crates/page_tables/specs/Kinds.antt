-- What stands in slots, with an order below the next one. The laws are cited by the impls of `Slot`.
use Rattle.std.proofs.Common.{◌≡◌, ℕ, ◌<◌, nat_lt, Bool, true, length, Option, None, Some}
use Rattle.mas_types.specs.declared.queues.Owner.{Owner}
use Rattle.lay_bytes.specs.declared.records.JobRec.{JobRec}
use Rattle.lay_bytes.specs.declared.records.OutRec.{OutRec}
use Rattle.lay_bytes.specs.Slots.{job_slot, output_slot, owner_entry, IsJobRec, IsOutRec, IsOwner, IfUsed}
use Rattle.lay_bytes.proofs.SlotLemmas.{job_length, output_length, owner_length}

-- a job that has a spelling, and whose order is below this one
pub record IsJobUnder (order : ℕ) (j : JobRec) : Type 0 where
  pub fit : IsJobRec j
  pub below : j.order < order

pub record IsOutputUnder (order : ℕ) (o : OutRec) : Type 0 where
  pub fit : IsOutRec o
  pub below : o.order < order

abbrev pub is_job_below : ℕ → Option JobRec → Bool
is_job_below order None = true
is_job_below order (Some j) = nat_lt j.order order

abbrev pub is_output_below : ℕ → Option OutRec → Bool
is_output_below order None = true
is_output_below order (Some o) = nat_lt o.order order

pub job_fit : (order : ℕ) (job : Option JobRec) → IfUsed (IsJobUnder order) job → IfUsed IsJobRec job
job_fit order None h = tt
job_fit order (Some j) h = h.fit

pub output_fit : (order : ℕ) (output : Option OutRec) → IfUsed (IsOutputUnder order) output → IfUsed IsOutRec output
output_fit order None h = tt
output_fit order (Some o) h = h.fit

pub job_size : (order : ℕ) (job : Option JobRec) → IfUsed (IsJobUnder order) job → length (job_slot job) ≡ 256
job_size order job h = job_length job (job_fit order job h)

pub output_size : (order : ℕ) (output : Option OutRec) → IfUsed (IsOutputUnder order) output
    → length (output_slot output) ≡ 128
output_size order output h = output_length output (output_fit order output h)

pub owner_size : (order : ℕ) (owner : Owner) → IsOwner owner → length (owner_entry owner) ≡ 8
owner_size order owner h = owner_length owner h

-- What is picked stands in its chain.
use Rattle.std.proofs.Common.{◌≡◌, ℕ, ◌+◌, Bool, true, false, ◌&&◌, ◌==◌, not, List, Option, Some, None, slice_get, refl, ap, ◌∙◌}
use Rattle.std.specs.Prelude.{if◌then◌else◌}
use Rattle.std.proofs.lemmas.Bool.{eqb-true, eq-eqb}
use Rattle.std.specs.declared.vec.Vec.{Vec}
use Rattle.indexmap.specs.IndexMap.{IndexMap}
use Rattle.mas_types.specs.declared.ids.Class.{Class}
use Rattle.mas_types.specs.declared.ids.JobNo.{JobNo}
use Rattle.mas_types.specs.declared.ids.MemberId.{MemberId}
use Rattle.mas_types.specs.declared.ids.Name8.{Name8}
use Rattle.mas_types.specs.declared.jobs.Phase.{Phase}
use Rattle.mas_types.specs.declared.jobs.Phase.TheVariants as phase
use Rattle.mas_types.specs.Ids.{same_number, same_member, same_class, is_somebody}
use Rattle.mas_types.specs.Queue.{in_convert, in_execute, in_output, in_purge}
use Rattle.lay_bytes.specs.declared.records.JobRec.{JobRec}
use Rattle.lay_bytes.specs.declared.records.OutRec.{OutRec}
use Rattle.queue_slots.proofs.BestSlots.{both_true}
use Rattle.output_queue.specs.Outputs.{may_take, fits_printer, is_hardcopy}
use Rattle.job_select.specs.Chains.{has_slot, slots_of, is_chain, stands_in, AreChains}
use Rattle.job_select.specs.Kinds.{convert_chain, ended_chain, purge_chain, converting_chains, running_chains, chain_in_phase, job_chain, number_chain, printing_chains, output_chain}

module _ {X S Z : Type 0} (chain_of : X → Option ℕ) (slots : List (Option X)) (chains : IndexMap ℕ (Vec ℕ Z) S) (are : AreChains chain_of slots chains) where
  -- what is picked stands in the chain of which it is
  pub in_chain : (picks : X → Bool) (k : ℕ) → ((y : X) → picks y ≡ true → chain_of y ≡ Some k) → (chain : List ℕ) → chain ≡ slots_of chains k
      → (j : ℕ) (y : X) → slice_get slots j ≡ Some (Some y) → picks y ≡ true → has_slot j chain ≡ true
  in_chain picks k is chain same j y there sure =
      let here : has_slot j (slots_of chains k) ≡ is_chain k (chain_of y) = are k j ∙ ap (λ (s : Option (Option X)). stands s) there in
      let own : is_chain k (chain_of y) ≡ true = ap (is_chain k) (is y sure) ∙ eq-eqb k k refl in
      ap (has_slot j) same ∙ here ∙ own
    where
      stands : Option (Option X) → Bool
      stands s = stands_in chain_of k s

-- JOBS

waits : (held busy : Bool) (a b : Option ℕ) → (not held && not busy) ≡ true → (if busy then a else (if held then None else b)) ≡ b
waits false false a b h = refl
waits true busy a b h = absurd cc
waits false true a b h = absurd cc

works : (busy : Bool) (a b : Option ℕ) → busy ≡ true → (if busy then a else b) ≡ a
works true a b h = refl
works false a b h = absurd cc

module _ (r : JobRec) where
  convert_at : (p : Phase) → (in_convert p && (not r.fields.held && not (is_somebody r.busy))) ≡ true → chain_in_phase r p ≡ Some convert_chain
  convert_at phase.Convert h = waits r.fields.held (is_somebody r.busy) (Some (converting_chains + r.busy.0)) (Some convert_chain) h
  convert_at _ h = absurd cc

  pub for_convert_chain : (in_convert r.phase && (not r.fields.held && not (is_somebody r.busy))) ≡ true → job_chain r ≡ Some convert_chain
  for_convert_chain h = convert_at r.phase h

  exec_at : (p : Phase) → (in_execute p && (not r.fields.held && not (is_somebody r.busy))) ≡ true → chain_in_phase r p ≡ Some r.fields.class.0
  exec_at phase.Execute h = waits r.fields.held (is_somebody r.busy) (Some (running_chains + r.busy.0)) (Some r.fields.class.0) h
  exec_at _ h = absurd cc

  pub for_exec_chain : (k : Class) → ((in_execute r.phase && (not r.fields.held && not (is_somebody r.busy))) && same_class r.fields.class k) ≡ true → job_chain r ≡ Some k.0
  for_exec_chain k h =
      let parts = both_true (in_execute r.phase && (not r.fields.held && not (is_somebody r.busy))) (same_class r.fields.class k) h in
      exec_at r.phase parts.0 ∙ ap (λ (n : ℕ). Some n) (eqb-true r.fields.class.0 k.0 parts.1)

  purge_at : (p : Phase) → in_purge p ≡ true → chain_in_phase r p ≡ Some purge_chain
  purge_at phase.Purge h = refl
  purge_at _ h = absurd cc

  pub for_purge_chain : in_purge r.phase ≡ true → job_chain r ≡ Some purge_chain
  for_purge_chain h = purge_at r.phase h

  ended_at : (p : Phase) → in_output p ≡ true → chain_in_phase r p ≡ Some ended_chain
  ended_at phase.Output h = refl
  ended_at _ h = absurd cc

  pub for_gather_chain : in_output r.phase ≡ true → job_chain r ≡ Some ended_chain
  for_gather_chain h = ended_at r.phase h

  busy_is : (m : MemberId) → is_somebody m ≡ true → same_member r.busy m ≡ true → is_somebody r.busy ≡ true
  busy_is m some same = ap (λ (n : ℕ). not (n == 0)) (eqb-true r.busy.0 m.0 same) ∙ some

  converting_at : (m : MemberId) → is_somebody m ≡ true → (p : Phase) → (in_convert p && same_member r.busy m) ≡ true → chain_in_phase r p ≡ Some (converting_chains + m.0)
  converting_at m some phase.Convert h =
      works (is_somebody r.busy) (Some (converting_chains + r.busy.0)) (if r.fields.held then None else Some convert_chain) (busy_is m some h)
      ∙ ap (λ (n : ℕ). Some (converting_chains + n)) (eqb-true r.busy.0 m.0 h)
  converting_at m some _ h = absurd cc

  pub converting_chain : (m : MemberId) → is_somebody m ≡ true → (in_convert r.phase && same_member r.busy m) ≡ true → job_chain r ≡ Some (converting_chains + m.0)
  converting_chain m some h = converting_at m some r.phase h

  running_at : (m : MemberId) → is_somebody m ≡ true → (p : Phase) → (in_execute p && same_member r.busy m) ≡ true → chain_in_phase r p ≡ Some (running_chains + m.0)
  running_at m some phase.Execute h =
      works (is_somebody r.busy) (Some (running_chains + r.busy.0)) (if r.fields.held then None else Some r.fields.class.0) (busy_is m some h)
      ∙ ap (λ (n : ℕ). Some (running_chains + n)) (eqb-true r.busy.0 m.0 h)
  running_at m some _ h = absurd cc

  pub running_chain : (m : MemberId) → is_somebody m ≡ true → (in_execute r.phase && same_member r.busy m) ≡ true → job_chain r ≡ Some (running_chains + m.0)
  running_chain m some h = running_at m some r.phase h

  pub numbered_chain : (n : JobNo) → same_number r.number n ≡ true → number_chain r ≡ Some n.0
  numbered_chain n h = ap (λ (k : ℕ). Some k) (eqb-true r.number.0 n.0 h)

-- OUTPUTS

module _ (r : OutRec) where
  output_waits : (held busy : Bool) (a b : Option ℕ) → held ≡ false → busy ≡ false → (if busy then a else (if held then None else b)) ≡ b
  output_waits held busy a b h n = rw (h, n) refl

  pub printing_chain : (m : MemberId) → is_somebody m ≡ true → same_member r.busy m ≡ true → output_chain r ≡ Some (printing_chains + m.0)
  printing_chain m some same =
      works (is_somebody r.busy) (Some (printing_chains + r.busy.0)) (if r.held then None else Some r.class.0) (ap (λ (n : ℕ). not (n == 0)) (eqb-true r.busy.0 m.0 same) ∙ some)
      ∙ ap (λ (n : ℕ). Some (printing_chains + n)) (eqb-true r.busy.0 m.0 same)

  taken : (held busy fits hard : Bool) → (not held && not busy && fits && hard) ≡ true → (held ≡ false) × (busy ≡ false)
  taken false false fits hard h = (refl, refl)
  taken true busy fits hard h = absurd cc
  taken false true fits hard h = absurd cc

  pub for_printer_chain : (jobs : List (Option JobRec)) (m : MemberId) (forms : Name8) (k : Class) → (may_take jobs m forms r && same_class r.class k) ≡ true → output_chain r ≡ Some k.0
  for_printer_chain jobs m forms k h =
      let parts = both_true (may_take jobs m forms r) (same_class r.class k) h in
      let is = taken r.held (is_somebody r.busy) (fits_printer m forms r) (is_hardcopy jobs r.job) parts.0 in
      output_waits r.held (is_somebody r.busy) (Some (printing_chains + r.busy.0)) (Some r.class.0) is.0 is.1
      ∙ ap (λ (n : ℕ). Some n) (eqb-true r.class.0 k.0 parts.1)

-- Sound tables are fit.
use Rattle.std.proofs.Common.{◌≡◌, ℕ, ◌*◌, ◌<◌, ◌≤◌, ◌==◌, nat_le, nat_lt, Bool, false, not, ◌&&◌, ◌||◌, List, [], length, Option, Some, None, arith}
use Rattle.std.specs.List.{list_any}
use Rattle.std.proofs.lemmas.Bool.{or_parts}
use Rattle.std.proofs.lemmas.Bool.Decides.{nat_tests}
use Rattle.mas_types.specs.declared.ids.MemberId.{MemberId}
use Rattle.mas_types.specs.Ids.{same_member, same_number, is_somebody}
use Rattle.mas_types.specs.Limits.{members_most}
use Rattle.mas_types.specs.Queue.{in_input}
use Rattle.mas_types.specs.Owners.{is_deck_of, is_output_of}
use Rattle.mas_types.specs.Sound.{may_be_busy}
use Rattle.lay_bytes.specs.declared.records.JobRec.{JobRec}
use Rattle.lay_bytes.specs.declared.records.OutRec.{OutRec}
use Rattle.lay_bytes.specs.Slots.{IfUsed}
use Rattle.ckpt_tables.specs.declared.tables.Tables.{Tables}
use Rattle.ckpt_tables.specs.Shape.{HasShape}
use Rattle.ckpt_pages.specs.Sound.{is_there, is_above, is_wrong_job_slot, has_outputs, same_print, is_wrong_output_slot, AreSound}
use Rattle.ckpt_pages.proofs.SlotLists.{all_right, all_used}
use Rattle.ckpt_pages.proofs.SoundLemmas.{none_wrong}
use Rattle.queue_effect.specs.Standing.{AreFit, IsFitJob, IsFitOutput}

-- SOUND TABLES

module _ (t : Tables) (few : t.config.members ≤ members_most) where
  busy_few : (m : MemberId) → is_above t m ≡ false → m.0 ≤ members_most
  busy_few m h = go t.config.members m.0 few h
    where
      go : (most n : ℕ) → most ≤ members_most → nat_lt most n ≡ false → n ≤ members_most
      go most n low h = grind (arith, nat_tests)

  below_next : (next n : ℕ) → nat_le next n ≡ false → n < next
  below_next next n h = grind (arith, nat_tests)

  fit_job : (before : List (Option JobRec)) (slot : Option JobRec) → is_wrong_job_slot t before slot ≡ false → IfUsed (IsFitJob t.order) slot
  fit_job before None h = tt
  fit_job before (Some j) h =
      let number : Bool = is_there (λ (i : JobRec). same_number i.number j.number) before in
      let order : Bool = is_there (λ (i : JobRec). i.order == j.order) before in
      let next : Bool = nat_le t.order j.order in
      let above : Bool = is_above t j.busy in
      let phase : Bool = is_somebody j.busy && not (may_be_busy j.phase) in
      let cards : Bool = in_input j.phase && nat_lt 0 j.cards in
      let group : Bool = nat_lt 0 j.cards && not (list_any (is_deck_of j.number) t.owners) in
      let g = or_parts (((((number || order) || next) || above) || phase) || cards) group h in
      let f = or_parts ((((number || order) || next) || above) || phase) cards g.0 in
      let e = or_parts (((number || order) || next) || above) phase f.0 in
      let d = or_parts ((number || order) || next) above e.0 in
      let c = or_parts (number || order) next d.0 in
      record { below = below_next t.order j.order c.1; busy = busy_few j.busy d.1 }

  fit_output : (before : List (Option OutRec)) (slot : Option OutRec) → is_wrong_output_slot t before slot ≡ false → IfUsed (IsFitOutput t.order) slot
  fit_output before None h = tt
  fit_output before (Some o) h =
      let of_jobs : Bool = is_there (λ (j : JobRec). j.order == o.order) t.jobs in
      let order : Bool = is_there (λ (p : OutRec). p.order == o.order) before in
      let next : Bool = nat_le t.order o.order in
      let job : Bool = is_there (has_outputs o.job) t.jobs in
      let key : Bool = is_there (same_print o) before in
      let printer : Bool = is_somebody o.busy && is_there (λ (p : OutRec). same_member p.busy o.busy) before in
      let above : Bool = is_above t o.busy in
      let mark : Bool = nat_lt (o.lines * o.copies) o.mark in
      let group : Bool = nat_lt 0 o.lines && not (list_any (is_output_of o.job o.index) t.owners) in
      let i = or_parts (((((((of_jobs || order) || next) || not job) || key) || printer) || above) || mark) group h in
      let g = or_parts ((((((of_jobs || order) || next) || not job) || key) || printer) || above) mark i.0 in
      let f = or_parts (((((of_jobs || order) || next) || not job) || key) || printer) above g.0 in
      let e = or_parts ((((of_jobs || order) || next) || not job) || key) printer f.0 in
      let d = or_parts (((of_jobs || order) || next) || not job) key e.0 in
      let c = or_parts ((of_jobs || order) || next) (not job) d.0 in
      let b = or_parts (of_jobs || order) next c.0 in
      record { below = below_next t.order o.order b.1; busy = busy_few o.busy f.1 }

pub sound_fit : (t : Tables) → HasShape t → AreSound t → AreFit t
sound_fit t shape sound =
    let none = none_wrong t sound in
    let few : t.config.members ≤ members_most = shape.config.members.1 in
    record {
      shape = shape;
      jobs = all_used (IsFitJob t.order) t.jobs (all_right (is_wrong_job_slot t) (IfUsed (IsFitJob t.order)) (fit_job t few) [] 0 t.jobs none.jobs);
      outputs = all_used (IsFitOutput t.order) t.outputs (all_right (is_wrong_output_slot t) (IfUsed (IsFitOutput t.order)) (fit_output t few) [] (length t.jobs) t.outputs none.outputs);
    }

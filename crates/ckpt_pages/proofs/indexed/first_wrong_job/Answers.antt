use Rattle.std.proofs.Common.{◌≡◌, ◌∙◌, [], List, Option, None, Some, refl, take, sym, subst}
use Rattle.std.proofs.lemmas.List.{take_more, take_all}
use Rattle.lay_bytes.specs.declared.records.JobRec.{JobRec}
use Rattle.ckpt_pages.specs.Keys.{AreJobKeys}
use Rattle.ckpt_pages.specs.Sound.{first_wrong, is_wrong_job_slot}
use Rattle.ckpt_pages.proofs.KeyLemmas.{wrong_job_slot, step_on, stop_here, none_wrong}
use Rattle.ckpt_pages.proofs.indexed.first_wrong_job.Goals as goal

pub loop-i-init : goal.loop-i-init
loop-i-init c = record { first = refl; keys = c.requires.empty }

pub loop-i-preserved : goal.loop-i-preserved
loop-i-preserved c =
    let t = c.args.tables.now in
    let slots = c.as_slice-slots.result.now in
    let i = c.loop-i.i in
    let inv = c.loop-i.invariant in
    let same = wrong_job_slot t c.args.groups.now c.requires.groups c.loop-i.jobs (take i slots) _ inv.keys in
    record {
      first = step_on (is_wrong_job_slot t) slots i i _ _ c.loop-i-test.true inv.first (sym same ∙ sym c.is_wrong_job_slot.ensures ∙ c.if-is_wrong_job_slot.false);
      keys = subst (λ (ss : List (Option JobRec)). AreJobKeys c.add.new.self ss) (sym (take_more slots i _ c.loop-i-test.true)) (c.in_ok-add.ensures (take i slots) inv.keys);
    }

pub returns-then-is_wrong_job_slot-clause-first : goal.returns-then-is_wrong_job_slot-clause-first
returns-then-is_wrong_job_slot-clause-first c =
    let t = c.args.tables.now in
    let slots = c.as_slice-slots.result.now in
    let i = c.loop-i.i in
    let inv = c.loop-i.invariant in
    let same = wrong_job_slot t c.args.groups.now c.requires.groups c.loop-i.jobs (take i slots) _ inv.keys in
    subst (λ (ss : List (Option JobRec)). Some i ≡ first_wrong (is_wrong_job_slot t) [] 0 ss) c.as_slice-slots.ensures
    (stop_here (is_wrong_job_slot t) slots i i _ _ c.loop-i-test.true inv.first (sym same ∙ sym c.is_wrong_job_slot.ensures ∙ c.if-is_wrong_job_slot.true))

pub returns-clause-first : goal.returns-clause-first
returns-clause-first c =
    let t = c.args.tables.now in
    let slots = c.as_slice-slots.result.now in
    subst (λ (ss : List (Option JobRec)). None ≡ first_wrong (is_wrong_job_slot t) [] 0 ss) c.as_slice-slots.ensures
    (none_wrong (is_wrong_job_slot t) slots c.loop-i.i c.loop-i.i _ c.loop-i-test.false c.loop-i.invariant.first)

pub returns-clause-keys : goal.returns-clause-keys
returns-clause-keys c none =
    let slots = c.as_slice-slots.result.now in
    subst (λ (ss : List (Option JobRec)). AreJobKeys c.loop-i.jobs ss) (take_all c.loop-i.i slots c.loop-i-test.false ∙ c.as_slice-slots.ensures) c.loop-i.invariant.keys

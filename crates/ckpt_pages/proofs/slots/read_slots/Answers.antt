use Rattle.std.proofs.lemmas.Result.{err_from_is_err_and}
use Rattle.lay_bytes.specs.Slots.{job_slot, output_slot, owner_entry, IsJobRec, IsOutRec, IsOwner, IfUsed}
use Rattle.std.proofs.Common.{◌+◌, ◌*◌, ◌/◌}
use Rattle.ckpt_pages.specs.declared.slots.Slots.{Slots}
use Rattle.ckpt_pages.specs.Reading.{IsFirstBad}
use Rattle.ckpt_pages.specs.Slots.{IsBadBehind}
use Rattle.ckpt_pages.proofs.SlotPageLemmas.{bad_jobs, bad_outputs, bad_owners, other_page, handed_on}
use Rattle.ckpt_pages.proofs.slots.read_slots.Goals as goal

pub returns-in_err-jobs-clause-bad : goal.returns-in_err-jobs-clause-bad
returns-in_err-jobs-clause-bad c =
    let h = c.args.header.now in
    let pages = c.args.pages.now in
    let p = err_from_is_err_and c.from_residual.result c.from_residual.ensures.1 in
    handed_on Slots (IsBadBehind c.args.header.now c.args.pages.now) c.from_residual.result _ c.in_err-jobs.field-0.0 p.1 p.2
    (other_page (IsFirstBad job_slot (IfUsed IsJobRec) 16 3 h.jobs pages) (IsBadBehind h pages) c.in_err-jobs.field-0.0 c.in_err-jobs.ensures.bad (λ n bad. bad_jobs h pages n c.requires bad))

pub returns-in_err-outputs-clause-bad : goal.returns-in_err-outputs-clause-bad
returns-in_err-outputs-clause-bad c =
    let h = c.args.header.now in
    let pages = c.args.pages.now in
    let p = err_from_is_err_and c.from_residual-in_err-outputs.result c.from_residual-in_err-outputs.ensures.1 in
    handed_on Slots (IsBadBehind c.args.header.now c.args.pages.now) c.from_residual-in_err-outputs.result _ c.in_err-outputs.field-0.0 p.1 p.2
    (other_page (IsFirstBad output_slot (IfUsed IsOutRec) 32 (3 + h.jobs / 16) h.outputs pages) (IsBadBehind h pages) c.in_err-outputs.field-0.0 c.in_err-outputs.ensures.bad
    (λ n bad. bad_outputs h pages n c.in_ok-jobs.jobs c.requires c.in_ok-jobs.ensures.ok bad))

pub returns-in_err-owners-clause-bad : goal.returns-in_err-owners-clause-bad
returns-in_err-owners-clause-bad c =
    let h = c.args.header.now in
    let pages = c.args.pages.now in
    let p = err_from_is_err_and c.from_residual-in_err-owners.result c.from_residual-in_err-owners.ensures.1 in
    handed_on Slots (IsBadBehind c.args.header.now c.args.pages.now) c.from_residual-in_err-owners.result _ c.in_err-owners.field-0.0 p.1 p.2
    (other_page (IsFirstBad owner_entry IsOwner 512 (3 + h.jobs / 16 + h.outputs / 32) (h.volumes * h.groups) pages) (IsBadBehind h pages) c.in_err-owners.field-0.0 c.in_err-owners.ensures.bad
    (λ n bad. bad_owners h pages n c.in_ok-jobs.jobs c.in_ok-outputs.outputs c.requires c.in_ok-jobs.ensures.ok c.in_ok-outputs.ensures.ok bad))

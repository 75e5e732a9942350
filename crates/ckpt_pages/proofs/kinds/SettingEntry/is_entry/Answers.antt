use Rattle.std.proofs.Common.{sym, ap, ◌∙◌, arith}
use Rattle.lay_bytes.specs.Fields.{pieces, first_bad}
use Rattle.ckpt_pages.specs.Fields.{setting_fields, setting_in}
use Rattle.ckpt_pages.specs.Kinds.{setting_takes, setting_good}
use Rattle.ckpt_pages.proofs.TestLemmas.{passed, refused}
use Rattle.ckpt_pages.proofs.kinds.SettingEntry.is_entry.Goals as goal

pub returns-clause-good : goal.returns-clause-good
returns-clause-good c h =
    let good = passed _ c.check_fields.result c.check_fields.ensures.ok (sym c.is_ok.ensures.value ∙ h) in
    let p = setting_takes c.args.bytes.now c.requires (λ i. omega (arith, c.type_inv.bytes i)) good in
    (setting_in (pieces 0 setting_fields c.args.bytes.now), p.0, p.1)

pub returns-clause-bad : goal.returns-clause-bad
returns-clause-bad c h x fit e = refused _ (λ b. b.0) c.check_fields.result c.check_fields.ensures.err (sym c.is_ok.ensures.value ∙ h) (ap (first_bad 0 setting_fields) e ∙ setting_good x fit)

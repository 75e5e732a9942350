use Rattle.std.proofs.Common.{sym, ap, ◌∙◌, arith}
use Rattle.lay_bytes.specs.Fields.{pieces, first_bad}
use Rattle.ckpt_pages.specs.Fields.{line_fields, line_in}
use Rattle.ckpt_pages.specs.Kinds.{line_takes, line_good}
use Rattle.ckpt_pages.proofs.TestLemmas.{passed, refused}
use Rattle.ckpt_pages.proofs.kinds.LineCountEntry.is_entry.Goals as goal

pub returns-clause-good : goal.returns-clause-good
returns-clause-good c h =
    let good = passed _ c.check_fields.result c.check_fields.ensures.ok (sym c.is_ok.ensures.value ∙ h) in
    let p = line_takes c.args.bytes.now c.requires (λ i. omega (arith, c.type_inv.bytes i)) good in
    (line_in (pieces 0 line_fields c.args.bytes.now), p.0, p.1)

pub returns-clause-bad : goal.returns-clause-bad
returns-clause-bad c h x fit e = refused _ (λ b. b.0) c.check_fields.result c.check_fields.ensures.err (sym c.is_ok.ensures.value ∙ h) (ap (first_bad 0 line_fields) e ∙ line_good x fit)

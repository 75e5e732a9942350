use Rattle.std.proofs.Common.{sym, ap, ◌∙◌, arith}
use Rattle.lay_bytes.specs.Fields.{pieces, first_bad}
use Rattle.ckpt_pages.specs.Fields.{route_fields, route_in}
use Rattle.ckpt_pages.specs.Kinds.{route_takes, route_good}
use Rattle.ckpt_pages.proofs.TestLemmas.{passed, refused}
use Rattle.ckpt_pages.proofs.kinds.RouteEntry.is_entry.Goals as goal

pub returns-clause-good : goal.returns-clause-good
returns-clause-good c h =
    let good = passed _ c.check_fields.result c.check_fields.ensures.ok (sym c.is_ok.ensures.value ∙ h) in
    let p = route_takes c.args.bytes.now c.requires (λ i. omega (arith, c.type_inv.bytes i)) good in
    (route_in (pieces 0 route_fields c.args.bytes.now), p.0, p.1)

pub returns-clause-bad : goal.returns-clause-bad
returns-clause-bad c h x fit e = refused _ (λ b. b.0) c.check_fields.result c.check_fields.ensures.err (sym c.is_ok.ensures.value ∙ h) (ap (first_bad 0 route_fields) e ∙ route_good x fit)

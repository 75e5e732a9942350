use Rattle.std.proofs.Common.{subst}
use Rattle.ckpt_form.specs.Form.{form_reads}
use Rattle.mas_complex.specs.declared.renewals.Renewals.{Renewals}
use Rattle.mas_complex.specs.Headline.{Headline}
use Rattle.run_opening.proofs.ended.end_run.Goals as goal

-- it has the replacements of the value
pub returns-clause-headline : goal.returns-clause-headline
returns-clause-headline g c told =
    let e = c.end-end.result in
    subst (λ (rs : Renewals). ∥ Headline form_reads e.base e.since e.journal rs (g.P.Plant.view e.plant) ∥₁) c.end-end.ensures.renewals (c.end-end.ensures.headline told)

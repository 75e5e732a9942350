use Rattle.std.proofs.Common.{◌≡◌}
use Rattle.mas_types.specs.Printed.{jcl_error_line}
use Rattle.job_outcome.proofs.ListedLemmas.{error_ends, error_fits}
use Rattle.job_outcome.proofs.outcomes.outcome_of_text.Goals as goal

pub returns-in-Err-JclError-clause-outcome : goal.returns-in-Err-JclError-clause-outcome
returns-in-Err-JclError-clause-outcome c =
    let e = c.in-Err-JclError in
    let listed = c.in_ok-listing-in-Err-JclError in
    let said : c.as_slice.result.now ≡ jcl_error_line e.card e.cause = cc (c.as_slice.ensures, c.in_ok-line-in-Err-JclError.ensures) in
    error_ends c.args.fields.now c.args.text.now c.requires.text c.args.runs e.field-0 e.card e.cause c.as_slice.result.now listed.field-0 e.field-0-is e.ensures.refused said listed.ensures.output

pub returns-in-Err-JclError-clause-fits : goal.returns-in-Err-JclError-clause-fits
returns-in-Err-JclError-clause-fits c =
    let e = c.in-Err-JclError in
    let listed = c.in_ok-listing-in-Err-JclError in
    let said : c.as_slice.result.now ≡ jcl_error_line e.card e.cause = cc (c.as_slice.ensures, c.in_ok-line-in-Err-JclError.ensures) in
    error_fits c.args.fields.now c.args.text.now c.requires.text e.field-0 e.card e.cause c.as_slice.result.now listed.field-0 e.field-0-is e.ensures.refused said (listed.ensures.fits c.requires.fields)

pub returns-then-runs-clause-fits : goal.returns-then-runs-clause-fits
returns-then-runs-clause-fits c =
    c.in_ok-run_steps.ensures.fits (c.law_of_limits.ensures c.args.fields.now c.args.text.now c.in-Ok.steps c.requires.fields c.requires.text c.in-Ok.ensures.steps)

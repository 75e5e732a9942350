use Rattle.std.proofs.Common.{◌≡◌, false}
use Rattle.std.specs.Prelude.{is_some}
use Rattle.mas_types.specs.Records.{records_in}
use Rattle.spool_text.proofs.GroupSteps.{not_held}
use Rattle.spool_text.proofs.unpacking.unpack.Goals as goal

pub returns-then-not-holds_records-clause-bad : goal.returns-then-not-holds_records-clause-bad
returns-then-not-holds_records-clause-bad c =
    let none : is_some (records_in c.args.group.now.0) ≡ false = cc in
    (λ e. not_held c.args.group.now.0 none, λ h. (cc))

pub returns-in-Ok-clause-bad : goal.returns-in-Ok-clause-bad
returns-in-Ok-clause-bad c = (λ e. absurd (cc), λ none. absurd (none c.in-Ok.ensures.ok.lines c.in-Ok.ensures.ok.holds))

pub returns-in-Err-clause-bad : goal.returns-in-Err-clause-bad
returns-in-Err-clause-bad c = (λ e. absurd (cc), λ none. absurd (none c.in-Err.ensures.err.lines c.in-Err.ensures.err.holds))

use Rattle.std.proofs.Common.{◌∙◌, ap}
use Rattle.std.specs.Prelude.{is_some}
use Rattle.mas_types.specs.Records.{records_in}
use Rattle.spool_text.proofs.GroupSteps.{some_counted}
use Rattle.spool_text.proofs.unpacking.holds_records.Goals as goal

pub returns : goal.returns
returns c = c.is_some.ensures ∙ ap is_some c.count_in.ensures ∙ some_counted (records_in c.args.group.now)

use Rattle.std.proofs.Common.{◌∙◌, sym}
use Rattle.spool_text.proofs.GroupSteps.{adds_counted, none_counted}
use Rattle.spool_text.proofs.unpacking.add_lines.Goals as goal

pub returns-in-Some-clause-added : goal.returns-in-Some-clause-added
returns-in-Some-clause-added c is = adds_counted c.args.group.now.0 c.args.into.now c.add_group.new.self c.in-Some.count (sym c.count_in.ensures ∙ c.in-Some.is) c.add_group.ensures

pub returns-in-None-clause-none : goal.returns-in-None-clause-none
returns-in-None-clause-none c is = none_counted c.args.group.now.0 (sym c.count_in.ensures ∙ c.in-None.is)

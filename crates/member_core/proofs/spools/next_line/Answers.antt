use Rattle.std.proofs.Common.{sym}
use Rattle.member_core.proofs.Given.{few_printed}
use Rattle.member_core.proofs.spools.next_line.Goals as goal

pub line_of-requires : goal.line_of-requires
line_of-requires c = few_printed c.args.short.now c.requires c.args.by _ (sym c.in-Some.ensures)

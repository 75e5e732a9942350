use Rattle.std.proofs.Common.{arith}
use Rattle.member_frames.proofs.Fronts.{wire_told}
use Rattle.member_frames.proofs.nexts.count_on.Goals as goal

pub item-requires : goal.item-requires
item-requires c = let lines = c.requires.spelling.shape.lines in omega (arith, lines, c.requires.line.0, c.requires.line.1)

pub returns : goal.returns
returns c Q told = wire_told c.args.tables.now Q c.args.line c.item.result.now c.requires.line told c.item.ensures

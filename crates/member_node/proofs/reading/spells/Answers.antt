use Rattle.member_node.proofs.ReadLemmas.{some_is_bad}
use Rattle.member_node.proofs.reading.spells.Goals as goal

pub returns-then-alike-clause-good : goal.returns-then-alike-clause-good
returns-then-alike-clause-good c is = c.requires.own c.if-alike.true

pub returns-clause-bad : goal.returns-clause-bad
returns-clause-bad c not some = some_is_bad c.args.room.now c.first_bad.result c.is_none.result c.is_none.ensures not c.first_bad.ensures.bad some

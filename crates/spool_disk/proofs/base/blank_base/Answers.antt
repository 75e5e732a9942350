use Rattle.spool_disk.proofs.Blank.{whole_blank}
use Rattle.spool_disk.proofs.base.blank_base.Goals as goal

pub invariant_of-result-clause-whole : goal.invariant_of-result-clause-whole
invariant_of-result-clause-whole c = whole_blank c.args.sizes c.in_ok-start.start.items c.in_ok-start.ensures.len c.in_ok-start.ensures.each c.blank_start.ensures.none

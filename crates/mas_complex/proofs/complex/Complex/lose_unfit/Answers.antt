use Rattle.mas_complex.proofs.Answering.{agrees_stays, parts_of, rules, sought}
use Rattle.mas_complex.proofs.complex.Complex.lose_unfit.Goals as goal

pub returns-then-not-stays_on-clause-leaves : goal.returns-then-not-stays_on-clause-leaves
returns-then-not-stays_on-clause-leaves g c by = c.lose_copy.ensures.leaves c.requires.seen.is_alive by

pub returns-else-not-stays_on-clause-agrees : goal.returns-else-not-stays_on-clause-agrees
returns-else-not-stays_on-clause-agrees g c alive =
    agrees_stays g.P.Plant.tells (sought g.C.Copying.reads (parts_of c.args.self.now)) _ _ _ c.args.other.now c.requires.seen c.requires.reads (search rules)

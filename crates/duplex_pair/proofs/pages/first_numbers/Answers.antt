use Rattle.std.proofs.Common.{arith}
use Rattle.duplex_pair.proofs.Numbers.{taken}
use Rattle.duplex_pair.proofs.pages.first_numbers.Goals as goal

pub returns-clause-all : goal.returns-clause-all
returns-clause-all c p lt =
    let t = taken c.args.numbers.now c.args.count p p lt (c.requires.numbers p (omega (arith, lt, c.requires.few))) in
    (p, t.0, t.1)

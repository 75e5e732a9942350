use Rattle.std.proofs.Common.{rules, refl}
use Rattle.member_node.proofs.FitLemmas.{low_fit}
use Rattle.member_node.proofs.reading.may_stay.Goals as goal

pub returns-clause-may : goal.returns-clause-may
returns-clause-may c is =
    let t = c.args.tables.now in
    record {
      same = refl;
      fit = low_fit t c.requires.checkpoint.fit (c.requires.low c.if-fresh.false);
      low_level = search rules;
      low_order = search rules;
    }

use Rattle.ckpt_copy.proofs.Spreading.{write_spreads}
use Rattle.ckpt_copy.proofs.acts.write_act.Goals as goal

pub returns-clause-during : goal.returns-clause-during
returns-clause-during g c told =
    write_spreads c.args.by.0 c.args.dev c.args.at c.args.bytes.now (g.P.Plant.view c.args.plant.now) (g.P.Plant.view c.write.new.self) c.write.result c.write.ensures.acts (c.write.ensures.content told)

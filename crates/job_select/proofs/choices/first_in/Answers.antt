use Rattle.job_select.proofs.BestLemmas.{first_some, best_not_picked}
use Rattle.job_select.proofs.choices.first_in.Goals as goal

pub returns-clause-some : goal.returns-clause-some
returns-clause-some g c = first_some g.T.Ordered.order (g.C.Choice.rank c.args.choice.now) (g.C.Choice.picks c.args.choice.now) c.args.slots.now c.args.chain.now c.requires.all c.requires.unranked c.walk.result c.walk.ensures

pub returns-clause-none : goal.returns-clause-none
returns-clause-none g c = best_not_picked g.T.Ordered.order (g.C.Choice.rank c.args.choice.now) (g.C.Choice.picks c.args.choice.now) c.args.slots.now c.args.chain.now c.requires.all c.walk.result c.walk.ensures

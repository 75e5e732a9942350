use Rattle.warm_start.proofs.Finding.{small_behind}
use Rattle.warm_start.proofs.starting.refuse_small.Goals as goal

pub returns-clause-small : goal.returns-clause-small
returns-clause-small g c =
    small_behind c.args.needed c.args.config.now (g.P.Plant.view c.args.plant.now) c.refuse_small_volumes.result c.in_ok-refuse_if_small.ensures.large c.in_ok-refuse_if_small-2.ensures.large c.refuse_small_volumes.ensures.small

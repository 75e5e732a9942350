use Rattle.nje_net.proofs.Ways.{only_path, only_loop, only_end}
use Rattle.nje_net.proofs.paths.path.Goals as goal

pub returns-clause-path : goal.returns-clause-path
returns-clause-path c = only_path c.args.net.now c.args.to c.args.from c.walk.result c.walk.ensures.found c.walk.ensures.why

pub returns-clause-looped : goal.returns-clause-looped
returns-clause-looped c = only_loop c.args.net.now c.args.to c.args.from c.walk.result c.walk.ensures.found c.walk.ensures.why

pub returns-clause-no_route : goal.returns-clause-no_route
returns-clause-no_route c = only_end c.args.net.now c.args.to c.args.from c.walk.result c.walk.ensures.found c.walk.ensures.why

use Rattle.std.proofs.Common.{◌+◌, ◌*◌, length}
use Rattle.race_run.proofs.racers.+race_rest.Given as goal

abbrev pub decreases-race_rest : goal.decreases-race_rest
decreases-race_rest g l = 2 * length l.members

abbrev pub decreases-others : goal.decreases-others
decreases-others g l = 2 * length l.members + 1

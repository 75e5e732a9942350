-- Calm lines show the same.
use Rattle.mas_run.proofs.CalmRunLemmas.{find_none}
use Rattle.mas_run.proofs.laws.law_of_sound_volumes.Goals as goal

pub returns : goal.returns
returns g c = find_none g.P.Plant.tells

use Rattle.ckpt_pages.proofs.GivenLevels.{their_levels}
use Rattle.ckpt_pages.proofs.LevelLemmas.{level_spelled, level_again}
use Rattle.ckpt_pages.proofs.levels.law_of_levels.Goals as goal

pub returns-clause-first : goal.returns-clause-first
returns-clause-first c = level_spelled

pub returns-clause-each : goal.returns-clause-each
returns-clause-each c = level_again

pub returns-clause-given : goal.returns-clause-given
returns-clause-given c = their_levels

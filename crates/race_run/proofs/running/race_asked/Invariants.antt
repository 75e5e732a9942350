use Rattle.mas_race.specs.Beginnings.{began_with}
use Rattle.race_run.proofs.running.race_asked.Given as goal

-- the members' turns begin with the value as the operator left it
abbrev pub ghosts-race_value : goal.ghosts-race_value
ghosts-race_value g a = record { began = began_with a.complex }

use Rattle.queue_laws.proofs.RunLaws.{runs_keep_configuration, runs_keep_sound, runs_name_members}
use Rattle.queue_laws.proofs.laws.law_of_runs.Goals as goal

pub returns : goal.returns
returns c = record { configuration = runs_keep_configuration; sound = runs_keep_sound; replies = runs_name_members }

use Rattle.step_laws.proofs.Joins.{command_is_cut, deck_is_cut, work_is_cut, work_is_of_looks}
use Rattle.step_laws.proofs.law_of_whole_steps.Goals as goal

pub returns : goal.returns
returns c = record { deck = deck_is_cut; command = command_is_cut; work = work_is_cut; looks = work_is_of_looks }

use Rattle.warm_start.proofs.Again.{found_again}
use Rattle.warm_start.proofs.inspecting.law_of_looks.Goals as goal

pub returns : goal.returns
returns c = record { again = found_again c.law_of_checkpoints.ensures.tables }

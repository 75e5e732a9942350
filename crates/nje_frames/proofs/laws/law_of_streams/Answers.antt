use Rattle.nje_frames.proofs.StreamLemmas.{any_pieces, each_frame}
use Rattle.nje_frames.proofs.FewFrames.{completes_few}
use Rattle.nje_frames.proofs.OnlyLemmas.{all_stand}
use Rattle.nje_frames.proofs.laws.law_of_streams.Goals as goal

pub returns-clause-pieces : goal.returns-clause-pieces
returns-clause-pieces c = any_pieces

pub returns-clause-each : goal.returns-clause-each
returns-clause-each c = each_frame

pub returns-clause-only : goal.returns-clause-only
returns-clause-only c = all_stand

pub returns-clause-few : goal.returns-clause-few
returns-clause-few c = completes_few

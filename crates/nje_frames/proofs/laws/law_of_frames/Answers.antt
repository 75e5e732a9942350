use Rattle.nje_frames.proofs.FrameReaders.{one_spelling}
use Rattle.nje_frames.proofs.StreamLemmas.{whole_is}
use Rattle.nje_frames.proofs.laws.law_of_frames.Goals as goal

pub returns-clause-spelled : goal.returns-clause-spelled
returns-clause-spelled c = whole_is

pub returns-clause-one : goal.returns-clause-one
returns-clause-one c = one_spelling

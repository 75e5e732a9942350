use Rattle.std.proofs.Common.{◌∙◌}
use Rattle.member_frames.proofs.SatLemmas.{answer_cut}
use Rattle.member_frames.proofs.frames.answer_end.Goals as goal

pub returns-in-Some-clause-is : goal.returns-in-Some-clause-is
returns-in-Some-clause-is c = rw c.in-Some.is (c.cut_end.ensures.is ∙ answer_cut c.in-Some.field-0 c.args.line c.args.lost)

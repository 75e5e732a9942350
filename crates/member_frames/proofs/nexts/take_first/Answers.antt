use Rattle.std.proofs.Common.{◌∙◌, List, ap}
use Rattle.nje_frames.specs.declared.frames.Frame.{Frame}
use Rattle.step_turns.specs.Serving.{with_frames}
use Rattle.member_frames.proofs.Fronts.{removed}
use Rattle.member_frames.proofs.nexts.take_first.Goals as goal

pub returns-clause-rest : goal.returns-clause-rest
returns-clause-rest c = ap (λ (fs : List Frame). with_frames fs c.args.service) (c.remove-frame.ensures.rest ∙ removed c.args.service.frames)

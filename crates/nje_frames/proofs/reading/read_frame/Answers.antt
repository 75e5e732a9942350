use Rattle.nje_frames.proofs.FrontLemmas.{answer_found, answer_only, answer_short, answer_only_short, answer_bad}
use Rattle.nje_frames.proofs.reading.read_frame.Goals as goal

pub returns-clause-found : goal.returns-clause-found
returns-clause-found c = answer_found c.args.bytes.now c.answer.result c.answer.ensures

pub returns-clause-only : goal.returns-clause-only
returns-clause-only c = answer_only c.args.bytes.now c.answer.result c.answer.ensures

pub returns-clause-short : goal.returns-clause-short
returns-clause-short c = answer_short c.args.bytes.now c.answer.result c.answer.ensures

pub returns-clause-only_short : goal.returns-clause-only_short
returns-clause-only_short c = answer_only_short c.args.bytes.now c.answer.result c.answer.ensures

pub returns-clause-bad : goal.returns-clause-bad
returns-clause-bad c = answer_bad c.args.bytes.now c.answer.result c.answer.ensures

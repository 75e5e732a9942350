use Rattle.nje_frames.proofs.FrontLemmas.{rest_inside, left_inside}
use Rattle.nje_frames.proofs.reading.answer.Goals as goal

pub overflow_sub-result : goal.overflow_sub-result
overflow_sub-result c = rest_inside c.args.bytes.now c.in-Ok.frame c.in-Ok.rest.now c.in-Ok.ensures

pub overflow_sub-result-in-Err-At : goal.overflow_sub-result-in-Err-At
overflow_sub-result-in-Err-At c = left_inside c.args.bytes.now c.in-Err-At.left (rw c.in-Err-At.field-0-is at c.in-Err-At.ensures)

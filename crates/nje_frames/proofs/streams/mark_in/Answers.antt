use Rattle.std.proofs.Common.{arith, sym, ◌∙◌}
use Rattle.nje_frames.specs.Streams.{is_mark}
use Rattle.nje_frames.proofs.StreamSteps.{none_more, none_all}
use Rattle.nje_frames.proofs.streams.mark_in.Goals as goal

pub loop-at-preserved : goal.loop-at-preserved
loop-at-preserved c = none_more is_mark c.args.bytes.now c.loop-at.at c.loop-at-test.true c.loop-at.invariant (sym c.is_mark.ensures ∙ c.if-is_mark.false)

pub returns-then-is_mark-clause-found : goal.returns-then-is_mark-clause-found
returns-then-is_mark-clause-found c = record {
  inside = c.loop-at-test.true;
  before = c.loop-at.invariant;
  here = sym c.is_mark.ensures ∙ c.if-is_mark.true;
}

pub returns-clause-none : goal.returns-clause-none
returns-clause-none c = none_all is_mark c.args.bytes.now c.loop-at.at (omega arith) c.loop-at.invariant

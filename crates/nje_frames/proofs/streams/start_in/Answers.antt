use Rattle.std.proofs.Common.{arith, get_or}
use Rattle.std.proofs.lemmas.Bool.{eq-eqb, ne_eqb}
use Rattle.nje_frames.specs.Grammar.{stx}
use Rattle.nje_frames.specs.Streams.{is_start}
use Rattle.nje_frames.proofs.StreamSteps.{none_more, none_all}
use Rattle.nje_frames.proofs.streams.start_in.Goals as goal

pub loop-at-preserved : goal.loop-at-preserved
loop-at-preserved c = none_more is_start c.args.bytes.now c.loop-at.at c.loop-at-test.true c.loop-at.invariant (ne_eqb (get_or c.args.bytes.now c.loop-at.at 0) stx c.if-byte-eq-STX.false)

pub returns-then-byte-eq-STX-clause-found : goal.returns-then-byte-eq-STX-clause-found
returns-then-byte-eq-STX-clause-found c = record {
  inside = c.loop-at-test.true;
  before = c.loop-at.invariant;
  here = eq-eqb (get_or c.args.bytes.now c.loop-at.at 0) stx c.if-byte-eq-STX.true;
}

pub returns-clause-none : goal.returns-clause-none
returns-clause-none c = none_all is_start c.args.bytes.now c.loop-at.at (omega arith) c.loop-at.invariant

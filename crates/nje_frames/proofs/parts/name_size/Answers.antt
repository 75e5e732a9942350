use Rattle.std.proofs.Common.{◌≡◌, true, false, ◌<◌, get_or, arith, sym, ◌∙◌}
use Rattle.nje_frames.specs.Reading.{begins_name}
use Rattle.nje_frames.proofs.PartSteps.{may, size_goes, size_stops, size_ends, size_whole, name_goes, name_stops, padding_goes}
use Rattle.nje_frames.proofs.parts.name_size.Goals as goal

pub loop-at-preserved : goal.loop-at-preserved
loop-at-preserved c =
    let few : c.loop-at.at < 8 = omega arith in
    let inside = c.if-at-bytes.false in
    let allowed : may c.loop-at.padding c.loop-at.at (get_or c.args.bytes.now c.loop-at.at 0) ≡ true = sym c.may_follow.ensures ∙ c.if-not-may_follow.false in
    let holds = name_goes c.args.bytes.now c.loop-at.at inside c.loop-at.invariant.holds c.loop-at.padding c.loop-at.invariant.letters allowed in
    record {
      inside = omega arith;
      size = sym (size_goes begins_name 8 c.loop-at.at c.args.bytes.now few inside holds) ∙ c.loop-at.invariant.size;
      holds = holds;
      letters = padding_goes c.args.bytes.now c.loop-at.at inside c.loop-at.invariant.holds c.loop-at.padding c.loop-at.invariant.letters allowed;
    }

pub returns-then-not-may_follow-clause-size : goal.returns-then-not-may_follow-clause-size
returns-then-not-may_follow-clause-size c =
    let few : c.loop-at.at < 8 = omega arith in
    let refused : may c.loop-at.padding c.loop-at.at (get_or c.args.bytes.now c.loop-at.at 0) ≡ false = sym c.may_follow.ensures ∙ c.if-not-may_follow.true in
    let ends = name_stops c.args.bytes.now c.loop-at.at c.if-at-bytes.false c.loop-at.invariant.holds c.loop-at.padding c.loop-at.invariant.letters refused in
    sym (size_stops begins_name 8 c.loop-at.at c.args.bytes.now few c.if-at-bytes.false ends) ∙ c.loop-at.invariant.size

pub returns-then-at-bytes-clause-size : goal.returns-then-at-bytes-clause-size
returns-then-at-bytes-clause-size c = sym (size_ends begins_name 8 c.loop-at.at c.args.bytes.now c.if-at-bytes.true) ∙ c.loop-at.invariant.size

pub returns-clause-size : goal.returns-clause-size
returns-clause-size c =
    let done : c.loop-at.at ≡ 8 = omega arith in
    sym done ∙ sym (size_whole begins_name 8 c.loop-at.at c.args.bytes.now (omega arith)) ∙ c.loop-at.invariant.size

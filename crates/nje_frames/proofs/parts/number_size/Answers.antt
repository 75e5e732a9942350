use Rattle.std.proofs.Common.{◌≡◌, true, false, ◌+◌, ◌-◌, ◌*◌, ◌/◌, ◌^◌, ◌<◌, ◌≤◌, ◌++◌, take, replicate, get_or, arith, sym, ◌∙◌}
use Rattle.mas_types.specs.Numerals.{is_digit, value_of}
use Rattle.nje_frames.specs.Reading.{begins_number}
use Rattle.nje_frames.proofs.PartSteps.{size_goes, size_stops, size_ends, size_whole, digits_next, no_digit, least_next, too_much, all_zeros, begins_next, unit_next, zero_last, no_zero_last}
use Rattle.nje_frames.proofs.parts.number_size.Goals as goal

pub loop-at-preserved : goal.loop-at-preserved
loop-at-preserved c =
    let few : c.loop-at.at < 10 = omega arith in
    let inside = c.if-at-bytes.false in
    let digit : is_digit (get_or c.args.bytes.now c.loop-at.at 0) ≡ true = sym c.is_ascii_digit.ensures.value ∙ c.if-not-is_ascii_digit.false in
    let digits = digits_next c.args.bytes.now c.loop-at.at inside c.loop-at.invariant.digits digit in
    let unit = unit_next c.loop-at.unit c.loop-at.at few c.loop-at.invariant.unit in
    let sum : c.loop-at.least + (get_or c.args.bytes.now c.loop-at.at 0 - 48) * (c.loop-at.unit / 10) ≡ value_of (take (c.loop-at.at + 1) c.args.bytes.now ++ replicate (10 - (c.loop-at.at + 1)) 48) =
    rw (unit, c.loop-at.invariant.least) (least_next c.args.bytes.now c.loop-at.at inside few) in
    let most : c.loop-at.least + (get_or c.args.bytes.now c.loop-at.at 0 - 48) * (c.loop-at.unit / 10) ≤ 4294967295 = c.if-next.false in
    let some : c.loop-at.at + 1 ≡ 10 → 1 ≤ c.loop-at.least + (get_or c.args.bytes.now c.loop-at.at 0 - 48) * (c.loop-at.unit / 10) =
    no_zero_last (c.loop-at.least + (get_or c.args.bytes.now c.loop-at.at 0 - 48) * (c.loop-at.unit / 10)) c.loop-at.at (sym c.is_zero_at_end.ensures ∙ c.if-is_zero_at_end.false) in
    let holds = begins_next c.args.bytes.now c.loop-at.at inside few digits (rw sum at most) (rw sum at some) in
    record {
      inside = omega arith;
      size = sym (size_goes begins_number 10 c.loop-at.at c.args.bytes.now few inside holds) ∙ c.loop-at.invariant.size;
      digits = digits;
      holds = holds;
      least = sum;
      few = most;
      unit = unit;
      small = omega arith;
    }

pub returns-then-not-is_ascii_digit-clause-size : goal.returns-then-not-is_ascii_digit-clause-size
returns-then-not-is_ascii_digit-clause-size c =
    let digit : is_digit (get_or c.args.bytes.now c.loop-at.at 0) ≡ false = sym c.is_ascii_digit.ensures.value ∙ c.if-not-is_ascii_digit.true in
    sym (size_stops begins_number 10 c.loop-at.at c.args.bytes.now (omega arith) c.if-at-bytes.false (no_digit c.args.bytes.now c.loop-at.at c.if-at-bytes.false digit)) ∙ c.loop-at.invariant.size

pub returns-then-next-clause-size : goal.returns-then-next-clause-size
returns-then-next-clause-size c =
    let few : c.loop-at.at < 10 = omega arith in
    let unit = unit_next c.loop-at.unit c.loop-at.at few c.loop-at.invariant.unit in
    let sum : c.loop-at.least + (get_or c.args.bytes.now c.loop-at.at 0 - 48) * (c.loop-at.unit / 10) ≡ value_of (take (c.loop-at.at + 1) c.args.bytes.now ++ replicate (10 - (c.loop-at.at + 1)) 48) =
    rw (unit, c.loop-at.invariant.least) (least_next c.args.bytes.now c.loop-at.at c.if-at-bytes.false few) in
    let over = too_much c.args.bytes.now c.loop-at.at c.if-at-bytes.false few (rw sum at c.if-next.true) in
    sym (size_stops begins_number 10 c.loop-at.at c.args.bytes.now few c.if-at-bytes.false over) ∙ c.loop-at.invariant.size

pub returns-then-is_zero_at_end-clause-size : goal.returns-then-is_zero_at_end-clause-size
returns-then-is_zero_at_end-clause-size c =
    let few : c.loop-at.at < 10 = omega arith in
    let unit = unit_next c.loop-at.unit c.loop-at.at few c.loop-at.invariant.unit in
    let sum : c.loop-at.least + (get_or c.args.bytes.now c.loop-at.at 0 - 48) * (c.loop-at.unit / 10) ≡ value_of (take (c.loop-at.at + 1) c.args.bytes.now ++ replicate (10 - (c.loop-at.at + 1)) 48) =
    rw (unit, c.loop-at.invariant.least) (least_next c.args.bytes.now c.loop-at.at c.if-at-bytes.false few) in
    let zero = zero_last (c.loop-at.least + (get_or c.args.bytes.now c.loop-at.at 0 - 48) * (c.loop-at.unit / 10)) c.loop-at.at (sym c.is_zero_at_end.ensures ∙ c.if-is_zero_at_end.true) in
    let none = all_zeros c.args.bytes.now c.loop-at.at c.if-at-bytes.false few zero.1 (sym sum ∙ zero.0) in
    sym (size_stops begins_number 10 c.loop-at.at c.args.bytes.now few c.if-at-bytes.false none) ∙ c.loop-at.invariant.size

pub returns-clause-whole : goal.returns-clause-whole
returns-clause-whole c = λ e. let done : c.loop-at.at ≡ 10 = omega arith in rw done at c.loop-at.invariant.holds

pub returns-then-at-bytes-clause-size : goal.returns-then-at-bytes-clause-size
returns-then-at-bytes-clause-size c = sym (size_ends begins_number 10 c.loop-at.at c.args.bytes.now c.if-at-bytes.true) ∙ c.loop-at.invariant.size

pub returns-clause-size : goal.returns-clause-size
returns-clause-size c =
    let done : c.loop-at.at ≡ 10 = omega arith in
    sym done ∙ sym (size_whole begins_number 10 c.loop-at.at c.args.bytes.now (omega arith)) ∙ c.loop-at.invariant.size

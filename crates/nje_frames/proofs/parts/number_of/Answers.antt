use Rattle.std.proofs.Common.{◌≡◌, true, ◌<◌, ◌≤◌, ◌&&◌, length, take, arith, sym, ◌∙◌}
use Rattle.std.specs.Prelude.{nat_le}
use Rattle.std.proofs.lemmas.List.{take_rest, length-take-le}
use Rattle.mas_types.specs.Numerals.{is_numeral, value_of}
use Rattle.nje_frames.specs.Reading.{begins_number, number_size}
use Rattle.nje_frames.proofs.PartSteps.{number_short, number_whole, size_few, is_read, read_value}
use Rattle.nje_frames.proofs.parts.number_of.Goals as goal

pub returns-then-size-lt-NUMBER_DIGITS : goal.returns-then-size-lt-NUMBER_DIGITS
returns-then-size-lt-NUMBER_DIGITS c =
    let size = c.number_size-size.ensures.size in
    let short : number_size c.args.bytes.now < 10 = omega arith in
    rw size (number_short c.args.bytes.now short)

pub slice_bounds-read_number-end : goal.slice_bounds-read_number-end
slice_bounds-read_number-end c =
    let inside : 10 ≤ length c.args.bytes.now = omega (arith, c.number_size-size.ensures.inside) in
    sym (length-take-le 10 c.args.bytes.now inside)

pub returns : goal.returns
returns c =
    let size = c.number_size-size.ensures.size in
    let few = size_few c.args.bytes.now in
    let all : c.number_size-size.result ≡ 10 = omega arith in
    let whole : 10 ≤ number_size c.args.bytes.now = omega arith in
    let inside : 10 ≤ length c.args.bytes.now = omega (arith, c.number_size-size.ensures.inside) in
    let read = is_read c.args.bytes.now inside (c.number_size-size.ensures.whole all) in
    let value : c.unwrap_or-number.result ≡ value_of (take 10 c.args.bytes.now) =
    c.unwrap_or-number.ensures ∙ read_value c.read_number.result (is_numeral (take 10 c.args.bytes.now) && nat_le (value_of (take 10 c.args.bytes.now)) 4294967295) (value_of (take 10 c.args.bytes.now)) 0 c.read_number.ensures.ok read c.read_number.ensures.value in
    rw (value, take_rest c.args.bytes.now 10) (number_whole c.args.bytes.now whole)

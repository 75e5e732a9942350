use Rattle.std.proofs.Common.{◌≡◌, nat_le, true, false, refl, arith}
use Rattle.std.proofs.lemmas.Bool.Decides.{nat_tests}
use Rattle.mas_types.specs.Numerals.{in_digits}
use Rattle.mas_types.proofs.NumeralLemmas.{in_digits-last, last_digits}
use Rattle.mas_types.proofs.names.write_key.Goals as goal

pub returns-then-ones-le-NUMBER_MOST : goal.returns-then-ones-le-NUMBER_MOST
returns-then-ones-le-NUMBER_MOST c =
    let few : nat_le c.args.number.0 99999 ≡ true = grind (arith, nat_tests) in
    let five : in_digits 5 c.args.number.0 ≡ last_digits 5 c.args.number.0 = in_digits-last 4 c.args.number.0 (omega arith) (omega arith) in
    rw (few, five, c.digit.ensures, c.digit-2.ensures, c.digit-3.ensures, c.digit-4.ensures, c.digit-5.ensures) refl

pub returns-else-ones-le-NUMBER_MOST : goal.returns-else-ones-le-NUMBER_MOST
returns-else-ones-le-NUMBER_MOST c =
    let many : nat_le c.args.number.0 99999 ≡ false = grind (arith, nat_tests) in
    let six : in_digits 6 c.args.number.0 ≡ last_digits 6 c.args.number.0 = in_digits-last 5 c.args.number.0 (omega arith) (omega arith) in
    rw (many, six, c.digit-else-ones-le-NUMBER_MOST.ensures, c.digit.ensures, c.digit-2.ensures, c.digit-3.ensures, c.digit-4.ensures, c.digit-5.ensures) refl

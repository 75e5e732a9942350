use Rattle.std.proofs.Common.{arith, take, get_or, refl}
use Rattle.std.proofs.lemmas.List.{length-take-le}
use Rattle.change_log.proofs.Directing.{number_put}
use Rattle.change_log.proofs.directory.put_numbers.Goals as goal

pub loop-i-preserved : goal.loop-i-preserved
loop-i-preserved c =
    let room = c.requires in
    number_put 16 c.loop-i.i (get_or c.args.numbers.now c.loop-i.i 0) (take 16 c.args.into.now) c.args.numbers.now c.args.into.now c.loop-i.into c.write_u16.new.page
    (length-take-le 16 c.args.into.now (omega (arith, room))) c.loop-i-test.true refl c.loop-i.invariant c.write_u16.ensures

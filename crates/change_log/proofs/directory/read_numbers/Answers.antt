use Rattle.std.proofs.Common.{◌∙◌, arith, length-drop}
use Rattle.std.proofs.lemmas.List.{length-set}
use Rattle.change_log.proofs.Directing.{number_read}
use Rattle.change_log.proofs.directory.read_numbers.Goals as goal

pub loop-i-preserved : goal.loop-i-preserved
loop-i-preserved c =
    let i = c.loop-i.i in
    let size = c.loop-i.invariant.size in
    let block = c.told-block in
    let rest = length-drop 16 c.args.block.now in
    record {
      size = length-set c.loop-i.numbers i c.number_at.result ∙ size;
      read = number_read i c.number_at.result c.loop-i.numbers c.args.block.now (omega (arith, size, c.loop-i-test.true, c.requires)) (omega (arith, block, c.loop-i-test.true, c.requires)) c.loop-i.invariant.read c.number_at.ensures (omega (arith, rest, block, c.loop-i-test.true, c.requires));
    }

use Rattle.std.proofs.Common.{arith, length, ◌*◌}
use Rattle.change_log.specs.Directories.{word_bytes}
use Rattle.change_log.proofs.Directing.{directory_put}
use Rattle.change_log.proofs.directory.put_directory.Goals as goal

pub returns : goal.returns
returns c =
    let level = c.told-level in
    directory_put (length c.args.numbers.now) (2 * length c.args.numbers.now) c.to_be_bytes.result c.args.level.now (word_bytes c.args.numbers.now) c.args.into.now
    c.put.new.into c.put-2.new.into c.put-3.new.into c.put_numbers.new.into (omega (arith, level)) c.to_be_bytes.ensures c.put.ensures c.put-2.ensures c.put-3.ensures c.put_numbers.ensures

use Rattle.std.proofs.Common.{◌+◌, get_or}
use Rattle.std.proofs.lemmas.Bool.{ne_eqb}
use Rattle.std.proofs.lemmas.Result.{on_ok_weaker}
use Rattle.nje_frames.specs.Grammar.{etx}
use Rattle.nje_frames.proofs.StreamSteps.{open_ends, open_anew}
use Rattle.nje_frames.proofs.streams.push_ended.Goals as goal

pub returns-then-bytes-at-ne-ETX-clause-ok : goal.returns-then-bytes-at-ne-ETX-clause-ok
returns-then-bytes-at-ne-ETX-clause-ok c =
    open_anew c.args.bytes.now c.args.at c.requires.starts c.requires.mark (ne_eqb (get_or c.args.bytes.now (c.args.at + 1) 0) etx c.if-bytes-at-ne-ETX.true) c.args.out.now

pub returns-clause-ok : goal.returns-clause-ok
returns-clause-ok c =
    on_ok_weaker c.push_frame.result (open_ends c.args.bytes.now c.args.at c.requires.starts c.requires.mark c.if-bytes-at-ne-ETX.false c.args.out.now c.push_frame.new.out) c.push_frame.ensures.ok

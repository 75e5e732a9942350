use Rattle.std.proofs.Common.{◌≡◌, ◌<◌, ◌≤◌, arith}
use Rattle.std.proofs.lemmas.List.{take_rest}
use Rattle.nje_frames.specs.Reading.{name_size}
use Rattle.nje_frames.proofs.PartSteps.{name_short, name_whole}
use Rattle.nje_frames.proofs.parts.name_of.Goals as goal

pub returns-then-size-lt-NAME_BYTES : goal.returns-then-size-lt-NAME_BYTES
returns-then-size-lt-NAME_BYTES c =
    let size = c.name_size-size.ensures.size in
    let short : name_size c.args.bytes.now < 8 = omega arith in
    rw size (name_short c.args.bytes.now short)

pub returns : goal.returns
returns c =
    let size = c.name_size-size.ensures.size in
    let whole : 8 ≤ name_size c.args.bytes.now = omega arith in
    rw (c.copy_from_slice.ensures.after, take_rest c.args.bytes.now 8) (name_whole c.args.bytes.now whole)

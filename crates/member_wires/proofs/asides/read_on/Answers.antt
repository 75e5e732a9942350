use Rattle.std.proofs.Common.{List, subst}
use Rattle.nje_frames.specs.declared.frames.Frame.{Frame}
use Rattle.nje_frames.specs.Streams.{HasFed}
use Rattle.member_wires.proofs.Reading.{frames_fit}
use Rattle.member_wires.proofs.asides.read_on.Goals as goal

pub returns-in-Ok-clause-reads : goal.returns-in-Ok-clause-reads
returns-in-Ok-clause-reads c = subst (λ (fs : List Frame). HasFed c.args.reader.now c.feed.new.self c.args.bytes.now fs c.feed.new.out) c.requires c.in-Ok.ensures.ok

pub returns-in-Ok-clause-each : goal.returns-in-Ok-clause-each
returns-in-Ok-clause-each c =
    frames_fit c.law_of_streams.ensures.only c.args.reader.now c.feed.new.self c.args.bytes.now c.feed.new.out
    (subst (λ (fs : List Frame). HasFed c.args.reader.now c.feed.new.self c.args.bytes.now fs c.feed.new.out) c.requires c.in-Ok.ensures.ok)

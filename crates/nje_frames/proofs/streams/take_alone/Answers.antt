use Rattle.nje_frames.specs.Streams.{frames_in, AddsFirst}
use Rattle.nje_frames.proofs.StreamSteps.{first_all}
use Rattle.nje_frames.proofs.TakeSteps.{any_err, alone_open}
use Rattle.nje_frames.proofs.streams.take_alone.Goals as goal

pub returns-clause-waits : goal.returns-clause-waits
returns-clause-waits c =
    alone_open c.keep.result c.args.rest.now.items c.keep.new.rest.items c.in_ok-start.start.now c.args.piece.now c.requires c.in_ok-start.ensures.start c.keep.ensures.ok c.keep.ensures.err

pub returns-clause-err : goal.returns-clause-err
returns-clause-err c =
    any_err c.keep.result (AddsFirst (frames_in c.args.piece.now) c.args.out.now c.push_frames.new.out)
    (first_all (frames_in c.args.piece.now) c.args.out.now c.push_frames.new.out c.in_ok-start.ensures.ok)

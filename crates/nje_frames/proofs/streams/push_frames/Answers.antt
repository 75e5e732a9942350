use Rattle.std.proofs.Common.{◌≡◌, ℕ, ◌-◌, List, length, take, drop}
use Rattle.std.proofs.lemmas.List.{take_rest}
use Rattle.nje_frames.specs.Streams.{frames_in, AddsFirst}
use Rattle.nje_frames.proofs.PushSteps.{pushed_step, pushed_open, pushed_done, pushed_failed}
use Rattle.nje_frames.proofs.TakeSteps.{any_err}
use Rattle.nje_frames.proofs.streams.push_frames.Goals as goal

pub returns-in_default-mark_in-clause-start : goal.returns-in_default-mark_in-clause-start
returns-in_default-mark_in-clause-start c =
    let rest = c.loop-start.rest.now in
    let ahead = take (length rest - c.in-Some.start) (drop c.in-Some.start rest) in
    (pushed_open rest c.in-Some.start c.in-Some.ensures.found ahead (take_rest rest c.in-Some.start) c.args.bytes.now c.args.out.now c.loop-start.out c.loop-start.invariant
    (take (length ahead - 1) (drop 1 ahead)) (take_rest ahead 1) c.in_default-mark_in.ensures.none).0

pub returns-in_default-mark_in-clause-ok : goal.returns-in_default-mark_in-clause-ok
returns-in_default-mark_in-clause-ok c =
    let rest = c.loop-start.rest.now in
    let ahead = take (length rest - c.in-Some.start) (drop c.in-Some.start rest) in
    (pushed_open rest c.in-Some.start c.in-Some.ensures.found ahead (take_rest rest c.in-Some.start) c.args.bytes.now c.args.out.now c.loop-start.out c.loop-start.invariant
    (take (length ahead - 1) (drop 1 ahead)) (take_rest ahead 1) c.in_default-mark_in.ensures.none).1

pub returns-in_err-push_ended-clause-err : goal.returns-in_err-push_ended-clause-err
returns-in_err-push_ended-clause-err c =
    any_err c.from_residual.result (AddsFirst (frames_in c.args.bytes.now) c.args.out.now c.push_ended.new.out)
    (pushed_failed c.args.bytes.now c.loop-start.rest.now c.args.out.now c.loop-start.out c.push_ended.new.out c.loop-start.invariant c.in_err-push_ended.ensures.err)

pub loop-start-preserved : goal.loop-start-preserved
loop-start-preserved c =
    let rest = c.loop-start.rest.now in
    let ahead = take (length rest - c.in-Some.start) (drop c.in-Some.start rest) in
    let tail = take (length ahead - 1) (drop 1 ahead) in
    let at = c.in-Some-mark_in.at in
    pushed_step rest c.in-Some.start c.in-Some.ensures.found ahead (take_rest rest c.in-Some.start) c.args.bytes.now c.args.out.now c.loop-start.out c.loop-start.invariant
    tail (take_rest ahead 1) at c.push_ended.new.out c.in-Some-mark_in.ensures.found c.in_ok-push_ended.ensures.ok (take (length tail - at) (drop at tail)) (take_rest tail at)

pub returns-clause-start : goal.returns-clause-start
returns-clause-start c = (pushed_done c.args.bytes.now c.loop-start.rest.now c.args.out.now c.loop-start.out c.loop-start.invariant c.in_default.ensures.none).0

pub returns-clause-ok : goal.returns-clause-ok
returns-clause-ok c = (pushed_done c.args.bytes.now c.loop-start.rest.now c.args.out.now c.loop-start.out c.loop-start.invariant c.in_default.ensures.none).1

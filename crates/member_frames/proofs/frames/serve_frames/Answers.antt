use Rattle.std.proofs.Common.{◌∙◌, ◌+◌, ◌*◌, [], length, None, ap, subst, sym, arith}
use Rattle.mas_types.specs.declared.queues.Queue.{Queue}
use Rattle.step_turns.specs.Serving.{begins, serves}
use Rattle.step_turns.specs.declared.states.Service.{Service}
use Rattle.step_turns.specs.TurnParts.{Turn}
use Rattle.member_giving.specs.Plays.{wrote_of}
use Rattle.member_giving.specs.Works.{Run, queue_here, queue_kept}
use Rattle.member_frames.proofs.Answered.{fewer_than, if_ok}
use Rattle.member_giving.proofs.Resting.{tells_here}
use Rattle.member_giving.proofs.Sat.{frame_of}
use Rattle.member_giving.proofs.Seated.{low_bounds, works_sits}
use Rattle.member_giving.proofs.Working.{kept_here}
use Rattle.member_frames.specs.declared.nexts.Next.{Next}
use Rattle.member_frames.specs.Nexts.{frames_in, next_of, turn_by}
use Rattle.member_frames.specs.Plays.{arrival_of, ends_or_serves}
use Rattle.member_frames.specs.Waits.{HasFrameMore, IsServable}
use Rattle.member_frames.proofs.Fronts.{after_length, begun_first, first_holds, job_first, job_some, no_begin, serves_as, servable_rest}
use Rattle.member_frames.proofs.SatLemmas.{grown_by, line_room, sat_as, sat_line, sat_more}
use Rattle.member_frames.proofs.frames.serve_frames.Goals as goal

-- A JOB BEGINS

pub take_first-frame-requires : goal.take_first-frame-requires
take_first-frame-requires g c = let v = rw c.in-Begin.is at c.next_of.ensures.right.servable in job_some c.in-Begin.service.frames v.1

pub open_arrival-requires-clause-frame : goal.open_arrival-requires-clause-frame
open_arrival-requires-clause-frame g c = let v = rw c.in-Begin.is at c.next_of.ensures.right.servable in first_holds c.in-Begin.service.frames c.take_first-frame.result.0 c.take_first-frame.ensures.first v.0.frames

pub open_arrival-requires-clause-job : goal.open_arrival-requires-clause-job
open_arrival-requires-clause-job g c = let v = rw c.in-Begin.is at c.next_of.ensures.right.servable in job_first c.in-Begin.service.frames c.take_first-frame.result.0 c.take_first-frame.ensures.first v.1

pub open_arrival-requires-clause-servable : goal.open_arrival-requires-clause-servable
open_arrival-requires-clause-servable g c =
    let v = rw c.in-Begin.is at c.next_of.ensures.right.servable in
    let rest = servable_rest c.in-Begin.service c.take_first-frame.result.0 c.take_first-frame.ensures.first v.0 in
    subst IsServable (sym c.take_first-frame.ensures.rest) rest.0

pub open_arrival-requires-clause-more : goal.open_arrival-requires-clause-more
open_arrival-requires-clause-more g c =
    let v = rw c.in-Begin.is at c.next_of.ensures.right.servable in
    let rest = servable_rest c.in-Begin.service c.take_first-frame.result.0 c.take_first-frame.ensures.first v.0 in
    subst HasFrameMore (sym c.take_first-frame.ensures.rest) rest.1

pub open_arrival-requires-clause-level : goal.open_arrival-requires-clause-level
open_arrival-requires-clause-level g c = let level = c.requires.level in omega (arith, level)

pub returns-in-Begin-clause-serves : goal.returns-in-Begin-clause-serves
returns-in-Begin-clause-serves g c =
    let P = g.P.Plant in
    let x = c.args.complex.now in
    let y = c.open_arrival.new.complex in
    let m = c.args.member.now in
    let h = c.args.holder in
    let s = c.args.service in
    let v = c.in-Begin.service in
    let f = c.take_first-frame.result.0 in
    let u = c.take_first-frame.result.1 in
    let Q : Queue = queue_kept x in
    let r = c.open_arrival.result in
    let right = rw c.in-Begin.is at c.next_of.ensures.right.few in
    let servable = rw c.in-Begin.is at c.next_of.ensures.right.servable in
    let fewer = after_length v.frames (job_some v.frames servable.1) in
    let same = ap (λ (w : Service). length w.frames) c.take_first-frame.ensures.rest in
    let t : Turn = begins h.by h.step 0 (arrival_of f) u Q in
    sat_more P.tells h (2 * length s.frames + 1) (2 * length u.frames + 3) (ends_or_serves h.by h.step None s Q) x y r (omega (arith, right, fewer, same))
    (sat_as P.tells h (2 * length u.frames + 3) t (ends_or_serves h.by h.step None s Q) x y r
    (λ told.
    let w = works_sits x m h c.requires.may.sits c.requires.may.bounds c.requires.may.holder c.requires.base_sound in
    let here = kept_here x m c.requires.may.sits.seat.between.nothing in
    let is = sym c.in-Begin.is ∙ c.next_of.ensures.is (queue_here x m) (tells_here x m h w told) in
    begun_first h.by h.step v f u Q c.take_first-frame.ensures.first c.take_first-frame.ensures.rest
    ∙ ap (λ (n : Next). turn_by h.by h.step n Q 0) (is ∙ ap (λ (q : Queue). next_of q s) here)
    ∙ sym (serves_as h.by h.step s.frames s Q 0))
    c.open_arrival.ensures.opens)

pub returns-in-Begin-clause-fewer : goal.returns-in-Begin-clause-fewer
returns-in-Begin-clause-fewer g c =
    let s = c.args.service in
    let v = c.in-Begin.service in
    let u = c.take_first-frame.result.1 in
    let right = rw c.in-Begin.is at c.next_of.ensures.right.few in
    let servable = rw c.in-Begin.is at c.next_of.ensures.right.servable in
    let fewer = after_length v.frames (job_some v.frames servable.1) in
    let same = ap (λ (w : Service). length w.frames) c.take_first-frame.ensures.rest in
    fewer_than (2 * length s.frames + 1) (2 * length s.frames) c.open_arrival.result (2 * length u.frames + 3) (2 * length u.frames + 2) (omega (arith, right, fewer, same)) (omega (arith, right, fewer, same)) c.open_arrival.ensures.fewer

pub returns-in-Begin-clause-reached : goal.returns-in-Begin-clause-reached
returns-in-Begin-clause-reached g c =
    let s = c.args.service in
    let v = c.in-Begin.service in
    let u = c.take_first-frame.result.1 in
    let right = rw c.in-Begin.is at c.next_of.ensures.right.few in
    let servable = rw c.in-Begin.is at c.next_of.ensures.right.servable in
    let fewer = after_length v.frames (job_some v.frames servable.1) in
    let same = ap (λ (w : Service). length w.frames) c.take_first-frame.ensures.rest in
    grown_by c.open_arrival.new.complex c.args.complex.now.level (2 * length u.frames + 3) (2 * length u.frames + 2) (2 * length s.frames) c.open_arrival.result (omega (arith, right, fewer, same)) c.open_arrival.ensures.fewer c.open_arrival.ensures.reached

-- OTHERS ARE HANDLED

pub serve-requires-clause-works : goal.serve-requires-clause-works
serve-requires-clause-works g c = works_sits c.args.complex.now c.args.member.now c.args.holder c.requires.may.sits c.requires.may.bounds c.requires.may.holder c.requires.base_sound

pub serve-requires-clause-nothing : goal.serve-requires-clause-nothing
serve-requires-clause-nothing g c = c.requires.may.sits.seat.between.nothing

pub serve-requires-clause-first : goal.serve-requires-clause-first
serve-requires-clause-first g c = no_begin c.next_of.result c.in_default.not-Begin

pub serve-requires-clause-servable : goal.serve-requires-clause-servable
serve-requires-clause-servable g c = c.next_of.ensures.right.servable

pub serve-requires-clause-room : goal.serve-requires-clause-room
serve-requires-clause-room g c =
    let few = c.next_of.ensures.right.few in
    let most = c.requires.servable.few in
    let level = c.requires.level in
    line_room c.args.complex.now c.args.member.now (low_bounds c.args.complex.now c.args.member.now c.requires.may.bounds) (frames_in c.next_of.result + 2) (omega (arith, few, most)) (omega (arith, few, level))

pub returns-in_default-clause-frame : goal.returns-in_default-clause-frame
returns-in_default-clause-frame g c = frame_of c.args.complex.now c.serve.new.complex c.args.member.now c.serve.new.member c.serve.ensures.run

pub returns-in_default-clause-id : goal.returns-in_default-clause-id
returns-in_default-clause-id g c = ap (λ (r : Run). r.id) c.serve.ensures.run

pub returns-in_default-clause-serves : goal.returns-in_default-clause-serves
returns-in_default-clause-serves g c =
    let P = g.P.Plant in
    let x = c.args.complex.now in
    let y = c.serve.new.complex in
    let m = c.args.member.now in
    let h = c.args.holder in
    let s = c.args.service in
    let n = c.next_of.result in
    let Q : Queue = queue_kept x in
    let r = c.serve.result in
    let few = c.next_of.ensures.right.few in
    let nothing = c.requires.may.sits.seat.between.nothing in
    let here = kept_here x m nothing in
    let w = works_sits x m h c.requires.may.sits c.requires.may.bounds c.requires.may.holder c.requires.base_sound in
    sat_more P.tells h (2 * length s.frames + 1) (2 * frames_in n + 1) (ends_or_serves h.by h.step None s Q) x y r (omega (arith, few))
    (sat_line x y m h (2 * frames_in n + 1) (ends_or_serves h.by h.step None s Q) (wrote_of [] (turn_by h.by h.step n (queue_here x m) 0)) r nothing w.still
    (λ told. ap (wrote_of []) (
    ap (λ (k : Next). turn_by h.by h.step k (queue_here x m) 0) (c.next_of.ensures.is (queue_here x m) (tells_here x m h w told))
    ∙ sym (serves_as h.by h.step s.frames s (queue_here x m) 0)
    ∙ ap (λ (q : Queue). serves h.by h.step s.frames s q 0) here))
    c.serve.ensures.serves)

pub returns-in_default-clause-fewer : goal.returns-in_default-clause-fewer
returns-in_default-clause-fewer g c =
    let few = c.next_of.ensures.right.few in
    let n = frames_in c.next_of.result in
    let most = length c.args.service.frames in
    fewer_than (2 * most + 1) (2 * most) c.serve.result (2 * n + 1) (2 * n) (omega (arith, few)) (omega (arith, few)) c.serve.ensures.fewer

pub returns-in_default-clause-reached : goal.returns-in_default-clause-reached
returns-in_default-clause-reached g c =
    let few = c.next_of.ensures.right.few in
    if_ok c.serve.result _ _ (λ e le. omega (arith, le, few)) c.serve.ensures.reached

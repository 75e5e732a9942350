use Rattle.std.proofs.Common.{◌∙◌, suc, ◌+◌, ◌*◌, ◌≤◌, List, [], length, Err, None, Some, ap, refl, subst, sym, arith}
use Rattle.std.proofs.lemmas.Result.{err_from_is_err_and}
use Rattle.mas_types.specs.declared.journals.Entry.{Entry}
use Rattle.step_turns.specs.declared.states.Service.{Service}
use Rattle.step_turns.specs.declared.states.Aside.TheVariants.{Acknowledge}
use Rattle.step_turns.specs.declared.states.State.TheVariants.{Away, Told}
use Rattle.step_turns.specs.TurnParts.{leaves}
use Rattle.member_giving.specs.Plays.{unwritten, wrote_of}
use Rattle.member_giving.specs.Works.{outside, place_of, queue_here}
use Rattle.ckpt_tables.specs.declared.tables.Tables.{Tables}
use Rattle.member_giving.proofs.Cuts.{after_few}
use Rattle.member_giving.proofs.Going.{played_as}
use Rattle.member_frames.proofs.Answered.{again_left, again_told, fewer_left, fewer_told, reached_left}
use Rattle.member_giving.proofs.Resting.{tells_here}
use Rattle.member_giving.proofs.Working.{less_room, own_batch}
use Rattle.member_frames.specs.declared.nexts.Next.TheVariants as next
use Rattle.member_frames.specs.Nexts.{frames_in, next_of, turn_by}
use Rattle.member_frames.specs.Plays.{IsWithinLine}
use Rattle.member_frames.specs.Waits.{IsServable}
use Rattle.member_frames.proofs.Fronts.{begin_waits, counted_frames, counted_servable, next_few, some_given}
use Rattle.member_frames.proofs.Sending.{send_error, send_full_error, send_then, serves_more}
use Rattle.member_frames.proofs.SatLemmas.{waits_left}
use Rattle.member_frames.proofs.serving.serve.Goals as goal
use Rattle.member_frames.proofs.Bounded.{closes_line, leaves_line}
use Rattle.mas_types.specs.declared.answers.Closing.TheVariants as closing

pub frames-init : goal.frames-init
frames-init g c =
    let P = g.P.Plant in
    let x = c.args.complex.now in
    let m = c.args.member.now in
    let h = c.args.holder in
    let first = c.args.first in
    let n = frames_in first in
    let turn = turn_by h.by h.step first (queue_here x m) 0 in
    let none = ap (λ (es : List Entry). length es) c.requires.nothing in
    let unwritten_none = ap unwritten c.requires.nothing in
    record {
      run = refl;
      works = c.requires.works;
      few = omega (arith, none);
      servable = c.requires.servable;
      room = less_room x m (n + 1) (n + 2) (omega arith) c.requires.room;
      order = c.requires.room.order;
      left = omega arith;
      small = let few = next_few first c.requires.servable in omega (arith, few);
      begins = λ none. c.requires.first;
      level = omega arith;
      then = λ new r p.
          serves_more P.tells h (2 * n + 1) (2 * n + 1 + unwritten m.batch) 0 (wrote_of [] turn) (place_of x m) new r (omega (arith, unwritten_none))
          (played_as P.tells h (IsWithinLine h (2 * n + 1 + unwritten m.batch)) 0 (wrote_of m.batch turn) (wrote_of [] turn) (place_of x m) new r (λ t. ap (λ (es : List Entry). wrote_of es turn) c.requires.nothing) p);
    }

-- A JOB BEGINS: it waits for the next sitting

pub leave_step-requires-clause-room : goal.leave_step-requires-clause-room
leave_step-requires-clause-room g c = less_room c.frames.complex c.frames.member 1 (frames_in c.frames.next + 1) (omega arith) c.frames.invariant.room

pub returns-in-Begin-clause-run : goal.returns-in-Begin-clause-run
returns-in-Begin-clause-run g c = c.leave_step.ensures.run ∙ c.frames.invariant.run

pub returns-in-Begin-clause-serves : goal.returns-in-Begin-clause-serves
returns-in-Begin-clause-serves g c =
    let P = g.P.Plant in
    let i = c.frames.invariant in
    let h = c.args.holder in
    let z = c.frames.complex in
    let n = c.frames.member in
    let s = c.in-Begin.service in
    let given = c.frames.given in
    let Q = queue_here z n in
    let new = outside c.leave_step.new.complex in
    let v = rw c.in-Begin.is at i.servable in
    let job = v.1 in
    let some = some_given given (rw c.in-Begin.is at i.begins) in
    let a = Away (Acknowledge None s) in
    i.then new c.leave_step.result
    (rw c.in-Begin.is (played_as P.tells h (IsWithinLine h (2 * length s.frames + 1 + unwritten n.batch)) given (wrote_of n.batch (leaves a)) (wrote_of n.batch (turn_by h.by h.step (next.Begin s) Q given)) (place_of z n) new c.leave_step.result
    (λ t. ap (wrote_of n.batch) (sym (begin_waits h.by h.step s.frames s Q given job some))) (leaves_line P.tells h given n.batch (place_of z n) new c.leave_step.result a (λ told. absurd (cc)) c.leave_step.ensures.played)))

pub returns-in-Begin-clause-again : goal.returns-in-Begin-clause-again
returns-in-Begin-clause-again g c = again_left c.leave_step.new.complex c.leave_step.new.member c.args.holder c.leave_step.result _ (λ s. s) c.leave_step.ensures.next c.leave_step.ensures.works c.leave_step.ensures.nothing

pub returns-in-Begin-clause-waits : goal.returns-in-Begin-clause-waits
returns-in-Begin-clause-waits g c =
    let v = rw c.in-Begin.is at c.frames.invariant.servable in
    waits_left g.P.Plant.tells c.leave_step.new.member c.leave_step.result (Away (Acknowledge None c.in-Begin.service)) v.0 c.leave_step.ensures.next

pub returns-in-Begin-clause-fewer : goal.returns-in-Begin-clause-fewer
returns-in-Begin-clause-fewer g c =
    let i = c.frames.invariant in
    let n = frames_in c.args.first in
    let left = rw c.in-Begin.is at i.left in
    let some = some_given c.frames.given (rw c.in-Begin.is at i.begins) in
    fewer_left (2 * n + 1) (2 * n) c.leave_step.result (Away (Acknowledge None c.in-Begin.service)) (record { falls = omega (arith, left, some); few = omega (arith, left) }) c.leave_step.ensures.next

pub returns-in-Begin-clause-reached : goal.returns-in-Begin-clause-reached
returns-in-Begin-clause-reached g c =
    let i = c.frames.invariant in
    let left = rw c.in-Begin.is at i.left in
    let level = i.level in
    reached_left c.leave_step.new.complex (c.args.complex.now.level + 2 * frames_in c.args.first + 1) c.frames.complex.level c.leave_step.result (Away (Acknowledge None c.in-Begin.service)) (omega (arith, left, level)) c.leave_step.ensures.next c.leave_step.ensures.reached

-- A JOB IS ACKNOWLEDGED AGAIN

pub leave_step-requires-in-Again-clause-room : goal.leave_step-requires-in-Again-clause-room
leave_step-requires-in-Again-clause-room g c = less_room c.frames.complex c.frames.member 1 (frames_in c.frames.next + 1) (omega arith) c.frames.invariant.room

pub returns-in-Again-clause-run : goal.returns-in-Again-clause-run
returns-in-Again-clause-run g c = c.leave_step-in-Again.ensures.run ∙ c.frames.invariant.run

pub returns-in-Again-clause-serves : goal.returns-in-Again-clause-serves
returns-in-Again-clause-serves g c =
    let P = g.P.Plant in
    let i = c.frames.invariant in
    let h = c.args.holder in
    let z = c.frames.complex in
    let n = c.frames.member in
    let s = c.in-Again.service in
    let k = c.in-Again.number in
    let l = c.leave_step-in-Again in
    let new = outside l.new.complex in
    i.then new l.result
    (rw c.in-Again.is (serves_more P.tells h (2 * suc (length s.frames) + 1 + unwritten n.batch) (2 * length s.frames + 1 + unwritten n.batch) c.frames.given (wrote_of n.batch (leaves (Away (Acknowledge (Some k) s)))) (place_of z n) new l.result (omega arith) (leaves_line P.tells h c.frames.given n.batch (place_of z n) new l.result (Away (Acknowledge (Some k) s)) (λ told. absurd (cc)) l.ensures.played)))

pub returns-in-Again-clause-again : goal.returns-in-Again-clause-again
returns-in-Again-clause-again g c =
    let l = c.leave_step-in-Again in
    again_left l.new.complex l.new.member c.args.holder l.result _ (λ s. s) l.ensures.next l.ensures.works l.ensures.nothing

pub returns-in-Again-clause-waits : goal.returns-in-Again-clause-waits
returns-in-Again-clause-waits g c =
    let v = rw c.in-Again.is at c.frames.invariant.servable in
    let l = c.leave_step-in-Again in
    waits_left g.P.Plant.tells l.new.member l.result (Away (Acknowledge (Some c.in-Again.number) c.in-Again.service)) v.0 l.ensures.next

pub returns-in-Again-clause-fewer : goal.returns-in-Again-clause-fewer
returns-in-Again-clause-fewer g c =
    let n = frames_in c.args.first in
    let left = rw c.in-Again.is at c.frames.invariant.left in
    let l = c.leave_step-in-Again in
    fewer_left (2 * n + 1) (2 * n) l.result (Away (Acknowledge (Some c.in-Again.number) c.in-Again.service)) (record { falls = omega (arith, left); few = omega (arith, left) }) l.ensures.next

pub returns-in-Again-clause-reached : goal.returns-in-Again-clause-reached
returns-in-Again-clause-reached g c =
    let i = c.frames.invariant in
    let left = rw c.in-Again.is at i.left in
    let level = i.level in
    let l = c.leave_step-in-Again in
    reached_left l.new.complex (c.args.complex.now.level + 2 * frames_in c.args.first + 1) c.frames.complex.level l.result (Away (Acknowledge (Some c.in-Again.number) c.in-Again.service)) (omega (arith, left, level)) l.ensures.next l.ensures.reached

-- NO FRAME IS LEFT

pub close_step-requires-clause-room : goal.close_step-requires-clause-room
close_step-requires-clause-room g c = less_room c.frames.complex c.frames.member 1 (frames_in c.frames.next + 1) (omega arith) c.frames.invariant.room

pub returns-in-End-clause-run : goal.returns-in-End-clause-run
returns-in-End-clause-run g c = c.close_step.ensures.run ∙ c.frames.invariant.run

pub returns-in-End-clause-serves : goal.returns-in-End-clause-serves
returns-in-End-clause-serves g c =
    let P = g.P.Plant in
    let i = c.frames.invariant in
    let h = c.args.holder in
    let z = c.frames.complex in
    let n = c.frames.member in
    let s = c.in-End.service in
    let new = outside c.close_step.new.complex in
    i.then new c.close_step.result
    (rw c.in-End.is (serves_more P.tells h (2 * length s.frames + 1 + unwritten n.batch) (unwritten n.batch) c.frames.given (wrote_of n.batch (turn_by h.by h.step (next.End s) (queue_here z n) c.frames.given)) (place_of z n) new c.close_step.result (omega arith) (closes_line P.tells h c.frames.given n.batch (place_of z n) new c.close_step.result (closing.Line s.sent s.got) tt c.close_step.ensures.played)))

pub returns-in-End-clause-again : goal.returns-in-End-clause-again
returns-in-End-clause-again g c = again_told c.close_step.new.complex c.close_step.new.member c.args.holder.step c.close_step.result c.close_step.ensures.told c.close_step.ensures.seat

pub returns-in-End-clause-waits : goal.returns-in-End-clause-waits
returns-in-End-clause-waits g c = waits_left g.P.Plant.tells c.close_step.new.member c.close_step.result Told tt c.close_step.ensures.told

pub returns-in-End-clause-fewer : goal.returns-in-End-clause-fewer
returns-in-End-clause-fewer g c = let n = frames_in c.args.first in fewer_told (2 * n + 1) (2 * n) c.close_step.result (omega arith) c.close_step.ensures.told

pub returns-in-End-clause-reached : goal.returns-in-End-clause-reached
returns-in-End-clause-reached g c =
    let i = c.frames.invariant in
    let left = i.left in
    let level = i.level in
    reached_left c.close_step.new.complex (c.args.complex.now.level + 2 * frames_in c.args.first + 1) c.frames.complex.level c.close_step.result Told (omega (arith, left, level)) c.close_step.ensures.told c.close_step.ensures.reached

-- A JOB HAS LEFT: Sent is given

pub give_part-requires-clause-room : goal.give_part-requires-clause-room
give_part-requires-clause-room g c = less_room c.frames.complex c.frames.member 1 (frames_in c.frames.next + 1) (omega arith) c.frames.invariant.room

pub give_part-requires-clause-may : goal.give_part-requires-clause-may
give_part-requires-clause-may g c =
    let w = c.frames.invariant.works in
    let v = rw c.in-Send.is at c.frames.invariant.servable in
    (c.frames.invariant.few, record { plain = refl; fit = v.0.line; giver = (w.still.holds.some, w.still.holds.few); may = w.still.holds.member; closes = refl }, λ told. tt)

pub returns-in_err-end-in-Send-clause-run : goal.returns-in_err-end-in-Send-clause-run
returns-in_err-end-in-Send-clause-run g c = c.give_part.ensures.run ∙ c.frames.invariant.run

pub returns-in_err-end-in-Send-clause-serves : goal.returns-in_err-end-in-Send-clause-serves
returns-in_err-end-in-Send-clause-serves g c =
    let i = c.frames.invariant in
    let h = c.args.holder in
    let z = c.frames.complex in
    let n = c.frames.member in
    let q = err_from_is_err_and c.from_residual.result c.from_residual.ensures.1 in
    rw (q.1, q.2) (i.then (outside c.give_part.new.complex) (Err _)
    (rw c.in-Send.is (send_error g.P.Plant.tells h c.in-Send.number c.in-Send.service (place_of z n) (place_of c.give_part.new.complex c.give_part.new.member) c.frames.given (own_batch z n h i.works) _ c.in_err-end-in-Send.ensures.given)))

-- WHAT IS FULL IS KEPT

pub keep_full-requires-clause-room : goal.keep_full-requires-clause-room
keep_full-requires-clause-room g c =
    let i = c.frames.invariant in
    let e = c.in_ok-end-in-Send.ensures in
    let order = i.order in
    let more = e.order in
    let high = i.room.high in
    let same = e.high in
    let level = i.room.level in
    let reached = e.reached in
    record { order = omega (arith, order, more); high = omega (arith, high, same); level = omega (arith, level, reached) }

pub returns-in_err-keep_full-in-Send-clause-run : goal.returns-in_err-keep_full-in-Send-clause-run
returns-in_err-keep_full-in-Send-clause-run g c = c.keep_full.ensures.run ∙ c.give_part.ensures.run ∙ c.frames.invariant.run

pub returns-in_err-keep_full-in-Send-clause-serves : goal.returns-in_err-keep_full-in-Send-clause-serves
returns-in_err-keep_full-in-Send-clause-serves g c =
    let i = c.frames.invariant in
    let h = c.args.holder in
    let z = c.frames.complex in
    let n = c.frames.member in
    let y = c.give_part.new.complex in
    let k = c.give_part.new.member in
    let e = c.in_ok-end-in-Send.ensures in
    let new = outside c.keep_full.new.complex in
    let q = err_from_is_err_and c.from_residual-in_err-keep_full-in-Send.result c.from_residual-in_err-keep_full-in-Send.ensures.1 in
    rw (q.1, q.2) (i.then new (Err _)
    (rw c.in-Send.is (send_full_error g.P.Plant.tells h c.in-Send.number c.in-Send.service (place_of z n) (place_of y k) c.frames.given c.in_ok-end-in-Send.end e.given e.longer (own_batch y k h e.works) new _ c.keep_full.ensures.spares c.in_err-keep_full-in-Send.ensures.keeps c.in_err-keep_full-in-Send.ensures.counts)))

-- THE NEXT FRAME

pub counted-requires : goal.counted-requires
counted-requires g c = let v = rw c.in-Send.is at c.frames.invariant.servable in let more = v.1 in omega (arith, more)

pub next_of-next-requires-clause-servable : goal.next_of-next-requires-clause-servable
next_of-next-requires-clause-servable g c =
    let v = rw c.in-Send.is at c.frames.invariant.servable in
    subst IsServable (sym c.counted.ensures) (counted_servable c.in_ok-end-in-Send.end c.in-Send.service v.0 v.1)

pub frames-smaller : goal.frames-smaller
frames-smaller g c =
    let few = c.next_of-next.ensures.right.few in
    let same = ap (λ (v : Service). length v.frames) c.counted.ensures in
    let frames = ap (λ fs. length fs) (counted_frames c.in_ok-end-in-Send.end c.in-Send.service) in
    rw c.in-Send.is (omega (arith, few, same, frames))

pub frames-preserved : goal.frames-preserved
frames-preserved g c =
    let P = g.P.Plant in
    let i = c.frames.invariant in
    let h = c.args.holder in
    let z = c.frames.complex in
    let n = c.frames.member in
    let y = c.give_part.new.complex in
    let k = c.give_part.new.member in
    let w = c.keep_full.new.complex in
    let j = c.keep_full.new.member in
    let e = c.in_ok-end-in-Send.ensures in
    let o = c.in_ok-keep_full-in-Send.ensures in
    let s = c.in-Send.service in
    let end = c.in_ok-end-in-Send.end in
    let following = c.next_of-next.result in
    let right = c.next_of-next.ensures.right in
    let few = right.few in
    let same_frames = ap (λ (v : Service). length v.frames) c.counted.ensures in
    let frames = ap (λ fs. length fs) (counted_frames end s) in
    let fewer : frames_in following ≤ length s.frames = omega (arith, few, same_frames, frames) in
    let left = rw c.in-Send.is at i.left in
    let small = rw c.in-Send.is at i.small in
    let order = rw c.in-Send.is at i.order in
    let room = rw c.in-Send.is at i.room in
    let more = e.order in
    let same_high = e.high in
    let same_level = e.reached in
    let high = room.high in
    let level = room.level in
    let kept = o.uses (length s.frames + 1) (record { order = omega (arith, order, more); high = omega (arith, high, same_high); level = omega (arith, level, same_level) }) in
    let kept_order = ap (λ (t : Tables). t.order) o.tables in
    let kept_high = kept.high in
    let kept_level = kept.level in
    let reached = i.level in
    let grown = o.reached in
    record {
      run = c.keep_full.ensures.run ∙ c.give_part.ensures.run ∙ i.run;
      works = o.works;
      few = let few = after_few k.batch in let same = ap (λ (es : List Entry). length es) o.left in omega (arith, few, same);
      servable = right.servable;
      room = record { order = omega (arith, order, more, kept_order, fewer); high = omega (arith, kept_high, fewer); level = omega (arith, kept_level, fewer) };
      order = omega (arith, order, more, kept_order, fewer);
      left = omega (arith, left, fewer);
      small = omega (arith, small, fewer);
      begins = λ none. absurd (omega (arith, none));
      level = omega (arith, reached, same_level, grown);
      then = λ new r p.
          i.then new r (rw c.in-Send.is (send_then P.tells h c.in-Send.number s (place_of z n) (place_of y k) c.frames.given end e.given e.longer (own_batch y k h e.works) (place_of w j) following o.left o.queue
          (λ told. c.next_of-next.ensures.is (queue_here w j) (tells_here w j h o.works told) ∙ ap (next_of (queue_here w j)) c.counted.ensures) fewer new r {S = Unit {0}} _ c.keep_full.ensures.spares o.keeps o.counts p));
    }

use Rattle.std.proofs.Common.{◌+◌, ◌*◌, List, [], ◌∷◌, length, ap, arith}
use Rattle.mas_types.specs.declared.journals.Entry.{Entry}
use Rattle.mas_types.specs.Closings.{closing_line}
use Rattle.step_turns.specs.declared.states.State.TheVariants.{Told}
use Rattle.step_turns.specs.TurnParts.{says}
use Rattle.member_giving.specs.Plays.{unwritten, wrote_of}
use Rattle.member_giving.specs.Works.{Run, outside, place_of}
use Rattle.member_frames.proofs.Answered.{again_told, fewer_told, reached_left}
use Rattle.member_giving.proofs.Sat.{frame_of}
use Rattle.member_giving.proofs.Seated.{low_bounds, works_sits}
use Rattle.member_giving.proofs.Within.{unwritten_one}
use Rattle.member_frames.proofs.SatLemmas.{line_room, sat_line, sat_more, waits_left}
use Rattle.member_frames.proofs.frames.end_or_serve.Goals as goal
use Rattle.member_frames.proofs.Bounded.{closes_line}

-- THE STEP CLOSES

pub close_step-requires-clause-works : goal.close_step-requires-clause-works
close_step-requires-clause-works g c = works_sits c.args.complex.now c.args.member.now c.args.holder c.requires.may.sits c.requires.may.bounds c.requires.may.holder c.requires.base_sound

pub close_step-requires-clause-room : goal.close_step-requires-clause-room
close_step-requires-clause-room g c =
    let level = c.requires.level in
    line_room c.args.complex.now c.args.member.now (low_bounds c.args.complex.now c.args.member.now c.requires.may.bounds) 1 (omega arith) (omega (arith, level))

pub close_step-requires-clause-named : goal.close_step-requires-clause-named
close_step-requires-clause-named g c = rw c.in-Some.is at c.requires.named

pub returns-in-Some-clause-frame : goal.returns-in-Some-clause-frame
returns-in-Some-clause-frame g c = frame_of c.args.complex.now c.close_step.new.complex c.args.member.now c.close_step.new.member c.close_step.ensures.run

pub returns-in-Some-clause-id : goal.returns-in-Some-clause-id
returns-in-Some-clause-id g c = ap (λ (r : Run). r.id) c.close_step.ensures.run

pub returns-in-Some-clause-serves : goal.returns-in-Some-clause-serves
returns-in-Some-clause-serves g c =
    let P = g.P.Plant in
    let x = c.args.complex.now in
    let y = c.close_step.new.complex in
    let m = c.args.member.now in
    let h = c.args.holder in
    let t = says (closing_line h.by h.step c.in-Some.end ∷ []) in
    let nothing = c.requires.may.sits.seat.between.nothing in
    let one = unwritten_one m.batch in
    let w = works_sits x m h c.requires.may.sits c.requires.may.bounds c.requires.may.holder c.requires.base_sound in
    rw c.in-Some.is (sat_more P.tells h (2 * length c.args.service.frames + 1) (unwritten m.batch) t x y c.close_step.result (omega (arith, one))
    (sat_line x y m h (unwritten m.batch) t (wrote_of m.batch t) c.close_step.result nothing w.still (λ told. ap (λ (es : List Entry). wrote_of es t) nothing) (closes_line P.tells h 0 m.batch (place_of x m) (outside y) c.close_step.result c.in-Some.end (rw c.in-Some.is at c.requires.closes) c.close_step.ensures.played)))

pub returns-in-Some-clause-again : goal.returns-in-Some-clause-again
returns-in-Some-clause-again g c = again_told c.close_step.new.complex c.close_step.new.member c.args.holder.step c.close_step.result c.close_step.ensures.told c.close_step.ensures.seat

pub returns-in-Some-clause-waits : goal.returns-in-Some-clause-waits
returns-in-Some-clause-waits g c = waits_left g.P.Plant.tells c.close_step.new.member c.close_step.result Told tt c.close_step.ensures.told

pub returns-in-Some-clause-fewer : goal.returns-in-Some-clause-fewer
returns-in-Some-clause-fewer g c = let n = length c.args.service.frames in fewer_told (2 * n + 1) (2 * n) c.close_step.result (omega arith) c.close_step.ensures.told

pub returns-in-Some-clause-reached : goal.returns-in-Some-clause-reached
returns-in-Some-clause-reached g c =
    reached_left c.close_step.new.complex (c.args.complex.now.level + 2 * length c.args.service.frames + 1) c.args.complex.now.level c.close_step.result Told (omega arith) c.close_step.ensures.told c.close_step.ensures.reached

-- THE FRAMES ARE HANDLED

pub returns-in-None-clause-serves : goal.returns-in-None-clause-serves
returns-in-None-clause-serves g c = rw c.in-None.is c.serve_frames.ensures.serves

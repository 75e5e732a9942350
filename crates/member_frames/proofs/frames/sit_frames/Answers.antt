use Rattle.std.proofs.Common.{◌∙◌, ◌+◌, ◌*◌, ◌≤◌, List, length, Option, ap, subst, sym, arith}
use Rattle.mas_types.specs.declared.answers.Closing.{Closing}
use Rattle.mas_types.specs.declared.queues.Queue.{Queue}
use Rattle.nje_frames.specs.declared.frames.Frame.{Frame}
use Rattle.step_turns.specs.Courses.{sittings_most}
use Rattle.step_turns.specs.Serving.{exchange_end, heard, serves_first, taken_most, with_frames}
use Rattle.step_turns.specs.declared.states.Aside.TheVariants.{Acknowledge, Exchange, SpoolArrival}
use Rattle.step_turns.specs.declared.states.Found.{Found}
use Rattle.step_turns.specs.declared.states.State.TheVariants.{Away}
use Rattle.member_sittings.specs.Sat.{HasSat, resumes}
use Rattle.member_giving.specs.Works.{queue_kept}
use Rattle.member_frames.proofs.Answered.{fewer_than, if_ok}
use Rattle.member_frames.specs.Plays.{ends_or_serves}
use Rattle.member_frames.proofs.SatLemmas.{acknowledged_as, exchanged_as, grown_by, heard_few, heard_servable, sat_more, sat_state}
use Rattle.member_frames.proofs.frames.sit_frames.Goals as goal

-- AFTER THE EXCHANGE

pub end_or_serve-requires-clause-servable : goal.end_or_serve-requires-clause-servable
end_or_serve-requires-clause-servable g c = let right = rw c.in-Exchange.is at c.requires.right in heard_servable c.in-Exchange.line c.args.found.frames c.heard-frames.result right.0 right.2 c.heard-frames.ensures

pub end_or_serve-requires-clause-level : goal.end_or_serve-requires-clause-level
end_or_serve-requires-clause-level g c =
    let level = rw c.in-Exchange.is at c.requires.level in
    let few = heard_few c.args.found.frames c.heard-frames.result c.heard-frames.ensures in
    omega (arith, level, few)

pub returns-in-Exchange-clause-sat : goal.returns-in-Exchange-clause-sat
returns-in-Exchange-clause-sat g c =
    let P = g.P.Plant in
    let x = c.args.complex.now in
    let y = c.end_or_serve.new.complex in
    let h = c.args.holder in
    let f = c.args.found in
    let l = c.in-Exchange.line in
    let offer = c.in-Exchange.offer in
    let Q : Queue = queue_kept x in
    let r = c.end_or_serve.result in
    let end = c.exchange_end-end.result in
    let fs = c.heard-frames.result in
    let few = heard_few f.frames fs c.heard-frames.ensures in
    let t = ends_or_serves h.by h.step end (with_frames fs (serves_first l)) Q in
    rw c.in-Exchange.is (sat_state x y h (Exchange l offer) f t r (λ A. tt) (λ s says. says)
    (λ told.
    ap (λ (e : Option Closing). ends_or_serves h.by h.step e (with_frames fs (serves_first l)) Q) c.exchange_end-end.ensures.is
    ∙ ap (λ (gs : List Frame). ends_or_serves h.by h.step (exchange_end offer l f) (with_frames gs (serves_first l)) Q) c.heard-frames.ensures
    ∙ sym (exchanged_as h (exchange_end offer l f) l (heard f) Q))
    (sat_more P.tells h (sittings_most (Away (Exchange l offer))) (2 * length fs + 1) t x y r (omega (arith, few)) c.end_or_serve.ensures.serves))

pub returns-in-Exchange-clause-fewer : goal.returns-in-Exchange-clause-fewer
returns-in-Exchange-clause-fewer g c =
    let fs = c.heard-frames.result in
    let few = heard_few c.args.found.frames fs c.heard-frames.ensures in
    rw c.in-Exchange.is (fewer_than (2 * taken_most + 1) (0 + 2 * taken_most) c.end_or_serve.result (2 * length fs + 1) (2 * length fs) (omega (arith, few)) (omega (arith, few)) c.end_or_serve.ensures.fewer)

pub returns-in-Exchange-clause-reached : goal.returns-in-Exchange-clause-reached
returns-in-Exchange-clause-reached g c =
    let few = heard_few c.args.found.frames c.heard-frames.result c.heard-frames.ensures in
    rw c.in-Exchange.is (if_ok c.end_or_serve.result _ _ (λ e le. omega (arith, le, few)) c.end_or_serve.ensures.reached)

-- AFTER AN ACKNOWLEDGEMENT

pub end_or_serve-requires-in-Acknowledge-clause-servable : goal.end_or_serve-requires-in-Acknowledge-clause-servable
end_or_serve-requires-in-Acknowledge-clause-servable g c = let right = rw c.in-Acknowledge.is at c.requires.right in right.0

pub end_or_serve-requires-in-Acknowledge-clause-level : goal.end_or_serve-requires-in-Acknowledge-clause-level
end_or_serve-requires-in-Acknowledge-clause-level g c = let level = rw c.in-Acknowledge.is at c.requires.level in omega (arith, level)

pub returns-in-Acknowledge-clause-sat : goal.returns-in-Acknowledge-clause-sat
returns-in-Acknowledge-clause-sat g c =
    let x = c.args.complex.now in
    let e = c.end_or_serve-in-Acknowledge in
    let h = c.args.holder in
    let f = c.args.found in
    let s = c.in-Acknowledge.service in
    let n = c.in-Acknowledge.number in
    let Q : Queue = queue_kept x in
    let end = c.answer_end-end.result in
    rw c.in-Acknowledge.is (sat_state x e.new.complex h (Acknowledge n s) f (ends_or_serves h.by h.step end s Q) e.result (λ A. tt) (λ s says. says)
    (λ told. ap (λ (e : Option Closing). ends_or_serves h.by h.step e s Q) c.answer_end-end.ensures.is ∙ sym (acknowledged_as h n f.wire s Q)) e.ensures.serves)

pub returns-in-Acknowledge-clause-fewer : goal.returns-in-Acknowledge-clause-fewer
returns-in-Acknowledge-clause-fewer g c =
    let e = c.end_or_serve-in-Acknowledge in
    let n = length c.in-Acknowledge.service.frames in
    rw c.in-Acknowledge.is (fewer_than (2 * n + 1) (0 + 2 * n) e.result (2 * n + 1) (2 * n) (omega arith) (omega arith) e.ensures.fewer)

pub returns-in-Acknowledge-clause-reached : goal.returns-in-Acknowledge-clause-reached
returns-in-Acknowledge-clause-reached g c = rw c.in-Acknowledge.is (if_ok c.end_or_serve-in-Acknowledge.result _ _ (λ e le. omega (arith, le)) c.end_or_serve-in-Acknowledge.ensures.reached)

-- AFTER A JOB'S TEXT WAS SPOOLED

pub sit_arrival-requires-clause-servable : goal.sit_arrival-requires-clause-servable
sit_arrival-requires-clause-servable g c = let right = rw c.in-SpoolArrival.is at c.requires.right in right.0

pub sit_arrival-requires-clause-more : goal.sit_arrival-requires-clause-more
sit_arrival-requires-clause-more g c = let right = rw c.in-SpoolArrival.is at c.requires.right in right.1

pub sit_arrival-requires-clause-text : goal.sit_arrival-requires-clause-text
sit_arrival-requires-clause-text g c = let right = rw c.in-SpoolArrival.is at c.requires.right in right.2

pub sit_arrival-requires-clause-spooled : goal.sit_arrival-requires-clause-spooled
sit_arrival-requires-clause-spooled g c = let right = rw c.in-SpoolArrival.is at c.requires.right in right.4

pub returns-in-SpoolArrival-clause-sat : goal.returns-in-SpoolArrival-clause-sat
returns-in-SpoolArrival-clause-sat g c =
    let right = rw c.in-SpoolArrival.is at c.requires.right in
    let a = c.in-SpoolArrival in
    rw c.in-SpoolArrival.is (subst (λ (f : Found). HasSat (resumes c.args.holder (SpoolArrival a.number a.job a.text a.service) f) c.args.complex.now c.sit_arrival.new.complex c.sit_arrival.result) (sym right.3) c.sit_arrival.ensures.sat)

pub returns-in-SpoolArrival-clause-again : goal.returns-in-SpoolArrival-clause-again
returns-in-SpoolArrival-clause-again g c = if_ok c.sit_arrival.result _ _ (λ e on. on.sits) c.sit_arrival.ensures.again

pub returns-in-SpoolArrival-clause-fewer : goal.returns-in-SpoolArrival-clause-fewer
returns-in-SpoolArrival-clause-fewer g c =
    let n = length c.in-SpoolArrival.service.frames in
    rw c.in-SpoolArrival.is (fewer_than (2 * n + 2) (0 + (2 * n + 1)) c.sit_arrival.result (2 * n + 2) (2 * n + 1) (omega arith) (omega arith) c.sit_arrival.ensures.fewer)

pub returns-in-SpoolArrival-clause-reached : goal.returns-in-SpoolArrival-clause-reached
returns-in-SpoolArrival-clause-reached g c =
    let n = length c.in-SpoolArrival.service.frames in
    let y = c.sit_arrival.new.complex in
    let was = c.args.complex.now.level in
    rw c.in-SpoolArrival.is (grown_by y was (2 * n + 2) (2 * n + 1) (2 * n + 1) c.sit_arrival.result (omega arith) c.sit_arrival.ensures.fewer (if_ok c.sit_arrival.result _ (λ e. y.level ≤ was + 1) (λ e on. on.grown.reached) c.sit_arrival.ensures.again))

-- IT WAITED FOR NOTHING ELSE

pub unreachable-requires : goal.unreachable-requires
unreachable-requires g c = rw c.in-SpoolDeck.is at c.requires.right

pub unreachable-requires-in-ReadText : goal.unreachable-requires-in-ReadText
unreachable-requires-in-ReadText g c = rw c.in-ReadText.is at c.requires.right

pub unreachable-requires-in-SpoolOutputs : goal.unreachable-requires-in-SpoolOutputs
unreachable-requires-in-SpoolOutputs g c = rw c.in-SpoolOutputs.is at c.requires.right

pub unreachable-requires-in-PrintLines : goal.unreachable-requires-in-PrintLines
unreachable-requires-in-PrintLines g c = rw c.in-PrintLines.is at c.requires.right

use Rattle.std.proofs.Common.{◌∙◌, List, length, ap, refl, subst, sym, arith}
use Rattle.mas_types.specs.Fit.{IsLine}
use Rattle.nje_frames.specs.declared.frames.Frame.{Frame}
use Rattle.step_turns.specs.Serving.{with_frames}
use Rattle.step_turns.specs.declared.states.Service.{Service}
use Rattle.member_frames.specs.declared.nexts.Front.TheVariants as front
use Rattle.member_frames.specs.declared.nexts.Next.TheVariants as next
use Rattle.member_frames.specs.Nexts.{next_of}
use Rattle.member_frames.proofs.Fronts.{after_length, first_next, first_whole, none_next, right_of}
use Rattle.member_frames.proofs.nexts.next_of.Goals as goal

pub frames-init : goal.frames-init
frames-init c = record { line = refl; same = λ Q told. refl }

pub front_of-requires-clause-line : goal.front_of-requires-clause-line
front_of-requires-clause-line c = subst IsLine (sym c.frames.invariant.line) c.requires.servable.line

-- AN ACKNOWLEDGEMENT

pub returns-in-Answers-clause-is : goal.returns-in-Answers-clause-is
returns-in-Answers-clause-is c Q told =
    let s = c.frames.service in
    let n = c.in-Answers.number in
    ap (λ (v : Service). next.Send n v) c.without_first.ensures
    ∙ sym (first_next Q s.frames s c.item.result.now (front.Answers n) c.item.ensures (sym c.in-Answers.is ∙ c.front_of.ensures Q told))
    ∙ c.frames.invariant.same Q told

pub returns-in-Answers-clause-right : goal.returns-in-Answers-clause-right
returns-in-Answers-clause-right c =
    let s = c.frames.service in
    let n = c.in-Answers.number in
    right_of c.args.tables.now c.args.service (next.Send n c.without_first.result)
    (λ Q told.
    ap (λ (v : Service). next.Send n v) c.without_first.ensures
    ∙ sym (first_next Q s.frames s c.item.result.now (front.Answers n) c.item.ensures (sym c.in-Answers.is ∙ c.front_of.ensures Q told))
    ∙ c.frames.invariant.same Q told)
    c.requires.servable

-- THE NEXT JOB

pub returns-in-Begins-clause-is : goal.returns-in-Begins-clause-is
returns-in-Begins-clause-is c Q told =
    let s = c.frames.service in
    let f = c.item.result.now in
    ap (λ (fs : List Frame). next.Begin (with_frames fs s)) (sym (first_whole s.frames f c.item.ensures))
    ∙ sym (first_next Q s.frames s f front.Begins c.item.ensures (sym c.in-Begins.is ∙ c.front_of.ensures Q told))
    ∙ c.frames.invariant.same Q told

pub returns-in-Begins-clause-right : goal.returns-in-Begins-clause-right
returns-in-Begins-clause-right c =
    let s = c.frames.service in
    let f = c.item.result.now in
    right_of c.args.tables.now c.args.service (next.Begin s)
    (λ Q told.
    ap (λ (fs : List Frame). next.Begin (with_frames fs s)) (sym (first_whole s.frames f c.item.ensures))
    ∙ sym (first_next Q s.frames s f front.Begins c.item.ensures (sym c.in-Begins.is ∙ c.front_of.ensures Q told))
    ∙ c.frames.invariant.same Q told)
    c.requires.servable

-- A JOB THAT WAS GOT BEFORE

pub returns-in-Repeats-clause-is : goal.returns-in-Repeats-clause-is
returns-in-Repeats-clause-is c Q told =
    let s = c.frames.service in
    let n = c.in-Repeats.number in
    ap (λ (v : Service). next.Again n v) c.without_first-in-Repeats.ensures
    ∙ sym (first_next Q s.frames s c.item.result.now (front.Repeats n) c.item.ensures (sym c.in-Repeats.is ∙ c.front_of.ensures Q told))
    ∙ c.frames.invariant.same Q told

pub returns-in-Repeats-clause-right : goal.returns-in-Repeats-clause-right
returns-in-Repeats-clause-right c =
    let s = c.frames.service in
    let n = c.in-Repeats.number in
    right_of c.args.tables.now c.args.service (next.Again n c.without_first-in-Repeats.result)
    (λ Q told.
    ap (λ (v : Service). next.Again n v) c.without_first-in-Repeats.ensures
    ∙ sym (first_next Q s.frames s c.item.result.now (front.Repeats n) c.item.ensures (sym c.in-Repeats.is ∙ c.front_of.ensures Q told))
    ∙ c.frames.invariant.same Q told)
    c.requires.servable

-- A JOB THAT LEAVES A NUMBER OUT

pub frames-smaller : goal.frames-smaller
frames-smaller c =
    let s = c.frames.service in
    let fewer = after_length s.frames (omega arith) in
    let same = ap (λ (v : Service). length v.frames) c.without_first-service.ensures in
    omega (arith, fewer, same)

pub frames-preserved : goal.frames-preserved
frames-preserved c =
    let s = c.frames.service in
    let v = c.without_first-service in
    record {
      line = ap (λ (u : Service). u.line) v.ensures ∙ c.frames.invariant.line;
      same = λ Q told.
          ap (next_of Q) v.ensures
          ∙ sym (first_next Q s.frames s c.item.result.now front.LeavesOut c.item.ensures (sym c.in-LeavesOut.is ∙ c.front_of.ensures Q told))
          ∙ c.frames.invariant.same Q told;
    }

-- NO FRAME IS LEFT

pub returns-clause-is : goal.returns-clause-is
returns-clause-is c Q told =
    let s = c.frames.service in
    sym (none_next Q s s.frames refl (omega arith)) ∙ c.frames.invariant.same Q told

pub returns-clause-right : goal.returns-clause-right
returns-clause-right c =
    let s = c.frames.service in
    right_of c.args.tables.now c.args.service (next.End s) (λ Q told. sym (none_next Q s s.frames refl (omega arith)) ∙ c.frames.invariant.same Q told) c.requires.servable

use Rattle.std.proofs.Common.{◌≡◌, ◌+◌, ◌*◌, ◌≤◌, ℕ, List, [], ◌∷◌, length, IfOk, OnOk, Result, Ok, Err, ap, refl, subst, sym, arith}
use Rattle.mas_types.specs.declared.answers.Closing.TheVariants as closing
use Rattle.mas_types.specs.declared.ids.Name8.{Name8}
use Rattle.mas_types.specs.declared.journals.Entry.{Entry}
use Rattle.mas_types.specs.declared.queues.Config.{Config}
use Rattle.mas_types.specs.declared.queues.Queue.{Queue}
use Rattle.mas_types.specs.Closings.{closing_line}
use Rattle.card_reader.specs.declared.decks.Refused.{Refused}
use Rattle.card_reader.specs.Decks.{read_as}
use Rattle.mas_complex.specs.Journals.{kept_all}
use Rattle.mas_complex.specs.Meaning.{run}
use Rattle.mas_complex.specs.Parts.{parts_of}
use Rattle.member_node.specs.declared.member.NodeNo.{NodeNo}
use Rattle.member_node.proofs.WriteLemmas.{none_out}
use Rattle.member_steps.proofs.StepLemmas.{if_ok}
use Rattle.nje_frames.specs.declared.frames.Frame.{Frame}
use Rattle.nje_frames.specs.declared.frames.Frame.TheVariants as frame
use Rattle.step_turns.specs.Serving.{Arrival, arrived, begins}
use Rattle.step_turns.specs.Sittings.{sitting_of}
use Rattle.step_turns.specs.declared.states.State.TheVariants.{Told}
use Rattle.step_turns.specs.TurnParts.{says}
use Rattle.member_sittings.specs.declared.ends.SittingEnd.{SittingEnd}
use Rattle.member_giving.specs.Plays.{unwritten, wrote_of}
use Rattle.member_giving.specs.Works.{Run, SitsIn, outside, place_of}
use Rattle.member_frames.proofs.Answered.{again_told, fewer_told}
use Rattle.member_giving.proofs.Sat.{frame_of}
use Rattle.member_giving.proofs.Seated.{low_bounds, works_sits}
use Rattle.member_giving.proofs.Within.{unwritten_one}
use Rattle.member_frames.specs.declared.arrivals.ReadJob.{ReadJob}
use Rattle.member_frames.specs.Arriving.{IsJobFrame, arrival_turn}
use Rattle.member_frames.specs.Plays.{arrival_of}
use Rattle.member_frames.proofs.Arriving.{card_closes, cards_open, reads_line}
use Rattle.member_frames.proofs.Idle.{sat_nothing}
use Rattle.member_frames.proofs.SatLemmas.{line_room, sat_as, sat_line, sat_more, waits_left}
use Rattle.member_frames.proofs.arrivals.open_arrival.Goals as goal
use Rattle.member_frames.proofs.Bounded.{closes_line}

-- THE FRAME

no_job : (f : Frame) → IsJobFrame f → ((number : ℕ) (origin node : Name8) (text : List (List ℕ)) → f ≡ frame.Job number origin node text → ⊥) → ⊥
no_job (frame.Job number origin node text) job other = other number origin node text refl
no_job (frame.Ack number) job other = absurd job

pub unreachable-requires : goal.unreachable-requires
unreachable-requires g c = absurd (no_job c.args.frame c.requires.job c.in_default.not-Job)

-- THE CARDS ARE A JOB'S

pub begin_arrival-requires-clause-fields : goal.begin_arrival-requires-clause-fields
begin_arrival-requires-clause-fields g c =
    let its = rw c.in-Job.is at c.requires.frame in
    let f = c.in-Ok.ensures.fits c.requires.may.sits.seat.between.drawn.spelling.shape.config.node in
    record { name = f.name; class = f.class; msgclass = f.msgclass; prio = f.prio; dest = f.dest; node = its.2; origin = its.1 }

pub returns-in-Ok-clause-opens : goal.returns-in-Ok-clause-opens
returns-in-Ok-clause-opens g c =
    let P = g.P.Plant in
    let x = c.args.complex.now in
    let y = c.begin_arrival.new.complex in
    let h = c.args.holder in
    let s = c.args.service in
    let j = c.in-Job in
    let a : Arrival = record { number = j.number; origin = j.origin; node = j.node; text = j.text } in
    let deck = c.in-Ok.deck in
    let r : ReadJob = record { number = a.number; fields = arrived a deck.fields; text = deck.text } in
    let Q : Queue = run x.base (kept_all x.journal.batches) in
    rw c.in-Job.is (sat_as P.tells h (2 * length s.frames + 3) (arrival_turn h r s Q) (begins h.by h.step 0 a s Q) x y c.begin_arrival.result
    (λ told.
    let config = (c.requires.may.sits.seat.between.queue told).config in
    cards_open Q h a s deck.fields deck.text (subst (λ (k : Config). read_as k.node j.text ≡ Ok deck.fields) (sym config) c.in-Ok.ensures.fields) c.in-Ok.ensures.text)
    c.begin_arrival.ensures.begins)

pub returns-in-Ok-clause-again : goal.returns-in-Ok-clause-again
returns-in-Ok-clause-again g c =
    let z = c.begin_arrival.new.complex in
    let l = c.begin_arrival.new.member in
    if_ok _ (λ e. SitsIn e.next z l c.args.holder.step) c.begin_arrival.result (λ e on. on.sits) c.begin_arrival.ensures.again

pub returns-in-Ok-clause-reached : goal.returns-in-Ok-clause-reached
returns-in-Ok-clause-reached g c =
    let x = c.args.complex.now in
    let z = c.begin_arrival.new.complex in
    if_ok _ (λ e. z.level ≤ x.level + 1) c.begin_arrival.result (λ e on. on.grown.reached) c.begin_arrival.ensures.again

-- A CARD IS REFUSED

on_any : (r : Result SittingEnd NodeNo) (A : Type 0) → OnOk r A → IfOk r (λ e. A)
on_any (Ok e) A a = a
on_any (Err why) A a = tt

pub close_step-requires-clause-works : goal.close_step-requires-clause-works
close_step-requires-clause-works g c = works_sits c.args.complex.now c.args.member.now c.args.holder c.requires.may.sits c.requires.may.bounds c.requires.may.holder c.requires.base_sound

pub close_step-requires-clause-room : goal.close_step-requires-clause-room
close_step-requires-clause-room g c =
    let level = c.requires.level in
    line_room c.args.complex.now c.args.member.now (low_bounds c.args.complex.now c.args.member.now c.requires.may.bounds) 1 (omega arith) (omega (arith, level))

pub returns-in-Err-BadCard-clause-frame : goal.returns-in-Err-BadCard-clause-frame
returns-in-Err-BadCard-clause-frame g c = frame_of c.args.complex.now c.close_step.new.complex c.args.member.now c.close_step.new.member c.close_step.ensures.run

pub returns-in-Err-BadCard-clause-id : goal.returns-in-Err-BadCard-clause-id
returns-in-Err-BadCard-clause-id g c = ap (λ (r : Run). r.id) c.close_step.ensures.run

pub returns-in-Err-BadCard-clause-opens : goal.returns-in-Err-BadCard-clause-opens
returns-in-Err-BadCard-clause-opens g c =
    let P = g.P.Plant in
    let x = c.args.complex.now in
    let y = c.close_step.new.complex in
    let m = c.args.member.now in
    let h = c.args.holder in
    let s = c.args.service in
    let j = c.in-Job in
    let a : Arrival = record { number = j.number; origin = j.origin; node = j.node; text = j.text } in
    let refused : Refused = record { card = c.in-Err-BadCard.card; cause = c.in-Err-BadCard.cause } in
    let t = says (closing_line h.by h.step (closing.BadCard refused.card refused.cause) ∷ []) in
    let Q : Queue = run x.base (kept_all x.journal.batches) in
    let nothing = c.requires.may.sits.seat.between.nothing in
    let one = unwritten_one m.batch in
    let w = works_sits x m h c.requires.may.sits c.requires.may.bounds c.requires.may.holder c.requires.base_sound in
    let card = rw c.in-Err-BadCard.field-0-is at c.in-Err-BadCard.ensures.bad_card in
    rw c.in-Job.is (sat_as P.tells h (2 * length s.frames + 3) t (begins h.by h.step 0 a s Q) x y c.close_step.result
    (λ told.
    let config = (c.requires.may.sits.seat.between.queue told).config in
    card_closes Q h a s refused (subst (λ (k : Config). read_as k.node j.text ≡ Err refused) (sym config) card))
    (sat_more P.tells h (2 * length s.frames + 3) (unwritten m.batch) t x y c.close_step.result (omega (arith, one))
    (sat_line x y m h (unwritten m.batch) t (wrote_of m.batch t) c.close_step.result nothing w.still (λ told. ap (λ (es : List Entry). wrote_of es t) nothing) (closes_line P.tells h 0 m.batch (place_of x m) (outside y) c.close_step.result (closing.BadCard refused.card refused.cause) tt (rw c.in-Err-BadCard.field-0-is at c.close_step.ensures.played)))))

pub returns-in-Err-BadCard-clause-again : goal.returns-in-Err-BadCard-clause-again
returns-in-Err-BadCard-clause-again g c = again_told c.close_step.new.complex c.close_step.new.member c.args.holder.step c.close_step.result c.close_step.ensures.told c.close_step.ensures.seat

pub returns-in-Err-BadCard-clause-waits : goal.returns-in-Err-BadCard-clause-waits
returns-in-Err-BadCard-clause-waits g c = waits_left g.P.Plant.tells c.close_step.new.member c.close_step.result Told tt c.close_step.ensures.told

pub returns-in-Err-BadCard-clause-fewer : goal.returns-in-Err-BadCard-clause-fewer
returns-in-Err-BadCard-clause-fewer g c = let n = length c.args.service.frames in fewer_told (2 * n + 3) (2 * n + 2) c.close_step.result (omega arith) c.close_step.ensures.told

pub returns-in-Err-BadCard-clause-reached : goal.returns-in-Err-BadCard-clause-reached
returns-in-Err-BadCard-clause-reached g c =
    let x = c.args.complex.now in
    let z = c.close_step.new.complex in
    on_any c.close_step.result (z.level ≤ x.level + 1) c.close_step.ensures.reached

-- OUT OF MEMORY

pub returns-clause-opens : goal.returns-clause-opens
returns-clause-opens g c =
    let P = g.P.Plant in
    let x = c.args.complex.now in
    let h = c.args.holder in
    let s = c.args.service in
    let a : Arrival = arrival_of c.args.frame in
    let b = c.requires.may.sits.seat.between in
    let Q : Queue = run x.base (kept_all x.journal.batches) in
    let its = reads_line Q h a s (read_as Q.config.node a.text) in
    record {
      sitting = sitting_of h (begins h.by h.step 0 a s Q);
      is = λ t. refl;
      of = its.of;
      few = its.few;
      says = its.says;
      release = its.release;
      sat = sat_nothing P h.by (sitting_of h (begins h.by h.step 0 a s Q)) (parts_of x) (none_out x.journal.batches x.journal.batches x.placed x.current refl b.unplaced b.none);
    }

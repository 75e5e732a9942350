use Rattle.member_units.proofs.Names.{[], subst, ◌∙◌, ap, arith, ◌+◌, ◌*◌, ℕ, Queue, Fresh, Rested, units_from, bounds, wrote_of, Run, outside, place_of, queue_here, queue_kept, played_as, plays_more, frame_of, sat_of, low_bounds, works_sits, kept_here, follow_in, IsWithin}
use Rattle.step_turns.specs.declared.states.Task.TheVariants.{Work}
use Rattle.step_turns.specs.Laws.{units_done, units_left}
use Rattle.step_turns.specs.States.{nothing_found}
use Rattle.step_turns.specs.declared.states.State.{State}
use Rattle.member_sittings.specs.Sat.{HasSat, begins}
use Rattle.member_units.proofs.Parts.{next_up, roomy_low}
use Rattle.member_units.proofs.sitting.sit_work.Goals as goal

pub action_of-action-requires : goal.action_of-action-requires
action_of-action-requires g c = record {
  works = works_sits c.args.complex.now c.args.member.now c.args.holder c.requires.sits.sits c.requires.sits.bounds c.requires.sits.holder c.requires.base_sound;
  few = rw c.requires.sits.sits.seat.between.nothing (omega arith);
}

pub play-requires : goal.play-requires
play-requires g c =
    let x = c.args.complex.now in
    let m = c.args.member.now in
    let next = c.action_of-action.ensures.next in
    record {
      works = works_sits x m c.args.holder c.requires.sits.sits c.requires.sits.bounds c.requires.sits.holder c.requires.base_sound;
      nothing = c.requires.sits.sits.seat.between.nothing;
      room = roomy_low x m (low_bounds x m c.requires.sits.bounds) _ (omega (arith, c.requires.units, next.left)) (omega (arith, c.requires.level, next.left));
      units = omega (arith, c.requires.units, next.units);
      may = next.may;
    }

pub returns : goal.returns
returns g c =
    let x = c.args.complex.now in
    let m = c.args.member.now in
    let h = c.args.holder in
    let p = c.args.progress in
    let nothing = c.requires.sits.sits.seat.between.nothing in
    let w = works_sits x m h c.requires.sits.sits c.requires.sits.bounds c.requires.sits.holder c.requires.base_sound in
    let new = outside c.play.new.complex in
    let r = c.play.result in
    let a = c.action_of-action.ensures in
    let f = follow_in x.level (Rested p) in
    let bs = bounds (3 * p.left + 1) (p.done + p.left) nothing_found in
    let turn = units_from h p.left in
    let plays = played_as g.P.Plant.tells h (IsWithin h bs) 0 _ (wrote_of [] (turn (queue_here x m) 0 p.done)) (place_of x m) new r (λ told. ap (wrote_of []) (a.is told 0)) (c.play.ensures.plays f nothing_found (next_up x m f _ a.next) (a.caused (p.done + p.left) nothing_found (omega arith))) in
    record {
      frame = frame_of x c.play.new.complex m c.play.new.member c.play.ensures.run;
      id = ap (λ (r : Run). r.id) c.play.ensures.run;
      sat = sat_of x c.play.new.complex m h (Rested p) nothing_found (wrote_of [] (turn (queue_here x m) 0 p.done)) r (λ A. tt) (λ t says. says) nothing w.still (λ told. ap (λ (Q : Queue). wrote_of [] (turn Q 0 p.done)) (kept_here x m nothing)) plays;
      fresh = λ q same none.
          let done = ap (λ (s : State). units_done s) same ∙ none in
          let left = ap (λ (s : State). units_left s) same in
          subst (λ (k : ℕ). HasSat (begins h (Fresh (Work k))) x c.play.new.complex r) left
          (sat_of x c.play.new.complex m h (Fresh (Work p.left)) nothing_found (wrote_of [] (turn (queue_here x m) 0 p.done)) r (λ A. tt) (λ t says. says) nothing w.still
          (λ told. ap (λ (Q : Queue). wrote_of [] (turn Q 0 p.done)) (kept_here x m nothing) ∙ ap (λ (k : ℕ). wrote_of [] (turn (queue_kept x) 0 k)) done)
          (plays_more g.P.Plant.tells h (bounds (3 * p.left + 1) (0 + p.left) nothing_found) 0 (3 * p.left + 1) (p.done + p.left) _ (place_of x m) new r (omega arith) (omega (arith, done)) plays));
      leaves = c.play.ensures.leaves f (next_up x m f _ a.next);
    }

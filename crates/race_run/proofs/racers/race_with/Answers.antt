use Rattle.std.proofs.Common.{◌∙◌, refl, sym, ap, subst, false}
use Rattle.mas_types.specs.declared.queues.Queue.{Queue}
use Rattle.gate_facts.specs.Memory.{Memory}
use Rattle.member_gate.specs.Passes.{view}
use Rattle.mas_race.specs.Passings.{PassPlace}
use Rattle.race_turns.specs.Races.{lines_of}
use Rattle.race_run.specs.Racers.{RacedWith}
use Rattle.race_run.specs.Racing.{AreAsked}
use Rattle.race_run.proofs.RacerLemmas.{has_none, raced_by, racer_may}
use Rattle.race_run.proofs.racers.race_with.Goals as goal

pub play_lines-requires-clause-may : goal.play_lines-requires-clause-may
play_lines-requires-clause-may g c =
    let p = c.args.turn.now.pass in
    let e = c.new-turns.ensures in
    racer_may p (λ s. s.complex) g.J.Beginning.began c.args.member.now c.args.course.now.lines.now c.requires.may _ _ _ _ e.finds
    (ap (λ (k : PassPlace). k.member) e.place) (ap (λ (k : PassPlace). k.cares) e.place) e.bound e.memory

pub play_lines-requires-clause-asked : goal.play_lines-requires-clause-asked
play_lines-requires-clause-asked g c =
    let by = c.args.member.now.id in
    subst (λ (b : Queue). AreAsked b by (lines_of by 1 c.args.course.now.lines.now)) (ap (λ (y : Memory). y.base) (sym (c.new-turns.ensures.memory false))) c.requires.may.asked

-- the pass is as the last turn left it
pub returns-clause-own : goal.returns-clause-own
returns-clause-own g c =
    let place = c.play_lines.ensures.place ∙ c.new-turns.ensures.place in
    let back = c.turn-1.given.1 (ap (λ (k : PassPlace). k.name) (sym place)) in
    ap (λ t. t.pass.seat.table_id) back ∙ ap (λ (k : PassPlace). k.gate) place ∙ c.requires.own

pub returns-clause-raced : goal.returns-clause-raced
returns-clause-raced g c =
    let place = c.play_lines.ensures.place ∙ c.new-turns.ensures.place in
    let back = c.turn-1.given.1 (ap (λ (k : PassPlace). k.name) (sym place)) in
    let t = c.play_lines.new.turns.turn.now in
    let e = c.play_lines.ensures in
    let v = view c.args.turn.now.pass in
    subst (λ u. RacedWith g.P.Plant.tells g.J.Beginning.began.view v (view u.pass) c.args.member.now.id c.args.course.now.lines.now c.play_lines.result) (sym back)
    (raced_by g.P.Plant.tells g.J.Beginning.began.view v (view t.pass) c.args.member.now.id c.args.course.now.lines.now c.play_lines.result _ _ c.new-turns.ensures.memory (λ told. refl)
    (has_none (view t.pass).has t.value t.out e.free) (ap (λ (k : PassPlace). k.member) place) (ap (λ (k : PassPlace). k.cares) place) e.base e.caused e.raced)

use Rattle.std.proofs.Common.{sym, subst}
use Rattle.member_gate.specs.Passes.{IsPassOf}
use Rattle.race_run.specs.Racers.{MayRaceWithin}
use Rattle.race_run.proofs.RacerLemmas.{raced_pass}
use Rattle.race_run.proofs.racers.race_one.Goals as goal

pub race_with-answer-requires-clause-own : goal.race_with-answer-requires-clause-own
race_with-answer-requires-clause-own g c = subst (λ p. IsPassOf c.args.gate.now p) (sym c.new-turn.ensures.pass) c.requires.own

pub race_with-answer-requires-clause-may : goal.race_with-answer-requires-clause-may
race_with-answer-requires-clause-may g c =
    subst (λ p. MayRaceWithin p (λ s. s.complex) g.J.Beginning.began c.args.member c.args.course.now.lines.now) (sym c.new-turn.ensures.pass) c.requires.may

pub returns-clause-own : goal.returns-clause-own
returns-clause-own g c = subst (λ p. IsPassOf c.args.gate.now p) (sym c.into_pass.ensures) c.race_with-answer.ensures.own

pub returns-clause-raced : goal.returns-clause-raced
returns-clause-raced g c =
    raced_pass g.P.Plant.tells g.J.Beginning.began.view c.args.member.id c.args.course.now.lines.now c.race_with-answer.result c.args.pass c.new-turn.result.pass c.race_with-answer.new.turn.pass c.into_pass.result
    c.new-turn.ensures.pass c.into_pass.ensures c.race_with-answer.ensures.raced

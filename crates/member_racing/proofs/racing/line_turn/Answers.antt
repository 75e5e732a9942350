use Rattle.std.proofs.Common.{◌∙◌, ap}
use Rattle.mas_complex.specs.Parts.{parts_of}
use Rattle.member_racing.proofs.Adding.{adds_by, end_base}
use Rattle.member_racing.proofs.BackTurn.{back}
use Rattle.member_racing.proofs.NextTurn.{next}
use Rattle.member_racing.proofs.RestEnd.{rest_end}
use Rattle.member_racing.proofs.StandsTurn.{stands}
use Rattle.member_racing.proofs.TurnFacts.{said_own, takes_turn, unclosed}
use Rattle.member_racing.proofs.TurnParts.{adds_end, costs_end, may_end}
use Rattle.member_racing.proofs.racing.line_turn.Goals as goal

pub end_turn-requires : goal.end_turn-requires
end_turn-requires g c =
    may_end c.args.complex.now c.try_turn-tried.new.complex c.args.member.now c.try_turn-tried.new.member c.args.step c.args.asked.now c.args.stage c.try_turn-tried.result c.requires.rest c.requires.waits c.try_turn-tried.ensures.tries

pub returns-clause-base : goal.returns-clause-base
returns-clause-base g c = (end_base c.args.member.now.id c.args.step c.try_turn-tried.new.complex c.end_turn.new.complex c.try_turn-tried.result c.end_turn.result c.end_turn.ensures).base ∙ ap (λ p. p.base) c.try_turn-tried.ensures.frame

pub returns-clause-since : goal.returns-clause-since
returns-clause-since g c = (end_base c.args.member.now.id c.args.step c.try_turn-tried.new.complex c.end_turn.new.complex c.try_turn-tried.result c.end_turn.result c.end_turn.ensures).since ∙ ap (λ p. p.since) c.try_turn-tried.ensures.frame

-- WHAT IT ADDS, and costs

pub returns-clause-adds : goal.returns-clause-adds
returns-clause-adds g c =
    adds_by _ c.args.member.now.id (λ b is. is.0) (parts_of c.args.complex.now) (parts_of c.end_turn.new.complex)
    (adds_end c.args.complex.now c.try_turn-tried.new.complex c.args.member.now c.try_turn-tried.new.member c.args.step c.args.asked.now c.args.stage c.try_turn-tried.result c.requires.rest c.requires.waits c.try_turn-tried.ensures.tries
    c.end_turn.new.complex c.end_turn.result c.end_turn.ensures)

pub returns-clause-costs : goal.returns-clause-costs
returns-clause-costs g c =
    costs_end c.args.complex.now c.try_turn-tried.new.complex c.args.member.now c.try_turn-tried.new.member c.args.step c.args.asked.now c.args.stage c.try_turn-tried.result c.requires.rest c.requires.waits c.try_turn-tried.ensures.tries
    c.end_turn.new.complex c.end_turn.result c.end_turn.ensures c.try_turn-tried.ensures.frame

-- WHAT IT LEAVES

pub returns-clause-rest : goal.returns-clause-rest
returns-clause-rest g c =
    rest_end c.args.complex.now c.try_turn-tried.new.complex c.args.member.now c.try_turn-tried.new.member c.args.step c.args.asked.now c.args.stage c.try_turn-tried.result c.requires.rest c.requires.waits c.try_turn-tried.ensures.tries c.try_turn-tried.ensures.id c.try_turn-tried.ensures.frame
    c.end_turn.new.complex c.end_turn.result c.end_turn.ensures

pub returns-clause-back : goal.returns-clause-back
returns-clause-back g c =
    back c.args.complex.now c.try_turn-tried.new.complex c.args.member.now c.try_turn-tried.new.member c.args.step c.args.asked.now c.args.stage c.try_turn-tried.result c.requires.rest c.requires.waits c.try_turn-tried.ensures.tries
    c.end_turn.new.complex c.end_turn.result c.end_turn.ensures c.try_turn-tried.ensures.frame
    (said_own c.args.complex.now c.try_turn-tried.new.complex c.args.member.now c.try_turn-tried.new.member c.args.step c.args.asked.now c.args.stage c.try_turn-tried.result c.requires.rest c.requires.waits c.try_turn-tried.ensures.tries
    c.try_turn-tried.ensures.frame c.end_turn.new.complex c.end_turn.result c.end_turn.ensures)

-- WHAT THE VALUE SHOWS its member

pub returns-clause-turn : goal.returns-clause-turn
returns-clause-turn g c =
    takes_turn c.args.complex.now c.try_turn-tried.new.complex c.args.member.now c.try_turn-tried.new.member c.args.step c.args.asked.now c.args.stage c.try_turn-tried.result c.requires.rest c.requires.waits c.try_turn-tried.ensures.tries
    c.try_turn-tried.ensures.frame c.end_turn.new.complex c.end_turn.result c.end_turn.ensures

-- ITS NEXT TURN

pub returns-clause-next : goal.returns-clause-next
returns-clause-next g c =
    next c.args.complex.now c.try_turn-tried.new.complex c.args.member.now c.try_turn-tried.new.member c.args.step c.args.asked.now c.args.stage c.try_turn-tried.result c.requires.rest c.requires.waits c.try_turn-tried.ensures.tries
    c.end_turn.new.complex c.end_turn.result c.end_turn.ensures c.try_turn-tried.ensures.frame c.try_turn-tried.ensures.id c.try_turn-tried.ensures.ease
    (said_own c.args.complex.now c.try_turn-tried.new.complex c.args.member.now c.try_turn-tried.new.member c.args.step c.args.asked.now c.args.stage c.try_turn-tried.result c.requires.rest c.requires.waits c.try_turn-tried.ensures.tries
    c.try_turn-tried.ensures.frame c.end_turn.new.complex c.end_turn.result c.end_turn.ensures)
    (unclosed c.args.complex.now c.try_turn-tried.new.complex c.args.member.now c.try_turn-tried.new.member c.args.step c.args.asked.now c.args.stage c.try_turn-tried.result c.requires.rest c.requires.waits c.try_turn-tried.ensures.tries
    c.try_turn-tried.ensures.frame c.end_turn.new.complex c.end_turn.result c.end_turn.ensures)
    (stands c.args.complex.now c.try_turn-tried.new.complex c.args.member.now c.try_turn-tried.new.member c.args.step c.args.asked.now c.args.stage c.try_turn-tried.result c.requires.rest c.requires.waits c.try_turn-tried.ensures.tries
    c.try_turn-tried.ensures.frame c.try_turn-tried.ensures.id c.try_turn-tried.ensures.acting c.end_turn.new.complex c.end_turn.result c.end_turn.ensures)

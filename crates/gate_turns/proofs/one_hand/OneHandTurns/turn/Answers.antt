use Rattle.std.proofs.Common.{true, false}
use Rattle.gate_turns.specs.Shared.{facts_of}
use Rattle.gate_turns.proofs.Itself.{knows_itself}
use Rattle.gate_turns.proofs.one_hand.OneHandTurns.turn.Goals as goal

pub returns-clause-known : goal.returns-clause-known
returns-clause-known g c =
    let shown = g.V.Telling.shown c.args.self.now.value.now in
    record { bare = λ m serves. knows_itself m (facts_of false shown); told = λ tells m serves. knows_itself m (facts_of true shown) }

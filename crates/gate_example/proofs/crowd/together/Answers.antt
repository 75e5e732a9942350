use Rattle.std.proofs.Common.{arith}
use Rattle.member_gate.specs.Passes.{view}
use Rattle.gate_example.proofs.Joined.{stand_in_order}
use Rattle.gate_example.proofs.crowd.together.Goals as goal

pub returns : goal.returns
returns g c = stand_in_order (view c.spread-root.result) c.close.result.entries c.args.members c.args.steps.now (omega arith) c.close.ensures.value.bare.0 c.spread-root.ensures.written

use Rattle.mas_complex.proofs.Answering.{left_armed}
use Rattle.mas_complex.proofs.complex.Complex.arm.Goals as goal

pub invariant_of-self : goal.invariant_of-self
invariant_of-self g c = left_armed c.args.self.now c.args.member.0 (g.P.Plant.view c.arm.new.self) c.arm.ensures

use Rattle.mas_complex.proofs.Answering.{inr, refl, spends, booked}
use Rattle.mas_complex.proofs.complex.Complex.spend.Goals as goal

pub invariant_of-self : goal.invariant_of-self
invariant_of-self g c = booked c.args.self.now _ c.args.self.now.reserved c.spend.ensures (spends _ c.args.by _ c.requires c.args.self.now.owned c.args.commands) (inr refl)

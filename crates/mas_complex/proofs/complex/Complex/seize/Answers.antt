use Rattle.mas_complex.proofs.Answering.{inr, refl, seizes, booked}
use Rattle.mas_complex.proofs.complex.Complex.seize.Goals as goal

pub invariant_of-self : goal.invariant_of-self
invariant_of-self g c = booked c.args.self.now _ c.args.self.now.reserved c.seize.ensures.book (seizes _ c.args.by _ c.requires.by c.args.self.now.owned c.args.of) (inr refl)

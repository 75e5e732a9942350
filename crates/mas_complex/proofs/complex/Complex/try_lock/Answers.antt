use Rattle.mas_complex.proofs.Answering.{inr, refl, tries, booked}
use Rattle.mas_complex.proofs.complex.Complex.try_lock.Goals as goal

pub invariant_of-self : goal.invariant_of-self
invariant_of-self g c = booked c.args.self.now _ c.args.self.now.reserved c.try_lock.ensures.book (tries _ c.args.by _ c.requires.member c.args.self.now.owned c.args.inner (λ free. (c.requires.away free).1)) (inr refl)

use Rattle.mas_complex.proofs.Answering.{left_after_free, frees, booked}
use Rattle.mas_complex.proofs.complex.Complex.free.Goals as goal

pub invariant_of-self : goal.invariant_of-self
invariant_of-self g c =
    let e = c.give_up_after_free.ensures in
    booked c.args.self.now _ c.give_up_after_free.new.reserved e.book (frees _ c.args.by _ c.requires.member c.args.self.now.owned c.args.inner c.requires.none) (left_after_free c.give_up_after_free.result _ _ e.reserved e.err_reserved)

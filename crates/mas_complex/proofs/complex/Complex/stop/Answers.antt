use Rattle.mas_complex.proofs.Answering.{left_after_stop, stops, booked}
use Rattle.mas_complex.proofs.complex.Complex.stop.Goals as goal

pub invariant_of-self : goal.invariant_of-self
invariant_of-self g c =
    let e = c.give_up_after_stop.ensures in
    booked c.args.self.now _ c.give_up_after_stop.new.reserved e.book (stops _ c.args.by _ c.requires c.args.self.now.owned) (left_after_stop c.args.by _ _ e.reserved)

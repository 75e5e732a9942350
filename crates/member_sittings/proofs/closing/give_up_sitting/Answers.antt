use Rattle.member_sittings.proofs.Names.{parts_of}
use Rattle.member_sittings.proofs.KeepLemmas.{sat_frame}
use Rattle.member_sittings.proofs.SeatLemmas.{own_batch}
use Rattle.member_sittings.proofs.closing.give_up_sitting.Goals as goal

pub give_up-requires-clause-by : goal.give_up-requires-clause-by
give_up-requires-clause-by g c = c.requires.gives.still.holds.few

pub give_up-requires-clause-own : goal.give_up-requires-clause-own
give_up-requires-clause-own g c =
    let m = c.args.member.now in
    own_batch m.id c.args.holder.step m.batch c.requires.gives.of

pub give_up-requires-clause-untold : goal.give_up-requires-clause-untold
give_up-requires-clause-untold g c told = c.requires.gives.untold told c.args.member.now.batch c.requires.gives.of

pub returns : goal.returns
returns g c =
    let e = c.give_up.ensures in
    record {
      frame = sat_frame (parts_of c.args.complex.now) (parts_of c.give_up.new.complex) e.book e.base e.since e.renewals;
      id = e.id;
      cut = rw c.requires.holder (record { acts = record { on = e.acts; notes = e.notes }; counts = e.counts; leaves = e.leaves });
    }

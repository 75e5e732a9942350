use Rattle.std.proofs.Common.{◌+◌, ◌*◌, ℕ, length, arith}
use Rattle.mas_complex.specs.Parts.{parts_of}
use Rattle.step_turns.specs.declared.states.State.TheVariants.{Told}
use Rattle.member_frames.proofs.Answered.{fewer_told}
use Rattle.member_frames.proofs.Getting.{lost_sat}
use Rattle.member_frames.proofs.SatLemmas.{waits_left}
use Rattle.member_frames.proofs.arrivals.sit_arrival.Goals as goal

pub get_arrival-requires-clause-spooled : goal.get_arrival-requires-clause-spooled
get_arrival-requires-clause-spooled g c = rw c.in-None.is at c.requires.spooled

pub returns-in-None-clause-sat : goal.returns-in-None-clause-sat
returns-in-None-clause-sat g c = rw c.in-None.is c.get_arrival.ensures.sat

pub returns-in-Some-clause-sat : goal.returns-in-Some-clause-sat
returns-in-Some-clause-sat g c =
    let d = c.args.stored in
    rw c.in-Some.is (lost_sat g.P.Plant (parts_of c.args.complex.now) (parts_of c.sit_spooled.new.complex) c.args.holder d.number d.job d.text c.args.service _ c.sit_spooled.result (rw c.in-Some.is at c.sit_spooled.ensures.sat))

pub returns-in-Some-clause-waits : goal.returns-in-Some-clause-waits
returns-in-Some-clause-waits g c = waits_left g.P.Plant.tells c.sit_spooled.new.member c.sit_spooled.result Told tt c.sit_spooled.ensures.goes

pub returns-in-Some-clause-fewer : goal.returns-in-Some-clause-fewer
returns-in-Some-clause-fewer g c = let n : ℕ = length c.args.service.frames in fewer_told (2 * n + 2) (2 * n + 1) c.sit_spooled.result (omega arith) c.sit_spooled.ensures.goes

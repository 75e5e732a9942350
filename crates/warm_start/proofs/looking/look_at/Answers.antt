use Rattle.duplex_pair.specs.Halves.{pick}
use Rattle.warm_start.proofs.Seeing.{acted_by_operator, looked_seen}
use Rattle.warm_start.proofs.looking.look_at.Goals as goal

pub returns-in_default-clause-acted : goal.returns-in_default-clause-acted
returns-in_default-clause-acted g c = acted_by_operator _ _ _ _ _ _ c.look.ensures.acted c.requires.alive

pub returns-in_default-clause-gone : goal.returns-in_default-clause-gone
returns-in_default-clause-gone g c told = λ was. c.look.ensures.gone told c.requires.alive

pub returns-clause-acted : goal.returns-clause-acted
returns-clause-acted g c = acted_by_operator _ _ _ _ _ _ c.look.ensures.acted c.requires.alive

pub returns-clause-gone : goal.returns-clause-gone
returns-clause-gone g c told = λ was. c.look.ensures.gone told c.requires.alive

pub returns-clause-seen : goal.returns-clause-seen
returns-clause-seen g c =
    let C = g.C.Copying in
    let dev = c.args.dev in
    let v = g.P.Plant.view c.look.new.plant in
    let was = pick dev c.args.pair.now.first c.args.pair.now.second in
    let one = pick dev c.look.new.self.first c.look.new.self.second in
    looked_seen C.count C.room C.room_most C.ready C.reads C.rests g.P.Plant.tells dev v was.copy one.copy one.alive one.found c.in-Ok.look c.in-Ok.ensures.seen c.in-Ok.ensures.level c.sized.ensures

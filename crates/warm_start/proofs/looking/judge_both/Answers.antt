use Rattle.mas_types.specs.declared.ids.Dev.TheVariants.{Ckpt1, Ckpt2}
use Rattle.spool_plant.specs.View.{disk_now}
use Rattle.warm_start.proofs.Seeing.{judged_looked, judged_room}
use Rattle.start_choice.proofs.ChoiceLemmas.{some_judged}
use Rattle.warm_start.proofs.looking.judge_both.Goals as goal

pub judge_beside-requires : goal.judge_beside-requires
judge_beside-requires g c = some_judged _ c.in_ok-first_judged.first_judged c.in_ok-first_judged.ensures.judged c.in_ok-first_judged.ensures.few

pub returns-clause-first : goal.returns-clause-first
returns-clause-first g c =
    let C = g.C.Copying in
    let v = g.P.Plant.view c.look_at_both.new.plant in
    let a = c.look_at_both.new.pair.first in
    judged_looked C.count C.room C.room_most C.ready C.reads C.rests g.P.Plant.tells Ckpt1 v a.copy a.alive a.found _ c.in_ok-first_judged.first_judged c.in_ok-first.ensures.first c.in_ok-first_judged.ensures.judged

pub returns-clause-second : goal.returns-clause-second
returns-clause-second g c =
    let C = g.C.Copying in
    let v = g.P.Plant.view c.look_at_both.new.plant in
    let b = c.look_at_both.new.pair.second in
    judged_looked C.count C.room C.room_most C.ready C.reads C.rests g.P.Plant.tells Ckpt2 v b.copy b.alive b.found _ c.in_ok-second_judged.second_judged c.in_ok-first.ensures.second c.in_ok-second_judged.ensures.judged

pub returns-clause-room1 : goal.returns-clause-room1
returns-clause-room1 g c told =
    let C = g.C.Copying in
    let v = g.P.Plant.view c.look_at_both.new.plant in
    judged_room C.count C.room C.room_most C.ready C.reads C.rests g.P.Plant.tells C.room_in c.look_at_both.new.pair.first.copy _ c.in_ok-first_judged.first_judged (disk_now v Ckpt1).bytes (c.in_ok-first.ensures.room1 told) c.in_ok-first_judged.ensures.judged

pub returns-clause-room2 : goal.returns-clause-room2
returns-clause-room2 g c told =
    let C = g.C.Copying in
    let v = g.P.Plant.view c.look_at_both.new.plant in
    judged_room C.count C.room C.room_most C.ready C.reads C.rests g.P.Plant.tells C.room_in c.look_at_both.new.pair.second.copy _ c.in_ok-second_judged.second_judged (disk_now v Ckpt2).bytes (c.in_ok-first.ensures.room2 told) c.in_ok-second_judged.ensures.judged

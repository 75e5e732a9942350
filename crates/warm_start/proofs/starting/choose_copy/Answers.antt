use Rattle.std.proofs.Common.{ℕ, List, Result, IfOk, IfErr, sym, subst}
use Rattle.mas_types.specs.declared.ids.Dev.TheVariants.{Ckpt1, Ckpt2}
use Rattle.spool_plant.specs.View.{disk_now}
use Rattle.ckpt_copy.specs.Changes.{NoMore}
use Rattle.start_choice.specs.declared.choosing.Start.{Start}
use Rattle.start_choice.specs.declared.choosing.StartNo.{StartNo}
use Rattle.start_choice.specs.Choosing.{IsFew}
use Rattle.warm_start.specs.Inspecting.{FindsNone}
use Rattle.warm_start.specs.Judging.{HasRoomBy}
use Rattle.warm_start.specs.Starting.{Starts, IsCauseOf}
use Rattle.warm_start.proofs.Seeing.{seeing, judged_there}
use Rattle.warm_start.proofs.Finding.{Chose, chosen_found, chosen_none, chosen_nothing, chosen_few}
use Rattle.warm_start.proofs.Inspections.{gone_first, gone_second, on_ok}
use Rattle.warm_start.proofs.Starts.{starts_looked, first_now, second_now}
use Rattle.warm_start.proofs.starting.choose_copy.Goals as goal

pub returns-clause-chosen : goal.returns-clause-chosen
returns-clause-chosen g c =
    let C = g.C.Copying in
    let old = g.P.Plant.view c.args.plant.now in
    let v = g.P.Plant.view c.judge_both.new.plant in
    let a = c.judge_both.new.pair.first in
    let b = c.judge_both.new.pair.second in
    let e = c.in-Ok.ensures in
    subst (λ (r : Result Start StartNo). IfOk r (Chose C.count C.room C.room_most C.room_in C.ready C.reads C.rests g.P.Plant.tells old v a.copy b.copy a.alive b.alive a.found b.found)) (sym c.choose.ensures)
    (rw (c.room-first_room.ensures, c.room-second_room.ensures)
    (chosen_found C.count C.room C.room_most C.room_in C.ready C.reads C.rests g.P.Plant.tells old v a.copy b.copy a.alive b.alive a.found b.found
    (λ pages d r. g.met.C.Copying.rests_now a.copy pages d r) (λ pages d r. g.met.C.Copying.rests_now b.copy pages d r) c.in-Ok.first c.in-Ok.second e.first e.second
    (λ told. seeing C.count C.room C.room_most C.ready C.reads C.rests g.P.Plant.tells Ckpt1 old v a.copy a.alive a.found (λ pages d r. g.met.C.Copying.rests_now a.copy pages d r) (gone_first a.alive b.alive old v e.acted (c.judge_both.ensures.gone1 told)) e.acted.goes told
    (first_now (NoMore (disk_now old Ckpt1)) (NoMore (disk_now old Ckpt2)) old v (e.during told)).bytes c.in-Ok.first e.first)
    (λ told. seeing C.count C.room C.room_most C.ready C.reads C.rests g.P.Plant.tells Ckpt2 old v b.copy b.alive b.found (λ pages d r. g.met.C.Copying.rests_now b.copy pages d r) (gone_second a.alive b.alive old v e.acted (c.judge_both.ensures.gone2 told)) e.acted.goes told
    (second_now (NoMore (disk_now old Ckpt1)) (NoMore (disk_now old Ckpt2)) old v (e.during told)).bytes c.in-Ok.second e.second)
    (λ told. subst (λ (l : List ℕ). HasRoomBy C.room C.room_in a.copy c.in-Ok.first l) (first_now (NoMore (disk_now old Ckpt1)) (NoMore (disk_now old Ckpt2)) old v (e.during told)).bytes (e.room1 told))
    (λ told. subst (λ (l : List ℕ). HasRoomBy C.room C.room_in b.copy c.in-Ok.second l) (second_now (NoMore (disk_now old Ckpt1)) (NoMore (disk_now old Ckpt2)) old v (e.during told)).bytes (e.room2 told))))

pub returns-clause-few : goal.returns-clause-few
returns-clause-few g c = subst (λ (r : Result Start StartNo). IfOk r (λ start. IsFew start.found)) (sym c.choose.ensures) (chosen_few c.in-Ok.first c.in-Ok.second c.room-first_room.result c.room-second_room.result c.in-Ok.ensures.few1 c.in-Ok.ensures.few2)

pub returns-clause-cause : goal.returns-clause-cause
returns-clause-cause g c =
    let C = g.C.Copying in
    let old = g.P.Plant.view c.args.plant.now in
    let v = g.P.Plant.view c.judge_both.new.plant in
    let a = c.judge_both.new.pair.first in
    let b = c.judge_both.new.pair.second in
    let e = c.in-Ok.ensures in
    subst (λ (r : Result Start StartNo). IfErr r (IsCauseOf C.reads g.P.Plant.tells C.needs old v a.alive b.alive)) (sym c.choose.ensures)
    (rw (c.room-first_room.ensures, c.room-second_room.ensures)
    (chosen_none C.count C.room C.room_most C.room_in C.ready C.reads C.rests g.P.Plant.tells old v a.copy b.copy a.alive b.alive a.found b.found
    (λ pages d r. g.met.C.Copying.rests_now a.copy pages d r) (λ pages d r. g.met.C.Copying.rests_now b.copy pages d r) C.needs c.in-Ok.first c.in-Ok.second e.first e.second))

pub returns-clause-none : goal.returns-clause-none
returns-clause-none g c =
    let C = g.C.Copying in
    let old = g.P.Plant.view c.args.plant.now in
    let v = g.P.Plant.view c.judge_both.new.plant in
    let a = c.judge_both.new.pair.first in
    let b = c.judge_both.new.pair.second in
    let e = c.in-Ok.ensures in
    subst (λ (r : Result Start StartNo). IfErr r (FindsNone C.reads g.P.Plant.tells C.needs old v)) (sym c.choose.ensures)
    (rw (c.room-first_room.ensures, c.room-second_room.ensures)
    (chosen_nothing C.count C.room C.room_most C.room_in C.ready C.reads C.rests g.P.Plant.tells old v a.copy b.copy a.alive b.alive a.found b.found
    (λ pages d r. g.met.C.Copying.rests_now a.copy pages d r) (λ pages d r. g.met.C.Copying.rests_now b.copy pages d r) C.needs c.in-Ok.first c.in-Ok.second e.first e.second e.acted))

pub returns-clause-starts : goal.returns-clause-starts
returns-clause-starts g c =
    let C = g.C.Copying in
    let old = g.P.Plant.view c.args.plant.now in
    let v = g.P.Plant.view c.judge_both.new.plant in
    let a = c.judge_both.new.pair.first in
    let b = c.judge_both.new.pair.second in
    let e = c.in-Ok.ensures in
    on_ok (Starts a.alive b.alive old v) c.choose.result
    (starts_looked old v a.alive b.alive e.acted
    (judged_there C.count C.room C.room_most C.ready C.reads C.rests g.P.Plant.tells Ckpt1 v a.copy a.alive a.found c.in-Ok.first e.first)
    (judged_there C.count C.room C.room_most C.ready C.reads C.rests g.P.Plant.tells Ckpt2 v b.copy b.alive b.found c.in-Ok.second e.second))

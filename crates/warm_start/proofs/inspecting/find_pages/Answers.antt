use Rattle.std.proofs.Common.{List, Result, IfOk, IfErr, sym, subst}
use Rattle.mas_types.specs.declared.ids.Dev.TheVariants.{Ckpt1, Ckpt2}
use Rattle.mas_types.specs.declared.ids.Page.{Page}
use Rattle.spool_plant.specs.View.{disk_now}
use Rattle.ckpt_copy.specs.Changes.{NoMore}
use Rattle.start_choice.specs.declared.choosing.StartNo.{StartNo}
use Rattle.warm_start.specs.Inspecting.{HasLooked, SeesNone}
use Rattle.warm_start.proofs.Seeing.{is_seen}
use Rattle.warm_start.proofs.Starts.{first_now, second_now}
use Rattle.warm_start.proofs.Inspections.{gone_first, gone_second, looks_of, pages_looked, none_looked}
use Rattle.warm_start.proofs.inspecting.find_pages.Goals as goal

pub returns-in_default-clause-looks : goal.returns-in_default-clause-looks
returns-in_default-clause-looks g c =
    looks_of g.P.Plant.tells c.look_at_both.new.pair.first.alive c.look_at_both.new.pair.second.alive (g.P.Plant.view c.args.plant.now) (g.P.Plant.view c.look_at_both.new.plant) c.look_at_both.ensures.acted c.look_at_both.ensures.during

pub returns-clause-looks : goal.returns-clause-looks
returns-clause-looks g c =
    looks_of g.P.Plant.tells c.look_at_both.new.pair.first.alive c.look_at_both.new.pair.second.alive (g.P.Plant.view c.args.plant.now) (g.P.Plant.view c.look_at_both.new.plant) c.look_at_both.ensures.acted c.look_at_both.ensures.during

pub returns-clause-pages : goal.returns-clause-pages
returns-clause-pages g c =
    let C = g.C.Copying in
    let old = g.P.Plant.view c.args.plant.now in
    let v = g.P.Plant.view c.look_at_both.new.plant in
    let a = c.look_at_both.new.pair.first in
    let b = c.look_at_both.new.pair.second in
    let e = c.in-Ok.ensures in
    subst (λ (r : Result (List Page) StartNo). IfOk r (HasLooked C.reads g.P.Plant.tells old v)) (sym c.greatest.ensures)
    (pages_looked C.count C.room C.room_most C.ready C.reads C.rests g.P.Plant.tells old v a.copy b.copy a.alive b.alive a.found b.found c.in-Ok.first c.in-Ok.second e.first e.second
    (λ told. is_seen C.count C.room C.room_most C.ready C.reads C.rests g.P.Plant.tells Ckpt1 old v a.copy a.alive a.found (λ pages d r. g.met.C.Copying.rests_now a.copy pages d r) (gone_first a.alive b.alive old v e.acted (c.look_at_both.ensures.gone1 told)) e.acted.goes told
    (first_now (NoMore (disk_now old Ckpt1)) (NoMore (disk_now old Ckpt2)) old v (e.during told)).bytes c.in-Ok.first e.first)
    (λ told. is_seen C.count C.room C.room_most C.ready C.reads C.rests g.P.Plant.tells Ckpt2 old v b.copy b.alive b.found (λ pages d r. g.met.C.Copying.rests_now b.copy pages d r) (gone_second a.alive b.alive old v e.acted (c.look_at_both.ensures.gone2 told)) e.acted.goes told
    (second_now (NoMore (disk_now old Ckpt1)) (NoMore (disk_now old Ckpt2)) old v (e.during told)).bytes c.in-Ok.second e.second))

pub returns-clause-none : goal.returns-clause-none
returns-clause-none g c =
    let C = g.C.Copying in
    let old = g.P.Plant.view c.args.plant.now in
    let v = g.P.Plant.view c.look_at_both.new.plant in
    let a = c.look_at_both.new.pair.first in
    let b = c.look_at_both.new.pair.second in
    let e = c.in-Ok.ensures in
    subst (λ (r : Result (List Page) StartNo). IfErr r (SeesNone C.reads g.P.Plant.tells old v)) (sym c.greatest.ensures)
    (none_looked C.count C.room C.room_most C.ready C.reads C.rests g.P.Plant.tells old v a.copy b.copy a.alive b.alive a.found b.found c.in-Ok.first c.in-Ok.second e.first e.second e.acted)

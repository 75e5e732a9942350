use Rattle.std.proofs.Common.{◌≡◌, ◌≤◌, ℕ, length, subst, rules}
use Rattle.std.proofs.lemmas.Result.{err_from_is_err_and}
use Rattle.mas_types.specs.declared.ids.Dev.TheVariants.{Ckpt1, Ckpt2}
use Rattle.warm_start.proofs.Inspections.{looks_of, queue_found, too_small}
use Rattle.warm_start.proofs.inspecting.find_queue.Goals as goal

pub returns-in_err-start-clause-none : goal.returns-in_err-start-clause-none
returns-in_err-start-clause-none g c =
    let p = err_from_is_err_and c.from_residual.result c.from_residual.ensures.1 in
    rw (p.1, p.2) c.in_err-start.ensures.none

pub returns-in_err-start-clause-looks : goal.returns-in_err-start-clause-looks
returns-in_err-start-clause-looks g c =
    looks_of g.P.Plant.tells c.choose_copy.new.pair.first.alive c.choose_copy.new.pair.second.alive (g.P.Plant.view c.args.plant.now) (g.P.Plant.view c.choose_copy.new.plant) c.choose_copy.ensures.acted c.choose_copy.ensures.during

pub returns-in_err-refuse_small-clause-none : goal.returns-in_err-refuse_small-clause-none
returns-in_err-refuse_small-clause-none g c =
    let C = g.C.Copying in
    let old = g.P.Plant.view c.args.plant.now in
    let v = g.P.Plant.view c.choose_copy.new.plant in
    let a = c.choose_copy.new.pair.first in
    let b = c.choose_copy.new.pair.second in
    let start = c.in_ok-start.start in
    let is : c.size_for-needed.result ≡ C.needs (length start.found.pages) = search rules in
    let p = err_from_is_err_and c.from_residual-in_err-refuse_small.result c.from_residual-in_err-refuse_small.ensures.1 in
    rw (p.1, p.2)
    (too_small C.count C.room C.room_most C.ready C.reads C.rests g.P.Plant.tells old v a.copy b.copy a.alive b.alive a.found b.found C.room_in C.needs start c.size_for-needed.result c.in_ok-start.ensures.chosen is _ c.in_err-refuse_small.ensures.small)

pub returns-in_err-refuse_small-clause-looks : goal.returns-in_err-refuse_small-clause-looks
returns-in_err-refuse_small-clause-looks g c =
    looks_of g.P.Plant.tells c.choose_copy.new.pair.first.alive c.choose_copy.new.pair.second.alive (g.P.Plant.view c.args.plant.now) (g.P.Plant.view c.choose_copy.new.plant) c.choose_copy.ensures.acted c.choose_copy.ensures.during

pub returns-in_default-clause-looks : goal.returns-in_default-clause-looks
returns-in_default-clause-looks g c =
    looks_of g.P.Plant.tells c.choose_copy.new.pair.first.alive c.choose_copy.new.pair.second.alive (g.P.Plant.view c.args.plant.now) (g.P.Plant.view c.choose_copy.new.plant) c.choose_copy.ensures.acted c.choose_copy.ensures.during

pub returns-clause-queue : goal.returns-clause-queue
returns-clause-queue g c =
    let C = g.C.Copying in
    let old = g.P.Plant.view c.args.plant.now in
    let v = g.P.Plant.view c.choose_copy.new.plant in
    let a = c.choose_copy.new.pair.first in
    let b = c.choose_copy.new.pair.second in
    let start = c.in_ok-start.start in
    let is : c.size_for-needed.result ≡ C.needs (length start.found.pages) = search rules in
    let large = c.in_ok-refuse_small.ensures.large in
    queue_found C.count C.room C.room_most C.ready C.reads C.rests g.P.Plant.tells old v a.copy b.copy a.alive b.alive a.found b.found C.room_in C.needs start c.in-Ok.queue c.in_ok-start.ensures.chosen c.in-Ok.ensures
    (subst (λ (n : ℕ). n ≤ v.size Ckpt1) is large.0) (subst (λ (n : ℕ). n ≤ v.size Ckpt2) is large.1) c.in_ok-refuse_small.ensures.roomy

pub returns-clause-looks : goal.returns-clause-looks
returns-clause-looks g c =
    looks_of g.P.Plant.tells c.choose_copy.new.pair.first.alive c.choose_copy.new.pair.second.alive (g.P.Plant.view c.args.plant.now) (g.P.Plant.view c.choose_copy.new.plant) c.choose_copy.ensures.acted c.choose_copy.ensures.during

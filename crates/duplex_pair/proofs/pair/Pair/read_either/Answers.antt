use Rattle.std.proofs.Common.{refl, ap}
use Rattle.mas_types.specs.declared.ids.Dev.TheVariants.{Ckpt1, Ckpt2}
use Rattle.spool_plant.specs.View.{disk_now}
use Rattle.ckpt_copy.specs.Changes.{NoMore}
use Rattle.duplex_pair.proofs.ActCounting.{read_first, read_second}
use Rattle.duplex_pair.proofs.Composing.{both_calls, both_first, no_more_start}
use Rattle.duplex_pair.proofs.pair.Pair.read_either.Goals as goal

pub returns-in_err-read_page-clause-during : goal.returns-in_err-read_page-clause-during
returns-in_err-read_page-clause-during g c told =
    let s = c.args.self.now in
    let old = g.P.Plant.view c.args.plant.now in
    both_first (NoMore (disk_now old Ckpt1)) (NoMore (disk_now old Ckpt2)) Ckpt1 old (g.P.Plant.view c.read_page.new.plant) refl (rw s.first_dev at (c.read_page.ensures.during told)) (no_more_start (disk_now old Ckpt2))

pub returns-in_err-read_page-2-clause-during : goal.returns-in_err-read_page-2-clause-during
returns-in_err-read_page-2-clause-during g c told =
    let s = c.args.self.now in
    let old = g.P.Plant.view c.args.plant.now in
    both_calls (NoMore (disk_now old Ckpt1)) NoMore Ckpt1 (g.C.Copying.dev s.second.copy) old (g.P.Plant.view c.read_page.new.plant) (g.P.Plant.view c.read_page-2.new.plant) refl s.second_dev (rw s.first_dev at (c.read_page.ensures.during told)) (c.read_page-2.ensures.during told)

pub returns-clause-during : goal.returns-clause-during
returns-clause-during g c told =
    let s = c.args.self.now in
    let old = g.P.Plant.view c.args.plant.now in
    both_calls (NoMore (disk_now old Ckpt1)) NoMore Ckpt1 (g.C.Copying.dev s.second.copy) old (g.P.Plant.view c.read_page.new.plant) (g.P.Plant.view c.read_page-2.new.plant) refl s.second_dev (rw s.first_dev at (c.read_page.ensures.during told)) (c.read_page-2.ensures.during told)

pub returns-in_err-read_page-clause-acts : goal.returns-in_err-read_page-clause-acts
returns-in_err-read_page-clause-acts g c =
    let s = c.args.self.now in
    let view = g.P.Plant.view in
    let e = c.in_err-read_page.ensures in
    read_first s.first.alive c.read_page.new.self.alive s.second.alive (view c.args.plant.now).now (view c.read_page.new.plant).now e.acted.alive (e.acted.stands refl) c.read_page.ensures.one

pub returns-then-self-clause-acts : goal.returns-then-self-clause-acts
returns-then-self-clause-acts g c =
    let s = c.args.self.now in
    let view = g.P.Plant.view in
    read_first s.first.alive c.read_page.new.self.alive s.second.alive (view c.args.plant.now).now (view c.read_page.new.plant).now c.read_page.ensures.acted.alive c.if-self.true c.read_page.ensures.one

pub returns-in_err-read_page-2-clause-acts : goal.returns-in_err-read_page-2-clause-acts
returns-in_err-read_page-2-clause-acts g c =
    let s = c.args.self.now in
    let view = g.P.Plant.view in
    let e = c.read_page.ensures in
    let f = c.read_page-2.ensures in
    read_second s.first.alive c.read_page.new.self.alive s.second.alive c.read_page-2.new.self.alive (view c.args.plant.now).now (view c.read_page.new.plant).now (view c.read_page-2.new.plant).now c.if-self.false f.acted.alive
    e.one (λ dead. ap (λ p. (view p).now) (e.idle dead)) f.one (λ dead. ap (λ p. (view p).now) (f.idle dead))

pub returns-clause-acts : goal.returns-clause-acts
returns-clause-acts g c =
    let s = c.args.self.now in
    let view = g.P.Plant.view in
    let e = c.read_page.ensures in
    let f = c.read_page-2.ensures in
    read_second s.first.alive c.read_page.new.self.alive s.second.alive c.read_page-2.new.self.alive (view c.args.plant.now).now (view c.read_page.new.plant).now (view c.read_page-2.new.plant).now c.if-self.false f.acted.alive
    e.one (λ dead. ap (λ p. (view p).now) (e.idle dead)) f.one (λ dead. ap (λ p. (view p).now) (f.idle dead))

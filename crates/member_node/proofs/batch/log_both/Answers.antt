use Rattle.std.proofs.Common.{◌∙◌, sym, ap, arith}
use Rattle.mas_types.specs.declared.ids.Dev.TheVariants.{Ckpt2}
use Rattle.spool_plant.specs.View.{Disk}
use Rattle.member_node.proofs.CourseLemmas.{apart_first, apart_second, apart_then}
use Rattle.member_node.proofs.batch.log_both.Goals as goal

pub returns-in_err-log-clause-apart : goal.returns-in_err-log-clause-apart
returns-in_err-log-clause-apart g c told =
    let v0 = g.P.Plant.view c.args.complex.now.plant in
    let v1 = g.P.Plant.view c.log.new.self.plant in
    let e = c.log.ensures in
    apart_first v0 v1 e.acted.goes.later (e.elsewhere told)

pub returns-clause-apart : goal.returns-clause-apart
returns-clause-apart g c told =
    let v0 = g.P.Plant.view c.args.complex.now.plant in
    let v1 = g.P.Plant.view c.log.new.self.plant in
    let v2 = g.P.Plant.view c.log-2.new.self.plant in
    let e = c.log.ensures in
    let f = c.log-2.ensures in
    apart_then v0 v1 v2 e.acted.goes.later f.acted.goes (apart_first v0 v1 e.acted.goes.later (e.elsewhere told)) (apart_second v1 v2 f.acted.goes.later (f.elsewhere told))

-- what CKPT2 reads stays while the pages come on CKPT1
pub log-requires-2-clause-leveled : goal.log-requires-2-clause-leveled
log-requires-2-clause-leveled g c told on was read =
    let C = g.C.Copying in
    let v1 = g.P.Plant.view c.log.new.self.plant in
    let e = c.log.ensures in
    let same = (e.elsewhere told).others v1.now e.acted.goes.later (omega arith) Ckpt2 (λ q. absurd (cc)) in
    rw e.base (c.requires.leveled2 told (ap (λ h. h.alive) (sym e.other) ∙ on) was (ap (λ (d : Disk). C.reads d.bytes) (sym same) ∙ read))

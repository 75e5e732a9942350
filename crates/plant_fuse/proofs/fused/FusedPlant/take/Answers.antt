use Rattle.std.proofs.Common.{arith, sym, subst, false}
use Rattle.spool_plant.specs.declared.plant.Act.{Act}
use Rattle.spool_plant.specs.declared.plant.Part.TheVariants.{Wire}
use Rattle.spool_plant.specs.Acts.{Acts, act_of}
use Rattle.plant_fuse.specs.Closing.{Closes}
use Rattle.plant_fuse.specs.FuseViews.{fused_view}
use Rattle.plant_fuse.proofs.Passing.{closed_acts, passed_acts, past_same}
use Rattle.plant_fuse.proofs.Content.{take_closed, takes_passed}
use Rattle.spool_disk.specs.Fuses.{Armed}
use Rattle.spool_disk.specs.FuseView.{armed_of}
use Rattle.plant_fuse.specs.Unarmed.{AreUnarmed}
use Rattle.plant_fuse.proofs.Unarming.{burnt_unarmed}
use Rattle.plant_fuse.proofs.fused.FusedPlant.take.Goals as goal

pub returns-then-fire-clause-acts : goal.returns-then-fire-clause-acts
returns-then-fire-clause-acts g c =
    let closes = subst (λ (p : Act). Closes c.args.by.0 p c.args.self.now.stops.counts c.note.new.self.counts c.close-act.result) c.act_taken-passed.ensures (rw c.note.ensures.counts c.close-act.ensures.closes) in
    subst (λ (r : Act). Acts c.args.by.0 (Wire c.args.wire) (fused_view (g.P.Plant.view c.args.self.now.inner) c.args.self.now.halved.items c.args.self.now.stops c.args.self.now.arms.counts) (fused_view (g.P.Plant.view c.take.new.self) c.args.self.now.halved.items c.note.new.self c.args.self.now.arms.counts) r) (sym c.took_nothing.ensures)
    (closed_acts c.args.by.0 (Wire c.args.wire) (g.P.Plant.view c.args.self.now.inner) (g.P.Plant.view c.take.new.self) c.args.self.now.halved.items c.args.self.now.halved.items c.args.self.now.stops c.note.new.self c.args.self.now.arms.counts (past_same (g.P.Plant.view c.args.self.now.inner) (g.P.Plant.view c.take.new.self) c.take.ensures.acts.goes c.args.self.now.halved.items) (act_of c.take.result) c.close-act.result
    (c.fire.ensures.member c.if-fire.true) (c.args.self.now.stops.fits c.args.by.0) (omega (arith, c.close-act.ensures.few, c.args.self.now.stops.many)) c.take.ensures.acts closes (rw c.close-act.ensures.last at c.note.ensures.last))

pub returns-then-fire-clause-content : goal.returns-then-fire-clause-content
returns-then-fire-clause-content g c told =
    let closes = subst (λ (p : Act). Closes c.args.by.0 p c.args.self.now.stops.counts c.note.new.self.counts c.close-act.result) c.act_taken-passed.ensures (rw c.note.ensures.counts c.close-act.ensures.closes) in
    take_closed (g.P.Plant.view c.args.self.now.inner) (g.P.Plant.view c.take.new.self) c.args.self.now.halved.items c.args.self.now.stops c.args.self.now.arms.counts c.note.new.self c.args.self.now.arms.counts c.take.ensures.acts.goes (c.args.self.now.within told) c.args.by.0 c.args.wire c.args.by.0 _ c.args.into.now c.take.result c.took_nothing.result c.close-act.result
    c.take.ensures.fits (c.take.ensures.content told) closes c.took_nothing.ensures

pub returns-else-fire-clause-acts : goal.returns-else-fire-clause-acts
returns-else-fire-clause-acts g c =
    passed_acts c.args.by.0 (Wire c.args.wire) (g.P.Plant.view c.args.self.now.inner) (g.P.Plant.view c.take-took.new.self) c.args.self.now.halved.items c.args.self.now.halved.items c.args.self.now.stops c.note-else-fire.new.self c.args.self.now.arms.counts (past_same (g.P.Plant.view c.args.self.now.inner) (g.P.Plant.view c.take-took.new.self) c.take-took.ensures.acts.goes c.args.self.now.halved.items) (act_of c.take-took.result) c.take-took.ensures.acts c.note-else-fire.ensures.counts (rw c.act_taken.ensures at c.note-else-fire.ensures.last)

pub returns-else-fire-clause-content : goal.returns-else-fire-clause-content
returns-else-fire-clause-content g c told =
    takes_passed (g.P.Plant.view c.args.self.now.inner) (g.P.Plant.view c.take-took.new.self) c.args.self.now.halved.items c.args.self.now.stops c.args.self.now.arms.counts c.note-else-fire.new.self c.args.self.now.arms.counts c.take-took.ensures.acts.goes (c.args.self.now.within told) c.args.wire c.args.by.0 c.take-took.new.into c.take-took.result (c.take-took.ensures.content told)

pub invariant_of-self-else-fire-clause-unarmed : goal.invariant_of-self-else-fire-clause-unarmed
invariant_of-self-else-fire-clause-unarmed g c =
    let s = c.args.self.now in
    rw c.note-else-fire.ensures.counts (subst (λ (a : Armed). AreUnarmed a s.stops.counts s.arms.counts) (sym c.fire.ensures.burnt) (burnt_unarmed (armed_of s.fuses) s.stops.counts s.arms.counts c.args.by.0 false s.unarmed))

use Rattle.spool_plant.specs.Acts.{GivesOn}
use Rattle.std.proofs.Common.{arith, length, ◌/◌, subst, List, ℕ, sym, false}
use Rattle.spool_plant.specs.declared.plant.Part.TheVariants.{Wire}
use Rattle.plant_fuse.proofs.Passing.{closed_acts, passed_acts, past_same}
use Rattle.plant_fuse.proofs.Content.{give_closed, gives_passed}
use Rattle.spool_disk.specs.Fuses.{Armed}
use Rattle.spool_disk.specs.FuseView.{armed_of}
use Rattle.plant_fuse.specs.Unarmed.{AreUnarmed}
use Rattle.plant_fuse.proofs.Unarming.{burnt_unarmed}
use Rattle.plant_fuse.proofs.fused.FusedPlant.give.Goals as goal

pub returns-then-fire-clause-acts : goal.returns-then-fire-clause-acts
returns-then-fire-clause-acts g c =
    closed_acts c.args.by.0 (Wire c.args.wire) (g.P.Plant.view c.args.self.now.inner) (g.P.Plant.view c.give-passed.new.self) c.args.self.now.halved.items c.args.self.now.halved.items c.args.self.now.stops c.note.new.self c.args.self.now.arms.counts (past_same (g.P.Plant.view c.args.self.now.inner) (g.P.Plant.view c.give-passed.new.self) (c.give-passed.ensures.acts).goes c.args.self.now.halved.items) c.give-passed.result c.close-act.result
    (c.fire.ensures.member c.if-fire.true) (c.args.self.now.stops.fits c.args.by.0) (omega (arith, c.close-act.ensures.few, c.args.self.now.stops.many)) c.give-passed.ensures.acts (rw c.note.ensures.counts c.close-act.ensures.closes) (rw c.close-act.ensures.last at c.note.ensures.last)

pub returns-then-fire-clause-content : goal.returns-then-fire-clause-content
returns-then-fire-clause-content g c told =
    give_closed (g.P.Plant.view c.args.self.now.inner) (g.P.Plant.view c.give-passed.new.self) c.args.self.now.halved.items c.args.self.now.stops c.args.self.now.arms.counts c.note.new.self c.args.self.now.arms.counts (c.give-passed.ensures.acts).goes (c.args.self.now.within told) c.args.by.0 c.args.wire c.args.by.0 (length c.args.bytes.now / 2) c.args.bytes.now c.half.result.now c.give-passed.result c.close-act.result c.half.ensures (c.give-passed.ensures.content told) (rw c.note.ensures.counts c.close-act.ensures.closes)

pub returns-else-fire-clause-acts : goal.returns-else-fire-clause-acts
returns-else-fire-clause-acts g c =
    passed_acts c.args.by.0 (Wire c.args.wire) (g.P.Plant.view c.args.self.now.inner) (g.P.Plant.view c.give-act.new.self) c.args.self.now.halved.items c.args.self.now.halved.items c.args.self.now.stops c.note-else-fire.new.self c.args.self.now.arms.counts (past_same (g.P.Plant.view c.args.self.now.inner) (g.P.Plant.view c.give-act.new.self) (c.give-act.ensures.acts).goes c.args.self.now.halved.items) c.give-act.result c.give-act.ensures.acts c.note-else-fire.ensures.counts c.note-else-fire.ensures.last

pub returns-else-fire-clause-content : goal.returns-else-fire-clause-content
returns-else-fire-clause-content g c told =
    gives_passed (g.P.Plant.view c.args.self.now.inner) (g.P.Plant.view c.give-act.new.self) c.args.self.now.halved.items c.args.self.now.stops c.args.self.now.arms.counts c.note-else-fire.new.self c.args.self.now.arms.counts (c.give-act.ensures.acts).goes (c.args.self.now.within told) c.args.wire c.args.by.0 c.args.bytes.now c.give-act.result (c.give-act.ensures.content told)

pub returns-then-fire-clause-half : goal.returns-then-fire-clause-half
returns-then-fire-clause-half g c told halts =
    (c.give-passed.result, subst (λ (l : List ℕ). GivesOn c.args.wire c.args.by.0 l (g.P.Plant.view c.args.self.now.inner) (g.P.Plant.view c.give-passed.new.self) c.give-passed.result) c.half.ensures (c.give-passed.ensures.content told))

pub invariant_of-self-else-fire-clause-unarmed : goal.invariant_of-self-else-fire-clause-unarmed
invariant_of-self-else-fire-clause-unarmed g c =
    let s = c.args.self.now in
    rw c.note-else-fire.ensures.counts (subst (λ (a : Armed). AreUnarmed a s.stops.counts s.arms.counts) (sym c.fire.ensures.burnt) (burnt_unarmed (armed_of s.fuses) s.stops.counts s.arms.counts c.args.by.0 false s.unarmed))

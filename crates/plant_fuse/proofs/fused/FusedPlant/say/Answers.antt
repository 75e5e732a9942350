use Rattle.std.proofs.Common.{arith, sym, subst, ap, ◌∙◌, ◌≤◌, ℕ, List, false}
use Rattle.spool_plant.specs.declared.plant.Part.TheVariants.{Console}
use Rattle.spool_plant.specs.Acts.{Acts, Says, top}
use Rattle.plant_fuse.specs.Torn.{Halved}
use Rattle.plant_fuse.specs.Closing.{halved_by}
use Rattle.plant_fuse.specs.FuseViews.{fused_view}
use Rattle.plant_fuse.proofs.Passing.{closed_acts, passed_acts, past_same, past_halved}
use Rattle.plant_fuse.proofs.Content.{say_closed, says_passed}
use Rattle.spool_disk.specs.Fuses.{Armed}
use Rattle.spool_disk.specs.FuseView.{armed_of}
use Rattle.plant_fuse.specs.Unarmed.{AreUnarmed}
use Rattle.plant_fuse.proofs.Unarming.{burnt_unarmed}
use Rattle.plant_fuse.proofs.fused.FusedPlant.say.Goals as goal

pub returns-then-fire-clause-acts : goal.returns-then-fire-clause-acts
returns-then-fire-clause-acts g c =
    let is = c.note_half.ensures ∙ ap (λ (n : ℕ). halved_by c.say-passed.result (0, n) c.args.self.now.halved.items) c.now-moment.ensures in
    subst (λ (hs : List Halved). Acts c.args.by.0 Console (fused_view (g.P.Plant.view c.args.self.now.inner) c.args.self.now.halved.items c.args.self.now.stops c.args.self.now.arms.counts) (fused_view (g.P.Plant.view c.say-passed.new.self) hs c.note.new.self c.args.self.now.arms.counts) c.close-act.result) (sym is)
    (closed_acts c.args.by.0 Console (g.P.Plant.view c.args.self.now.inner) (g.P.Plant.view c.say-passed.new.self) c.args.self.now.halved.items (halved_by c.say-passed.result (0, (g.P.Plant.view c.args.self.now.inner).now) c.args.self.now.halved.items) c.args.self.now.stops c.note.new.self c.args.self.now.arms.counts (past_halved (g.P.Plant.view c.args.self.now.inner) (g.P.Plant.view c.say-passed.new.self) c.say-passed.ensures.acts.goes c.args.self.now.halved.items 0 c.say-passed.result) c.say-passed.result c.close-act.result
    (c.fire.ensures.member c.if-fire.true) (c.args.self.now.stops.fits c.args.by.0) (omega (arith, c.close-act.ensures.few, c.args.self.now.stops.many)) c.say-passed.ensures.acts (rw c.note.ensures.counts c.close-act.ensures.closes) (rw c.close-act.ensures.last at c.note.ensures.last))

pub returns-then-fire-clause-content : goal.returns-then-fire-clause-content
returns-then-fire-clause-content g c told =
    let is = c.note_half.ensures ∙ ap (λ (n : ℕ). halved_by c.say-passed.result (0, n) c.args.self.now.halved.items) c.now-moment.ensures in
    let small : (g.P.Plant.view c.args.self.now.inner).now ≤ top = omega (arith, c.now-moment.type_inv, c.now-moment.ensures) in
    subst (λ (hs : List Halved). Says c.args.line.now (fused_view (g.P.Plant.view c.args.self.now.inner) c.args.self.now.halved.items c.args.self.now.stops c.args.self.now.arms.counts) (fused_view (g.P.Plant.view c.say-passed.new.self) hs c.note.new.self c.args.self.now.arms.counts) c.close-act.result) (sym is)
    (say_closed (g.P.Plant.view c.args.self.now.inner) (g.P.Plant.view c.say-passed.new.self) c.args.self.now.halved.items c.args.self.now.stops c.args.self.now.arms.counts c.note.new.self c.args.self.now.arms.counts c.say-passed.ensures.acts.goes (c.args.self.now.within told) c.args.by.0 c.args.line.now c.half.result.now c.say-passed.result c.close-act.result c.say-passed.ensures.acts small (c.say-passed.ensures.content told) (rw c.note.ensures.counts c.close-act.ensures.closes))

pub returns-else-fire-clause-acts : goal.returns-else-fire-clause-acts
returns-else-fire-clause-acts g c =
    passed_acts c.args.by.0 Console (g.P.Plant.view c.args.self.now.inner) (g.P.Plant.view c.say-act.new.self) c.args.self.now.halved.items c.args.self.now.halved.items c.args.self.now.stops c.note-else-fire.new.self c.args.self.now.arms.counts (past_same (g.P.Plant.view c.args.self.now.inner) (g.P.Plant.view c.say-act.new.self) c.say-act.ensures.acts.goes c.args.self.now.halved.items) c.say-act.result c.say-act.ensures.acts c.note-else-fire.ensures.counts c.note-else-fire.ensures.last

pub returns-else-fire-clause-content : goal.returns-else-fire-clause-content
returns-else-fire-clause-content g c told =
    says_passed (g.P.Plant.view c.args.self.now.inner) (g.P.Plant.view c.say-act.new.self) c.args.self.now.halved.items c.args.self.now.stops c.args.self.now.arms.counts c.note-else-fire.new.self c.args.self.now.arms.counts c.say-act.ensures.acts.goes (c.args.self.now.within told) c.args.line.now c.say-act.result (c.say-act.ensures.content told)

pub returns-then-fire-clause-half : goal.returns-then-fire-clause-half
returns-then-fire-clause-half g c told halts =
    (c.say-passed.result, subst (λ (l : List ℕ). Says l (g.P.Plant.view c.args.self.now.inner) (g.P.Plant.view c.say-passed.new.self) c.say-passed.result) c.half.ensures (c.say-passed.ensures.content told))

pub invariant_of-self-else-fire-clause-unarmed : goal.invariant_of-self-else-fire-clause-unarmed
invariant_of-self-else-fire-clause-unarmed g c =
    let s = c.args.self.now in
    rw c.note-else-fire.ensures.counts (subst (λ (a : Armed). AreUnarmed a s.stops.counts s.arms.counts) (sym c.fire.ensures.burnt) (burnt_unarmed (armed_of s.fuses) s.stops.counts s.arms.counts c.args.by.0 false s.unarmed))

use Rattle.spool_plant.specs.declared.plant.Part.TheVariants.{Disk}
use Rattle.plant_fuse.proofs.Passing.{passed_loses}
use Rattle.plant_fuse.proofs.Content.{loses_passed}
use Rattle.plant_fuse.proofs.fused.FusedPlant.lose.Goals as goal

pub returns-clause-acts : goal.returns-clause-acts
returns-clause-acts g c = passed_loses (Disk c.args.dev) (g.P.Plant.view c.args.self.now.inner) (g.P.Plant.view c.lose.new.self) c.args.self.now.halved.items c.args.self.now.stops c.args.self.now.arms.counts c.lose.ensures.acts

pub returns-clause-content : goal.returns-clause-content
returns-clause-content g c told = loses_passed (g.P.Plant.view c.args.self.now.inner) (g.P.Plant.view c.lose.new.self) c.args.self.now.halved.items c.args.self.now.stops c.args.self.now.arms.counts c.args.self.now.stops c.args.self.now.arms.counts c.lose.ensures.acts.goes (c.args.self.now.within told) c.args.dev (c.lose.ensures.content told)

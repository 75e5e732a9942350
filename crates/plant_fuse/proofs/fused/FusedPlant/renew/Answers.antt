use Rattle.plant_fuse.proofs.Passing.{passed_renews}
use Rattle.plant_fuse.proofs.Content.{renews_passed}
use Rattle.plant_fuse.proofs.fused.FusedPlant.renew.Goals as goal

pub returns-clause-acts : goal.returns-clause-acts
returns-clause-acts g c = passed_renews c.args.dev (g.P.Plant.view c.args.self.now.inner) (g.P.Plant.view c.renew.new.self) c.args.self.now.halved.items c.args.self.now.stops c.args.self.now.arms.counts c.renew.result c.renew.ensures.acts

pub returns-clause-content : goal.returns-clause-content
returns-clause-content g c told = renews_passed c.args.dev (g.P.Plant.view c.args.self.now.inner) (g.P.Plant.view c.renew.new.self) c.args.self.now.halved.items c.renew.result c.renew.ensures.acts (c.args.self.now.within told) (c.renew.ensures.content told) c.args.self.now.stops c.args.self.now.arms.counts

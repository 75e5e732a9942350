use Rattle.std.proofs.Common.{sym, subst, ℕ, List, [], replicate}
use Rattle.plant_fuse.specs.Torn.{Halved}
use Rattle.plant_fuse.specs.FuseViews.{fused_view, ShowsInner}
use Rattle.plant_fuse.proofs.Passing.{shows_inner}
use Rattle.plant_fuse.proofs.fused.Fused.new.Goals as goal

pub returns-clause-view : goal.returns-clause-view
returns-clause-view g c =
    let v = g.P.Plant.view c.args.inner in
    subst (λ (hs : List Halved). ShowsInner v (fused_view v hs c.new-2.result c.new-3.result.counts)) (sym c.new-4.ensures)
    (subst (λ (a : List ℕ). ShowsInner v (fused_view v [] c.new-2.result a)) (sym c.new-3.ensures) (shows_inner v c.new-2.result c.new-2.ensures.counts c.new-2.ensures.last))

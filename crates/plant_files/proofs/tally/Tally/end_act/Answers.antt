use Rattle.std.proofs.Common.{subst, sym, arith}
use Rattle.spool_plant.specs.Acts.{Acts}
use Rattle.spool_plant.specs.declared.plant.Act.TheVariants.{Done, Failed}
use Rattle.plant_files.specs.FileView.{Shown, shown_of, tally_view, view_of}
use Rattle.plant_files.proofs.Counting.{done_acts, failed_acts}
use Rattle.plant_files.proofs.tally.Tally.end_act.Goals as goal

pub returns-then-done-clause-acts : goal.returns-then-done-clause-acts
returns-then-done-clause-acts c by =
    let may = c.requires c.if-done.true in
    subst (λ (s : Shown). Acts by c.args.part (tally_view c.args.self.now) (view_of s) Done) (sym c.finish.ensures) (done_acts (shown_of c.args.self.now) by c.args.part may.0 may.1)

pub returns-else-done-clause-acts : goal.returns-else-done-clause-acts
returns-else-done-clause-acts c by =
    subst (λ (s : Shown). Acts by c.args.part (tally_view c.args.self.now) (view_of s) Failed) (sym c.fail.ensures.shown)
    (failed_acts (shown_of c.args.self.now) c.args.part (omega (arith, c.fail.ensures.few, c.args.self.now.counts.parts_len)) c.fail.ensures.small by c.fail.ensures.fits)

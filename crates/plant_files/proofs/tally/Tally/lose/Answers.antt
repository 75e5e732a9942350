use Rattle.std.proofs.Common.{subst, sym, arith}
use Rattle.spool_plant.specs.Acts.{Loses}
use Rattle.spool_plant.specs.declared.plant.Part.TheVariants.{Disk}
use Rattle.plant_files.specs.FileView.{Shown, shown_of, tally_view, view_of}
use Rattle.plant_files.proofs.Counting.{lost_loses}
use Rattle.plant_files.proofs.tally.Tally.lose.Goals as goal

pub returns : goal.returns
returns c =
    let s = c.args.self.now in
    subst (λ (x : Shown). Loses (Disk c.args.dev) (tally_view s) (view_of x)) (sym c.count_loss.ensures.shown)
    (lost_loses (shown_of s) c.args.dev (omega (arith, c.count_loss.ensures.few, s.counts.parts_len)) (omega (arith, c.count_loss.ensures.few, s.counts.loses_len)) c.count_loss.ensures.fits c.count_loss.ensures.small)

use Rattle.std.proofs.Common.{subst, sym, arith}
use Rattle.spool_plant.specs.Acts.{Acts, Renews}
use Rattle.spool_plant.specs.declared.plant.Act.TheVariants.{Done, Failed}
use Rattle.spool_plant.specs.declared.plant.Part.TheVariants.{Disk}
use Rattle.spool_disk.proofs.Faults.{fails_renewal}
use Rattle.plant_files.specs.FileView.{Shown, shown_of, tally_view, view_of}
use Rattle.plant_files.proofs.Counting.{renewed_renews, failed_acts}
use Rattle.plant_files.proofs.tally.Tally.end_renewal.Goals as goal

pub returns-then-done : goal.returns-then-done
returns-then-done c =
    let s = c.args.self.now in
    subst (λ (x : Shown). Renews c.args.dev (tally_view s) (view_of x) Done) (sym c.note_renewal.ensures.shown)
    (renewed_renews (shown_of s) c.args.dev (omega (arith, c.note_renewal.ensures.few, s.counts.parts_len)) (c.requires c.if-done.true))

pub returns-else-done : goal.returns-else-done
returns-else-done c =
    let s = c.args.self.now in
    fails_renewal c.args.dev (tally_view s) (tally_view c.fail.new.self)
    (subst (λ (x : Shown). Acts 0 (Disk c.args.dev) (tally_view s) (view_of x) Failed) (sym c.fail.ensures.shown)
    (failed_acts (shown_of s) (Disk c.args.dev) (omega (arith, c.fail.ensures.few, s.counts.parts_len)) c.fail.ensures.small 0 c.fail.ensures.fits))

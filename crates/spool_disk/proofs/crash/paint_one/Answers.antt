use Rattle.std.proofs.Common.{arith, ap, ◌≡◌, ◌≤◌, ◌<◌, ℕ, length, max, subst, if◌then◌else◌, slice_index}
use Rattle.spool_plant.specs.Crash.{is_in}
use Rattle.spool_disk.specs.Entries.{kept_by}
use Rattle.spool_disk.proofs.Crashing.{ones_painted}
use Rattle.spool_disk.proofs.crash.paint_one.Goals as goal

pub returns-in-Wrote : goal.returns-in-Wrote
returns-in-Wrote c d bytes few none was =
    let reach : c.max-reach.result ≡ max c.in-Wrote.len c.in-Wrote.kept = omega (arith, c.max-reach.ensures) in
    let many : length bytes ≤ c.in-Wrote.kept = omega (arith, few, ap kept_by c.in-Wrote.is) in
    ones_painted c.args.slot c.in-Wrote.place c.in-Wrote.at c.in-Wrote.len c.in-Wrote.kept c.args.entry.now bytes d c.args.image.now c.ones.new.disk c.in-Wrote.is c.if-place-slot.true many was c.ones.auto.disk
    (subst (λ (n : ℕ). (k : ℕ) → k < length c.args.image.now → slice_index c.ones.new.disk k ≡ (if is_in c.in-Wrote.at n k then 255 else slice_index c.args.image.now k)) reach c.ones.ensures)

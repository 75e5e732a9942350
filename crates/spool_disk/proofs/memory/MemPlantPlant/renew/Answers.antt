use Rattle.std.proofs.Common.{ap, refl}
use Rattle.spool_disk.proofs.MemActs.{done_renewal, done_renewal_there}
use Rattle.spool_disk.proofs.Faults.{fails_renewal, fails_renewal_there}
use Rattle.spool_disk.specs.State.{State}
use Rattle.spool_disk.specs.Deeds.{Renewed}
use Rattle.spool_disk.specs.Health.{health_at}
use Rattle.spool_disk.specs.Places.{slot_of, place_of}
use Rattle.spool_plant.specs.declared.plant.Part.TheVariants.{Disk as DiskPart}
use Rattle.spool_disk.proofs.ReadCounts.{reads_recorded}
use Rattle.spool_disk.proofs.memory.MemPlantPlant.renew.Goals as goal

pub returns-then-may_renew-clause-acts : goal.returns-then-may_renew-clause-acts
returns-then-may_renew-clause-acts c =
    let may = c.may_renew.ensures.small c.if-may_renew.true in
    done_renewal c.args.self.now c.note_renewal.new.self c.args.dev may.0 c.note_renewal.ensures.few c.note_renewal.ensures.state may.1

pub returns-then-may_renew-clause-content : goal.returns-then-may_renew-clause-content
returns-then-may_renew-clause-content c =
    let may = c.may_renew.ensures.small c.if-may_renew.true in
    done_renewal_there c.args.self.now c.note_renewal.new.self c.args.dev may.0 c.note_renewal.ensures.few c.note_renewal.ensures.state

pub returns-else-may_renew-clause-acts : goal.returns-else-may_renew-clause-acts
returns-else-may_renew-clause-acts c = fails_renewal c.args.dev _ _ (c.fail.ensures.acts 0)

pub returns-else-may_renew-clause-content : goal.returns-else-may_renew-clause-content
returns-else-may_renew-clause-content c = fails_renewal_there c.args.dev _ _ c.fail.ensures.alone

pub returns-then-may_renew-clause-reads : goal.returns-then-may_renew-clause-reads
returns-then-may_renew-clause-reads c d =
    reads_recorded c.args.self.now c.note_renewal.new.self (Renewed (slot_of c.args.dev) (health_at c.args.self.now.counts.parts.items (place_of (DiskPart c.args.dev))).since) d
    (c.may_renew.ensures.small c.if-may_renew.true).0 (ap (λ (x : State). x.deeds) c.note_renewal.ensures.state) refl

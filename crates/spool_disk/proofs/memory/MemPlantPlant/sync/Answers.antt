use Rattle.std.proofs.Common.{refl, ap}
use Rattle.spool_plant.specs.declared.plant.Part.TheVariants.{Disk as DiskPart}
use Rattle.spool_disk.specs.Deeds.{Idle, Synced}
use Rattle.spool_disk.proofs.MemActs.{done_acts, halted_acts, done_sync, halted_sync}
use Rattle.spool_disk.proofs.Faults.{fails_sync}
use Rattle.spool_disk.specs.State.{State}
use Rattle.spool_disk.proofs.ReadCounts.{reads_recorded, reads_halted}
use Rattle.spool_disk.proofs.memory.MemPlantPlant.sync.Goals as goal

pub returns-in-Go-clause-acts : goal.returns-in-Go-clause-acts
returns-in-Go-clause-acts c =
    let go = c.course-course.ensures.go c.in-Go.is in
    done_acts c.args.self.now c.note_sync.new.self (Synced c.slot_number.result) go.0 go.1 c.note_sync.ensures.state (λ place x. refl) c.args.by.0 (DiskPart c.args.dev) go.3

pub returns-in-Go-clause-content : goal.returns-in-Go-clause-content
returns-in-Go-clause-content c =
    let go = c.course-course.ensures.go c.in-Go.is in
    done_sync c.args.self.now c.note_sync.new.self c.args.dev c.slot_number.result go.0 c.slot_number.ensures.slot c.note_sync.ensures.state

pub returns-in-Halt-clause-acts : goal.returns-in-Halt-clause-acts
returns-in-Halt-clause-acts c =
    let halt = c.course-course.ensures.halt c.in-Halt.field-0 c.in-Halt.is in
    halted_acts c.args.self.now c.note_idle.new.self c.stop.new.self (Idle) c.args.by.0 halt.0 c.note_idle.ensures.state c.stop.ensures.state (λ place x. refl) (DiskPart c.args.dev) halt.1 c.stop.ensures.fits c.stop.ensures.there halt.3

pub returns-in-Halt-clause-content : goal.returns-in-Halt-clause-content
returns-in-Halt-clause-content c =
    let halt = c.course-course.ensures.halt c.in-Halt.field-0 c.in-Halt.is in
    halted_sync c.args.self.now c.note_idle.new.self c.stop.new.self c.args.by.0 halt.0 c.note_idle.ensures.state c.stop.ensures.state c.args.dev

pub returns-in-Fail-clause-acts : goal.returns-in-Fail-clause-acts
returns-in-Fail-clause-acts c = c.fail.ensures.acts c.args.by.0

pub returns-in-Fail-clause-content : goal.returns-in-Fail-clause-content
returns-in-Fail-clause-content c = fails_sync c.args.dev _ _ c.fail.ensures.alone

pub returns-in-Go-clause-reads : goal.returns-in-Go-clause-reads
returns-in-Go-clause-reads c d =
    reads_recorded c.args.self.now c.note_sync.new.self (Synced c.slot_number.result) d (c.course-course.ensures.go c.in-Go.is).0 (ap (λ (x : State). x.deeds) c.note_sync.ensures.state) refl

pub returns-in-Halt-clause-reads : goal.returns-in-Halt-clause-reads
returns-in-Halt-clause-reads c d =
    reads_halted c.args.self.now c.note_idle.new.self c.stop.new.self Idle c.args.by.0 d (c.course-course.ensures.halt c.in-Halt.field-0 c.in-Halt.is).0 c.note_idle.ensures.state c.stop.ensures.state refl

use Rattle.std.proofs.Common.{arith, length, ◌≡◌, ◌≤◌, ap, List, ℕ, subst, sym, ◌+◌, take, refl}
use Rattle.std.proofs.lemmas.List.{length-take}
use Rattle.spool_disk.specs.Kept.{size_at}
use Rattle.spool_plant.specs.View.{disk_now}
use Rattle.spool_disk.specs.MemView.{mem_view}
use Rattle.spool_plant.specs.declared.plant.Part.TheVariants.{Disk as DiskPart}
use Rattle.spool_disk.specs.Deeds.{Wrote, overwrite}
use Rattle.spool_disk.proofs.MemActs.{done_acts, halted_acts, done_write, halted_write, halted_bytes}
use Rattle.spool_disk.proofs.Faults.{fails_write}
use Rattle.spool_disk.specs.State.{State}
use Rattle.spool_disk.proofs.ReadCounts.{reads_recorded, reads_halted}
use Rattle.spool_disk.proofs.memory.MemPlantPlant.write.Goals as goal

pub note_write-requires-clause-within : goal.note_write-requires-clause-within
note_write-requires-clause-within c =
    subst (λ (n : ℕ). c.args.at + length c.args.bytes.now ≤ size_at c.args.self.now.kept.base n) (sym c.slot_number.ensures.slot) c.requires

pub note_write-requires-in-Halt-clause-within : goal.note_write-requires-in-Halt-clause-within
note_write-requires-in-Halt-clause-within c =
    let few : length c.first-some.result.now ≤ length c.args.bytes.now = omega (arith, ap (λ (l : List ℕ). length l) c.first-some.ensures, length-take c.in-Halt.keep c.args.bytes.now) in
    subst (λ (n : ℕ). c.args.at + length c.first-some.result.now ≤ size_at c.args.self.now.kept.base n) (sym c.slot_number-in-Halt.ensures.slot) (omega (arith, c.requires, few))

pub returns-in-Halt-clause-kept : goal.returns-in-Halt-clause-kept
returns-in-Halt-clause-kept c keep planned =
    let halt = c.course-course.ensures.halt c.in-Halt.keep c.in-Halt.is in
    let same : c.in-Halt.keep ≡ keep = cc (c.in-Halt.is, c.course-course.ensures.course, planned) in
    subst (λ (k : ℕ). (disk_now (mem_view c.stop.new.self) c.args.dev).bytes ≡ overwrite c.args.at (take k c.args.bytes.now) (disk_now (mem_view c.args.self.now) c.args.dev).bytes) same
    (halted_bytes c.args.self.now c.note_write-in-Halt.new.self c.stop.new.self c.args.by.0 halt.0 c.args.dev c.args.at c.slot_number-in-Halt.result c.in-Halt.keep c.args.bytes.now c.first-some.result.now c.slot_number-in-Halt.ensures.slot c.requires c.first-some.ensures c.note_write-in-Halt.ensures.state c.stop.ensures.state)

pub returns-in-Go-clause-acts : goal.returns-in-Go-clause-acts
returns-in-Go-clause-acts c =
    let go = c.course-course.ensures.go c.in-Go.is in
    done_acts c.args.self.now c.note_write.new.self (Wrote c.slot_number.result c.args.at (length c.args.bytes.now) c.args.bytes.now) go.0 go.1 c.note_write.ensures.state (λ place x. refl) c.args.by.0 (DiskPart c.args.dev) go.3

pub returns-in-Go-clause-content : goal.returns-in-Go-clause-content
returns-in-Go-clause-content c =
    let go = c.course-course.ensures.go c.in-Go.is in
    done_write c.args.self.now c.note_write.new.self c.args.dev c.args.at c.slot_number.result c.args.bytes.now go.0 c.slot_number.ensures.slot c.requires c.note_write.ensures.state

pub returns-in-Halt-clause-acts : goal.returns-in-Halt-clause-acts
returns-in-Halt-clause-acts c =
    let halt = c.course-course.ensures.halt c.in-Halt.keep c.in-Halt.is in
    halted_acts c.args.self.now c.note_write-in-Halt.new.self c.stop.new.self (Wrote c.slot_number-in-Halt.result c.args.at (length c.args.bytes.now) c.first-some.result.now) c.args.by.0 halt.0 c.note_write-in-Halt.ensures.state c.stop.ensures.state (λ place x. refl) (DiskPart c.args.dev) halt.1 c.stop.ensures.fits c.stop.ensures.there halt.3

pub returns-in-Halt-clause-content : goal.returns-in-Halt-clause-content
returns-in-Halt-clause-content c =
    let halt = c.course-course.ensures.halt c.in-Halt.keep c.in-Halt.is in
    halted_write c.args.self.now c.note_write-in-Halt.new.self c.stop.new.self c.args.by.0 halt.0 c.args.dev c.args.at c.slot_number-in-Halt.result c.in-Halt.keep c.args.bytes.now c.first-some.result.now c.slot_number-in-Halt.ensures.slot c.requires c.first-some.ensures c.note_write-in-Halt.ensures.state c.stop.ensures.state

pub returns-in-Fail-clause-acts : goal.returns-in-Fail-clause-acts
returns-in-Fail-clause-acts c = c.fail.ensures.acts c.args.by.0

pub returns-in-Fail-clause-content : goal.returns-in-Fail-clause-content
returns-in-Fail-clause-content c = fails_write c.args.dev c.args.at c.args.bytes.now _ _ c.fail.ensures.alone

pub returns-in-Go-clause-reads : goal.returns-in-Go-clause-reads
returns-in-Go-clause-reads c d =
    reads_recorded c.args.self.now c.note_write.new.self (Wrote c.slot_number.result c.args.at (length c.args.bytes.now) c.args.bytes.now) d (c.course-course.ensures.go c.in-Go.is).0 (ap (λ (x : State). x.deeds) c.note_write.ensures.state) refl

pub returns-in-Halt-clause-reads : goal.returns-in-Halt-clause-reads
returns-in-Halt-clause-reads c d =
    reads_halted c.args.self.now c.note_write-in-Halt.new.self c.stop.new.self (Wrote c.slot_number-in-Halt.result c.args.at (length c.args.bytes.now) c.first-some.result.now) c.args.by.0 d (c.course-course.ensures.halt c.in-Halt.keep c.in-Halt.is).0 c.note_write-in-Halt.ensures.state c.stop.ensures.state refl

use Rattle.std.proofs.Common.{◌≡◌, ℕ, true, subst, take, ◌++◌, refl, ap}
use Rattle.spool_plant.specs.declared.plant.Part.TheVariants.{Wire}
use Rattle.spool_disk.specs.Deeds.{Passed}
use Rattle.spool_disk.specs.MemView.{mem_view}
use Rattle.spool_plant.specs.View.{given_now}
use Rattle.spool_disk.proofs.MemActs.{done_acts, halted_acts, done_give, halted_give, halted_bytes_given}
use Rattle.spool_disk.proofs.Faults.{fails_give}
use Rattle.spool_disk.specs.State.{State}
use Rattle.spool_disk.proofs.ReadCounts.{reads_recorded, reads_halted}
use Rattle.spool_disk.proofs.memory.MemPlantPlant.give.Goals as goal

pub returns-in-Halt-clause-kept : goal.returns-in-Halt-clause-kept
returns-in-Halt-clause-kept c keep planned =
    let halt = c.course-course.ensures.halt c.in-Halt.keep c.in-Halt.is in
    let same : c.in-Halt.keep ≡ keep = cc (c.in-Halt.is, c.course-course.ensures.course, planned) in
    subst (λ (k : ℕ). given_now (mem_view c.stop.new.self) c.args.wire c.args.by.0 ≡ given_now (mem_view c.args.self.now) c.args.wire c.args.by.0 ++ take k c.args.bytes.now) same
    (halted_bytes_given c.args.self.now c.note_passed-in-Halt.new.self c.stop.new.self c.args.wire c.args.by.0 c.in-Halt.keep c.args.bytes.now c.first.result.now halt.0 c.first.ensures c.note_passed-in-Halt.ensures.state c.stop.ensures.state)

pub returns-in-Go-clause-acts : goal.returns-in-Go-clause-acts
returns-in-Go-clause-acts c =
    let go = c.course-course.ensures.go c.in-Go.is in
    done_acts c.args.self.now c.note_passed.new.self (Passed true c.args.wire c.args.by.0 c.args.bytes.now) go.0 go.1 c.note_passed.ensures.state (λ place x. refl) c.args.by.0 (Wire c.args.wire) go.3

pub returns-in-Go-clause-content : goal.returns-in-Go-clause-content
returns-in-Go-clause-content c =
    let go = c.course-course.ensures.go c.in-Go.is in
    done_give c.args.self.now c.note_passed.new.self c.args.wire c.args.by.0 c.args.bytes.now go.0 c.note_passed.ensures.state

pub returns-in-Halt-clause-acts : goal.returns-in-Halt-clause-acts
returns-in-Halt-clause-acts c =
    let halt = c.course-course.ensures.halt c.in-Halt.keep c.in-Halt.is in
    halted_acts c.args.self.now c.note_passed-in-Halt.new.self c.stop.new.self (Passed true c.args.wire c.args.by.0 c.first.result.now) c.args.by.0 halt.0 c.note_passed-in-Halt.ensures.state c.stop.ensures.state (λ place x. refl) (Wire c.args.wire) halt.1 c.stop.ensures.fits c.stop.ensures.there halt.3

pub returns-in-Halt-clause-content : goal.returns-in-Halt-clause-content
returns-in-Halt-clause-content c =
    let halt = c.course-course.ensures.halt c.in-Halt.keep c.in-Halt.is in
    halted_give c.args.self.now c.note_passed-in-Halt.new.self c.stop.new.self c.args.wire c.args.by.0 c.in-Halt.keep c.args.bytes.now c.first.result.now halt.0 c.first.ensures c.note_passed-in-Halt.ensures.state c.stop.ensures.state

pub returns-in-Fail-clause-acts : goal.returns-in-Fail-clause-acts
returns-in-Fail-clause-acts c = c.fail.ensures.acts c.args.by.0

pub returns-in-Fail-clause-content : goal.returns-in-Fail-clause-content
returns-in-Fail-clause-content c = fails_give c.args.wire c.args.by.0 c.args.bytes.now _ _ c.fail.ensures.alone

pub returns-in-Go-clause-reads : goal.returns-in-Go-clause-reads
returns-in-Go-clause-reads c d =
    reads_recorded c.args.self.now c.note_passed.new.self (Passed true c.args.wire c.args.by.0 c.args.bytes.now) d (c.course-course.ensures.go c.in-Go.is).0 (ap (λ (x : State). x.deeds) c.note_passed.ensures.state) refl

pub returns-in-Halt-clause-reads : goal.returns-in-Halt-clause-reads
returns-in-Halt-clause-reads c d =
    reads_halted c.args.self.now c.note_passed-in-Halt.new.self c.stop.new.self (Passed true c.args.wire c.args.by.0 c.first.result.now) c.args.by.0 d (c.course-course.ensures.halt c.in-Halt.keep c.in-Halt.is).0 c.note_passed-in-Halt.ensures.state c.stop.ensures.state refl

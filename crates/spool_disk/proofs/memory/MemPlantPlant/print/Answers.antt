use Rattle.std.proofs.Common.{◌≡◌, ℕ, ◌+◌, ◌*◌, true, subst, ◌++◌, refl, ap}
use Rattle.spool_plant.specs.declared.plant.Part.TheVariants.{Printer}
use Rattle.spool_disk.specs.Deeds.{Said}
use Rattle.spool_disk.specs.Courses.{deed_left, left_of}
use Rattle.spool_disk.specs.MemView.{mem_view}
use Rattle.spool_plant.specs.View.{paper_now}
use Rattle.spool_disk.proofs.MemActs.{done_acts, halted_acts, done_print, halted_print, halted_line, left_keeps}
use Rattle.spool_disk.proofs.Faults.{fails_print}
use Rattle.spool_disk.specs.State.{State}
use Rattle.spool_disk.specs.Places.{slot_of}
use Rattle.spool_disk.proofs.ReadCounts.{reads_recorded, reads_halted, line_reads}
use Rattle.spool_disk.proofs.memory.MemPlantPlant.print.Goals as goal

pub returns-in-Halt-clause-kept : goal.returns-in-Halt-clause-kept
returns-in-Halt-clause-kept c keep planned =
    let halt = c.course-course.ensures.halt c.in-Halt.keep c.in-Halt.is in
    let same : c.in-Halt.keep ≡ keep = cc (c.in-Halt.is, c.course-course.ensures.course, planned) in
    subst (λ (k : ℕ). paper_now (mem_view c.stop.new.self) c.args.by.0 ≡ paper_now (mem_view c.args.self.now) c.args.by.0 ++ left_of k c.args.line.now) same
    (halted_line c.args.self.now c.note_part.new.self c.stop.new.self c.args.by.0 halt.0 c.place_number-place.result c.in-Halt.keep c.args.line.now c.note_part.ensures.state c.stop.ensures.state (4 * c.args.by.0 + 2) c.place_number-place.ensures.place)

pub returns-in-Go-clause-acts : goal.returns-in-Go-clause-acts
returns-in-Go-clause-acts c =
    let go = c.course-course.ensures.go c.in-Go.is in
    done_acts c.args.self.now c.note_line.new.self (Said c.place_number-place.result c.args.line.now true) go.0 go.1 c.note_line.ensures.state (λ place x. refl) c.args.by.0 (Printer c.args.by) go.3

pub returns-in-Go-clause-content : goal.returns-in-Go-clause-content
returns-in-Go-clause-content c =
    let go = c.course-course.ensures.go c.in-Go.is in
    done_print c.args.self.now c.note_line.new.self c.place_number-place.result c.args.line.now go.0 c.note_line.ensures.state c.args.by.0 c.place_number-place.ensures.place

pub returns-in-Halt-clause-acts : goal.returns-in-Halt-clause-acts
returns-in-Halt-clause-acts c =
    let halt = c.course-course.ensures.halt c.in-Halt.keep c.in-Halt.is in
    halted_acts c.args.self.now c.note_part.new.self c.stop.new.self (deed_left c.place_number-place.result c.in-Halt.keep c.args.line.now) c.args.by.0 halt.0 c.note_part.ensures.state c.stop.ensures.state (left_keeps c.args.self.now c.note_part.new.self c.stop.new.self c.args.by.0 halt.0 c.place_number-place.result c.in-Halt.keep c.args.line.now c.note_part.ensures.state c.stop.ensures.state) (Printer c.args.by) halt.1 c.stop.ensures.fits c.stop.ensures.there halt.3

pub returns-in-Halt-clause-content : goal.returns-in-Halt-clause-content
returns-in-Halt-clause-content c =
    let halt = c.course-course.ensures.halt c.in-Halt.keep c.in-Halt.is in
    halted_print c.args.self.now c.note_part.new.self c.stop.new.self c.args.by.0 halt.0 c.place_number-place.result c.in-Halt.keep c.args.line.now c.note_part.ensures.state c.stop.ensures.state c.args.by.0 c.place_number-place.ensures.place

pub returns-in-Fail-clause-acts : goal.returns-in-Fail-clause-acts
returns-in-Fail-clause-acts c = c.fail.ensures.acts c.args.by.0

pub returns-in-Fail-clause-content : goal.returns-in-Fail-clause-content
returns-in-Fail-clause-content c = fails_print c.args.by c.args.line.now _ _ c.fail.ensures.alone

pub returns-in-Go-clause-reads : goal.returns-in-Go-clause-reads
returns-in-Go-clause-reads c d =
    reads_recorded c.args.self.now c.note_line.new.self (Said c.place_number-place.result c.args.line.now true) d (c.course-course.ensures.go c.in-Go.is).0 (ap (λ (x : State). x.deeds) c.note_line.ensures.state) refl

pub returns-in-Halt-clause-reads : goal.returns-in-Halt-clause-reads
returns-in-Halt-clause-reads c d =
    reads_halted c.args.self.now c.note_part.new.self c.stop.new.self (deed_left c.place_number-place.result c.in-Halt.keep c.args.line.now) c.args.by.0 d (c.course-course.ensures.halt c.in-Halt.keep c.in-Halt.is).0 c.note_part.ensures.state c.stop.ensures.state (line_reads (slot_of d) c.place_number-place.result c.in-Halt.keep c.args.line.now)

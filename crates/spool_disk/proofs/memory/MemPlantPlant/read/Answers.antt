use Rattle.std.proofs.Common.{length, ◌≡◌, ⊎_elim, false, ◌≤◌, ◌==◌, ◌∙◌, ap, arith, ℕ, drop, filter, subst, sym, ◌+◌, refl}
use Rattle.spool_disk.specs.Kept.{size_at}
use Rattle.spool_plant.specs.declared.plant.Part.TheVariants.{Disk as DiskPart}
use Rattle.spool_disk.specs.Deeds.{Idle, Fetched, is_read}
use Rattle.spool_disk.specs.MemView.{state_of}
use Rattle.spool_disk.specs.Places.{slot_of}
use Rattle.spool_disk.specs.State.{State}
use Rattle.spool_disk.proofs.Acting.{same_test, other_test, slot_apart}
use Rattle.spool_disk.proofs.Counting.{count_push}
use Rattle.spool_disk.proofs.MemActs.{in_full, done_acts, halted_acts, done_read, halted_read}
use Rattle.spool_disk.proofs.Faults.{fails_read}
use Rattle.spool_disk.proofs.ReadCounts.{reads_recorded, reads_halted}
use Rattle.spool_disk.proofs.memory.MemPlantPlant.read.Goals as goal

pub read-requires-clause-within : goal.read-requires-clause-within
read-requires-clause-within c =
    subst (λ (n : ℕ). c.args.at + length c.args.into.now ≤ size_at c.args.self.now.kept.base n) (sym c.slot_number-slot.ensures.slot) c.requires

pub returns-in-Go-clause-acts : goal.returns-in-Go-clause-acts
returns-in-Go-clause-acts c =
    let go = c.course-course.ensures.go c.in-Go.is in
    done_acts c.args.self.now c.note_read.new.self (Fetched c.slot_number-slot.result) go.0 go.1 c.note_read.ensures.state (λ place x. refl) c.args.by.0 (DiskPart c.args.dev) go.3

pub returns-in-Go-clause-content : goal.returns-in-Go-clause-content
returns-in-Go-clause-content c =
    let go = c.course-course.ensures.go c.in-Go.is in
    done_read c.args.self.now c.note_read.new.self c.args.dev c.args.at c.slot_number-slot.result c.read.new.into go.0 c.slot_number-slot.ensures.slot c.read.ensures c.note_read.ensures.state

pub returns-in-Halt-clause-acts : goal.returns-in-Halt-clause-acts
returns-in-Halt-clause-acts c =
    let halt = c.course-course.ensures.halt c.in-Halt.field-0 c.in-Halt.is in
    halted_acts c.args.self.now c.note_idle.new.self c.stop.new.self (Idle) c.args.by.0 halt.0 c.note_idle.ensures.state c.stop.ensures.state (λ place x. refl) (DiskPart c.args.dev) halt.1 c.stop.ensures.fits c.stop.ensures.there halt.3

pub returns-in-Halt-clause-content : goal.returns-in-Halt-clause-content
returns-in-Halt-clause-content c =
    let halt = c.course-course.ensures.halt c.in-Halt.field-0 c.in-Halt.is in
    halted_read c.args.self.now c.note_idle.new.self c.stop.new.self c.args.by.0 halt.0 c.note_idle.ensures.state c.stop.ensures.state c.args.dev c.args.at _

pub returns-in-Fail-clause-acts : goal.returns-in-Fail-clause-acts
returns-in-Fail-clause-acts c = c.fail.ensures.acts c.args.by.0

pub returns-in-Fail-clause-content : goal.returns-in-Fail-clause-content
returns-in-Fail-clause-content c = fails_read c.args.dev c.args.at _ _ _ c.fail.ensures.alone

pub returns-in-Go-clause-reads : goal.returns-in-Go-clause-reads
returns-in-Go-clause-reads c done t le =
    let go = c.course-course.ensures.go c.in-Go.is in
    let s = c.args.self.now in
    let slot : ℕ = slot_of c.args.dev in
    let is = ap (λ (n : ℕ). n == slot) c.slot_number-slot.ensures.slot ∙ same_test slot in
    ap (λ (x : State). length (filter (is_read slot) (drop t x.deeds))) c.note_read.ensures.state
    ∙ count_push slot t (state_of s).deeds (Fetched c.slot_number-slot.result) (omega (arith, le, in_full s go.0)) is

pub returns-in-Go-clause-else_reads : goal.returns-in-Go-clause-else_reads
returns-in-Go-clause-else_reads c d why =
    let slot = slot_of d in
    let other : (slot_of c.args.dev == slot) ≡ false = ⊎_elim (λ ne. other_test (slot_of c.args.dev) slot (λ same. ne (slot_apart d c.args.dev (sym same)))) (λ not. absurd (not refl)) why in
    reads_recorded c.args.self.now c.note_read.new.self (Fetched c.slot_number-slot.result) d (c.course-course.ensures.go c.in-Go.is).0 (ap (λ (x : State). x.deeds) c.note_read.ensures.state)
    (ap (λ (n : ℕ). n == slot) c.slot_number-slot.ensures.slot ∙ other)

pub returns-in-Halt-clause-else_reads : goal.returns-in-Halt-clause-else_reads
returns-in-Halt-clause-else_reads c d why =
    reads_halted c.args.self.now c.note_idle.new.self c.stop.new.self Idle c.args.by.0 d (c.course-course.ensures.halt c.in-Halt.field-0 c.in-Halt.is).0 c.note_idle.ensures.state c.stop.ensures.state refl

use Rattle.std.proofs.Common.{arith, sym, ◌∙◌, ap, ◌≡◌, ◌++◌, ℕ, Bool, List, length, length-append, length-drop, take, drop, min, if◌then◌else◌, refl, false}
use Rattle.std.proofs.lemmas.List.{take_at, length-take-le}
use Rattle.spool_plant.specs.declared.plant.Part.TheVariants.{Wire}
use Rattle.spool_disk.specs.Deeds.{Idle, Passed}
use Rattle.spool_disk.specs.Waiting.{waiting_on}
use Rattle.spool_disk.proofs.Acting.{same_test, other_test}
use Rattle.spool_disk.proofs.MemActs.{take_acts, done_take, halted_acts, halted_take, none_left}
use Rattle.spool_disk.proofs.Faults.{fails_take}
use Rattle.spool_disk.specs.State.{State}
use Rattle.spool_disk.proofs.ReadCounts.{reads_recorded, reads_halted}
use Rattle.spool_disk.proofs.memory.MemPlantPlant.take.Goals as goal

pub returns-in-Go-clause-acts : goal.returns-in-Go-clause-acts
returns-in-Go-clause-acts c =
    let go = c.course-course.ensures.go c.in-Go.is in
    take_acts c.args.self.now c.note_passed.new.self c.args.wire c.args.by.0 c.take.new.into go.0 (waiting_on c.take.new.self) c.note_passed.ensures.state c.args.by.0 (Wire c.args.wire) go.1 go.3

pub returns-in-Go-clause-content : goal.returns-in-Go-clause-content
returns-in-Go-clause-content c =
    let go = c.course-course.ensures.go c.in-Go.is in
    let n = c.min-n.result in
    let wire = c.args.wire in
    let waits : List ℕ = waiting_on c.args.self.now.incoming wire in
    let into = c.args.into.now in
    let some = c.take.new.into in
    let is : n ≡ min (length waits) (length into) = omega (arith, c.min-n.ensures, c.count.ensures) in
    let many : length some ≡ n = omega (arith, c.take.auto.into, length-take-le n into (omega (arith, is))) in
    let bytes = c.take.ensures.into ∙ ap (λ (k : ℕ). take k waits) many in
    let after = some ++ drop n into in
    let long : length after ≡ length into = omega (arith, length-append some (drop n into), length-drop n into, many, is) in
    done_take c.args.self.now c.note_passed.new.self wire c.args.by.0 some go.0 (waiting_on c.take.new.self) c.note_passed.ensures.state n after (omega (arith, is))
    (take_at some (drop n into) n many ∙ bytes) bytes
    (c.take.ensures.rest wire ∙ ap (λ (b : Bool). if b then drop (length some) waits else waits) (same_test wire) ∙ ap (λ (k : ℕ). drop k waits) many)
    (λ w ne. c.take.ensures.rest w ∙ ap (λ (b : Bool). if b then drop (length some) (waiting_on c.args.self.now.incoming w) else waiting_on c.args.self.now.incoming w) (other_test wire w (λ same. ne (sym same))))
    (none_left n waits into after is long)

pub returns-in-Halt-clause-acts : goal.returns-in-Halt-clause-acts
returns-in-Halt-clause-acts c =
    let halt = c.course-course.ensures.halt c.in-Halt.field-0 c.in-Halt.is in
    halted_acts c.args.self.now c.note_idle.new.self c.stop.new.self (Idle) c.args.by.0 halt.0 c.note_idle.ensures.state c.stop.ensures.state (λ place x. refl) (Wire c.args.wire) halt.1 c.stop.ensures.fits c.stop.ensures.there halt.3

pub returns-in-Halt-clause-content : goal.returns-in-Halt-clause-content
returns-in-Halt-clause-content c =
    let halt = c.course-course.ensures.halt c.in-Halt.field-0 c.in-Halt.is in
    halted_take c.args.self.now c.note_idle.new.self c.stop.new.self c.args.by.0 halt.0 c.note_idle.ensures.state c.stop.ensures.state c.args.wire c.args.by.0 c.args.into.now

pub returns-in-Fail-clause-acts : goal.returns-in-Fail-clause-acts
returns-in-Fail-clause-acts c = c.fail.ensures.acts c.args.by.0

pub returns-in-Fail-clause-content : goal.returns-in-Fail-clause-content
returns-in-Fail-clause-content c = fails_take c.args.wire c.args.by.0 c.args.into.now _ _ c.fail.ensures.alone

pub returns-in-Go-clause-reads : goal.returns-in-Go-clause-reads
returns-in-Go-clause-reads c d =
    reads_recorded c.args.self.now c.note_passed.new.self (Passed false c.args.wire c.args.by.0 c.take.new.into) d (c.course-course.ensures.go c.in-Go.is).0 (ap (λ (x : State). x.deeds) c.note_passed.ensures.state) refl

pub returns-in-Halt-clause-reads : goal.returns-in-Halt-clause-reads
returns-in-Halt-clause-reads c d =
    reads_halted c.args.self.now c.note_idle.new.self c.stop.new.self Idle c.args.by.0 d (c.course-course.ensures.halt c.in-Halt.field-0 c.in-Halt.is).0 c.note_idle.ensures.state c.stop.ensures.state refl

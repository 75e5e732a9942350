-- A batch that is kept, with nothing said.
use Rattle.std.proofs.Common.{inl, inr, ⊎_elim, ◌∙◌, ℕ, Bool, List, Result, Err, refl}
use Rattle.mas_types.specs.declared.journals.Batch.{Batch}
use Rattle.spool_plant.specs.Acts.{Goes}
use Rattle.spool_plant.specs.View.{View}
use Rattle.spool_plant.specs.declared.plant.Part.TheVariants.{Console}
use Rattle.mas_complex.specs.CallCounts.{PairState, pair_at}
use Rattle.member_node.specs.declared.member.NodeNo.{NodeNo}
use Rattle.member_node.specs.declared.member.NodeNo.TheVariants.{BothLost, ConsoleFault, Halted, NoMemory}
use Rattle.member_node.specs.Writes.{IsWrite, WriteCauses, WriteLeaves, journal_at}
use Rattle.member_node.specs.Calls.{IsLeft}
use Rattle.member_node.proofs.CourseLemmas.{apart_none, course_none, rose_later}
use Rattle.member_node.proofs.SpareLemmas.{spares_none}
use Rattle.member_steps.specs.Keeping.{CopyCauses, IsOnCopies, KeepLeaves}
use Rattle.member_steps.specs.Steps.{StepCauses}

-- nothing was done
pub copies_none : (told : Type 0) (by : ℕ) (x : PairState) → IsOnCopies {T = Unit {0}} told by x x (Err NoMemory)
copies_none told by x = record {
  course = course_none x.first x.second x.view;
  loses = λ t d. refl;
  cause = inr (refl, refl);
  spares = spares_none by x.view;
  apart = λ t. apart_none x.view;
}

-- the cause of an answer of acts on the copies
pub copy_causes : (r : Result (Unit {0}) NodeNo) (by : ℕ) (x y : PairState) → CopyCauses r by x y → StepCauses r by x y
copy_causes (Err ConsoleFault) by x y cause = absurd cause
copy_causes _ by x y cause = cause

-- ONE PART AFTER ANOTHER

-- leaves a copy, or both are as they were
pub left_then : (a a' a'' b b' b'' : Bool) → IsLeft a a' b b' → IsLeft a' a'' b' b'' → IsLeft a a'' b b''
left_then a a' a'' b b' b'' one two = ⊎_elim (λ some. inl some) (λ same. ⊎_elim (λ some. inl (rw (same.0, same.1) some)) (λ before. inr (same.0 ∙ before.0, same.1 ∙ before.1)) one) two

-- an answer's cause, after another part
pub causes_then : (r : Result (Unit {0}) NodeNo) (by : ℕ) (a a' a'' b b' b'' : Bool) (v0 v1 v2 : View) → IsLeft a a' b b' → Goes v0 v1 → StepCauses r by (pair_at a' b' v1) (pair_at a'' b'' v2) → StepCauses r by (pair_at a b v0) (pair_at a'' b'' v2)
causes_then (Err BothLost) by a a' a'' b b' b'' v0 v1 v2 left goes cause = cause
causes_then (Err ConsoleFault) by a a' a'' b b' b'' v0 v1 v2 left goes cause = (left_then a a' a'' b b' b'' left cause.0, rose_later (v0.faults Console) (v1.faults Console) (v2.faults Console) (goes.faults Console) cause.1)
causes_then (Err Halted) by a a' a'' b b' b'' v0 v1 v2 left goes cause = (left_then a a' a'' b b' b'' left cause.0, rose_later (v0.stops by) (v1.stops by) (v2.stops by) (goes.stops by) cause.1)
causes_then _ by a a' a'' b b' b'' v0 v1 v2 left goes cause = left_then a a' a'' b b' b'' left cause

-- A BATCH

-- it was written, or couldn't be
pub copies_written : (told : Type 0) (by : ℕ) (b : Batch) (front batches : List Batch) (x y : PairState) (r : Result (Unit {0}) NodeNo) → IsWrite told by b (journal_at front x) (journal_at batches y) r → IsOnCopies told by x y r × KeepLeaves r front batches b y.view.now
copies_written told by b front batches x y r write = (record { course = write.course; loses = λ t d. write.loses d; cause = causes r write.cause; spares = write.spares; apart = write.apart }, leaves r write.journal) where
  causes : (r : Result (Unit {0}) NodeNo) → WriteCauses r by x y → CopyCauses r by x y
  causes (Err NoMemory) never = absurd never
  causes _ cause = cause

  leaves : (r : Result (Unit {0}) NodeNo) → WriteLeaves r front batches b y.view.now → KeepLeaves r front batches b y.view.now
  leaves (Err NoMemory) never = absurd never
  leaves _ left = left

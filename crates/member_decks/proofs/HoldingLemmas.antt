-- A member that got the lock, and took in what the copies have.
use Rattle.member_decks.proofs.Names.{inl, ℕ, false, Result, Ok, Err, PairState, NodeNo, BothLost, Halted, ConsoleFault, NoMemory, is_stop, stopped_in, CopyCauses, IsOnCopies}
use Rattle.member_steps.specs.Reads.{IsSettle, ReadInCauses}
use Rattle.member_steps.proofs.ReadLemmas.{HasBegun, cause_settle}

-- a member that has the lock couldn't take in what the copies have
pub held_not : (told : Type 0) (by : ℕ) (x y : PairState) (e : NodeNo) → HasBegun told by (is_stop e) x.first y.first x.second y.second x.view y.view → ReadInCauses {T = Unit {0}} (Err e) by y.first y.second x.view y.view → IsOnCopies {T = Unit {0}} told by x y (Err e)
held_not told by x y e acts cause = record { course = acts.course; loses = acts.loses; cause = causes e cause; spares = acts.spares; apart = acts.apart } where
  causes : (e : NodeNo) → ReadInCauses {T = Unit {0}} (Err e) by y.first y.second x.view y.view → CopyCauses {T = Unit {0}} (Err e) by x y
  causes BothLost c = c
  causes Halted c = (inl c.0, c.1)
  causes NoMemory c = inl c
  causes ConsoleFault c = absurd c

-- the reads of the copies and the settle after them, by the settle's answer
pub held_by_settle : (told : Type 0) (by : ℕ) (x y z : PairState) (r : Result (Unit {0}) NodeNo) → HasBegun told by (stopped_in r) x.first z.first x.second z.second x.view z.view → HasBegun told by false x.first y.first x.second y.second x.view y.view
    → IsSettle told by y z r → IsOnCopies told by x z r
held_by_settle told by x y z (Ok done) acts read settle = record { course = acts.course; loses = acts.loses; cause = inl settle.cause; spares = acts.spares; apart = acts.apart }
held_by_settle told by x y z (Err e) acts read settle = held_not told by x z e acts (cause_settle by z.first z.second x.view y.view z.view e read.course.goes settle.cause)

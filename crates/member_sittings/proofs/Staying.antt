-- A member that has its seat still.
use Rattle.member_sittings.proofs.Names.{inl, ℕ, OnOk, Result, Ok, Err, NodeNo, BothLost, ConsoleFault, Halted, NoMemory, IsSettle, ReadCauses, CopyCauses, IsOnCopies, PairState}

-- a settle alone is acts on the copies
pub settle_copies : (told : Type 0) (by : ℕ) (x y : PairState) (r : Result (Unit {0}) NodeNo) → IsSettle told by x y r → IsOnCopies told by x y r
settle_copies told by x y r s = record { course = s.course; loses = λ t d. s.loses d; cause = causes r s.cause; spares = s.spares; apart = s.apart } where
  causes : (r : Result (Unit {0}) NodeNo) → ReadCauses r by y.first y.second x.view y.view → CopyCauses r by x y
  causes (Ok done) c = inl c
  causes (Err BothLost) c = c
  causes (Err Halted) c = (inl c.0, c.1)
  causes (Err NoMemory) c = absurd c
  causes (Err ConsoleFault) c = absurd c

-- four facts after Ok give another
pub on_four : {T E A B C D X : Type 0} (r : Result T E) → OnOk r A → OnOk r B → OnOk r C → OnOk r D → (A → B → C → D → X) → OnOk r X
on_four (Ok done) a b c d f = f a b c d
on_four (Err why) a b c d f = tt

-- How calls of a pair end.
use Rattle.std.specs.Prelude.{ℕ, min, Bool, true, false, Result, Ok, Err}
use Rattle.duplex_pair.specs.declared.errors.Halted.{Halted}
use Rattle.duplex_pair.specs.declared.errors.PairNo.{PairNo}
use Rattle.duplex_pair.specs.declared.errors.PairNo.TheVariants.{BothLost, Halted as PairHalted}
use Rattle.duplex_pair.specs.declared.errors.LookNo.{LookNo}
use Rattle.duplex_pair.specs.declared.errors.LookNo.TheVariants.{Halted as LookHalted, NoMemory as LookNoMemory}
use Rattle.duplex_pair.specs.declared.errors.PairFindNo.{PairFindNo}
use Rattle.duplex_pair.specs.declared.errors.PairFindNo.TheVariants.{BothLost as FindBothLost, Halted as FindHalted, NotValid, NoMemory as FindNoMemory}

-- the member was stopped in a call on one copy
abbrev pub half_stopped : {T : Type 0} → Result T Halted → Bool
half_stopped (Ok value) = false
half_stopped (Err _) = true

-- the member was stopped in a call on the pair
abbrev pub pair_stopped : {T : Type 0} → Result T PairNo → Bool
pair_stopped (Ok value) = false
pair_stopped (Err BothLost) = false
pair_stopped (Err PairHalted) = true

-- the member was stopped in a look at one copy
abbrev pub look_stopped : {T : Type 0} → Result T LookNo → Bool
look_stopped (Ok value) = false
look_stopped (Err LookHalted) = true
look_stopped (Err LookNoMemory) = false

-- the member was stopped in a find
abbrev pub find_stopped : {T : Type 0} → Result T PairFindNo → Bool
find_stopped (Ok value) = false
find_stopped (Err FindBothLost) = false
find_stopped (Err FindHalted) = true
find_stopped (Err NotValid) = false
find_stopped (Err FindNoMemory) = false

abbrev pub pair_halted : PairNo
pair_halted = PairHalted

-- the answer of a find in which a look was answered so
abbrev pub find_no : LookNo → PairFindNo
find_no LookHalted = FindHalted
find_no LookNoMemory = FindNoMemory

-- the least room of the copies that count as alive
abbrev pub least_room : Bool → Bool → ℕ → ℕ → ℕ
least_room true true first second = min first second
least_room true false first second = first
least_room false true first second = second
least_room false false first second = 0

-- Why nothing is recovered.
use Rattle.mas_complex.specs.Names.{PairNo, BothLost as PairBothLost, Halted as PairHalted, LookNo, LookHalted, NoMemory as LookNoMemory}
use Rattle.std.specs.Prelude.{Bool, true, false, Result, Ok, Err}
use Rattle.mas_complex.specs.declared.recover.RecoverNo.{RecoverNo}
use Rattle.mas_complex.specs.declared.recover.RecoverNo.TheVariants.{BothLost, Halted, NoMemory}

-- the answer of a recovery where a look had this answer
abbrev pub recover_no_seen : LookNo → RecoverNo
recover_no_seen LookHalted = Halted
recover_no_seen LookNoMemory = NoMemory

-- the member was stopped in a recovery
abbrev pub recover_stopped : {T : Type 0} → Result T RecoverNo → Bool
recover_stopped (Ok value) = false
recover_stopped (Err BothLost) = false
recover_stopped (Err Halted) = true
recover_stopped (Err NoMemory) = false

-- the answer of a recovery where a call on the pair had this error
abbrev pub recover_no : PairNo → RecoverNo
recover_no PairBothLost = BothLost
recover_no PairHalted = Halted

-- What the acts of a plant in memory answer.
use Rattle.std.specs.Prelude.{ℕ}
use Rattle.spool_plant.specs.declared.plant.Act.{Act}
use Rattle.spool_plant.specs.declared.plant.Act.TheVariants.{Done, Failed, Halted}
use Rattle.spool_plant.specs.declared.plant.Took.{Took}
use Rattle.spool_plant.specs.declared.plant.Took.TheVariants.{Bytes, Failed as TookFailed, Halted as TookHalted}

-- a read was done
abbrev pub IsRead : Act → Type 0
IsRead Done = Unit {0}
IsRead Failed = ⊥
IsRead Halted = ⊥

-- what holds of the number of bytes that were taken, if any were
abbrev pub IfTook : Took → (ℕ → Type 0) → Type 0
IfTook (Bytes n) P = P n
IfTook TookFailed P = Unit {0}
IfTook TookHalted P = Unit {0}

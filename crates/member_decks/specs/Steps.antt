-- A member's deck step, by its answer.
use Rattle.member_decks.specs.Names.{Spool, MemberId, Entry, Disk as DiskPart, View, Rose, NodeNo, BothLost, Halted, ConsoleFault, NoMemory, none_lost, SparesBut}
use Rattle.std.specs.Prelude.{◌≡◌, ℕ, ◌==◌, Bool, true, false, List, All, Option, Some, None, Result, Ok, Err}

-- a volume that was found lost: it failed in the step, and is lost
abbrev pub IsFoundLost : Option ℕ → View → View → Type 0
IsFoundLost None old new = Unit {0}
IsFoundLost (Some volume) old new = (new.lost (DiskPart (Spool volume)) ≡ true)
    × Rose (old.faults (DiskPart (Spool volume))) (new.faults (DiskPart (Spool volume)))

-- the entries are of this member's step
abbrev pub AreOf : MemberId → ℕ → List Entry → Type 0
AreOf by at es = All (λ e. (e.by ≡ by) × (e.step ≡ at)) es

-- the volume that was found lost, if one was
abbrev pub names_volume : Option ℕ → ℕ → Bool
names_volume None n = false
names_volume (Some volume) n = n == volume

-- Why acts beside the copies ended a step: out of memory, or the member was stopped. Else nobody was. No volume is lost
-- but those that the answer names, and no fault of another one is counted.
abbrev pub SpoolStops : {T : Type 0} → (T → ℕ → Bool) → Result T NodeNo → ℕ → View → View → Type 0
SpoolStops names (Ok done) by old new = SparesBut by false (names done) old new
SpoolStops names (Err NoMemory) by old new = SparesBut by false none_lost old new
SpoolStops names (Err Halted) by old new = SparesBut by true none_lost old new × Rose (old.stops by) (new.stops by)
SpoolStops names (Err BothLost) by old new = ⊥
SpoolStops names (Err ConsoleFault) by old new = ⊥

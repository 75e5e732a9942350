-- What calls on the copies leave as it was, and which copies are lost in them.
use Rattle.std.specs.Prelude.{◌≡◌, ◌≢◌, ◌⊎◌, ℕ, Bool, true, false, List}
use Rattle.mas_types.specs.declared.ids.Dev.{Dev}
use Rattle.mas_types.specs.declared.ids.Dev.TheVariants.{Ckpt1, Ckpt2, Spool}
use Rattle.spool_plant.specs.declared.plant.Part.TheVariants.{Disk}
use Rattle.spool_plant.specs.View.{View, Line, disk_at, disk_now, Throughout}
use Rattle.spool_plant.specs.Acts.{Goes, Rose, SameWires}
use Rattle.duplex_pair.specs.Halves.{SomeAlive}
use Rattle.mas_complex.specs.CallCounts.{IsLostOnce, PairState}
use Rattle.mas_complex.specs.Paper.{SamePapers}

-- what stands on the console now
abbrev pub console_now : View → List Line
console_now v = (v.world v.now).console

-- at each moment from one to the other every device but CKPT1 and CKPT2 is as it was
abbrev pub IsOnlyOn : View → View → Type 0
IsOnlyOn old new = Throughout old.now new.now
    (λ t. (d : Dev) → d ≢ Ckpt1 → d ≢ Ckpt2 → disk_at new t d ≡ disk_now old d)

-- What calls leave as it was: at each moment the other devices and the printers, and at the end the console and the
-- wires, on which nothing has moved then.
pub record Apart (old new : View) : Type 0 where
  pub others : IsOnlyOn old new
  pub console : console_now new ≡ console_now old
  pub papers : SamePapers old new
  pub wires : SameWires old new

-- a device was lost: its faults rose, or the calls that lose it did
abbrev pub WasLost : Dev → View → View → Type 0
WasLost d old new = Rose (old.faults (Disk d)) (new.faults (Disk d)) ⊎ Rose (old.loses d) (new.loses d)

-- a count of calls that lose a device, later: the same, or it rose
abbrev pub Grows : ℕ → ℕ → Type 0
Grows old new = (new ≡ old) ⊎ Rose old new

-- one copy counts as alive, or both are as they were
abbrev pub IsLeft : Bool → Bool → Bool → Bool → Type 0
IsLeft was1 is1 was2 is2 = SomeAlive is1 is2 ⊎ ((is1 ≡ was1) × (is2 ≡ was2))

-- each volume but these is lost where it was, and no fault of it is counted
pub record VolumesStay (but : ℕ → Bool) (old new : View) : Type 0 where
  pub lost : (n : ℕ) → but n ≡ false → new.lost (Disk (Spool n)) ≡ old.lost (Disk (Spool n))
  pub faults : (n : ℕ) → but n ≡ false → new.faults (Disk (Spool n)) ≡ old.faults (Disk (Spool n))

-- no volume
abbrev pub none_lost : ℕ → Bool
none_lost n = false

-- Acts of a run on its copies. A copy is lost exactly where its device failed or was lost by a call, once, and one that
-- counts as alive isn't lost if it wasn't before. The volumes stay as they are.
pub record Course (old new : PairState) : Type 0 where
  pub goes : Goes old.view new.view
  pub failed1 : old.first ≡ true → new.first ≡ false → WasLost Ckpt1 old.view new.view
  pub failed2 : old.second ≡ true → new.second ≡ false → WasLost Ckpt2 old.view new.view
  pub there1 : new.first ≡ true → old.view.lost (Disk Ckpt1) ≡ false → new.view.lost (Disk Ckpt1) ≡ false
  pub there2 : new.second ≡ true → old.view.lost (Disk Ckpt2) ≡ false → new.view.lost (Disk Ckpt2) ≡ false
  pub alive1 : new.first ≡ true → old.first ≡ true
  pub alive2 : new.second ≡ true → old.second ≡ true
  pub grow : (d : Dev) → Grows (old.view.loses d) (new.view.loses d)
  pub once1 : IsLostOnce old.first new.first (old.view.loses Ckpt1) (new.view.loses Ckpt1)
  pub once2 : IsLostOnce old.second new.second (old.view.loses Ckpt2) (new.view.loses Ckpt2)
  pub volumes : VolumesStay none_lost old.view new.view

-- What the spool volumes and the printer may give a unit.
use Rattle.member_work.specs.Names.{Spool, GroupNo, MemberId, Text, Whole, Gone, Disk as DiskPart, Printer, View, Rose, lies_there, Read}
use Rattle.std.specs.Prelude.{◌≡◌, ℕ, ◌==◌, Bool, true, false, List, Option, Some, None}
use Rattle.job_outcome.specs.declared.outcomes.Read.TheVariants as read
use Rattle.member_work.specs.Looks.{as_it_is}

-- a volume that failed in a call on which one of the groups lies
pub record HasFailed (per : ℕ) (groups : List GroupNo) (volume : ℕ) (old new : View) : Type 0 where
  pub there : lies_there per volume groups ≡ true
  pub lost : new.lost (DiskPart (Spool volume)) ≡ true
  pub rose : Rose (old.faults (DiskPart (Spool volume))) (new.faults (DiskPart (Spool volume)))

-- the volume that was found lost as a text was read, if one was
abbrev pub names_read : Read → ℕ → Bool
names_read (read.Lines lines) n = false
names_read (read.Gone group) n = false
names_read (read.Lost volume) n = n == volume

-- an answer that names no volume
abbrev pub names_nothing : {T : Type 0} → T → ℕ → Bool
names_nothing done n = false

abbrev pub IsWhole : Text → Type 0
IsWhole (Whole lines) = Unit {0}
IsWhole (Gone group count) = ⊥

-- a text, and the groups in which it stands
abbrev pub PlacedText : Type 0
PlacedText = Text × List GroupNo

-- How a text was read. Where content is told it is as the queue has it, unless a volume was found lost; no volume is
-- found lost at a text that is gone.
abbrev pub IsReadAs : Type 0 → ℕ → PlacedText → Option Read → View → View → Type 0
IsReadAs told per text None old new = Unit {0}
IsReadAs told per text (Some (read.Lines lines)) old new = told → read.Lines lines ≡ as_it_is text.0
IsReadAs told per text (Some (read.Gone group)) old new = told → read.Gone group ≡ as_it_is text.0
IsReadAs told per text (Some (read.Lost volume)) old new = (told → IsWhole text.0)
    × HasFailed per text.1 volume old new

-- a volume that was found lost in a call that writes into these groups: one of them lies on it
abbrev pub IsSpoolLost : ℕ → List GroupNo → Option ℕ → View → View → Type 0
IsSpoolLost per groups None old new = Unit {0}
IsSpoolLost per groups (Some volume) old new = HasFailed per groups volume old new

-- the member's printer was found lost in a call: it failed in it
pub record HasPrinterFailed (by : MemberId) (old new : View) : Type 0 where
  pub lost : new.lost (Printer by) ≡ true
  pub rose : Rose (old.faults (Printer by)) (new.faults (Printer by))

-- What holds of texts that stand on the spool volumes.
use Rattle.std.specs.Prelude.{◌≡◌, ℕ, Bool, true, false, List, [], ◌∷◌, length, Option, Some, None}
use Rattle.mas_types.specs.declared.ids.GroupNo.{GroupNo}
use Rattle.mas_types.specs.declared.jobs.Text.TheVariants.{Whole}
use Rattle.mas_types.specs.Fit.{AreLines}
use Rattle.mas_types.specs.Limits.{page_bytes}
use Rattle.spool_plant.specs.View.{Disk, IsImage}
use Rattle.ckpt_copy.specs.Has.{Has}
use Rattle.spool_text.specs.Texts.{packed}
use Rattle.spool_volumes.specs.Volumes.{Volumes, volume_of, start_of, page_of}
use Rattle.spool_volumes.specs.Texts.{records_on, text_of, text_left}

-- each of the pages stands in its group
abbrev pub HavePages : Volumes → ℕ → List (List ℕ) → List GroupNo → Type 0
HavePages volumes per [] [] = Unit {0}
HavePages volumes per [] (g ∷ gs) = ⊥
HavePages volumes per (page ∷ pages) [] = ⊥
HavePages volumes per (page ∷ pages) (g ∷ gs) = (page_of volumes per g ≡ Some page) × HavePages volumes per pages gs

-- a text that stands in its groups is read
abbrev pub ReadsTexts : Type 0
ReadsTexts = (volumes : Volumes) (per : ℕ) (lines : List (List ℕ)) (groups : List GroupNo)
    → AreLines lines → HavePages volumes per (packed lines) groups
    → text_of (records_on volumes per) (length lines) groups ≡ Whole lines

-- each of the pages stands in its group, synced
abbrev pub AreThere : (ℕ → Disk) → ℕ → List (List ℕ) → List GroupNo → Type 0
AreThere disks per [] [] = Unit {0}
AreThere disks per [] (g ∷ gs) = ⊥
AreThere disks per (page ∷ pages) [] = ⊥
AreThere disks per (page ∷ pages) (g ∷ gs) = Has (start_of per g) page_bytes page (disks (volume_of per g))
    × AreThere disks per pages gs

-- what a crash may leave of a volume, of which is said whether it is lost
abbrev pub IsLeftOf : Disk → Bool → Option (List ℕ) → Type 0
IsLeftOf disk true left = left ≡ None
IsLeftOf disk false None = ⊥
IsLeftOf disk false (Some image) = IsImage disk image

-- whichever images a crash leaves of the volumes that aren't lost, a text that is there and synced is read, unless one
-- of its groups lies on a lost volume
abbrev pub LeavesTexts : Type 0
LeavesTexts = (disks : ℕ → Disk) (lost : ℕ → Bool) (volumes : Volumes) (per : ℕ) (lines : List (List ℕ))
    (groups : List GroupNo)
    → AreLines lines → AreThere disks per (packed lines) groups → ((n : ℕ) → IsLeftOf (disks n) (lost n) (volumes n))
    → text_of (records_on volumes per) (length lines) groups ≡ text_left lost per lines groups

-- What the images of a device read as, for any form of a copy.
use Rattle.std.specs.Prelude.{◌≡◌, ◌⊎◌, ℕ, Option, Some, None, List}
use Rattle.spool_plant.specs.View.{Disk, IsImage, LeavesOnly}
use Rattle.spool_plant.specs.Acts.{DiffersIn}

-- each image reads as these pages
abbrev pub AllRead : (List ℕ → Option (List ℕ)) → List ℕ → Disk → Type 0
AllRead reads pages disk = LeavesOnly disk (λ image. reads image ≡ Some pages)

-- each image reads as these pages or as those
abbrev pub EachReads : (List ℕ → Option (List ℕ)) → List ℕ → List ℕ → Disk → Type 0
EachReads reads old new disk = LeavesOnly disk (λ image. (reads image ≡ Some old) ⊎ (reads image ≡ Some new))

-- the device's bytes, and each image, read as none
pub record IsNone (reads : List ℕ → Option (List ℕ)) (disk : Disk) : Type 0 where
  pub now : reads disk.bytes ≡ None
  pub images : LeavesOnly disk (λ image. reads image ≡ None)

-- this is, but for the VALID gate, an image of the device
abbrev pub IsOfOld : Disk → List ℕ → Type 0
IsOfOld was image = (before : List ℕ) × IsImage was before × DiffersIn 0 1 before image

-- while a copy is formed: each image reads as none or as the new pages, or is one of those before but for the VALID
-- gate
abbrev pub EachForms : (List ℕ → Option (List ℕ)) → Disk → List ℕ → Disk → Type 0
EachForms reads was pages disk = LeavesOnly disk
    (λ image. (reads image ≡ None) ⊎ (reads image ≡ Some pages) ⊎ IsOfOld was image)

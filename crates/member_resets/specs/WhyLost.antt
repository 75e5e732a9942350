-- Why a takeover may lose a copy.
use Rattle.std.specs.Prelude.{◌≡◌, ◌⊎◌, ℕ, ◌+◌, ◌≤◌, List, Option, Some}
use Rattle.mas_types.specs.declared.ids.Dev.{Dev}
use Rattle.mas_types.specs.declared.ids.Page.{Page}
use Rattle.mas_types.specs.declared.journals.Fate.{Fate}
use Rattle.mas_types.specs.declared.journals.Fate.TheVariants.{Flying}
use Rattle.spool_plant.specs.declared.plant.Part.TheVariants.{Disk}
use Rattle.spool_plant.specs.Acts.{Rose}
use Rattle.spool_plant.specs.View.{View, disk_at, disk_now}
use Rattle.ckpt_copy.specs.Pages.{bytes_of, level}
use Rattle.mas_complex.specs.Seen.{WasUnfit}
use Rattle.warm_start.specs.Takeover.{fate_of}

-- A copy couldn't stay beside the pages that a takeover found, and by which a batch in flight has this fate. They had
-- the level that the kept batches had reached, or at most one more; and at a moment of the line the other copy had
-- them. As the line began this copy read as pages of no greater level, which don't fit those, for so many puts as it
-- had room for, or have another level than those and than the one reached.
pub record CouldNotStay (reads : List ℕ → Option (List ℕ)) (fate : Fate) (dev other : Dev) (old new : View) : Type 0
  where
    pub pages : List Page
    pub reached : ℕ
    pub fated : fate ≡ fate_of (level (bytes_of pages)) reached
    pub near : level (bytes_of pages) ≤ reached + 1
    pub at : ℕ
    pub moment : (old.now ≤ at) × (at ≤ new.now)
    pub beside : reads (disk_at new at other).bytes ≡ Some (bytes_of pages)
    pub room : ℕ
    pub unfit : WasUnfit reads (disk_now old dev).bytes reached room pages
    pub least : level (bytes_of unfit.other) ≤ level (bytes_of pages)

-- why a takeover lost a copy: it found nothing out, and the line was cut in it; or an act on the copy failed, or it
-- couldn't stay
abbrev pub IsWhyLost : (List ℕ → Option (List ℕ)) → Fate → Dev → Dev → View → View → Type 0
IsWhyLost reads found dev other old new = (found ≡ Flying)
    ⊎ (Rose (old.faults (Disk dev)) (new.faults (Disk dev)) ⊎ CouldNotStay reads found dev other old new)

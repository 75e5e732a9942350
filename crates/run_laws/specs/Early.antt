-- What the next run finds of what a warm run left before its first moment.
use Rattle.std.specs.Prelude.{◌≡◌, ◌⊎◌, ℕ, ◌≤◌, List, Some}
use Rattle.mas_types.specs.declared.ids.Dev.{Dev}
use Rattle.mas_types.specs.declared.ids.Dev.TheVariants.{Ckpt1, Ckpt2}
use Rattle.mas_types.specs.declared.queues.Queue.{Queue}
use Rattle.spool_plant.specs.View.{View, IsImage, disk_now}
use Rattle.ckpt_form.specs.Form.{form_reads}
use Rattle.ckpt_copy.specs.Pages.{bytes_of}
use Rattle.run_opening.specs.Runs.{IsFoundQueue, IsHeldUntil}
use Rattle.run_laws.specs.Left.{IsLeftBy}

-- a copy gave these pages: its bytes read as them, or what a crash may leave of it does
pub record GivesPages (dev : Dev) (v : View) (found : List ℕ) : Type 0 where
  pub image : List ℕ
  pub from : (image ≡ (disk_now v dev).bytes) ⊎ IsImage (disk_now v dev) image
  pub read : form_reads image ≡ Some found

-- A warm start held the copies so up to a moment, for these pages, and at a moment up to it a crash left what a plant
-- shows. A warm run on that plant finds these pages, or pages that one of the copies gave before the start.
abbrev pub FindsWhatWasThere : Type 0 → Type 0
FindsWhatWasThere next_tells =
    next_tells
    → (since from t : ℕ) (pages : List ℕ) (lost : Dev → ℕ) (found : Queue) (first last old new : View)
    → IsHeldUntil since pages first last → first.now ≤ t → t ≤ since → IsLeftBy t last old
    → (next : IsFoundQueue next_tells old new from lost found)
    → (bytes_of next.pages ≡ pages)
    ⊎ (GivesPages Ckpt1 first (bytes_of next.pages) ⊎ GivesPages Ckpt2 first (bytes_of next.pages))

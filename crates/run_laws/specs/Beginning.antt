-- What may keep a next run from beginning.
use Rattle.std.specs.Prelude.{◌≡◌, ◌⊎◌, ℕ, ◌≤◌, ◌<◌, ◌^◌, Bool, true, false, List, Some}
use Rattle.mas_types.specs.declared.answers.Status.{Status}
use Rattle.mas_types.specs.declared.answers.Status.TheVariants as status
use Rattle.mas_types.specs.declared.ids.Dev.{Dev}
use Rattle.mas_types.specs.declared.ids.Dev.TheVariants.{Ckpt1, Ckpt2}
use Rattle.mas_types.specs.declared.ids.Page.{Page}
use Rattle.mas_types.specs.declared.queues.Config.{Config}
use Rattle.mas_types.specs.declared.queues.Queue.{Queue}
use Rattle.script_lang.specs.declared.types.Script.{Script}
use Rattle.spool_plant.specs.declared.plant.Part.TheVariants.{Disk as DiskPart}
use Rattle.spool_plant.specs.Acts.{Rose, top}
use Rattle.spool_plant.specs.View.{View, disk_now}
use Rattle.ckpt_form.specs.Form.{form_reads, form_needs}
use Rattle.ckpt_copy.specs.Pages.{bytes_of, level}
use Rattle.ckpt_tables.specs.declared.tables.Tables.{Tables}
use Rattle.ckpt_pages.specs.Checkpoints.{IsCheckpoint}
use Rattle.ckpt_tables.specs.Shape.{page_count}
use Rattle.mas_complex.specs.Crash.{next_order}
use Rattle.mas_complex.specs.declared.renewals.Renewals.{Renewals}
use Rattle.mas_complex.specs.Renewals.{is_renewed_at, of_device}
use Rattle.spool_volumes.specs.Volumes.{AreRoomy}
use Rattle.warm_start.specs.Starting.{NoneOrFailed, OnlyLookedAtAll, WasTaken}
use Rattle.start_choice.specs.Usable.{HaveSize}
use Rattle.run_opening.specs.Lines.{Proceeds}
use Rattle.run_opening.specs.Runs.{has_begun, Begins, HasBase}
use Rattle.run_opening.specs.Statuses.{IsCaused, LeavesLost}
use Rattle.run_opening.specs.Unstarted.{IsNotStarted}

-- WHAT IS LEFT

-- the level with which a run begins: 1 of a cold one, and that of the pages found of a warm one
abbrev pub level_first : (cold : Bool) (tells : Type 0) (script : Script) (old new : View) (since : ℕ) (first : Dev → ℕ)
    (base : Queue) → HasBase cold tells script old new since first base → ℕ
level_first true tells script old new since first base begins = 1
level_first false tells script old new since first base begins = level (bytes_of begins.pages)

-- the next order with which a run begins: 0 of a cold one, and that of the pages found of a warm one
abbrev pub order_first : (cold : Bool) (tells : Type 0) (script : Script) (old new : View) (since : ℕ) (first : Dev → ℕ)
    (base : Queue) → HasBase cold tells script old new since first base → ℕ
order_first true tells script old new since first base begins = 0
order_first false tells script old new since first base begins = next_order (bytes_of begins.pages)

-- a run that begins with such a level or next order, or at the greatest moment: else those that it leaves are known to
-- be low
abbrev pub IsUnbounded : ℕ → ℕ → Type 0
IsUnbounded n since = (2 ^ 61 ≤ n) ⊎ (top ≤ since)

-- levels and orders are left on these pages, which spell these tables, where the run is such a one
pub record IsLow (l order since : ℕ) (pages : List Page) (t : Tables) : Type 0 where
  pub low_level : IsUnbounded l since → level (bytes_of pages) < 2 ^ 62
  pub low_order : IsUnbounded order since → t.order < 2 ^ 62

-- levels and orders are left on pages that are these bytes, one after another
abbrev pub AreLow : ℕ → ℕ → ℕ → List ℕ → Type 0
AreLow l order since bytes = (pages : List Page) (t : Tables) → HaveSize pages → bytes_of pages ≡ bytes
    → IsCheckpoint pages t → IsLow l order since pages t

-- levels and orders are left on the pages that each copy reads as that isn't lost
pub record BothLow (l order since : ℕ) (v : View) : Type 0 where
  pub first : v.lost (DiskPart Ckpt1) ≡ false → (bytes : List ℕ) → form_reads (disk_now v Ckpt1).bytes ≡ Some bytes
      → AreLow l order since bytes
  pub second : v.lost (DiskPart Ckpt2) ≡ false → (bytes : List ℕ) → form_reads (disk_now v Ckpt2).bytes ≡ Some bytes
      → AreLow l order since bytes

-- A copy was good at a moment of a run, is left with levels and orders to go on, and the next run doesn't lose it: no
-- act on it fails there, and where that run doesn't begin its device isn't lost at the end.
pub record IsGoodLeft (rs : Renewals) (t l order since : ℕ) (begun : Bool) (dev : Dev) (old new : View) : Type 0 where
  pub good : is_renewed_at (of_device dev rs) t ≡ false
  pub there : old.lost (DiskPart dev) ≡ false
  pub low : (bytes : List ℕ) → form_reads (disk_now old dev).bytes ≡ Some bytes → AreLow l order since bytes
  pub failed : Rose (old.faults (DiskPart dev)) (new.faults (DiskPart dev)) → ⊥
  pub stays : begun ≡ false → new.lost (DiskPart dev) ≡ false

-- Where a copy is left that was being replaced at the moment, the other one was good. Else the next run may find on it
-- pages that are older. Where no copy is replaced this says nothing.
pub record AreGoodLeft (rs : Renewals) (t l order since : ℕ) (begun : Bool) (old new : View) : Type 0 where
  pub first : is_renewed_at rs.first t ≡ true → old.lost (DiskPart Ckpt1) ≡ false
      → IsGoodLeft rs t l order since begun Ckpt2 old new
  pub second : is_renewed_at rs.second t ≡ true → old.lost (DiskPart Ckpt2) ≡ false
      → IsGoodLeft rs t l order since begun Ckpt1 old new

-- the devices are as large as a configuration asks
pub record AreLarge (config : Config) (v : View) : Type 0 where
  pub first : form_needs (page_count config) ≤ v.size Ckpt1
  pub second : form_needs (page_count config) ≤ v.size Ckpt2
  pub roomy : AreRoomy v config

-- THE NEXT RUN

-- How a warm run ended, by what its contract says of runs that haven't begun.
pub record HasEnded (tells : Type 0) (ends : Status) (found : Queue) (old new : View) : Type 0 where
  pub begun : Begins ends found
  pub unstarted : has_begun found ≡ false → IsNotStarted tells ends old new
  pub untouched : has_begun found ≡ false → (ends ≡ status.BothLost) ⊎ ((new ≡ old) ⊎ (tells → OnlyLookedAtAll old new))
  pub cause : IsCaused ends old new
  pub lost : has_begun found ≡ false → LeavesLost ends old new
  pub goes : Proceeds old new

-- What hinders a run from beginning is not what stands on the copies, nor a device's size: its words, its script or
-- their source, a lack of memory, or that both copies were lost. The copies were lost before it, or in it, one at least
-- that wasn't before by an act that failed, and the other so or by the start.
abbrev pub IsHindered : Status → View → View → Type 0
IsHindered status.Done old new = ⊥
IsHindered status.ConsoleFault old new = ⊥
IsHindered (status.NotFormatted first second) old new = ⊥
IsHindered (status.DeviceSize dev size) old new = ⊥
IsHindered status.BothLost old new = WasTaken Ckpt1 old new × WasTaken Ckpt2 old new × NoneOrFailed old new
IsHindered _ old new = Unit {0}

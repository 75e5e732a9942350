-- What a check of the checkpoint does.
use Rattle.std.specs.Prelude.{◌≡◌, ◌≢◌, ◌⊎◌, ℕ, List, [], ◌∷◌, ◌++◌, Some, Result}
use Rattle.mas_types.specs.declared.answers.Status.{Status}
use Rattle.mas_types.specs.declared.answers.Status.TheVariants as status
use Rattle.mas_types.specs.declared.answers.Verdict.{Verdict}
use Rattle.mas_types.specs.declared.ids.Dev.{Dev}
use Rattle.mas_types.specs.declared.ids.Dev.TheVariants.{Ckpt1, Ckpt2, Spool}
use Rattle.mas_types.specs.declared.ids.Page.{Page}
use Rattle.spool_plant.specs.declared.plant.Part.{Part}
use Rattle.spool_plant.specs.declared.plant.Part.TheVariants.{Disk, Console}
use Rattle.spool_plant.specs.View.{View, disk_at, disk_now, Throughout}
use Rattle.spool_plant.specs.Acts.{Goes, Rose}
use Rattle.ckpt_form.specs.Form.{form_reads}
use Rattle.ckpt_copy.specs.Changes.{NoMore}
use Rattle.mas_check.specs.declared.checking.CheckNo.{CheckNo}
use Rattle.mas_check.specs.Checks.{IsAnswer, line_of}
use Rattle.mas_check.specs.Worlds.{IsSameDisk}
use Rattle.mas_complex.specs.Headline.{whole}
use Rattle.mas_complex.specs.Paper.{SamePapers}
use Rattle.start_choice.specs.declared.choosing.StartNo.{StartNo}
use Rattle.warm_start.specs.Inspecting.{HasFailed, HasLooked, SeesNone}
use Rattle.member_node.specs.Calls.{console_now}
use Rattle.run_opening.specs.Unstarted.{status_of_start}

-- At each moment no byte of a device has changed, the same ranges of a volume are unsynced and no more of a copy, and
-- each printer has the lines that it had; no device is lost but one of which an act failed.
pub record KeepsDevices (tells : Type 0) (old new : View) : Type 0 where
  pub goes : Goes old new
  pub first : tells → Throughout old.now new.now (λ t. NoMore (disk_now old Ckpt1) (disk_at new t Ckpt1))
  pub second : tells → Throughout old.now new.now (λ t. NoMore (disk_now old Ckpt2) (disk_at new t Ckpt2))
  pub volumes : tells → Throughout old.now new.now
      (λ t. (n : ℕ) → IsSameDisk (disk_now old (Spool n)) (disk_at new t (Spool n)))
  pub papers : tells → SamePapers old new
  pub loses : (d : Dev) → new.loses d ≡ old.loses d
  pub stops : (m : ℕ) → new.stops m ≡ old.stops m
  pub lost : (d : Dev) → (new.lost (Disk d) ≡ old.lost (Disk d)) ⊎ HasFailed d old new
  pub else_lost : (p : Part) → ((d : Dev) → p ≢ Disk d) → p ≢ Console → new.lost p ≡ old.lost p

-- the one line that says what was answered
pub record AreLinesOf (answer : Result Verdict CheckNo) (lines : List (List ℕ)) : Type 0 where
  pub line : List ℕ
  pub of : line_of answer ≡ Some line
  pub is : lines ≡ line ∷ []

-- the line stands on the console behind those of before; or it couldn't be said, and nothing was
abbrev pub SaysLine : Type 0 → Status → List ℕ → View → View → Type 0
SaysLine tells status.Done line old new = tells → console_now new ≡ console_now old ++ whole line ∷ []
SaysLine tells status.ConsoleFault line old new = (tells → console_now new ≡ console_now old)
    × Rose (old.faults Console) (new.faults Console)
SaysLine tells _ line old new = ⊥

-- The pages of greatest level were checked, with their texts, and the answer was said.
pub record HasChecked (tells : Type 0) (answer : Status) (old new : View) : Type 0 where
  pub pages : List Page
  pub looked : HasLooked form_reads tells old new pages
  pub verdict : Result Verdict CheckNo
  pub checked : IsAnswer tells pages old new verdict
  pub line : List ℕ
  pub of : line_of verdict ≡ Some line
  pub said : SaysLine tells answer line old new

-- Nothing was said: there are no pages, or the check ran out of memory.
pub record ChecksNone (tells : Type 0) (answer : Status) (old new : View) : Type 0 where
  pub why : StartNo
  pub is : answer ≡ status_of_start why
  pub cause : SeesNone form_reads tells old new why
  pub unsaid : tells → console_now new ≡ console_now old

-- the pages were checked if the status is Done or ConsoleFault; with any other status nothing was said
abbrev pub IsChecked : Type 0 → Status → View → View → Type 0
IsChecked tells status.Done old new = HasChecked tells status.Done old new
IsChecked tells status.ConsoleFault old new = HasChecked tells status.ConsoleFault old new
IsChecked tells other old new = ChecksNone tells other old new

-- A check, on a plant that showed `old` before and `new` after it.
pub record IsCheckRun (tells : Type 0) (answer : Status) (old new : View) : Type 0 where
  pub devices : KeepsDevices tells old new
  pub checked : IsChecked tells answer old new

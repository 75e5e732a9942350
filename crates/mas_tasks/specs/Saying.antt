-- Lines that are said one after another.
use Rattle.std.specs.Prelude.{◌≡◌, ◌≢◌, ℕ, ◌<◌, List, ◌++◌, length, take, map}
use Rattle.mas_types.specs.declared.ids.Dev.{Dev}
use Rattle.mas_types.specs.declared.answers.Status.{Status}
use Rattle.mas_types.specs.declared.answers.Status.TheVariants as status
use Rattle.spool_plant.specs.declared.plant.Part.{Part}
use Rattle.spool_plant.specs.declared.plant.Part.TheVariants.{Console}
use Rattle.spool_plant.specs.View.{View, disk_at, disk_now, Throughout}
use Rattle.spool_plant.specs.Acts.{Goes, Rose}
use Rattle.mas_complex.specs.Headline.{whole}
use Rattle.mas_complex.specs.Paper.{SamePapers}
use Rattle.member_node.specs.Calls.{console_now}

-- These lines were added to the console, whole, and neither a device nor a printer changed.
pub record Adds (tells : Type 0) (lines : List (List ℕ)) (old new : View) : Type 0 where
  pub goes : Goes old new
  pub lost : (p : Part) → p ≢ Console → new.lost p ≡ old.lost p
  pub loses : (d : Dev) → new.loses d ≡ old.loses d
  pub stops : (m : ℕ) → new.stops m ≡ old.stops m
  pub disks : tells → Throughout old.now new.now (λ t. (d : Dev) → disk_at new t d ≡ disk_now old d)
  pub papers : tells → SamePapers old new
  pub console : tells → console_now new ≡ console_now old ++ map whole lines

-- the lines up to one for which the console failed
pub record AddsSome (tells : Type 0) (lines : List (List ℕ)) (old new : View) : Type 0 where
  pub said : ℕ
  pub few : said < length lines
  pub adds : Adds tells (take said lines) old new
  pub failed : Rose (old.faults Console) (new.faults Console)

-- all lines were said, or the console failed
abbrev pub Says : Type 0 → List (List ℕ) → View → View → Status → Type 0
Says tells lines old new status.Done = Adds tells lines old new
Says tells lines old new status.ConsoleFault = AddsSome tells lines old new
Says tells lines old new _ = ⊥

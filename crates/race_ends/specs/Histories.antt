-- The history, which the operator says after all lines.
use Rattle.std.specs.Prelude.{◌≡◌, ℕ, ◌<◌, List, ◌++◌, length, map, take}
use Rattle.mas_types.specs.declared.answers.Status.{Status}
use Rattle.mas_types.specs.declared.answers.Status.TheVariants as status
use Rattle.mas_types.specs.declared.journals.Journal.{Journal}
use Rattle.mas_types.specs.Histories.{history}
use Rattle.spool_plant.specs.declared.plant.Part.TheVariants.{Console, Disk}
use Rattle.mas_types.specs.declared.ids.Dev.{Dev}
use Rattle.spool_plant.specs.Acts.{Goes, Rose}
use Rattle.spool_plant.specs.View.{View}
use Rattle.mas_complex.specs.Headline.{whole}
use Rattle.member_node.specs.Calls.{console_now}

-- so many lines of it, up to one for which the console failed
pub record SaysSome (tells : Type 0) (lines : List (List ℕ)) (old new : View) : Type 0 where
  pub said : ℕ
  pub few : said < length lines
  pub console : tells → console_now new ≡ console_now old ++ map whole (take said lines)
  pub failed : Rose (old.faults Console) (new.faults Console)

-- all of its lines were said, or the console failed at one; without memory for them none was
abbrev pub SaysHistory : Type 0 → Status → Journal → View → View → Type 0
SaysHistory tells status.Done J old new = tells → console_now new ≡ console_now old ++ map whole (history J)
SaysHistory tells status.ConsoleFault J old new = SaysSome tells (history J) old new
SaysHistory tells status.NoMemory J old new = new ≡ old
SaysHistory tells _ J old new = ⊥

-- Acts on the console alone: nothing else of the plant differs, but its moment.
pub record IsSaying (old new : View) : Type 0 where
  pub goes : Goes old new
  pub lost : (d : Dev) → new.lost (Disk d) ≡ old.lost (Disk d)
  pub faults : (d : Dev) → new.faults (Disk d) ≡ old.faults (Disk d)
  pub stops : (m : ℕ) → new.stops m ≡ old.stops m
  pub loses : (d : Dev) → new.loses d ≡ old.loses d
  pub arms : (m : ℕ) → new.arms m ≡ old.arms m

-- How a race ended whose members ended so: if each line had closed the history was to be said; else nothing more was
-- done.
abbrev pub EndsRace : Type 0 → Status → Status → Journal → View → View → Type 0
EndsRace tells status.Done answer J between new = SaysHistory tells answer J between new
EndsRace tells ended answer J between new = (answer ≡ ended) × (new ≡ between)

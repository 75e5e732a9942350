-- Why a run ends.
use Rattle.mas_run.specs.Names.{Dev, Ckpt1, Ckpt2, MemberId, Ask, Step, Disk, Console, View, Rose, top, resets, WasLost}
use Rattle.std.specs.Prelude.{◌≡◌, ◌≢◌, ◌⊎◌, ℕ, ◌<◌, true, false, List, [], ◌∷◌, All, Option, Some, None}
use Rattle.script_lang.specs.declared.types.Ask.TheVariants as ask

-- a copy that was there, and that was lost by calls less often than can be counted; no act on it failed, and no step
-- loses it
pub record IsLeftAlone (dev : Dev) (steps : List Step) (old new : View) : Type 0 where
  pub there : old.lost (Disk dev) ≡ false
  pub counted : old.loses dev < top
  pub failed : Rose (old.faults (Disk dev)) (new.faults (Disk dev)) → ⊥
  pub unasked : All (λ (s : Step). s.what ≢ ask.Lose dev) steps

-- one of the copies is left alone, and the other one too, unless it was lost before
abbrev pub AreLeftAlone : List Step → View → View → Type 0
AreLeftAlone steps old new =
    (IsLeftAlone Ckpt1 steps old new × (IsLeftAlone Ckpt2 steps old new ⊎ (old.lost (Disk Ckpt2) ≡ true)))
    ⊎ (IsLeftAlone Ckpt2 steps old new × (old.lost (Disk Ckpt1) ≡ true))

-- the member that a line is to reset
abbrev pub resets_in : Ask → Option MemberId
resets_in (ask.Command given) = resets given
resets_in _ = None

-- A line that can't have stopped a member in a run: another's, or one that isn't a stop, where the member's count of
-- stops didn't rise, which each stop in an act raises.
abbrev pub CannotStop : View → View → MemberId → Step → Type 0
CannotStop old new m s = (s.by ≢ m) ⊎ ((s.what ≢ ask.Stop) × (Rose (old.stops m.0) (new.stops m.0) → ⊥))

-- No line resets another member that a line before it may have stopped; those before these steps stand the last one
-- first. So no lock is taken over. A takeover may lose a copy.
abbrev pub TakesNone : View → View → List Step → List Step → Type 0
TakesNone old new before [] = Unit {0}
TakesNone old new before (s ∷ steps) =
    ((of : MemberId) → resets_in s.what ≡ Some of → (of ≡ s.by) ⊎ All (CannotStop old new of) before)
    × TakesNone old new (s ∷ before) steps

-- No fault of the source or of the console rose; and the copies were left alone by their devices and by the script's
-- steps, where content is told, or not both were lost, whoever lost them.
pub record IsStill (tells : Type 0) (steps : List Step) (before after : ℕ) (old new : View) : Type 0 where
  pub source : Rose before after → ⊥
  pub disks : (tells × AreLeftAlone steps old new × TakesNone old new [] steps)
      ⊎ (WasLost Ckpt1 old new → WasLost Ckpt2 old new → ⊥)
  pub console : Rose (old.faults Console) (new.faults Console) → ⊥

-- A run in which no stop of a member is armed.
use Rattle.std.specs.Prelude.{◌≡◌, ℕ, All}
use Rattle.script_lang.specs.declared.types.Ask.{Ask}
use Rattle.script_lang.specs.declared.types.Ask.TheVariants as ask
use Rattle.script_lang.specs.declared.types.Step.{Step}
use Rattle.spool_plant.specs.View.{View}
use Rattle.run_turns.specs.Scenes.{scene_of}
use Rattle.mas_run.specs.Runs.{LinesBegun, LinesEnded, HavePassed}
use Rattle.mas_run.specs.Unstopped.{AreWhole}

-- a line arms no stop
abbrev pub IsNoArming : Ask → Type 0
IsNoArming (ask.StopIn what n) = ⊥
IsNoArming what = Unit {0}

-- a line arms no stop of this member
abbrev pub ArmsNone : ℕ → Step → Type 0
ArmsNone m step = step.by.0 ≡ m → IsNoArming step.what

-- Of lines that ended with what a plant shows now: before them no stop of the member was armed, and none of them arms
-- one. Then no line of the member was cut but the one in which the run ended.
abbrev pub PlaysOnUnarmed : Type 0 → View → Type 0
PlaysOnUnarmed told new = (m : ℕ) (b : LinesBegun) (e : LinesEnded) (p : HavePassed told b e) → e.view ≡ new
    → b.view.arms m ≡ 0 → All (ArmsNone m) b.steps → AreWhole m (scene_of b.from) 1 p.given b.steps

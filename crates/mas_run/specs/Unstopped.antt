-- A run in which a member was not stopped in an act.
use Rattle.mas_run.specs.Names.{Step, Cut, Ends, Scene, scene_of, Given}
use Rattle.std.specs.Prelude.{◌≡◌, ◌⊎◌, ℕ, List, Some, None}
use Rattle.mas_run.specs.LinesAt.{LineAt}
use Rattle.mas_run.specs.Lines.{cut_of}
use Rattle.mas_run.specs.Passed.{AreEach}
use Rattle.mas_run.specs.Runs.{LinesBegun, LinesEnded, HavePassed}

-- a line that wasn't cut, or in which the run ended
abbrev pub IsWhole : LineAt → Type 0
IsWhole l = (cut_of l ≡ None) ⊎ ((cut : Cut) × (cut_of l ≡ Some cut) × (cut.cause ≡ Ends))

-- each line of this member was whole
abbrev pub AreWhole : ℕ → Scene → ℕ → List Given → List Step → Type 0
AreWhole m S at gs steps = AreEach (λ (l : LineAt). l.step.by.0 ≡ m → IsWhole l) S at gs steps

-- Where a member's count of stops is 0 at the end: no line of it was cut but the one in which the run ended. So with
-- Done none was.
abbrev pub PlaysOn : Type 0 → Type 0
PlaysOn told = (m : ℕ) (b : LinesBegun) (e : LinesEnded) (p : HavePassed told b e) → e.view.stops m ≡ 0
    → AreWhole m (scene_of b.from) 1 p.given b.steps

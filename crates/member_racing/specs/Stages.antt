-- Where a member's line stands between two turns: as the code has it, and as plain data.
use Rattle.std.specs.Prelude.{◌≡◌, ℕ, ◌+◌}
use Rattle.mas_types.specs.declared.ids.MemberId.{MemberId}
use Rattle.script_lang.specs.declared.types.Ask.{Ask}
use Rattle.race_turns.specs.Turns.{Stage, Acts, Closed, Opens, Sits}
use Rattle.step_turns.specs.declared.states.State.TheVariants.{Told}
use Rattle.member_resets.specs.Stand.{Stand}
use Rattle.member_racing.specs.declared.stages.Stage.{Stage as Stands}
use Rattle.member_racing.specs.declared.stages.Stage.TheVariants as line

abbrev pub stage_of : Stands → Stage
stage_of line.Opens = Opens
stage_of (line.Sits at) = Sits at.state at.found
stage_of (line.Acts at) = Acts at.state
stage_of line.Closed = Closed

-- the first step whose closing isn't said, where the line has this number
abbrev pub first_unsaid : ℕ → Stands → ℕ
first_unsaid at line.Closed = at + 1
first_unsaid at _ = at

-- its step was begun, and goes on
abbrev pub IsBegun : Stands → Type 0
IsBegun (line.Sits at) = Unit {0}
IsBegun (line.Acts at) = Unit {0}
IsBegun _ = ⊥

-- a line that goes on from where its step stands
abbrev pub IsStageOf : Stand → Stands → Type 0
IsStageOf s line.Opens = ⊥
IsStageOf s (line.Sits at) = at ≡ s
IsStageOf s (line.Acts at) = at ≡ s
IsStageOf s line.Closed = s.state ≡ Told

-- a member's line in a turn: its member, its number, what it asks for, and where it stands as the turn begins
pub record Raced : Type 0 where
  pub by : MemberId
  pub number : ℕ
  pub what : Ask
  pub stands : Stands

-- whose line it is, of which number, and where it stands
pub record Stood : Type 0 where
  pub by : MemberId
  pub number : ℕ
  pub stands : Stands

abbrev pub stood_of : Raced → Stood
stood_of r = record { by = r.by; number = r.number; stands = r.stands }

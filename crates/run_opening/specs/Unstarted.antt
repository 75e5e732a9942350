-- Why a warm run doesn't begin.
use Rattle.std.specs.Prelude.{Bool}
use Rattle.mas_types.specs.declared.answers.Status.{Status}
use Rattle.mas_types.specs.declared.answers.Status.TheVariants as status
use Rattle.spool_plant.specs.View.{View}
use Rattle.ckpt_form.specs.Form.{form_reads, form_needs, form_room}
use Rattle.start_choice.specs.declared.choosing.StartNo.{StartNo}
use Rattle.start_choice.specs.declared.choosing.StartNo.TheVariants as no_start
use Rattle.warm_start.specs.Starting.{IsCauseOf, HeldBack, LosesBoth}

-- the status of a run whose warm start gave nothing
abbrev pub status_of_start : StartNo → Status
status_of_start (no_start.NotFormatted first second) = status.NotFormatted first second
status_of_start no_start.BothLost = status.BothLost
status_of_start (no_start.DeviceSize dev size) = status.DeviceSize dev size
status_of_start no_start.NoMemory = status.NoMemory

-- why a start gave nothing, where the copies counted as alive so
pub record StartCauses (tells : Type 0) (why : StartNo) (old new : View) : Type 0 where
  pub alive1 : Bool
  pub alive2 : Bool
  pub cause : IsCauseOf form_reads tells form_needs old new alive1 alive2 why

-- The cause of a warm run's status where it hasn't begun. No copy can be used where it is NotFormatted; both are lost
-- where it is BothLost, and an act on one of them failed: at most one was lost by a call, and that one may not stay
-- beside the pages found; what a crash leaves of a copy at any moment is what was there, or these pages.
abbrev pub IsNotStarted : Type 0 → Status → View → View → Type 0
IsNotStarted tells (status.NotFormatted first second) old new = StartCauses tells (no_start.NotFormatted first second)
    old new
IsNotStarted tells (status.DeviceSize dev size) old new = StartCauses tells (no_start.DeviceSize dev size) old new
IsNotStarted tells status.BothLost old new = LosesBoth old new × (tells → HeldBack form_reads form_room old new)
IsNotStarted tells _ old new = Unit {0}

-- A member that has the lock, or may take it, goes on with a step at a shared value between two sittings.
use Rattle.std.specs.Prelude.{◌≡◌, ℕ, ◌+◌, ◌<◌, true}
use Rattle.mas_types.specs.Queue.{is_member}
use Rattle.mas_types.specs.Sound.{IsSound}
use Rattle.spool_plant.specs.declared.plant.Plant.{Ghosts as PlantGhosts}
use Rattle.ckpt_copy.specs.declared.copying.Copying.{Ghosts as CopyGhosts}
use Rattle.mas_complex.specs.Parts.{Parts}
use Rattle.member_node.specs.declared.member.Member.{Member}
use Rattle.member_node.specs.Reads.{too_high}
use Rattle.step_turns.specs.Courses.{sittings_most}
use Rattle.step_turns.specs.Laws.{units_left}
use Rattle.step_turns.specs.declared.states.Grant.{Grant}
use Rattle.step_turns.specs.declared.states.Grant.TheVariants.{ByLock, ForStep}
use Rattle.step_turns.specs.declared.states.Holder.{Holder}
use Rattle.step_turns.specs.declared.states.State.{State}
use Rattle.member_sittings.specs.Whole.{HasStepKept, HasUntold, IsSeat}
pub use Rattle.member_quiet.specs.Quiet.{IsAside, IsIdle, IsQuiet}
use Rattle.member_hand.specs.Locks.{MayHold}

-- how high a level may come in a step that stands so: each sitting that may still follow uses one, and each unit one
abbrev pub levels_for : State → ℕ
levels_for s = units_left s + sittings_most s

module _ {P C : Type 0} (plants : PlantGhosts P) (copies : CopyGhosts C) where
  -- one that holds by the operator's LOCK is at its seat still
  abbrev pub IsSeatedBy : Grant → Parts P C → Member → Type 0
  IsSeatedBy ForStep x m = Unit {0}
  IsSeatedBy ByLock x m = IsSeat plants copies x m

  -- A member that has the lock, or may take it, may go on with a step that stands so. No line tells the step, and each
  -- batch that has entries of it is kept.
  pub record MayGoOn (x : Parts P C) (m : Member) (h : Holder) (s : State) : Type 0 where
    pub aside : IsAside plants copies x m
    pub hold : MayHold x.book m.id
    pub member : is_member x.base.config m.id ≡ true
    pub base_sound : plants.tells → IsSound x.base
    pub untold : HasUntold plants copies x m.id h.step
    pub step : HasStepKept plants copies x m.id h.step
    pub seat : IsSeatedBy h.grant x m
    pub level : x.level + levels_for s + 3 < too_high
    pub holder : h.by ≡ m.id

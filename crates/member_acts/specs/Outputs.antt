-- Outputs that a member writes into groups of its own.
use Rattle.mas_complex.specs.Texts.{Spools}
use Rattle.member_acts.specs.Names.{AreRoomy, AreSpooled, AreWritten, IsOutSpec, SteadyGhosts, kept_all, IsUp, run, Parts, parts_of, IsGroupOf, IsHeldBy, spools_at, GroupsKept, OnVolumes, Rise, SpoolCauses}
use Rattle.std.specs.Prelude.{◌≡◌, ℕ, ◌≤◌, List, length, All, None, Result, OnOk}
use Rattle.mas_types.specs.declared.ids.GroupNo.{GroupNo}
use Rattle.mas_types.specs.declared.ids.MemberId.{MemberId}
use Rattle.mas_types.specs.declared.jobs.OutSpec.{OutSpec}
use Rattle.mas_types.specs.Commands.Life.{groups_of_outputs}
use Rattle.spool_plant.specs.View.{View}
use Rattle.spool_plant.specs.declared.plant.Plant.{Ghosts as PlantGhosts}
use Rattle.ckpt_copy.specs.declared.copying.Copying.{Ghosts as CopyGhosts}
use Rattle.mas_complex.specs.declared.complex.Complex.{Complex}
use Rattle.member_decks.specs.declared.spooling.SpoolError.{SpoolError}

-- outputs, and the groups into which they are written
pub record Into : Type 0 where
  pub groups : List GroupNo
  pub specs : List OutSpec

abbrev pub into : List GroupNo → List OutSpec → Into
into groups specs = record { groups = groups; specs = specs }

module _ {P C : Type 0} (plants : PlantGhosts P) where
  abbrev v : Parts P C → View
  v x = plants.view x.plant

  -- The member isn't stopped, and nothing is in flight. The groups are its own, rise, and are as many as the outputs
  -- need.
  pub record IsToWrite (x : Parts P C) (by : MemberId) (groups : List GroupNo) (specs : List OutSpec) : Type 0 where
    pub up : IsUp x.book by
    pub none : x.current ≡ None
    pub some : 1 ≤ x.base.config.groups
    pub outputs : All IsOutSpec specs
    pub as_many : length groups ≡ groups_of_outputs specs
    pub rise : Rise groups
    pub within : All (IsGroupOf x.base.config) groups
    pub held : plants.tells → All (λ g. IsHeldBy by g (run x.base (kept_all x.batches))) groups

  -- Acts on the volumes of these groups, with the cause of their answer. Each other group is as it was, and so
  -- is the rest.
  pub record HasActedOn {T : Type 0} (x y : Parts P C) (by : MemberId) (groups : List GroupNo)
      (result : Result T SpoolError) : Type 0 where
    pub frame : y ≡ record x { plant = y.plant }
    pub acts : OnVolumes plants.tells by.0 (v x) (v y)
    pub cause : SpoolCauses result by.0 x.base.config.groups groups (v x) (v y)
    pub spares : plants.tells → GroupsKept x.base.config.groups groups (spools_at (v x) (v x).now)
        (spools_at (v y) (v y).now)

  -- after Ok these texts stand there: as they are written, or synced too
  abbrev pub StandAfter : Parts P C → Parts P C → Result (Unit {0}) SpoolError → (Spools → ℕ → Type 0) → Type 0
  StandAfter x y result Stand = OnOk result (plants.tells → AreRoomy (v x) x.base.config
      → Stand (spools_at (v y) (v y).now) x.base.config.groups)

  pub record HasWrittenEach (x y : Parts P C) (by : MemberId) (its : Into) (result : Result (Unit {0}) SpoolError) :
      Type 0 where
    pub on : HasActedOn x y by its.groups result
    pub stand : StandAfter x y result (λ disks per. AreWritten disks per its.specs its.groups)

  pub record HasSpooledEach (x y : Parts P C) (by : MemberId) (its : Into) (result : Result (Unit {0}) SpoolError) :
      Type 0 where
    pub on : HasActedOn x y by its.groups result
    pub there : StandAfter x y result (λ disks per. AreSpooled disks per its.specs its.groups)

-- OVER THE SHARED VALUE

module _ {P C : Type 0} {plants : PlantGhosts P} {steadies : SteadyGhosts C} {copies : CopyGhosts C} where
  abbrev pub MayWrite : Complex P C plants steadies copies → MemberId → List GroupNo → List OutSpec → Type 0
  MayWrite x by groups specs = IsToWrite plants (parts_of x) by groups specs

  abbrev pub WritesEach : Complex P C plants steadies copies → Complex P C plants steadies copies → MemberId → Into
      → Result (Unit {0}) SpoolError → Type 0
  WritesEach x y by its result = HasWrittenEach plants (parts_of x) (parts_of y) by its result

  abbrev pub SpoolsEach : Complex P C plants steadies copies → Complex P C plants steadies copies → MemberId → Into
      → Result (Unit {0}) SpoolError → Type 0
  SpoolsEach x y by its result = HasSpooledEach plants (parts_of x) (parts_of y) by its result

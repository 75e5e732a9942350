-- A shared value between two sittings, and a member that may take its seat at it.
use Rattle.std.specs.Prelude.{◌≡◌, ℕ, ◌≤◌, false, [], length, None}
use Rattle.spool_plant.specs.View.{View}
use Rattle.spool_plant.specs.declared.plant.Plant.{Ghosts as PlantGhosts}
use Rattle.spool_volumes.specs.Volumes.{AreRoomy}
use Rattle.ckpt_copy.specs.declared.copying.Copying.{Ghosts as CopyGhosts}
use Rattle.mas_complex.specs.Journals.{AreSettled}
use Rattle.mas_complex.specs.Parts.{Parts}
use Rattle.member_node.specs.declared.member.Member.{Member}
use Rattle.member_node.specs.Drawn.{AreDrawn}
use Rattle.member_node.specs.Wanted.{HasHad}
use Rattle.member_steps.specs.Steps.{IsToldSound}
use Rattle.member_sittings.specs.Gates.{IsOpen}
use Rattle.member_sittings.specs.Whole.{first_half, queue_of, second_half}

-- a member between two sittings: its batch is empty, its pages are those of its tables, and it has room for as many
pub record IsIdle (m : Member) : Type 0 where
  pub nothing : m.batch ≡ []
  pub drawn : AreDrawn m.checkpoint.tables m.checkpoint.level m.checkpoint.levels m.checkpoint.pages
  pub many : length m.room ≡ length m.checkpoint.pages

module _ {P C : Type 0} (plants : PlantGhosts P) (copies : CopyGhosts C) where
  abbrev v : Parts P C → View
  v x = plants.view x.plant

  -- Nothing is in flight, reserved or placed, and each batch is kept or dropped by now. Each copy that counts as alive
  -- has so many pages, and reads as low tables of the configuration. Where content is told the queue has the sound
  -- parts, and each volume that isn't lost the size that its groups need.
  pub record IsQuiet (x : Parts P C) (pages : ℕ) : Type 0 where
    pub none : x.current ≡ None
    pub unplaced : x.placed ≡ false
    pub unreserved : x.reserved ≡ None
    pub first : IsOpen plants.tells (first_half plants copies x) x.base.config (length x.batches) pages
    pub second : IsOpen plants.tells (second_half plants copies x) x.base.config (length x.batches) pages
    pub sound : plants.tells → IsToldSound (queue_of x)
    pub kept : AreSettled x.batches (v x).now
    pub begun : x.since ≤ (v x).now
    pub roomy : plants.tells → AreRoomy (v x) x.base.config

  -- A member is idle there, and has the pages that it noted, unless it has read none. Whoever holds the lock, it may
  -- take its seat once it has that.
  pub record IsAside (x : Parts P C) (m : Member) : Type 0 where
    pub quiet : IsQuiet x (length m.room)
    pub idle : IsIdle m
    pub noted : HasHad plants.tells m.fresh x.had m.id.0 m.checkpoint.pages
    pub config : x.base.config ≡ m.checkpoint.tables.config

-- What an act leaves that does nothing but lose its part.
use Rattle.std.specs.Prelude.{◌≡◌, ◌≢◌, ◌<◌, true}
use Rattle.mas_types.specs.declared.ids.Dev.{Dev}
use Rattle.spool_plant.specs.declared.plant.Part.{Part}
use Rattle.spool_plant.specs.declared.plant.Part.TheVariants.{Disk as DiskPart}
use Rattle.spool_plant.specs.View.{View, disk_now}
use Rattle.spool_plant.specs.Acts.{Untouched, SamePaper, SameWires, top}

pub record FailsAlone (part : Part) (old new : View) : Type 0 where
  pub bytes : (d : Dev) → Untouched (disk_now old d) (disk_now new d)
  pub others : (d : Dev) → DiskPart d ≢ part → disk_now new d ≡ disk_now old d
  pub console : (new.world new.now).console ≡ (old.world old.now).console
  pub lost : old.now < top → (d : Dev) → part ≡ DiskPart d → (disk_now new d).lost ≡ true
  pub paper : SamePaper old new
  pub wires : SameWires old new

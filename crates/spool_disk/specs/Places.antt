-- Numbers for devices and parts, each its own.
use Rattle.std.specs.Prelude.{ℕ, ◌+◌, ◌*◌}
use Rattle.mas_types.specs.declared.ids.Dev.{Dev}
use Rattle.mas_types.specs.declared.ids.Dev.TheVariants.{Ckpt1, Ckpt2, Spool}
use Rattle.spool_plant.specs.declared.plant.Part.{Part}
use Rattle.spool_plant.specs.declared.plant.Part.TheVariants.{Disk as DiskPart, Console, Printer, Wire}

abbrev pub slot_of : Dev → ℕ
slot_of Ckpt1 = 0
slot_of Ckpt2 = 1
slot_of (Spool v) = 2 + v

-- clauses range over every number, so the four kinds take turns
abbrev pub place_of : Part → ℕ
place_of (DiskPart dev) = 4 * slot_of dev
place_of Console = 1
place_of (Printer m) = 4 * m.0 + 2
place_of (Wire n) = 4 * n + 3

-- A part at first.
use Rattle.std.specs.Prelude.{Bool, None}
use Rattle.spool_disk.specs.declared.health.Health.{Health}

-- without a fault, and lost or not
abbrev pub lost_part : Bool → Health
lost_part lost = record { faults = 0; since = None; lost = lost }

-- A part as it was known before entries of a record.
use Rattle.std.specs.Prelude.{ℕ, Option, List, [], ◌∷◌}
use Rattle.spool_disk.specs.declared.entry.Entry.{Entry}
use Rattle.spool_disk.specs.declared.health.Health.{Health}
use Rattle.spool_disk.specs.Entries.{deed_of}
use Rattle.spool_disk.specs.Renewals.{known_before}

abbrev pub known_since : ℕ → List Entry → Option ℕ → Option ℕ
known_since place [] now = now
known_since place (e ∷ es) now = known_before place (deed_of e []) (known_since place es now)

abbrev pub known_health : ℕ → List Entry → Health → Health
known_health place es h = record { faults = h.faults; since = known_since place es h.since; lost = h.lost }

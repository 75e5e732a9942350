-- Since when a part is lost, as it was known at a moment.
use Rattle.std.specs.Prelude.{ℕ, ◌*◌, ◌==◌, nat_lt, ◌&&◌, if◌then◌else◌, Option, List, [], ◌∷◌}
use Rattle.spool_disk.specs.Deeds.{Deed, Idle, Wrote, Synced, Said, Passed, Fetched, Renewed}

-- since when a part was lost as it was known before an act, by what is known after it: a renewal tells what was known
-- of its device
abbrev pub known_before : ℕ → Deed → Option ℕ → Option ℕ
known_before place Idle later = later
known_before place (Wrote s at len bytes) later = later
known_before place (Synced s) later = later
known_before place (Said p text whole) later = later
known_before place (Passed given w m bytes) later = later
known_before place (Fetched s) later = later
known_before place (Renewed s since) later = if 4 * s == place && nat_lt s 258 then since else later

-- since when a part was lost as it was known before all acts of a list
abbrev pub since_then : ℕ → List Deed → Option ℕ → Option ℕ
since_then place [] now = now
since_then place (e ∷ es) now = known_before place e (since_then place es now)

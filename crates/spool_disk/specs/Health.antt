-- What is known of a part.
use Rattle.std.specs.Prelude.{ℕ, ◌+◌, ◌==◌, nat_le, if◌then◌else◌, Bool, true, false, Option, Some, None, List, slice_index_or}
use Rattle.spool_disk.specs.declared.health.Health.{Health}
use Rattle.spool_plant.specs.Acts.{next, top}

abbrev pub sound : Health
sound = record { faults = 0; since = None; lost = false }

abbrev pub health_at : List Health → ℕ → Health
health_at parts place = slice_index_or parts place sound

-- a part was lost by a moment
abbrev pub was_lost : Option ℕ → ℕ → Bool
was_lost None t = false
was_lost (Some since) t = nat_le since t

-- from when on a part is lost, that an act at a moment loses. The act's own moment is the next one, if there is one
abbrev pub lost_from : Option ℕ → ℕ → Option ℕ
lost_from (Some since) now = Some since
lost_from None now = if now == top then None else Some (now + 1)

abbrev pub lost_after : Health → ℕ → Health
lost_after h now = record { faults = h.faults; since = lost_from h.since now; lost = true }

abbrev pub failed_after : Health → ℕ → Health
failed_after h now = record { faults = next h.faults; since = lost_from h.since now; lost = true }

-- a part that was put in another's place
abbrev pub renewed_after : Health → Health
renewed_after h = record { faults = h.faults; since = None; lost = false }

-- the moment from which a part is lost, or 0
abbrev pub since_of : Option ℕ → ℕ
since_of None = 0
since_of (Some since) = since

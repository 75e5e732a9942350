-- What stands behind a plant in memory, and what it shows.
use Rattle.std.specs.Prelude.{ℕ, ◌+◌, ◌*◌, Bool, List, [], ◌∷◌, ◌++◌, take, drop, true, false, slice_index, slice_set}
use Rattle.mas_types.specs.declared.ids.Dev.{Dev}
use Rattle.spool_disk.specs.declared.base.Base.{Base}
use Rattle.spool_disk.specs.declared.health.Health.{Health}
use Rattle.spool_plant.specs.declared.plant.Part.{Part}
use Rattle.spool_plant.specs.declared.plant.Part.TheVariants.{Disk as DiskPart}
use Rattle.spool_plant.specs.Acts.{next}
use Rattle.spool_disk.specs.Deeds.{Deed, Renewed, after, gather, lines_of, moved, idled}
use Rattle.spool_disk.specs.Entries.{deeds_of}
use Rattle.spool_disk.specs.Health.{was_lost, health_at, lost_after, failed_after, renewed_after}
use Rattle.spool_disk.specs.Kept.{fresh, size_at}
use Rattle.spool_disk.specs.Places.{slot_of, place_of}
use Rattle.spool_disk.specs.Renewals.{since_then}
use Rattle.spool_plant.specs.View.{View, World, Disk, Line}

-- how often each member was stopped, and the moment behind the last such act
pub record Halts : Type 0 where
  pub counts : List ℕ
  pub last : ℕ

pub record State : Type 0 where
  pub now : ℕ
  pub base : Base
  pub deeds : List Deed
  pub parts : List Health
  pub stops : Halts
  pub loses : List ℕ
  pub arms : List ℕ
  pub waiting : ℕ → List ℕ

-- a device, lost or not
abbrev pub shown : Disk → Bool → Disk
shown d lost = record { bytes = d.bytes; unsynced = d.unsynced; lost = lost }

-- a part was lost by a moment, by its place
abbrev pub lost_in : State → ℕ → ℕ → Bool
lost_in s t place = was_lost (since_then place (drop t s.deeds) (health_at s.parts place).since) t

abbrev pub disk_in : State → ℕ → ℕ → Disk
disk_in s t slot = shown (after slot (fresh s.base slot) (take t s.deeds)) (lost_in s t (4 * slot))

-- the lines that a place held at first
abbrev pub first_lines : Base → ℕ → List Line
first_lines base place = lines_of place (deeds_of base.said.items base.text.items)

abbrev pub lines_in : State → ℕ → ℕ → List Line
lines_in s t place = first_lines s.base place ++ lines_of place (take t s.deeds)

abbrev pub moved_in : State → ℕ → Bool → ℕ → ℕ → List ℕ
moved_in s t given wire member = gather (moved given wire member) (take t s.deeds)

abbrev pub world_in : State → ℕ → World
world_in s t = record {
  disk = λ d. disk_in s t (slot_of d);
  console = lines_in s t 1;
  paper = λ m. lines_in s t (4 * m + 2);
  taken = λ w m. moved_in s t false w m;
  given = λ w m. moved_in s t true w m;
}

abbrev pub view_of : State → View
view_of s = record {
  now = s.now;
  world = world_in s;
  size = λ d. size_at s.base (slot_of d);
  lost = λ p. (health_at s.parts (place_of p)).lost;
  faults = λ p. (health_at s.parts (place_of p)).faults;
  stops = λ n. slice_index s.stops.counts n;
  loses = λ d. slice_index s.loses (slot_of d);
  waiting = s.waiting;
  arms = λ n. slice_index s.arms n;
  halt = s.stops.last;
}

-- a count one higher
abbrev pub counted : List ℕ → ℕ → List ℕ
counted counts at = slice_set counts at (next (slice_index counts at))

-- after an act in which a member was stopped, which ended at a moment
abbrev pub halted : Halts → ℕ → ℕ → Halts
halted h by now = record { counts = counted h.counts by; last = now }

-- an act that was recorded, with these stops after it
abbrev pub recorded : State → Deed → Halts → State
recorded s e stops = record {
  now = s.now + 1;
  base = s.base;
  deeds = s.deeds
      ++ e ∷ [];
  parts = s.parts;
  stops = stops;
  loses = s.loses;
  arms = s.arms;
  waiting = s.waiting;
}

abbrev pub failed : ℕ → State → Part → State
failed acts s part = record {
  now = next s.now;
  base = s.base;
  deeds = idled acts s.deeds;
  parts = slice_set s.parts (place_of part) (failed_after (health_at s.parts (place_of part)) s.now);
  stops = s.stops;
  loses = s.loses;
  arms = s.arms;
  waiting = s.waiting;
}

abbrev pub lost : ℕ → State → Dev → State
lost acts s dev = record {
  now = next s.now;
  base = s.base;
  deeds = idled acts s.deeds;
  parts = slice_set s.parts (place_of (DiskPart dev)) (lost_after (health_at s.parts (place_of (DiskPart dev))) s.now);
  stops = s.stops;
  loses = counted s.loses (slot_of dev);
  arms = s.arms;
  waiting = s.waiting;
}

-- a device was put in another's place
abbrev pub renewed : State → Dev → State
renewed s dev = record {
  now = s.now + 1;
  base = s.base;
  deeds = s.deeds ++ Renewed (slot_of dev) (health_at s.parts (place_of (DiskPart dev))).since ∷ [];
  parts = slice_set s.parts (place_of (DiskPart dev)) (renewed_after (health_at s.parts (place_of (DiskPart dev))));
  stops = s.stops;
  loses = s.loses;
  arms = s.arms;
  waiting = s.waiting;
}

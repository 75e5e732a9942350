-- What a plant over files shows: counts, and nothing of what its files hold.
use Rattle.std.specs.Prelude.{◌≡◌, ℕ, ◌+◌, nat_le, ◌&&◌, if◌then◌else◌, false, List, [], slice_index, slice_set}
use Rattle.mas_types.specs.declared.ids.Dev.{Dev}
use Rattle.mas_types.specs.declared.ids.Dev.TheVariants.{Ckpt1, Ckpt2, Spool}
use Rattle.spool_disk.specs.declared.health.Health.{Health}
use Rattle.spool_plant.specs.declared.plant.Part.{Part}
use Rattle.spool_plant.specs.declared.plant.Part.TheVariants.{Disk}
use Rattle.spool_plant.specs.Acts.{next}
use Rattle.spool_disk.specs.Health.{health_at, failed_after, lost_after, renewed_after}
use Rattle.spool_disk.specs.Places.{slot_of, place_of}
use Rattle.spool_plant.specs.View.{View, World}
use Rattle.plant_files.specs.declared.tally.Tally.{Tally}

-- the bytes of a device: 16 MiB for each that has a file
abbrev pub size_of : Dev → ℕ
size_of Ckpt1 = 16777216
size_of Ckpt2 = 16777216
size_of (Spool n) = if nat_le 1 n && nat_le n 8 then 16777216 else 0

-- a world of which nothing is told
abbrev pub untold : World
untold = record {
  disk = λ d. record { bytes = []; unsynced = []; lost = false };
  console = [];
  paper = λ m.
      [];
  taken = λ w m. [];
  given = λ w m. [];
}

-- what is counted
pub record Shown : Type 0 where
  pub now : ℕ
  pub parts : List Health
  pub stops : List ℕ
  pub loses : List ℕ
  pub arms : List ℕ

abbrev pub view_of : Shown → View
view_of s = record {
  now = s.now;
  world = λ m. untold;
  size = size_of;
  lost = λ p. (health_at s.parts (place_of p)).lost;
  faults = λ p. (health_at s.parts (place_of p)).faults;
  stops = λ m. slice_index s.stops m;
  loses = λ d. slice_index s.loses (slot_of d);
  waiting = λ w. [];
  arms = λ m. slice_index s.arms m;
  halt = 0;
}

abbrev pub shown_of : Tally → Shown
shown_of t = record {
  now = t.moment;
  parts = t.counts.parts.items;
  stops = t.counts.stops.items;
  loses
      = t.counts.loses.items;
  arms = t.counts.arms.items;
}

abbrev pub tally_view : Tally → View
tally_view t = view_of (shown_of t)

-- a count one higher
abbrev pub counted : List ℕ → ℕ → List ℕ
counted counts at = slice_set counts at (next (slice_index counts at))

-- an act that was done, one on a part that failed, a call that lost a device, one that renewed it, and one that armed a
-- stop
abbrev pub done_by : Shown → Shown
done_by s = record { now = s.now + 1; parts = s.parts; stops = s.stops; loses = s.loses; arms = s.arms }

abbrev pub failed_by : Part → Shown → Shown
failed_by part s = record {
  now = next s.now;
  parts = slice_set s.parts (place_of part) (failed_after (health_at s.parts (place_of part)) s.now);
  stops = s.stops;
  loses = s.loses;
  arms = s.arms;
}

abbrev pub lost_by : Dev → Shown → Shown
lost_by dev s = record {
  now = next s.now;
  parts = slice_set s.parts (place_of (Disk dev)) (lost_after (health_at s.parts (place_of (Disk dev))) s.now);
  stops = s.stops;
  loses = counted s.loses (slot_of dev);
  arms = s.arms;
}

abbrev pub renewed_by : Dev → Shown → Shown
renewed_by dev s = record {
  now = s.now + 1;
  parts = slice_set s.parts (place_of (Disk dev)) (renewed_after (health_at s.parts (place_of (Disk dev))));
  stops = s.stops;
  loses = s.loses;
  arms = s.arms;
}

abbrev pub armed_by : ℕ → Shown → Shown
armed_by member s = record {
  now = s.now;
  parts = s.parts;
  stops = s.stops;
  loses = s.loses;
  arms = counted s.arms
      member;
}

-- no act was made, and each count is 0
pub record IsFresh (v : View) : Type 0 where
  pub now : v.now ≡ 0
  pub faults : (p : Part) → v.faults p ≡ 0
  pub stops : (m : ℕ) → v.stops m ≡ 0
  pub loses : (d : Dev) → v.loses d ≡ 0
  pub arms : (m : ℕ) → v.arms m ≡ 0
  pub halt : v.halt ≡ 0

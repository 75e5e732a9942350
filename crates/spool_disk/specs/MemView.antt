-- What a plant in memory shows, what it has room for, and what is planned of it.
use Rattle.std.specs.Prelude.{◌≡◌, ℕ, ◌-◌, ◌≤◌, Bool, List, drop, filter, length}
use Rattle.spool_plant.specs.declared.plant.Part.{Part}
use Rattle.spool_disk.specs.declared.memory.MemPlant.{MemPlant}
use Rattle.mas_types.specs.declared.ids.Dev.{Dev}
use Rattle.spool_disk.specs.Deeds.{gather, gives, is_read}
use Rattle.spool_disk.specs.Entries.{deeds_of}
use Rattle.spool_disk.specs.Places.{slot_of, place_of}
use Rattle.spool_disk.specs.State.{State, lost_in, view_of}
use Rattle.spool_disk.specs.Courses.{Book}
use Rattle.spool_disk.specs.FuseView.{armed_of}
use Rattle.spool_plant.specs.View.{View}
use Rattle.spool_disk.specs.Waiting.{waiting_on}

abbrev pub state_of : MemPlant → State
state_of m = record {
  now = m.moment;
  base = m.kept.base;
  deeds = deeds_of m.kept.log.items m.kept.arena.items;
  parts = m.counts.parts.items;
  stops = record { counts = m.counts.stops.items; last = m.halt };
  loses = m.counts.loses.items;
  arms = m.counts.arms.items;
  waiting = waiting_on m.incoming;
}

abbrev pub mem_view : MemPlant → View
mem_view m = view_of (state_of m)

abbrev pub mem_book : MemPlant → Book
mem_book m = record {
  acts = m.kept.acts;
  bytes = m.kept.room;
  left = m.kept.room - length m.kept.arena.items;
  plans
      = m.plans.items;
  armed = armed_of m.fuses;
}

-- a part was lost by a moment
abbrev pub mem_lost : MemPlant → ℕ → Part → Bool
mem_lost m t part = lost_in (state_of m) t (place_of part)

-- how many reads of a device were done since a moment
abbrev pub mem_reads : MemPlant → Dev → ℕ → ℕ
mem_reads m dev t = length (filter (is_read (slot_of dev)) (drop t (state_of m).deeds))

-- since each moment up to the old plant's present as many reads of a device were done
abbrev pub SameReads : Dev → MemPlant → MemPlant → Type 0
SameReads dev old new = (t : ℕ) → t ≤ (mem_view old).now → mem_reads new dev t ≡ mem_reads old dev t

-- what was given on a wire
abbrev pub mem_given : MemPlant → ℕ → List ℕ
mem_given m wire = gather (gives wire) (state_of m).deeds

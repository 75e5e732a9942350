-- What a plant with fuses shows.
use Rattle.std.specs.Prelude.{◌≡◌, ℕ, ◌+◌, ◌<◌, List, length, slice_index, All}
use Rattle.mas_types.specs.declared.ids.Dev.{Dev}
use Rattle.spool_plant.specs.declared.plant.Part.{Part}
use Rattle.spool_plant.specs.View.{View, World, Line}
use Rattle.plant_fuse.specs.declared.stops.Stops.{Stops}
use Rattle.plant_fuse.specs.Torn.{Halved, lines_at}

-- the lines of the console, and of a printer, at each moment
abbrev pub consoles : (ℕ → World) → ℕ → List Line
consoles worlds t = (worlds t).console

abbrev pub papers : (ℕ → World) → ℕ → ℕ → List Line
papers worlds m t = (worlds t).paper m

abbrev pub world_of : (ℕ → World) → List Halved → ℕ → World
world_of worlds hs t = record {
  disk = (worlds t).disk;
  console = lines_at (consoles worlds) 0 hs t;
  paper = λ m. lines_at (papers worlds m) (m + 1) hs t;
  taken = (worlds t).taken;
  given = (worlds t).given;
}

-- An inner plant's view, with the lines that were halved, the stops that were counted beside those of the inner plant,
-- and the calls that armed stops.
abbrev pub fused_view : View → List Halved → Stops → List ℕ → View
fused_view v hs stops arms = record {
  now = v.now;
  world = world_of v.world hs;
  size = v.size;
  lost = v.lost;
  faults = v.faults;
  stops = λ m. v.stops m + slice_index stops.counts m;
  loses = v.loses;
  waiting = v.waiting;
  arms = λ m. slice_index arms m;
  halt = stops.last;
}

-- an act that was halved was made by now, and a line that it added stands among the lines of its place
pub record IsWithin (v : View) (h : Halved) : Type 0 where
  pub before : h.1 < v.now
  pub console : h.0 ≡ 0 → length (consoles v.world h.1) < length (consoles v.world (h.1 + 1))
      → length (consoles v.world h.1) < length (consoles v.world v.now)
  pub paper : (m : ℕ) → h.0 ≡ m + 1 → length (papers v.world m h.1) < length (papers v.world m (h.1 + 1))
      → length (papers v.world m h.1) < length (papers v.world m v.now)

abbrev pub AreWithin : View → List Halved → Type 0
AreWithin v hs = All (IsWithin v) hs

-- what a plant over an inner one shows at first: what the inner one shows, but that no stop was armed or answered
pub record ShowsInner (inner v : View) : Type 0 where
  pub now : v.now ≡ inner.now
  pub world : (t : ℕ) → v.world t ≡ inner.world t
  pub size : (d : Dev) → v.size d ≡ inner.size d
  pub lost : (p : Part) → v.lost p ≡ inner.lost p
  pub faults : (p : Part) → v.faults p ≡ inner.faults p
  pub stops : (m : ℕ) → v.stops m ≡ inner.stops m
  pub loses : (d : Dev) → v.loses d ≡ inner.loses d
  pub waiting : (w : ℕ) → v.waiting w ≡ inner.waiting w
  pub arms : (m : ℕ) → v.arms m ≡ 0
  pub halt : v.halt ≡ 0

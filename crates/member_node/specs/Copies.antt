-- A copy that has the pages of a checkpoint, and pages that it may be given.
use Rattle.std.specs.Prelude.{◌≡◌, ℕ, ◌≤◌, Bool, true, List, length, Option, Some}
use Rattle.mas_types.specs.declared.ids.Dev.TheVariants.{Ckpt1, Ckpt2}
use Rattle.mas_types.specs.declared.ids.Page.{Page}
use Rattle.spool_plant.specs.View.{disk_now}
use Rattle.spool_plant.specs.declared.plant.Plant.{Ghosts as PlantGhosts}
use Rattle.ckpt_copy.specs.declared.copying.Copying.{Ghosts as CopyGhosts}
use Rattle.mas_complex.specs.Steady.{Ghosts as SteadyGhosts}
use Rattle.ckpt_copy.specs.Pages.{bytes_of, ArePages, Covers}
use Rattle.ckpt_places.specs.declared.places.Place.{Place}
use Rattle.ckpt_places.specs.declared.places.Place.TheVariants.{Before}
use Rattle.mas_complex.specs.Changed.{NamesOnly}
use Rattle.mas_complex.specs.Crash.{RaisesOrders}
use Rattle.mas_complex.specs.Past.{IsNextOf}
use Rattle.mas_complex.specs.declared.complex.Complex.{Complex}
use Rattle.member_node.specs.declared.checkpoint.Draft.{Draft}
use Rattle.member_node.specs.declared.checkpoint.Draft.TheVariants as draft

-- a copy: whether it counts as alive, how far a batch has come on it, its pages, its room for batches, and what it
-- reads
pub record Half : Type 0 where
  pub alive : Bool
  pub place : Place
  pub count : ℕ
  pub room : ℕ
  pub read : Option (List ℕ)

module _ {P C : Type 0} {plants : PlantGhosts P} {steadies : SteadyGhosts C} {copies : CopyGhosts C} where
  abbrev pub first_of : Complex P C plants steadies copies → Half
  first_of x = record {
    alive = x.pair.first.alive;
    place = x.first;
    count = copies.count x.pair.first.copy;
    room = copies.room x.pair.first.copy;
    read = copies.reads (disk_now (plants.view x.plant) Ckpt1).bytes;
  }

  abbrev pub second_of : Complex P C plants steadies copies → Half
  second_of x = record {
    alive = x.pair.second.alive;
    place = x.second;
    count = copies.count x.pair.second.copy;
    room = copies.room x.pair.second.copy;
    read = copies.reads (disk_now (plants.view x.plant) Ckpt2).bytes;
  }

-- whether a copy counts as alive, and what it reads
abbrev pub Reading : Type 0
Reading = Bool × Option (List ℕ)

abbrev pub reading_of : Half → Reading
reading_of h = (h.alive, h.read)

-- a copy, which is before any batch: where it counts as alive it reads the pages
pub record RestsAt (tells : Type 0) (alive : Bool) (place : Place) (count : ℕ) (pages : List Page)
    (read : Option (List ℕ)) : Type 0 where
  pub before : place ≡ Before
  pub as_many : alive ≡ true → length pages ≡ count
  pub reads : tells → alive ≡ true → read ≡ Some (bytes_of pages)

-- the copy has these pages
abbrev pub IsAtRest : Type 0 → Half → List Page → Type 0
IsAtRest tells h pages = RestsAt tells h.alive h.place h.count pages h.read

-- what holds of what a copy reads, where it counts as alive and content is told
abbrev pub OnRead : Type 0 → Half → (List ℕ → Type 0) → Type 0
OnRead tells h X = tells → h.alive ≡ true → (was : List ℕ) → h.read ≡ Some was → X was

-- the copy has room for so many batches, if it counts as alive
abbrev pub HasRoomFor : Half → ℕ → Type 0
HasRoomFor h batches = h.alive ≡ true → h.room ≡ batches

-- the copy has room for a batch, if it counts as alive
abbrev pub IsRoomy : Half → Type 0
IsRoomy h = h.alive ≡ true → 1 ≤ h.room

-- A copy that may be given pages, where it counts as alive: it has room for them and as many, the numbers are those of
-- page 0 and of just the pages that differ from what it reads, page 0 gives the next level to these and to each other
-- page the level that it had, and the next order rises by no more than a batch may raise it.
pub record MayPut (tells : Type 0) (copy : Reading) (count space : ℕ) (pages : List Page) (changed : List ℕ) : Type 0
  where
    pub room : copy.0 ≡ true → 1 ≤ space
    pub as_many : copy.0 ≡ true → length pages ≡ count
    pub numbers : copy.0 ≡ true → ArePages count changed
    pub covered : tells → copy.0 ≡ true → (was : List ℕ) → copy.1 ≡ Some was → Covers count changed was (bytes_of pages)
    pub exact : tells → copy.0 ≡ true → (was : List ℕ) → copy.1 ≡ Some was → NamesOnly changed was (bytes_of pages)
    pub leveled : tells → copy.0 ≡ true → (was : List ℕ) → copy.1 ≡ Some was → IsNextOf count was (bytes_of pages)
    pub orders : tells → copy.0 ≡ true → (was : List ℕ) → copy.1 ≡ Some was → RaisesOrders was (bytes_of pages)

-- a copy for which a draft is right: it reads the pages, or may be given them
abbrev pub IsDraftFor : Draft → Type 0 → Reading → ℕ → ℕ → List Page → Type 0
IsDraftFor draft.Same tells copy count room pages = (copy.0 ≡ true → length pages ≡ count)
    × (tells → copy.0 ≡ true → copy.1 ≡ Some (bytes_of pages))
IsDraftFor (draft.Changed numbers) tells copy count room pages = MayPut tells copy count room pages numbers

abbrev pub IsDraftOn : Draft → Type 0 → Half → List Page → Type 0
IsDraftOn d tells h pages = IsDraftFor d tells (reading_of h) h.count h.room pages

-- the room of a copy once a draft is written, where a put that was opened leaves `after` of it
abbrev pub room_with : Draft → (ℕ → ℕ) → ℕ → ℕ
room_with draft.Same after room = room
room_with (draft.Changed numbers) after room = after room

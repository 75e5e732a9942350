-- What a look at one copy gives.
use Rattle.std.specs.Prelude.{◌≡◌, ℕ, ◌≤◌, Bool, true, false, List, [], length, Option}
use Rattle.mas_types.specs.declared.ids.Dev.{Dev}
use Rattle.mas_types.specs.declared.ids.Page.{Page}
use Rattle.spool_plant.specs.declared.plant.Part.TheVariants.{Disk as DiskPart}
use Rattle.spool_plant.specs.View.{View, Disk, disk_now}
use Rattle.ckpt_copy.specs.Pages.{bytes_of}
use Rattle.ckpt_copy.specs.Reading.{IsNone}
use Rattle.duplex_pair.specs.declared.errors.Look.{Look}
use Rattle.duplex_pair.specs.declared.errors.Look.TheVariants.{Lost, Unread, Pages}

-- The copy was found with these pages: it counts as alive, isn't lost, and is at rest with them.
pub record WasFound {C : Type 0} (count room : C → ℕ) (room_most : ℕ) (ready : C → View → Type 0)
    (rests : C → List ℕ → Disk → Type 0) (tells : Type 0) (dev : Dev) (v : View) (copy : C) (alive : Bool)
    (pages : List Page) : Type 0 where
  pub is_alive : alive ≡ true
  pub there : v.lost (DiskPart dev) ≡ false
  pub as_many : count copy ≡ length pages
  pub has_room : room copy ≤ room_most
  pub is_ready : ready copy v
  pub found : tells → rests copy (bytes_of pages) (disk_now v dev)
  pub settled : tells → (disk_now v dev).unsynced ≡ []

-- The copy's device isn't lost, and it reads as none. The look changed nothing of the pair.
pub record WasUnread {C : Type 0} (reads : List ℕ → Option (List ℕ)) (tells : Type 0) (dev : Dev) (v : View)
    (was is : C) (alive : Bool) : Type 0 where
  pub is_alive : alive ≡ true
  pub there : v.lost (DiskPart dev) ≡ false
  pub none : tells → IsNone reads (disk_now v dev)
  pub copy : is ≡ was

-- The copy counts as lost, and so its device is.
pub record WasLost (dev : Dev) (v : View) (alive : Bool) : Type 0 where
  pub is_dead : alive ≡ false
  pub lost : v.lost (DiskPart dev) ≡ true

abbrev pub WasSeen : {C : Type 0} → (C → ℕ) → (C → ℕ) → ℕ → (C → View → Type 0) → (List ℕ → Option (List ℕ))
    → (C → List ℕ → Disk → Type 0) → Type 0 → Dev → View → C → C → Bool → Look → Type 0
WasSeen count room room_most ready reads rests tells dev v was is alive Lost = WasLost dev v alive
WasSeen count room room_most ready reads rests tells dev v was is alive Unread = WasUnread reads tells dev v was is
    alive
WasSeen count room room_most ready reads rests tells dev v was is alive (Pages pages) = WasFound count room room_most
    ready rests tells dev v is alive pages

-- the room of a copy that was found is that of its bytes
abbrev pub HasRoom : {C : Type 0} → (C → ℕ) → (List ℕ → ℕ) → C → Look → List ℕ → Type 0
HasRoom room room_in copy (Pages pages) bytes = room copy ≡ room_in bytes
HasRoom room room_in copy _ bytes = Unit {0}

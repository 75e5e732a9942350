-- What a look at one copy told a start.
use Rattle.std.specs.Prelude.{◌≡◌, ℕ, Bool, true, false, List, Option}
use Rattle.mas_types.specs.declared.ids.Dev.{Dev}
use Rattle.mas_types.specs.declared.ids.Page.{Page}
use Rattle.mas_types.specs.declared.answers.CopyState.TheVariants as state
use Rattle.spool_plant.specs.declared.plant.Part.TheVariants.{Disk as DiskPart}
use Rattle.spool_plant.specs.View.{View, Disk, disk_now}
use Rattle.ckpt_copy.specs.Pages.{bytes_of, level}
use Rattle.ckpt_copy.specs.Reading.{IsNone}
use Rattle.duplex_pair.specs.declared.errors.Look.{Look}
use Rattle.duplex_pair.specs.declared.errors.Look.TheVariants as look
use Rattle.duplex_pair.specs.Looks.{WasFound, WasLost}
use Rattle.start_choice.specs.declared.choosing.Judged.{Judged}
use Rattle.start_choice.specs.declared.choosing.Judged.TheVariants.{Good, Bad}
use Rattle.start_choice.specs.Usable.{AreOf, IsUsable, HaveSize}

-- what was seen has pages of the size of pages, if any
abbrev pub HasSizes : Look → Type 0
HasSizes look.Lost = Unit {0}
HasSizes look.Unread = Unit {0}
HasSizes (look.Pages pages) = HaveSize pages

-- the copy counts as alive and is at rest with these pages, of the level that was found on it
pub record Has {C : Type 0} (count room : C → ℕ) (room_most : ℕ) (ready : C → View → Type 0)
    (rests : C → List ℕ → Disk → Type 0) (tells : Type 0) (dev : Dev) (v : View) (copy : C) (alive : Bool) (found : ℕ)
    (pages : List Page) : Type 0 where
  pub was : WasFound count room room_most ready rests tells dev v copy alive pages
  pub at : found ≡ level (bytes_of pages)
  pub sized : HaveSize pages

-- the copy counts as alive, and reads as none
pub record IsUnread (reads : List ℕ → Option (List ℕ)) (tells : Type 0) (dev : Dev) (v : View) (alive : Bool) : Type 0
  where
    pub is_alive : alive ≡ true
    pub there : v.lost (DiskPart dev) ≡ false
    pub none : tells → IsNone reads (disk_now v dev)

-- the copy has pages that can't be used
pub record IsUnsound {C : Type 0} (count room : C → ℕ) (room_most : ℕ) (ready : C → View → Type 0)
    (rests : C → List ℕ → Disk → Type 0) (tells : Type 0) (dev : Dev) (v : View) (copy : C) (alive : Bool)
    (found : ℕ) : Type 0 where
  pub pages : List Page
  pub has : Has count room room_most ready rests tells dev v copy alive found pages
  pub unusable : IsUsable pages → ⊥

-- a copy that was looked at so is as this says
abbrev pub WasLooked : {C : Type 0} → (C → ℕ) → (C → ℕ) → ℕ → (C → View → Type 0) → (List ℕ → Option (List ℕ))
    → (C → List ℕ → Disk → Type 0) → Type 0 → Dev → View → C → Bool → ℕ → Look → Type 0
WasLooked count room room_most ready reads rests tells dev v copy alive found look.Lost = WasLost dev v alive
WasLooked count room room_most ready reads rests tells dev v copy alive found look.Unread = IsUnread reads tells dev v
    alive
WasLooked count room room_most ready reads rests tells dev v copy alive found (look.Pages pages) = Has count room
    room_most ready rests tells dev v copy alive found pages

-- a copy that was judged so is as this says
abbrev pub WasJudged : {C : Type 0} → (C → ℕ) → (C → ℕ) → ℕ → (C → View → Type 0) → (List ℕ → Option (List ℕ))
    → (C → List ℕ → Disk → Type 0) → Type 0 → Dev → View → C → Bool → ℕ → Judged → Type 0
WasJudged count room room_most ready reads rests tells dev v copy alive found (Good good) =
    Has count room room_most ready rests tells dev v copy alive found good.pages × AreOf good.pages good.tables
WasJudged count room room_most ready reads rests tells dev v copy alive found (Bad state.Lost) = WasLost dev v alive
WasJudged count room room_most ready reads rests tells dev v copy alive found (Bad state.Unread) = IsUnread reads tells
    dev v alive
WasJudged count room room_most ready reads rests tells dev v copy alive found (Bad state.Unsound) = IsUnsound count room
    room_most ready rests tells dev v copy alive found

-- a copy whose pages can be used has the room of its bytes
abbrev pub HasRoomBy : {C : Type 0} → (C → ℕ) → (List ℕ → ℕ) → C → Judged → List ℕ → Type 0
HasRoomBy room room_in copy (Good good) bytes = room copy ≡ room_in bytes
HasRoomBy room room_in copy (Bad why) bytes = Unit {0}

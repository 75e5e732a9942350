-- A copy in the log form between its calls: what it keeps in memory, and what stands on its device.
use Rattle.std.specs.Prelude.{◌≡◌, ℕ, ◌+◌, ◌*◌, ◌-◌, ◌≤◌, ◌<◌, Bool, true, false, List, [], length, slice_index, slice_index_or}
use Rattle.spool_plant.specs.View.{Disk, slice}
use Rattle.mas_types.specs.Limits.{page_bytes}
use Rattle.ckpt_copy.specs.Has.{Has}
use Rattle.ckpt_copy.specs.Pages.{page_in}
use Rattle.change_log.specs.Directories.{numbers_in, is_directory, directory}
use Rattle.change_log.specs.Logs.{slots, home_block, directory_block, image_block, place, laid, free_after, gathered, block, block_head}
use Rattle.change_log.specs.LogStates.{IsReady, Stands, AreHome, lists_any}

-- each gate is open exactly where its slot lists a page
abbrev pub OpenAs : List Bool → (ℕ → List ℕ) → Type 0
OpenAs gates lists = (s : ℕ) → slice_index_or gates s false ≡ lists_any (lists s)

-- each of n pages stands where these slots put it
abbrev pub StandAs : ℕ → List ℕ → (ℕ → List ℕ) → Type 0
StandAs n places lists = (p : ℕ) → p < n → slice_index places p ≡ place n p lists slots

-- each of n pages stands on the device
abbrev pub AreInside : ℕ → List ℕ → Type 0
AreInside n places = (p : ℕ) → p < n → slice_index places p < 5 + 5 * n

-- the number of pages is known, and the device large enough for where they stand, and are to stand; each slot has a
-- gate
pub record IsKept (n size : ℕ) (gates : List Bool) (places next_places : List ℕ) : Type 0 where
  pub ready : IsReady n size
  pub four : length gates ≡ slots
  pub inside : AreInside n places
  pub next_inside : AreInside n next_places

-- the copy at rest
pub record Rests (n : ℕ) (gates : List Bool) (places pages : List ℕ) (disk : Disk) : Type 0 where
  pub lists : ℕ → List ℕ
  pub open_as : OpenAs gates lists
  pub stand_as : StandAs n places lists
  pub stands : Stands n lists pages disk

-- the slot that the next put writes: the first after all that are open
abbrev pub next_slot : List Bool → ℕ
next_slot gates = slots - free_after 0 gates

-- the copy after a put: the pages that changed wait behind the gate of the next slot
pub record Holds (n : ℕ) (gates : List Bool) (places next_places pages next : List ℕ) (disk : Disk) : Type 0 where
  pub rests : Rests n gates places pages disk
  pub size : length next ≡ page_bytes * n
  pub numbers : List ℕ
  pub some : lists_any numbers ≡ true
  pub bytes : List ℕ
  pub has : Has (page_bytes * directory_block n (next_slot gates)) page_bytes bytes disk
  pub spelled : is_directory n bytes ≡ true
  pub listed : numbers_in bytes ≡ numbers
  pub moved : (p : ℕ) → p < n → slice_index next_places p
      ≡ laid (image_block n (next_slot gates) 0) p numbers (slice_index places p)
  pub there : (p : ℕ) → p < n → Has (page_bytes * slice_index next_places p) page_bytes (page_in p next) disk

-- the blocks from block b on are images of the pages with these numbers
abbrev pub AreImages : ℕ → List ℕ → List ℕ → List ℕ → Type 0
AreImages b numbers pages bytes = (i : ℕ) → i < length numbers
    → block (b + i) bytes ≡ page_in (slice_index numbers i) pages

-- a slot was written and synced: a directory that lists exactly these pages, at the level of page 0, and an image of
-- each
pub record SlotWritten (n s : ℕ) (numbers pages : List ℕ) (disk : Disk) : Type 0 where
  pub clean : disk.unsynced ≡ []
  pub listed : block (directory_block n s) disk.bytes ≡ directory (slice 8 8 pages) numbers
  pub images : AreImages (image_block n s 0) numbers pages disk.bytes

-- what stands behind the gate that is opened next
abbrev pub behind : ℕ → List ℕ → List ℕ → List ℕ
behind n next_places bytes = gathered n (λ p. block (slice_index next_places p) bytes)

-- the home pages have these bytes
abbrev pub AreWritten : ℕ → List ℕ → List ℕ → Type 0
AreWritten n pages bytes = (p : ℕ) → p < n → block (home_block p) bytes ≡ page_in p pages

-- while slots are closed, from slot 0 up to slot i: those below list nothing, and each home page is the page that is
-- read
pub record Closing (n : ℕ) (gates : List Bool) (i : ℕ) (pages : List ℕ) (disk : Disk) : Type 0 where
  pub lists : ℕ → List ℕ
  pub below : (j : ℕ) → j < i → lists j ≡ []
  pub open_as : (j : ℕ) → i ≤ j → slice_index_or gates j false ≡ lists_any (lists j)
  pub stands : Stands n lists pages disk
  pub home : AreHome n pages disk

-- formed, except for the VALID gate
pub record Formed (n : ℕ) (pages : List ℕ) (disk : Disk) : Type 0 where
  pub size : length pages ≡ page_bytes * n
  pub ready : IsReady n (length disk.bytes)
  pub head : Has 1 11 (block_head n) disk
  pub here : Has page_bytes (page_bytes * n) pages disk

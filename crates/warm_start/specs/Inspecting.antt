-- What is found by a look at both copies, which changes neither.
use Rattle.std.specs.Prelude.{◌≡◌, ◌≢◌, ◌⊎◌, ℕ, ◌≤◌, true, false, List, length, Option, Some, None, Result, Ok, Err}
use Rattle.mas_types.specs.declared.ids.Dev.{Dev}
use Rattle.mas_types.specs.declared.ids.Dev.TheVariants.{Ckpt1, Ckpt2}
use Rattle.mas_types.specs.declared.ids.Page.{Page}
use Rattle.mas_types.specs.declared.answers.CopyState.{CopyState}
use Rattle.mas_types.specs.declared.answers.CopyState.TheVariants as state
use Rattle.mas_types.specs.declared.queues.Queue.{Queue}
use Rattle.spool_plant.specs.declared.plant.Part.{Part}
use Rattle.spool_plant.specs.declared.plant.Part.TheVariants.{Disk as DiskPart}
use Rattle.spool_plant.specs.View.{View, disk_now}
use Rattle.spool_plant.specs.Acts.{Goes, Rose}
use Rattle.ckpt_copy.specs.Pages.{bytes_of}
use Rattle.ckpt_tables.specs.declared.tables.Tables.{Tables}
use Rattle.ckpt_pages.specs.QueueOf.{queue_of}
use Rattle.queue_telling.specs.Telling.{Tell}
use Rattle.duplex_pair.specs.declared.errors.Look.{Look}
use Rattle.duplex_pair.specs.declared.errors.Look.TheVariants as look
use Rattle.duplex_pair.specs.Finds.{best}
use Rattle.duplex_pair.specs.Founds.{better}
use Rattle.warm_start.specs.Bare.{bare_deck, bare_print}
use Rattle.start_choice.specs.declared.choosing.StartNo.{StartNo}
use Rattle.start_choice.specs.declared.choosing.StartNo.TheVariants as no_start
use Rattle.spool_volumes.specs.Volumes.{AreRoomy}
use Rattle.start_choice.specs.Usable.{AreOf, AreUsable, HaveSize}
use Rattle.warm_start.specs.Starting.{IsSeen, IsFound, mark_of, IsSmall, AreNotLost, OnlyLooked}

-- WHAT A LOOK LEAVES

-- an act on the copy failed, and it is lost
abbrev pub HasFailed : Dev → View → View → Type 0
HasFailed dev old new = (new.lost (DiskPart dev) ≡ true) × Rose (old.faults (DiskPart dev)) (new.faults (DiskPart dev))

-- A call that looks at both copies. At each moment of it no byte has changed, no copy is lost by a call, and one is
-- lost only where an act on it failed.
pub record Looks (tells : Type 0) (old new : View) : Type 0 where
  pub goes : Goes old new
  pub during : tells → OnlyLooked old new
  pub loses : (d : Dev) → new.loses d ≡ old.loses d
  pub stops : (m : ℕ) → new.stops m ≡ old.stops m
  pub lost1 : (new.lost (DiskPart Ckpt1) ≡ old.lost (DiskPart Ckpt1)) ⊎ HasFailed Ckpt1 old new
  pub lost2 : (new.lost (DiskPart Ckpt2) ≡ old.lost (DiskPart Ckpt2)) ⊎ HasFailed Ckpt2 old new
  pub else_lost : (p : Part) → p ≢ DiskPart Ckpt1 → p ≢ DiskPart Ckpt2 → new.lost p ≡ old.lost p

-- one of the copies isn't lost
abbrev pub SomeThere : View → Type 0
SomeThere v = (v.lost (DiskPart Ckpt1) ≡ false) ⊎ (v.lost (DiskPart Ckpt2) ≡ false)

-- the state of a copy that can't be used: it is lost, reads as none, or as pages that can't be used
abbrev pub HasState : (List ℕ → Option (List ℕ)) → Type 0 → Dev → View → CopyState → Type 0
HasState reads tells dev v state.Lost = v.lost (DiskPart dev) ≡ true
HasState reads tells dev v state.Unread = (v.lost (DiskPart dev) ≡ false)
    × (tells → reads (disk_now v dev).bytes ≡ None)
HasState reads tells dev v state.Unsound =
    (v.lost (DiskPart dev) ≡ false) × (tells → (bytes : List ℕ) × (reads (disk_now v dev).bytes ≡ Some bytes)
    × (AreUsable bytes → ⊥))

-- THE QUEUE THAT A START WOULD FIND

-- The queue of the pages that count, of a copy that isn't lost, without its texts. The devices are large enough for
-- them.
pub record HasFound (reads : List ℕ → Option (List ℕ)) (tells : Type 0) (needs : ℕ → ℕ) (old new : View)
    (Q : Queue) : Type 0 where
  pub pages : List Page
  pub tables : Tables
  pub usable : AreOf pages tables
  pub sized : HaveSize pages
  pub is : Q ≡ queue_of tables bare_deck bare_print
  pub tell : Tell tables Q
  pub found : tells → IsFound reads old new (mark_of new) (bytes_of pages)
  pub there : SomeThere new
  pub large1 : needs (length pages) ≤ new.size Ckpt1
  pub large2 : needs (length pages) ≤ new.size Ckpt2
  pub roomy : AreRoomy new tables.config

-- a device is too small for the pages that count or for the groups of their configuration, the first such
pub record IsTooSmall (reads : List ℕ → Option (List ℕ)) (tells : Type 0) (needs : ℕ → ℕ) (old new : View) (dev : Dev)
    (size : ℕ) : Type 0 where
  pub pages : List Page
  pub tables : Tables
  pub usable : AreOf pages tables
  pub sized : HaveSize pages
  pub found : tells → IsFound reads old new (mark_of new) (bytes_of pages)
  pub there : SomeThere new
  pub small : IsSmall (needs (length pages)) tables.config dev size new

-- why no queue is found
abbrev pub FindsNone : (List ℕ → Option (List ℕ)) → Type 0 → (ℕ → ℕ) → View → View → StartNo → Type 0
FindsNone reads tells needs old new (no_start.NotFormatted first second) = HasState reads tells Ckpt1 new first
    × HasState reads tells Ckpt2 new second × AreNotLost first second
FindsNone reads tells needs old new no_start.BothLost = HasFailed Ckpt1 old new × HasFailed Ckpt2 old new
FindsNone reads tells needs old new (no_start.DeviceSize dev size) = IsTooSmall reads tells needs old new dev size
FindsNone reads tells needs old new no_start.NoMemory = Unit {0}

-- THE PAGES OF GREATEST LEVEL

-- what two copies read as, and of it the pages of greatest level, those of CKPT1 on a tie
pub record IsGreatest (reads : List ℕ → Option (List ℕ)) (old new : View) (found : List ℕ) : Type 0 where
  pub one : Option (List ℕ)
  pub two : Option (List ℕ)
  pub seen1 : IsSeen reads Ckpt1 old new (mark_of new) one
  pub seen2 : IsSeen reads Ckpt2 old new (mark_of new) two
  pub is : best one two ≡ Some found

-- these pages are the ones of greatest level, and a copy isn't lost
pub record HasLooked (reads : List ℕ → Option (List ℕ)) (tells : Type 0) (old new : View) (pages : List Page) : Type 0
  where
    pub sized : HaveSize pages
    pub found : tells → IsGreatest reads old new (bytes_of pages)
    pub there : SomeThere new

-- the state of a copy without pages
abbrev pub HasNoPages : (List ℕ → Option (List ℕ)) → Type 0 → Dev → View → CopyState → Type 0
HasNoPages reads tells dev v state.Lost = HasState reads tells dev v state.Lost
HasNoPages reads tells dev v state.Unread = HasState reads tells dev v state.Unread
HasNoPages reads tells dev v state.Unsound = ⊥

-- why looks at both copies find no pages
abbrev pub SeesNone : (List ℕ → Option (List ℕ)) → Type 0 → View → View → StartNo → Type 0
SeesNone reads tells old new (no_start.NotFormatted first second) = HasNoPages reads tells Ckpt1 new first
    × HasNoPages reads tells Ckpt2 new second × AreNotLost first second
SeesNone reads tells old new no_start.BothLost = HasFailed Ckpt1 old new × HasFailed Ckpt2 old new
SeesNone reads tells old new (no_start.DeviceSize dev size) = ⊥
SeesNone reads tells old new no_start.NoMemory = Unit {0}

-- what looks at both copies give together
abbrev pub greatest : Look → Look → Result (List Page) StartNo
greatest (look.Pages one) (look.Pages two) = Ok (better one two)
greatest (look.Pages one) look.Lost = Ok one
greatest (look.Pages one) look.Unread = Ok one
greatest look.Lost (look.Pages two) = Ok two
greatest look.Unread (look.Pages two) = Ok two
greatest look.Lost look.Lost = Err no_start.BothLost
greatest look.Lost look.Unread = Err (no_start.NotFormatted state.Lost state.Unread)
greatest look.Unread look.Lost = Err (no_start.NotFormatted state.Unread state.Lost)
greatest look.Unread look.Unread = Err (no_start.NotFormatted state.Unread state.Unread)

-- WHAT IS FOUND AGAIN

-- no act on a copy failed between the two
abbrev pub NoneFailed : View → View → Type 0
NoneFailed old new = (Rose (old.faults (DiskPart Ckpt1)) (new.faults (DiskPart Ckpt1)) → ⊥)
    × (Rose (old.faults (DiskPart Ckpt2)) (new.faults (DiskPart Ckpt2)) → ⊥)

-- Whoever comes after a look, another look or a start, finds the pages and the tables that the look found, where no
-- act on a copy failed.
abbrev pub AreFoundAgain : Type 0
AreFoundAgain = (reads : List ℕ → Option (List ℕ)) (old mid new : View) (pages later : List Page) (t u : Tables)
    → OnlyLooked old mid → NoneFailed old mid → NoneFailed mid new
    → IsFound reads old mid (mark_of mid) (bytes_of pages) → IsFound reads mid new (mark_of new) (bytes_of later)
    → HaveSize pages → HaveSize later → AreOf pages t → AreOf later u → (later ≡ pages) × (u ≡ t)

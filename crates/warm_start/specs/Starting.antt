-- What a start finds and does.
use Rattle.std.specs.Prelude.{◌≡◌, ◌≢◌, ◌⊎◌, ℕ, ◌+◌, ◌*◌, ◌≤◌, ◌<◌, Bool, true, false, List, length, Option, Some, None}
use Rattle.mas_types.specs.declared.ids.Dev.{Dev}
use Rattle.mas_types.specs.declared.ids.Dev.TheVariants.{Ckpt1, Ckpt2, Spool}
use Rattle.mas_types.specs.declared.ids.Page.{Page}
use Rattle.mas_types.specs.declared.answers.CopyState.{CopyState}
use Rattle.mas_types.specs.declared.answers.CopyState.TheVariants as state
use Rattle.mas_types.specs.declared.queues.Config.{Config}
use Rattle.mas_types.specs.declared.queues.Queue.{Queue}
use Rattle.mas_types.specs.Limits.{page_bytes}
use Rattle.mas_types.specs.Sound.{IsSound}
use Rattle.spool_plant.specs.declared.plant.Part.TheVariants.{Disk as DiskPart}
use Rattle.spool_plant.specs.View.{View, Disk, IsImage, LeavesOnly, Throughout, disk_at, disk_now}
use Rattle.spool_plant.specs.Acts.{Goes, Rose, next, top}
use Rattle.ckpt_copy.specs.Pages.{bytes_of, level}
use Rattle.ckpt_tables.specs.declared.tables.Tables.{Tables}
use Rattle.ckpt_pages.specs.Given.{levels_given}
use Rattle.duplex_pair.specs.Halves.{SomeAlive}
use Rattle.duplex_pair.specs.Looks.{WasLost}
use Rattle.spool_volumes.specs.Volumes.{IsSteady, AreRoomy}
use Rattle.queue_telling.specs.Telling.{Tell}
use Rattle.ckpt_copy.specs.Changes.{NoMore}
use Rattle.ckpt_copy.specs.Meanwhile.{SameSides}
use Rattle.duplex_pair.specs.Both.{BothMeanwhile}
use Rattle.start_choice.specs.declared.choosing.Start.{Start}
use Rattle.start_choice.specs.declared.choosing.StartNo.{StartNo}
use Rattle.start_choice.specs.declared.choosing.StartNo.TheVariants as no_start
use Rattle.mas_complex.specs.Fits.{fits}
use Rattle.mas_complex.specs.Texts.{HasTexts, lost_now, spools_at}
use Rattle.start_choice.specs.Usable.{AreOf, IsUsable, AreUsable, HaveSize}
use Rattle.warm_start.specs.Spooled.{AreGiven}
use Rattle.start_choice.specs.Choosing.{goes}
use Rattle.warm_start.specs.Judging.{Has, IsUnread}

-- THE RULE: which pages are found

-- the moment at which a start ended, and how often a call had lost each device then
pub record Mark : Type 0 where
  pub at : ℕ
  pub loses : Dev → ℕ

abbrev pub mark_of : View → Mark
mark_of v = record { at = v.now; loses = v.loses }

-- An act on the copy failed before a start ended, and no call of the start lost it: in the world it is lost then.
pub record HasGone (dev : Dev) (old new : View) (mark : Mark) : Type 0 where
  pub failed : Rose (old.faults (DiskPart dev)) (new.faults (DiskPart dev))
  pub is_lost : new.lost (DiskPart dev) ≡ true
  pub uncalled : mark.loses dev ≡ old.loses dev
  pub gone : mark.at < top → (disk_at new mark.at dev).lost ≡ true

-- what a start that ended so saw of a copy: what its bytes read as, or nothing where an act on it failed
abbrev pub IsSeen : (List ℕ → Option (List ℕ)) → Dev → View → View → Mark → Option (List ℕ) → Type 0
IsSeen reads dev old new mark None = HasGone dev old new mark ⊎ (reads (disk_now old dev).bytes ≡ None)
IsSeen reads dev old new mark (Some bytes) = (old.lost (DiskPart dev) ≡ false)
    × (reads (disk_now old dev).bytes ≡ Some bytes)

-- of two copies that read so, these pages are those that count: usable ones of greatest level, the first copy's on a
-- tie
abbrev pub IsBest : Option (List ℕ) → Option (List ℕ) → List ℕ → Type 0
IsBest one two found =
    ((one ≡ Some found) × ((bytes : List ℕ) → two ≡ Some bytes → AreUsable bytes → level bytes ≤ level found))
    ⊎ ((two ≡ Some found) × ((bytes : List ℕ) → one ≡ Some bytes → AreUsable bytes → level bytes < level found))

-- the pages that a start which ended so finds
pub record IsFound (reads : List ℕ → Option (List ℕ)) (old new : View) (mark : Mark) (found : List ℕ) : Type 0 where
  pub one : Option (List ℕ)
  pub two : Option (List ℕ)
  pub seen1 : IsSeen reads Ckpt1 old new mark one
  pub seen2 : IsSeen reads Ckpt2 old new mark two
  pub usable : AreUsable found
  pub best : IsBest one two found

-- A COPY BESIDE THE PAGES FOUND

-- a copy has the pages found, or it is one level behind them and has room for a put
pub record Fitting {C : Type 0} (count room : C → ℕ) (room_most : ℕ) (ready : C → View → Type 0)
    (rests : C → List ℕ → Disk → Type 0) (tells : Type 0) (dev : Dev) (v : View) (copy : C) (alive : Bool) (found : ℕ)
    (pages : List Page) : Type 0 where
  pub own : List Page
  pub has : Has count room room_most ready rests tells dev v copy alive found own
  pub as_many : length pages ≡ length own
  pub either :
      ((level (bytes_of own) ≡ level (bytes_of pages)) × (bytes_of own ≡ bytes_of pages))
      ⊎ ((level (bytes_of pages) ≡ level (bytes_of own) + 1) × (1 ≤ room copy))

-- A copy with so much room that may not stay beside the pages found: it reads as none, or as pages that can't be used
-- or that don't fit.
pub record IsUnfit (reads : List ℕ → Option (List ℕ)) (dev : Dev) (old new : View) (mark : Mark) (room : ℕ)
    (found : List Page) : Type 0 where
  pub seen : Option (List ℕ)
  pub is : IsSeen reads dev old new mark seen
  pub unfit : (own : List Page) → seen ≡ Some (bytes_of own) → HaveSize own → IsUsable own → fits found own room ≡ false

-- What stands once a copy was chosen: its pages can be used and are those that count, and each copy that doesn't go has
-- them or lags behind them.
pub record Chosen {C : Type 0} (count room : C → ℕ) (room_most : ℕ) (room_in : List ℕ → ℕ) (ready : C → View → Type 0)
    (reads : List ℕ → Option (List ℕ)) (rests : C → List ℕ → Disk → Type 0) (tells : Type 0)
    (old v : View) (first second : C) (alive1 alive2 : Bool) (found1 found2 : ℕ) (start : Start) : Type 0 where
  pub usable : AreOf start.found.pages start.found.tables
  pub sized : HaveSize start.found.pages
  pub found : tells → IsFound reads old v (mark_of v) (bytes_of start.found.pages)
  pub fits1 : goes Ckpt1 start ≡ false → alive1 ≡ true
      → Fitting count room room_most ready rests tells Ckpt1 v first alive1 found1 start.found.pages
  pub fits2 : goes Ckpt2 start ≡ false → alive2 ≡ true
      → Fitting count room room_most ready rests tells Ckpt2 v second alive2 found2 start.found.pages
  pub unfit1 : tells → goes Ckpt1 start ≡ true
      → IsUnfit reads Ckpt1 old v (mark_of v) (room_in (disk_now old Ckpt1).bytes) start.found.pages
  pub unfit2 : tells → goes Ckpt2 start ≡ true
      → IsUnfit reads Ckpt2 old v (mark_of v) (room_in (disk_now old Ckpt2).bytes) start.found.pages
  pub one :
      ((goes Ckpt1 start ≡ false) × Has count room room_most ready rests tells Ckpt1 v first alive1 found1
      start.found.pages)
      ⊎ ((goes Ckpt2 start ≡ false) × Has count room room_most ready rests tells Ckpt2 v second alive2 found2
      start.found.pages)

-- WHAT A START DOES

-- A call that may lose one copy, which counted as alive before and counts so after.
pub record MayLose (dev : Dev) (was is : Bool) (old new : View) : Type 0 where
  pub goes : Goes old new
  pub alive : is ≡ true → was ≡ true
  pub counted : was ≡ true → is ≡ false → new.loses dev ≡ next (old.loses dev)
  pub else_counted : (d : Dev) → (d ≢ dev) ⊎ (is ≡ was) → new.loses d ≡ old.loses d
  pub is_lost : was ≡ true → is ≡ false → new.lost (DiskPart dev) ≡ true
  pub else_lost : (d : Dev) → (d ≢ dev) ⊎ (is ≡ was) → new.lost (DiskPart d) ≡ old.lost (DiskPart d)
  pub stops : (m : ℕ) → new.stops m ≡ old.stops m

-- a copy is lost once by a call, at most
abbrev pub IsOnce : Dev → Bool → View → View → Type 0
IsOnce dev is old new = (new.loses dev ≡ old.loses dev) ⊎ ((is ≡ false) × (new.loses dev ≡ next (old.loses dev)))

-- why a copy counts as lost: an act on it failed, or the start lost it
abbrev pub WasTaken : Dev → View → View → Type 0
WasTaken dev old new = Rose (old.faults (DiskPart dev)) (new.faults (DiskPart dev))
    ⊎ Rose (old.loses dev) (new.loses dev)

-- A start after which these copies count as alive. A copy counts so exactly where its device isn't lost.
pub record Starts (is1 is2 : Bool) (old new : View) : Type 0 where
  pub goes : Goes old new
  pub there1 : is1 ≡ true → new.lost (DiskPart Ckpt1) ≡ false
  pub there2 : is2 ≡ true → new.lost (DiskPart Ckpt2) ≡ false
  pub lost1 : is1 ≡ false → new.lost (DiskPart Ckpt1) ≡ true
  pub lost2 : is2 ≡ false → new.lost (DiskPart Ckpt2) ≡ true
  pub taken1 : is1 ≡ false → WasTaken Ckpt1 old new
  pub taken2 : is2 ≡ false → WasTaken Ckpt2 old new
  pub once1 : IsOnce Ckpt1 is1 old new
  pub once2 : IsOnce Ckpt2 is2 old new
  pub else_once : (d : Dev) → d ≢ Ckpt1 → d ≢ Ckpt2 → new.loses d ≡ old.loses d
  pub stops : (m : ℕ) → new.stops m ≡ old.stops m

-- an act failed on a device that wasn't lost before
abbrev pub HasFailed : Dev → View → View → Type 0
HasFailed dev old new = (old.lost (DiskPart dev) ≡ false) × Rose (old.faults (DiskPart dev)) (new.faults (DiskPart dev))

-- an act failed on one of the copies, which wasn't lost before
abbrev pub OneFailed : View → View → Type 0
OneFailed old new = HasFailed Ckpt1 old new ⊎ HasFailed Ckpt2 old new

-- both copies were lost before, or an act failed on one that wasn't
abbrev pub NoneOrFailed : View → View → Type 0
NoneOrFailed old new = ((old.lost (DiskPart Ckpt1) ≡ true) × (old.lost (DiskPart Ckpt2) ≡ true)) ⊎ OneFailed old new

-- at most one of the copies was lost by a call
abbrev pub IsOneCalled : View → View → Type 0
IsOneCalled old new = (new.loses Ckpt1 ≡ old.loses Ckpt1) ⊎ (new.loses Ckpt2 ≡ old.loses Ckpt2)

-- A start in which both copies were lost, if they weren't before: an act failed on one of them then. At most one was
-- lost by a call.
pub record LosesBoth (old new : View) : Type 0 where
  pub starts : Starts false false old new
  pub failed : NoneOrFailed old new
  pub one : IsOneCalled old new

-- during a start each image of a copy is one of before, or reads as the copy did or as the pages found
abbrev pub IsHeld : (List ℕ → Option (List ℕ)) → Disk → List ℕ → Disk → Type 0
IsHeld reads was found disk = LeavesOnly disk
    (λ image. IsImage was image ⊎ ((reads image ≡ reads was.bytes) ⊎ (reads image ≡ Some found)))

-- WHY A START GIVES NOTHING

-- the state of a copy that can't be used
abbrev pub IsState : (List ℕ → Option (List ℕ)) → Type 0 → Dev → View → Bool → CopyState → Type 0
IsState reads tells dev v alive state.Lost = WasLost dev v alive
IsState reads tells dev v alive state.Unread = IsUnread reads tells dev v alive
IsState reads tells dev v alive state.Unsound =
    (alive ≡ true) × (v.lost (DiskPart dev) ≡ false)
    × (tells → (bytes : List ℕ) × (reads (disk_now v dev).bytes ≡ Some bytes) × (AreUsable bytes → ⊥))

-- not both are lost
abbrev pub AreNotLost : CopyState → CopyState → Type 0
AreNotLost state.Lost state.Lost = ⊥
AreNotLost _ _ = Unit {0}

-- a volume of the configuration that isn't lost has no room for its groups, the first such
pub record IsSmallVolume (config : Config) (n : ℕ) (v : View) : Type 0 where
  pub some : 1 ≤ n
  pub few : n ≤ config.volumes
  pub there : v.lost (DiskPart (Spool n)) ≡ false
  pub small : v.size (Spool n) < page_bytes * config.groups
  pub before : (m : ℕ) → 1 ≤ m → m < n → v.lost (DiskPart (Spool m)) ≡ false
      → page_bytes * config.groups ≤ v.size (Spool m)

-- a device is too small for the pages found, or for the groups of their configuration, the first such: CKPT1, CKPT2,
-- and then the volumes by their numbers
abbrev pub IsSmall : ℕ → Config → Dev → ℕ → View → Type 0
IsSmall needed config Ckpt1 size v = (size ≡ v.size Ckpt1) × (size < needed)
IsSmall needed config Ckpt2 size v = (size ≡ v.size Ckpt2) × (size < needed) × (needed ≤ v.size Ckpt1)
IsSmall needed config (Spool n) size v = (size ≡ v.size (Spool n)) × IsSmallVolume config n v × (needed ≤ v.size Ckpt1)
    × (needed ≤ v.size Ckpt2)

abbrev pub IsSmallAt : ℕ → Config → View → StartNo → Type 0
IsSmallAt needed config v (no_start.DeviceSize dev size) = IsSmall needed config dev size v
IsSmallAt needed config v _ = ⊥

-- the answer names the first volume that isn't lost and is too small
abbrev pub IsSmallVolumeAt : Config → View → StartNo → Type 0
IsSmallVolumeAt config v (no_start.DeviceSize (Spool n) size) = (size ≡ v.size (Spool n)) × IsSmallVolume config n v
IsSmallVolumeAt config v _ = ⊥

-- the cause of each answer, where these copies count as alive then
abbrev pub IsCauseOf : (List ℕ → Option (List ℕ)) → Type 0 → (ℕ → ℕ) → View → View → Bool → Bool → StartNo → Type 0
IsCauseOf reads tells needs old new alive1 alive2 (no_start.NotFormatted first second) =
    IsState reads tells Ckpt1 new alive1 first × IsState reads tells Ckpt2 new alive2 second × AreNotLost first second
IsCauseOf reads tells needs old new alive1 alive2 no_start.BothLost = (alive1 ≡ false) × (alive2 ≡ false)
IsCauseOf reads tells needs old new alive1 alive2 (no_start.DeviceSize dev size) =
    (found : List Page) × (t : Tables) × AreOf found t × HaveSize found
    × (tells → IsFound reads old new (mark_of new) (bytes_of found))
    × IsSmall (needs (length found)) t.config dev size new
IsCauseOf reads tells needs old new alive1 alive2 no_start.NoMemory = Unit {0}

-- a look at the copies: no byte of them changed
abbrev pub OnlyLooked : View → View → Type 0
OnlyLooked old new = BothMeanwhile (NoMore (disk_now old Ckpt1)) (NoMore (disk_now old Ckpt2)) old new

-- At each moment of a start P holds of CKPT1 and Q of CKPT2, no byte of a spool volume has changed and nothing more of
-- it is unsynced, and the console, the printers and the wires are as they were.
pub record WhileStarting (P Q : Disk → Type 0) (old new : View) : Type 0 where
  pub goes : Goes old new
  pub first : Throughout old.now new.now (λ t. P (disk_at new t Ckpt1))
  pub second : Throughout old.now new.now (λ t. Q (disk_at new t Ckpt2))
  pub volumes : Throughout old.now new.now (λ t. (n : ℕ) → NoMore (disk_now old (Spool n)) (disk_at new t (Spool n)))
  pub console : Throughout old.now new.now (λ t. (new.world t).console ≡ (old.world old.now).console)
  pub sides : Throughout old.now new.now (λ t. SameSides (old.world old.now) (new.world t))

-- a start that only looked: no byte of a device changed
abbrev pub OnlyLookedAtAll : View → View → Type 0
OnlyLookedAtAll old new = WhileStarting (NoMore (disk_now old Ckpt1)) (NoMore (disk_now old Ckpt2)) old new

-- A start that found these pages: during it an image of a copy is one of before, or reads as the copy did or as these
-- pages, and a call lost a copy only where it may not stay beside them.
pub record IsHeldBack (reads : List ℕ → Option (List ℕ)) (room_in : List ℕ → ℕ) (old new : View)
    (pages : List Page) : Type 0 where
  pub usable : IsUsable pages
  pub sized : HaveSize pages
  pub found : IsFound reads old new (mark_of new) (bytes_of pages)
  pub held : WhileStarting (IsHeld reads (disk_now old Ckpt1) (bytes_of pages))
      (IsHeld reads (disk_now old Ckpt2) (bytes_of pages)) old new
  pub kept1 : (new.loses Ckpt1 ≡ old.loses Ckpt1)
      ⊎ IsUnfit reads Ckpt1 old new (mark_of new) (room_in (disk_now old Ckpt1).bytes) pages
  pub kept2 : (new.loses Ckpt2 ≡ old.loses Ckpt2)
      ⊎ IsUnfit reads Ckpt2 old new (mark_of new) (room_in (disk_now old Ckpt2).bytes) pages

-- a start that gave nothing: it only looked, and lost no device by a call, or it found pages
abbrev pub HeldBack : (List ℕ → Option (List ℕ)) → (List ℕ → ℕ) → View → View → Type 0
HeldBack reads room_in old new = (OnlyLookedAtAll old new × ((d : Dev) → new.loses d ≡ old.loses d))
    ⊎ ((pages : List Page) × IsHeldBack reads room_in old new pages)

-- A START

-- The copies that count as alive have the pages found, which spell these tables; these tell the base, whose texts stand
-- on the spool volumes, all of them synced, except those with a group on a volume that is lost. Where no volume was
-- lost in the start these are gone, and name the first such group.
pub record HasStarted {C : Type 0} (count : C → ℕ) (room_in : List ℕ → ℕ) (needs : ℕ → ℕ)
    (reads : List ℕ → Option (List ℕ)) (tells : Type 0) (base : Queue) (t : Tables) (pages : List Page)
    (levels : List ℕ) (at : ℕ) (first : C) (alive1 : Bool) (second : C) (alive2 : Bool) (old new : View) : Type 0 where
  pub usable : AreOf pages t
  pub sized : HaveSize pages
  pub leveled : levels ≡ levels_given pages
  pub tells_base : Tell t base
  pub base_sound : IsSound base
  pub texts : tells → HasTexts (lost_now new) (spools_at new new.now) t.config.groups base
  pub given : tells → IsSteady old new → AreGiven new t.config.groups base
  pub at_level : at ≡ level (bytes_of pages)
  pub found : tells → IsFound reads old new (mark_of new) (bytes_of pages)
  pub starts : Starts alive1 alive2 old new
  pub some : SomeAlive alive1 alive2
  pub large1 : needs (length pages) ≤ old.size Ckpt1
  pub large2 : needs (length pages) ≤ old.size Ckpt2
  pub roomy : AreRoomy new t.config
  pub as_many1 : alive1 ≡ true → length pages ≡ count first
  pub as_many2 : alive2 ≡ true → length pages ≡ count second
  pub reads1 : tells → alive1 ≡ true → reads (disk_now new Ckpt1).bytes ≡ Some (bytes_of pages)
  pub reads2 : tells → alive2 ≡ true → reads (disk_now new Ckpt2).bytes ≡ Some (bytes_of pages)
  pub held : tells → WhileStarting (IsHeld reads (disk_now old Ckpt1) (bytes_of pages))
      (IsHeld reads (disk_now old Ckpt2) (bytes_of pages)) old new
  pub one : IsOneCalled old new
  pub kept1 : tells → (new.loses Ckpt1 ≡ old.loses Ckpt1)
      ⊎ IsUnfit reads Ckpt1 old new (mark_of new) (room_in (disk_now old Ckpt1).bytes) pages
  pub kept2 : tells → (new.loses Ckpt2 ≡ old.loses Ckpt2)
      ⊎ IsUnfit reads Ckpt2 old new (mark_of new) (room_in (disk_now old Ckpt2).bytes) pages

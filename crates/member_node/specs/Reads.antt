-- What a member reads of the copies, and how its tables are brought up to that.
use Rattle.std.specs.Prelude.{◌≡◌, ℕ, ◌+◌, ◌-◌, ◌*◌, ◌≤◌, ◌<◌, ◌^◌, Bool, true, false, if◌then◌else◌, List, length, All, Option, Some, Result, Ok, Err}
use Rattle.mas_types.specs.declared.ids.Dev.{Dev}
use Rattle.mas_types.specs.declared.ids.Page.{Page}
use Rattle.mas_types.specs.declared.queues.Config.{Config}
use Rattle.mas_types.specs.declared.queues.Queue.{Queue}
use Rattle.mas_types.specs.Limits.{page_bytes}
use Rattle.spool_plant.specs.View.{View, disk_now}
use Rattle.spool_plant.specs.Acts.{Rose}
use Rattle.ckpt_copy.specs.Pages.{bytes_of, level, page_in}
use Rattle.ckpt_tables.specs.declared.tables.Tables.{Tables}
use Rattle.ckpt_pages.specs.Checkpoints.{IsCheckpoint}
use Rattle.ckpt_tables.specs.Pages.{page_in as page_of_list}
use Rattle.page_tables.specs.Bringing.{CanBringUp, order_in}
use Rattle.duplex_pair.specs.ActCounts.{after_acts, copies_failed}
use Rattle.duplex_pair.specs.Halves.{IsBothLost, SomeAlive}
use Rattle.ckpt_places.specs.declared.places.Place.{Place}
use Rattle.ckpt_places.specs.declared.places.Place.TheVariants.{Before}
use Rattle.mas_complex.specs.CallCounts.{PairState}
use Rattle.mas_complex.specs.Meaning.{StandFor}
use Rattle.queue_indexed.specs.Standing.{AreFit}
use Rattle.member_node.specs.declared.checkpoint.Checkpoint.{Checkpoint}
use Rattle.member_node.specs.declared.member.NodeNo.{NodeNo}
use Rattle.member_node.specs.declared.member.NodeNo.TheVariants.{BothLost, Halted, ConsoleFault, NoMemory}
use Rattle.member_node.specs.Calls.{Apart, Course}
use Rattle.member_node.specs.Copies.{Half, Reading}
use Rattle.member_node.specs.Drawn.{AreDrawn}
use Rattle.member_node.specs.Spares.{Spares, stopped_in}

-- THE COPIES

-- how many copies count as alive
abbrev pub copies_alive : Bool → Bool → ℕ
copies_alive first second = (if first then 1 else 0) + (if second then 1 else 0)

-- a copy between batches, which has so many pages where it counts as alive
pub record IsCalm (alive : Bool) (place : Place) (count pages : ℕ) : Type 0 where
  pub before : place ≡ Before
  pub as_many : alive ≡ true → pages ≡ count

abbrev pub IsCalmOf : Half → ℕ → Type 0
IsCalmOf h pages = IsCalm h.alive h.place h.count pages

-- what a copy reads, where it counts as alive and content is told
abbrev pub ReadsAs : Type 0 → Bool → Option (List ℕ) → List ℕ → Type 0
ReadsAs tells alive read was = tells → alive ≡ true → read ≡ Some was

abbrev pub ReadsOf : Type 0 → Half → List ℕ → Type 0
ReadsOf tells h was = ReadsAs tells h.alive h.read was

-- from one page on up to another, each page has the bytes that it has in these pages
abbrev pub ArePagesOf : ℕ → ℕ → List ℕ → List Page → Type 0
ArePagesOf first end was pages = (q : ℕ) → first ≤ q → q < end → page_of_list pages q ≡ page_in q was

-- the pages have this level and stand for the queue
pub record StandAt (Q : Queue) (reached : ℕ) (pages : List Page) : Type 0 where
  pub at_level : level (bytes_of pages) ≡ reached
  pub queue : StandFor Q (bytes_of pages)

-- All pages were read of what each copy reads, and stand for the queue.
pub record IsReadWhole (Q : Queue) (reached : ℕ) (one two : Reading) (room : List Page) : Type 0 where
  pub was : List ℕ
  pub at_level : level was ≡ reached
  pub queue : StandFor Q was
  pub first : one.0 ≡ true → one.1 ≡ Some was
  pub second : two.0 ≡ true → two.1 ≡ Some was
  pub pages : ArePagesOf 0 (length room) was room

-- A READ

-- the cause of an answer, and which copies count as alive after it
abbrev pub ReadCauses : {T : Type 0} → Result T NodeNo → ℕ → Bool → Bool → View → View → Type 0
ReadCauses (Ok done) by is1 is2 old new = SomeAlive is1 is2
ReadCauses (Err BothLost) by is1 is2 old new = IsBothLost is1 is2
ReadCauses (Err Halted) by is1 is2 old new = SomeAlive is1 is2 × Rose (old.stops by) (new.stops by)
ReadCauses (Err ConsoleFault) by is1 is2 old new = ⊥
ReadCauses (Err NoMemory) by is1 is2 old new = ⊥

-- Calls on the copies that made so many acts, and one more for each copy that failed in them.
abbrev pub TookActs : ℕ → PairState → PairState → Type 0
TookActs count old new = new.view.now
    ≡ after_acts (count + copies_failed old.first new.first old.second new.second) old.view.now

-- Reads of the copies: they leave all bytes, the volumes and the console. Where content is told no copy is lost but by
-- its device.
pub record HasRead (told : Type 0) (old new : PairState) : Type 0 where
  pub course : Course old new
  pub loses : told → (d : Dev) → new.view.loses d ≡ old.view.loses d
  pub apart : told → Apart old.view new.view
  pub bytes : told → (d : Dev) → (disk_now new.view d).bytes ≡ (disk_now old.view d).bytes

-- calls that only read, by their answer
pub record IsRead {T : Type 0} (told : Type 0) (by : ℕ) (old new : PairState) (result : Result T NodeNo) : Type 0 where
  pub acts : HasRead told old new
  pub cause : ReadCauses result by new.first new.second old.view new.view
  pub spares : Spares by (stopped_in result) old.view new.view

-- The cause of an answer where the tables are brought up too, for which memory is needed.
abbrev pub ReadInCauses : {T : Type 0} → Result T NodeNo → ℕ → Bool → Bool → View → View → Type 0
ReadInCauses (Err NoMemory) by is1 is2 old new = SomeAlive is1 is2
ReadInCauses (Ok done) by is1 is2 old new = SomeAlive is1 is2
ReadInCauses (Err BothLost) by is1 is2 old new = IsBothLost is1 is2
ReadInCauses (Err Halted) by is1 is2 old new = SomeAlive is1 is2 × Rose (old.stops by) (new.stops by)
ReadInCauses (Err ConsoleFault) by is1 is2 old new = ⊥

pub record IsReadIn {T : Type 0} (told : Type 0) (by : ℕ) (old new : PairState) (result : Result T NodeNo) : Type 0
  where
    pub acts : HasRead told old new
    pub cause : ReadInCauses result by new.first new.second old.view new.view
    pub spares : Spares by (stopped_in result) old.view new.view

-- A settle, or nothing: the volumes and the console are as they were.
pub record IsSettle {T : Type 0} (told : Type 0) (by : ℕ) (old new : PairState) (result : Result T NodeNo) : Type 0
  where
    pub course : Course old new
    pub cause : ReadCauses result by new.first new.second old.view new.view
    pub spares : Spares by (stopped_in result) old.view new.view
    pub loses : (d : Dev) → new.view.loses d ≡ old.view.loses d
    pub apart : told → Apart old.view new.view

-- THE MEMBER

-- the pages that a member has: those that it read last, or those of its tables
abbrev pub pages_had : Bool → List Page → List Page → List Page
pages_had behind room own = if behind then room else own

-- levels and orders below this leave a step all that it can use
abbrev pub too_high : ℕ
too_high = 2 ^ 63 - 2 ^ 22

-- the orders that a run has given, which began below 2 ^ 62, after so many batches: each gives 2 ^ 19 at most
abbrev pub orders_after : ℕ → ℕ
orders_after batches = 2 ^ 62 + 2 ^ 19 * batches

-- a member of this configuration may go on from these pages, which spell these tables
pub record MayGoOn (config : Config) (pages : List Page) (t : Tables) : Type 0 where
  pub same : t.config ≡ config
  pub fit : AreFit t
  pub low_level : level (bytes_of pages) < too_high
  pub low_order : t.order < too_high

-- A member that has read may bring its tables up to the pages of its room in their place, and go on from these. Those
-- pages that aren't marked as different are its own.
pub record MayComeUp (fresh : Bool) (differ : List Bool) (room own : List Page) (t : Tables) : Type 0 where
  pub read : fresh ≡ false
  pub many : length room ≡ length own
  pub can : CanBringUp t room differ
  pub low_level : level (bytes_of room) < too_high
  pub low_order : order_in (page_of_list room 0) < too_high

-- the checkpoint of these pages, which a member of this configuration may go on from
pub record IsUpTo (config : Config) (pages : List Page) (k : Checkpoint) : Type 0 where
  pub has : k.pages ≡ pages
  pub drawn : AreDrawn k.tables k.level k.levels k.pages
  pub may : MayGoOn config pages k.tables

-- What is known, where content is told, of the tables that a copy's pages spell after so many batches: they are of this
-- configuration and fit for commands, and give orders after those of these batches.
pub record AreLow (config : Config) (batches : ℕ) (t : Tables) : Type 0 where
  pub same : t.config ≡ config
  pub fit : AreFit t
  pub order : t.order ≤ orders_after batches

abbrev pub ReadsLow : Type 0 → Bool → Config → ℕ → Option (List ℕ) → Type 0
ReadsLow tells alive config batches read =
    tells → alive ≡ true → (pages : List Page) (t : Tables) → All (λ page. length page.0 ≡ page_bytes) pages
    → read ≡ Some (bytes_of pages) → IsCheckpoint pages t → AreLow config batches t

abbrev pub IsLowOf : Type 0 → Half → Config → ℕ → Type 0
IsLowOf tells h config batches = ReadsLow tells h.alive config batches h.read

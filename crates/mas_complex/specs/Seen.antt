-- How far the batch in flight has come on a copy that was looked at.
use Rattle.mas_complex.specs.Names.{Ckpt1, Ckpt2, Disk as DiskPart, Rose, View, disk_now, Page, Batch, Entry, Kept, Dropped, Queue, pages_most, bytes_of, level, Covers, LookNo, Place, Before, Opened, Unsure}
use Rattle.std.specs.Prelude.{◌≡◌, ◌≢◌, ◌⊎◌, ℕ, ◌+◌, ◌++◌, ◌≤◌, ◌==◌, nat_lt, if◌then◌else◌, Bool, true, false, List, length, Option, Some, None, IsSome, Result, Ok, Err}
use Rattle.duplex_pair.specs.declared.errors.Look.{Look}
use Rattle.duplex_pair.specs.declared.errors.Look.TheVariants.{Lost, Unread, Pages}
use Rattle.duplex_pair.specs.declared.half.Half.{Half}
use Rattle.mas_complex.specs.CallCounts.{PairState}
use Rattle.mas_complex.specs.Parts.{Parts}
use Rattle.mas_complex.specs.Meaning.{StandFor, run}
use Rattle.mas_complex.specs.Journals.{with_last, fated, entries_in, kept_all}
use Rattle.mas_complex.specs.Fits.{fits, can_stay, found_numbers}
use Rattle.mas_complex.specs.Places.{IsAtLevel}

-- what a look gave is used so, where there should be so many pages: other numbers of pages count as none
abbrev pub IsUsed : ℕ → Look → Look → Type 0
IsUsed count look Lost = look ≡ Lost
IsUsed count look Unread = (look ≡ Unread) ⊎ ((pages : List Page) × (look ≡ Pages pages) × (length pages ≢ count))
IsUsed count look (Pages pages) = (look ≡ Pages pages) × (length pages ≡ count)

-- P holds of the pages that a look gave
abbrev pub IfPages : Look → (List Page → Type 0) → Type 0
IfPages Lost P = Unit {0}
IfPages Unread P = Unit {0}
IfPages (Pages pages) P = P pages

-- pages of the level reached don't have the batch, others do; without pages it isn't known
abbrev pub IsPlaceSeen : Result Look LookNo → ℕ → Place → Type 0
IsPlaceSeen (Ok Lost) reached place = place ≡ Unsure
IsPlaceSeen (Ok Unread) reached place = place ≡ Unsure
IsPlaceSeen (Ok (Pages pages)) reached place = IsAtLevel (level (bytes_of pages)) reached place
IsPlaceSeen (Err why) reached place = place ≡ Unsure

-- pages with the batch in flight, which has an entry, are those of the level after the one reached
abbrev pub HasNext : Queue → List Entry → ℕ → Place → Look → Type 0
HasNext queue flying reached place Lost = Unit {0}
HasNext queue flying reached place Unread = Unit {0}
HasNext queue flying reached place (Pages pages) = place ≡ Opened → (level (bytes_of pages) ≡ reached + 1)
    × ∥ StandFor queue (bytes_of pages) ∥₁ × (1 ≤ length flying)

-- what copies are read against: what their bytes read as, the queue with the batch in flight, that batch's entries, and
-- the level reached
pub record Sought : Type 0 where
  pub reads : List ℕ → Option (List ℕ)
  pub queue : Queue
  pub flying : List Entry
  pub reached : ℕ

abbrev pub sought : {P C : Type 0} → (List ℕ → Option (List ℕ)) → Parts P C → Sought
sought reads x = record {
  reads = reads;
  queue = run x.base (kept_all x.batches ++ entries_in x.current);
  flying = entries_in x.current;
  reached = x.level;
}

-- a copy that was looked at: whether it counts as alive, how many pages it has and how much room, and how far the batch
-- in flight has come on it
pub record Looked : Type 0 where
  pub alive : Bool
  pub count : ℕ
  pub room : ℕ
  pub place : Place

abbrev pub looked : {C : Type 0} → (C → ℕ) → (C → ℕ) → Half C → Place → Looked
looked count room half place = record {
  alive = half.alive;
  count = count half.copy;
  room = room half.copy;
  place = place;
}

-- A copy that was looked at has these pages, and so many: how far the batch has come on it, and what the pages stand
-- for where they have it.
pub record OneSeen (tells : Type 0) (it : Sought) (copy : Looked) (pages : List Page) : Type 0 where
  pub is_alive : copy.alive ≡ true
  pub as_many : length pages ≡ copy.count
  pub few : copy.count ≤ pages_most
  pub some : 1 ≤ copy.count
  pub at : IsAtLevel (level (bytes_of pages)) it.reached copy.place
  pub next : tells → HasNext it.queue it.flying it.reached copy.place (Pages pages)

-- a copy without pages counts as lost
abbrev pub IsOneSeen : Type 0 → Sought → Looked → Option (List Page) → Type 0
IsOneSeen tells it copy None = copy.alive ≡ false
IsOneSeen tells it copy (Some pages) = OneSeen tells it copy pages

-- the bytes of a device read as the pages that were seen on it
abbrev pub ReadsSeen : (List ℕ → Option (List ℕ)) → List ℕ → Option (List Page) → Type 0
ReadsSeen reads bytes None = Unit {0}
ReadsSeen reads bytes (Some pages) = reads bytes ≡ Some (bytes_of pages)

-- other pages differ from those found in page 0 and in pages of the found level alone
abbrev pub DiffersAtFound : List ℕ → List Page → Type 0
DiffersAtFound was found = Covers (length found) (found_numbers found) was (bytes_of found)

-- A copy that was looked at stays: it has the pages found, or it is as before the batch that they have, differs from
-- them at the found level alone, and has room.
abbrev pub Stays : Place → ℕ → List Page → List Page → Type 0
Stays place room found other = (length found ≡ length other)
    × (((level (bytes_of other) ≡ level (bytes_of found)) × (bytes_of other ≡ bytes_of found))
    ⊎ ((place ≡ Before) × (level (bytes_of found) ≡ level (bytes_of other) + 1) × (1 ≤ room)
    × DiffersAtFound (bytes_of other) found))

-- a copy has the pages found
abbrev pub HasFound : Type 0 → Sought → Looked → List ℕ → List Page → Type 0
HasFound tells it copy bytes found = IsAtLevel (level (bytes_of found)) it.reached copy.place
    × (tells → it.reads bytes ≡ Some (bytes_of found))

-- a copy lags one batch behind the pages found
abbrev pub IsBehind : Type 0 → Sought → Looked → List ℕ → List Page → Type 0
IsBehind tells it copy bytes found = (copy.place ≡ Before) × (level (bytes_of found) ≡ it.reached + 1)
    × (1 ≤ copy.room) × (tells → (was : List ℕ) → it.reads bytes ≡ Some was → DiffersAtFound was found)

-- a copy of so many pages, once pages were found
pub record Agrees (tells : Type 0) (it : Sought) (copy : Looked) (bytes : List ℕ) (found : List Page) : Type 0 where
  pub as_many : length found ≡ copy.count
  pub has : HasFound tells it copy bytes found ⊎ IsBehind tells it copy bytes found

-- the pages with the batch in flight, which has an entry, have the next level, and stand for the queue with it
abbrev pub IsNextOr : Sought → List Page → Type 0
IsNextOr it found = level (bytes_of found) ≢ it.reached → (level (bytes_of found) ≡ it.reached + 1)
    × ∥ StandFor it.queue (bytes_of found) ∥₁ × (1 ≤ length it.flying)

-- the pages found on two copies: one that counts as alive has them, and the other agrees
pub record Chosen (tells : Type 0) (it : Sought) (copy1 copy2 : Looked) (v : View) (found : List Page) : Type 0 where
  pub first : copy1.alive ≡ true → Agrees tells it copy1 (disk_now v Ckpt1).bytes found
  pub second : copy2.alive ≡ true → Agrees tells it copy2 (disk_now v Ckpt2).bytes found
  pub one : ((copy1.alive ≡ true) × HasFound tells it copy1 (disk_now v Ckpt1).bytes found)
      ⊎ ((copy2.alive ≡ true) × HasFound tells it copy2 (disk_now v Ckpt2).bytes found)
  pub next : tells → IsNextOr it found
  pub some : 1 ≤ length found
  pub few : length found ≤ pages_most

-- the pages of a copy don't stay beside the pages found
abbrev pub IsUnfit : Option (List Page) → Place → ℕ → List Page → Type 0
IsUnfit None place room found = ⊥
IsUnfit (Some other) place room found = can_stay place room found other ≡ false

-- The bytes of a device read as pages that don't fit those found, or that have neither their level nor the one reached.
pub record WasUnfit (reads : List ℕ → Option (List ℕ)) (bytes : List ℕ) (reached room : ℕ) (found : List Page) : Type 0
  where
    pub other : List Page
    pub read : reads bytes ≡ Some (bytes_of other)
    pub unfit : (fits found other room ≡ false)
        ⊎ ((level (bytes_of other) ≢ level (bytes_of found)) × (level (bytes_of other) ≢ reached))

-- The batch in flight has its fate since this moment: it is kept where the pages found have another level than the kept
-- ones had, and else it is dropped. Without one the journal is as it was.
abbrev pub IsFatedBy : ℕ → ℕ → ℕ → Option Batch → List Batch → List Batch → Type 0
IsFatedBy found reached now None was is = is ≡ was
IsFatedBy found reached now (Some b) was is = is
    ≡ with_last (fated (if found == reached then Dropped else Kept) now b) was

-- of the pages that two copies gave those of greater level, the first copy's on a tie
abbrev pub IsGreater : Option (List Page) → Option (List Page) → List Page → Type 0
IsGreater None None found = ⊥
IsGreater (Some one) None found = found ≡ one
IsGreater None (Some two) found = found ≡ two
IsGreater (Some one) (Some two) found = found
    ≡ (if nat_lt (level (bytes_of one)) (level (bytes_of two)) then two else one)

-- What a call found that looked at both copies: of the pages that they read as those of greater level, CKPT1's on a
-- tie. A copy gave pages only where it counted as alive, and then gave none only where an act on it failed.
pub record IsPicked (reads : List ℕ → Option (List ℕ)) (old new : PairState) (found : List Page) : Type 0 where
  pub one : Option (List Page)
  pub two : Option (List Page)
  pub some1 : IsSome one → old.first ≡ true
  pub some2 : IsSome two → old.second ≡ true
  pub read1 : ReadsSeen reads (disk_now old.view Ckpt1).bytes one
  pub read2 : ReadsSeen reads (disk_now old.view Ckpt2).bytes two
  pub none1 : one ≡ None → old.first ≡ true
      → Rose (old.view.faults (DiskPart Ckpt1)) (new.view.faults (DiskPart Ckpt1))
  pub none2 : two ≡ None → old.second ≡ true
      → Rose (old.view.faults (DiskPart Ckpt2)) (new.view.faults (DiskPart Ckpt2))
  pub greater : IsGreater one two found

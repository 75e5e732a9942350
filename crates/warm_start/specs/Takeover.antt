-- What a takeover leaves, for every answer.
use Rattle.std.specs.Prelude.{◌≡◌, ◌⊎◌, ℕ, ◌+◌, ◌*◌, ◌≤◌, ◌==◌, if◌then◌else◌, Bool, true, false, List, length, Option, Some, None, Result, Ok, Err}
use Rattle.mas_types.specs.declared.ids.Dev.TheVariants.{Ckpt1, Ckpt2}
use Rattle.mas_types.specs.declared.ids.MemberId.{MemberId}
use Rattle.mas_types.specs.declared.ids.Page.{Page}
use Rattle.mas_types.specs.declared.journals.Batch.{Batch}
use Rattle.mas_types.specs.declared.journals.Fate.{Fate}
use Rattle.mas_types.specs.declared.journals.Fate.TheVariants.{Dropped, Kept}
use Rattle.lock_cycle.specs.declared.answers.SeizeNo.{SeizeNo}
use Rattle.lock_cycle.specs.declared.answers.SeizeNo.TheVariants as seized
use Rattle.lock_cycle.specs.Books.{Book, after_seize, after_stop}
use Rattle.spool_plant.specs.declared.plant.Part.TheVariants.{Disk as DiskPart}
use Rattle.spool_plant.specs.declared.plant.Plant.{Ghosts as PlantGhosts}
use Rattle.spool_plant.specs.View.{Disk, View, disk_now}
use Rattle.spool_plant.specs.Acts.{Rose}
use Rattle.ckpt_copy.specs.declared.copying.Copying.{Ghosts as CopyGhosts}
use Rattle.ckpt_copy.specs.Pages.{bytes_of, level}
use Rattle.ckpt_copy.specs.Reading.{AllRead}
use Rattle.ckpt_tables.specs.Shape.{page_count}
use Rattle.ckpt_form.specs.declared.steady.Steady.{Ghosts as SteadyGhosts}
use Rattle.duplex_pair.specs.Halves.{IsBothLost, SomeAlive}
use Rattle.mas_complex.specs.declared.complex.Complex.{Complex}
use Rattle.ckpt_places.specs.declared.places.Place.{Place}
use Rattle.ckpt_places.specs.declared.places.Place.TheVariants.{Before}
use Rattle.mas_complex.specs.CallCounts.{KeepsCounts, pair_state}
use Rattle.mas_complex.specs.Crash.{next_order, order_first, orders_most}
use Rattle.mas_complex.specs.Elsewhere.{OnCopies}
use Rattle.mas_complex.specs.Journals.{kept_all}
use Rattle.mas_complex.specs.Meaning.{StandFor, run}
use Rattle.mas_complex.specs.Parts.{Parts, ended_at, parts_of, with_copies}
use Rattle.mas_complex.specs.Seen.{IsPicked, WasUnfit}
use Rattle.warm_start.specs.declared.takeovers.TakeNo.{TakeNo}
use Rattle.warm_start.specs.declared.takeovers.TakeNo.TheVariants.{BothLost, Halted, NoMemory, NotHolder, StillUp}

-- REFUSALS, exactly those of the lock's book

abbrev pub take_no : SeizeNo → TakeNo
take_no seized.StillUp = StillUp
take_no (seized.NotHolder holder) = NotHolder

abbrev pub IsRefusedBy : {T : Type 0} → Option SeizeNo → Result T TakeNo → Type 0
IsRefusedBy (Some why) result = result ≡ Err (take_no why)
IsRefusedBy None (Ok pages) = Unit {0}
IsRefusedBy None (Err StillUp) = ⊥
IsRefusedBy None (Err NotHolder) = ⊥
IsRefusedBy None (Err BothLost) = Unit {0}
IsRefusedBy None (Err Halted) = Unit {0}
IsRefusedBy None (Err NoMemory) = Unit {0}

-- THE PARTS

-- the batch in flight is kept where the pages found have another level than the kept ones had, and else it is dropped
abbrev pub fate_of : ℕ → ℕ → Fate
fate_of found reached = if found == reached then Dropped else Kept

-- a batch that was in flight has no place any more
abbrev pub placed_then : Option Batch → Bool → Bool
placed_then None placed = placed
placed_then (Some b) placed = false

-- the lock was taken over, and the copies were looked at
abbrev pub looked_in : {P C : Type 0} → Book → Parts P C → Parts P C → Parts P C
looked_in book is was = record (with_copies is was) { book = book; reserved = None }

-- the lock was taken over, and the batch in flight has its fate since a moment, by the level that was found
abbrev pub found_in : {P C : Type 0} → Book → ℕ → ℕ → Parts P C → Parts P C → Parts P C
found_in book now found is was = record (looked_in book is was) {
  batches = ended_at (fate_of found was.level) now was.current was.batches;
  current = None;
  placed = placed_then was.current was.placed;
  level = found;
}

-- The parts by the answer, at the moment after the call: those of the copies are as they are after it, and all else as
-- is said here. Who took the lock and was stopped then is stopped in the book, and holds the lock; so does one that is
-- out of memory, which isn't stopped.
abbrev pub taken_in : {P C : Type 0} → Result (List Page) TakeNo → ℕ → MemberId → MemberId → Parts P C → Parts P C
    → Parts P C
taken_in (Ok pages) now by of is was = found_in (after_seize was.book by of) now (level (bytes_of pages)) is was
taken_in (Err StillUp) now by of is was = was
taken_in (Err NotHolder) now by of is was = was
taken_in (Err BothLost) now by of is was = looked_in (after_seize was.book by of) is was
taken_in (Err Halted) now by of is was = looked_in (after_stop (after_seize was.book by of) by) is was
taken_in (Err NoMemory) now by of is was = looked_in (after_seize was.book by of) is was

-- WHAT WAS DONE

abbrev pub is_halted : {T : Type 0} → Result T TakeNo → Bool
is_halted (Ok pages) = false
is_halted (Err StillUp) = false
is_halted (Err NotHolder) = false
is_halted (Err BothLost) = false
is_halted (Err Halted) = true
is_halted (Err NoMemory) = false

-- A copy by the pages that are handed back: where it counts as alive it is as before any batch and has so many pages.
-- Where content is told its bytes, and each image that a crash may leave of it, read as these.
pub record Reads (tells : Type 0) (reads : List ℕ → Option (List ℕ)) (count : ℕ) (place : Place) (disk : Disk)
    (pages : List Page) : Type 0 where
  pub at_rest : place ≡ Before
  pub as_many : length pages ≡ count
  pub now : tells → reads disk.bytes ≡ Some (bytes_of pages)
  pub images : tells → AllRead reads (bytes_of pages) disk

module _ {P C : Type 0} (plants : PlantGhosts P) where
  abbrev pub v : Parts P C → View
  v x = plants.view x.plant

  -- the devices of the copies failed
  abbrev pub HasFailed1 : Parts P C → Parts P C → Type 0
  HasFailed1 old new = Rose ((v old).faults (DiskPart Ckpt1)) ((v new).faults (DiskPart Ckpt1))

  abbrev pub HasFailed2 : Parts P C → Parts P C → Type 0
  HasFailed2 old new = Rose ((v old).faults (DiskPart Ckpt2)) ((v new).faults (DiskPart Ckpt2))

  -- Both copies count as lost, and where content is told each failed that wasn't lost before.
  pub record LostBoth (old new : Parts P C) : Type 0 where
    pub both : IsBothLost new.first_alive new.second_alive
    pub failed1 : plants.tells → old.first_alive ≡ true → HasFailed1 old new
    pub failed2 : plants.tells → old.second_alive ≡ true → HasFailed2 old new

  -- Acts on the copies alone: nobody but the member was stopped, and it only where the answer says so. No stop was
  -- armed, no volume changed, and nothing was said or printed. No device was lost by a call but that of a copy, once.
  pub record HasActed (by : MemberId) (old new : Parts P C) (result : Result (List Page) TakeNo) : Type 0 where
    pub counts : KeepsCounts by.0 (is_halted result) (pair_state plants.view old) (pair_state plants.view new)
    pub apart : plants.tells → OnCopies (v old) (v new)

module _ {P C : Type 0} (plants : PlantGhosts P) (copies : CopyGhosts C) where
  -- The pages that are handed back are those of greater level that were read, CKPT1's on a tie, and as many as the
  -- configuration has. Their level is the one reached or the next, and their next order one that so many batches may
  -- come to. Every copy that counts as alive has them now, and one does. Where content is told they stand for
  -- the queue after the kept batches. A copy that was lost failed, or its pages didn't fit these.
  pub record HasFound (old new : Parts P C) (pages : List Page) : Type 0 where
    pub some : SomeAlive new.first_alive new.second_alive
    pub many : length pages ≡ page_count old.base.config
    pub near : level (bytes_of pages) ≤ old.level + 1
    pub low : next_order (bytes_of pages) ≤ order_first + orders_most * length new.batches
    pub first : new.first_alive ≡ true → Reads plants.tells copies.reads (copies.count new.first_copy) new.first
        (disk_now (v plants new) Ckpt1) pages
    pub second : new.second_alive ≡ true → Reads plants.tells copies.reads (copies.count new.second_copy) new.second
        (disk_now (v plants new) Ckpt2) pages
    pub stands : plants.tells → ∥ StandFor (run new.base (kept_all new.batches)) (bytes_of pages) ∥₁
    pub picked : plants.tells → IsPicked copies.reads (pair_state plants.view old)
        (pair_state plants.view new) pages
    pub left1 : plants.tells → old.first_alive ≡ true → new.first_alive ≡ false → HasFailed1 plants old new
        ⊎ WasUnfit copies.reads (disk_now (v plants old) Ckpt1).bytes old.level
        (copies.room_in (disk_now (v plants old) Ckpt1).bytes) pages
    pub left2 : plants.tells → old.second_alive ≡ true → new.second_alive ≡ false → HasFailed2 plants old new
        ⊎ WasUnfit copies.reads (disk_now (v plants old) Ckpt2).bytes old.level
        (copies.room_in (disk_now (v plants old) Ckpt2).bytes) pages

  -- What is known by the answer. Once the member was stopped in it, a copy counts as alive. Out of memory both copies
  -- may count as lost too: then they are so by the same causes.
  abbrev pub TakesBy : MemberId → Parts P C → Parts P C → Result (List Page) TakeNo → Type 0
  TakesBy by old new (Ok pages) = HasFound old new pages
  TakesBy by old new (Err StillUp) = Unit {0}
  TakesBy by old new (Err NotHolder) = Unit {0}
  TakesBy by old new (Err BothLost) = LostBoth plants old new
  TakesBy by old new (Err Halted) = SomeAlive new.first_alive new.second_alive
      × Rose ((v plants old).stops by.0) ((v plants new).stops by.0)
  TakesBy by old new (Err NoMemory) = IsBothLost new.first_alive new.second_alive → LostBoth plants old new

-- OVER THE SHARED VALUE

module _ {P C : Type 0} {plants : PlantGhosts P} {steadies : SteadyGhosts C} {copies : CopyGhosts C} where
  abbrev pub Leaves : MemberId → MemberId → Complex P C plants steadies copies → Complex P C plants steadies copies
      → Result (List Page) TakeNo → Type 0
  Leaves by of x y result = parts_of y
      ≡ taken_in result (plants.view y.plant).now by of (parts_of y) (parts_of x)

  abbrev pub ActsOnCopies : MemberId → Complex P C plants steadies copies → Complex P C plants steadies copies
      → Result (List Page) TakeNo → Type 0
  ActsOnCopies by x y result = HasActed plants by (parts_of x) (parts_of y) result

  abbrev pub TakesFor : MemberId → Complex P C plants steadies copies → Complex P C plants steadies copies
      → Result (List Page) TakeNo → Type 0
  TakesFor by x y result = TakesBy plants copies by (parts_of x) (parts_of y) result

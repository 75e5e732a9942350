-- The parts of a shared value, what of them its facts rest on, and which of them a call changes.
use Rattle.mas_complex.specs.Names.{Dev, MemberId, Page, Batch, Entry, Queue, View, Fate, Kept, Dropped, pick, other, NotLost, ReplaceNoBothLost as BothLost, Failed, ReplaceNoHalted as Halted, ReplaceNoNoMemory as NoMemory, Book, Place, Before}
use Rattle.std.specs.Prelude.{ℕ, ◌+◌, Bool, true, false, List, ◌∷◌, ◌++◌, [], Option, Some, None, Result, Ok, Err}
use Rattle.mas_complex.specs.Past.{values_of}
use Rattle.spool_plant.specs.declared.plant.Plant.{Ghosts as PlantGhosts}
use Rattle.ckpt_copy.specs.declared.copying.Copying.{Ghosts as CopyGhosts}
use Rattle.duplex_pair.specs.declared.half.Half.{Half}
use Rattle.pair_replacing.specs.declared.replacing.ReplaceNo.{ReplaceNo}
use Rattle.mas_complex.specs.Renewals.{begun_on, ended_on}
use Rattle.mas_complex.specs.Journals.{begun, fated, with_last, without_last, entries_reserved}
use Rattle.mas_complex.specs.Paper.{printed_after}
use Rattle.ckpt_form.specs.declared.steady.Steady.{Ghosts as SteadyGhosts}
use Rattle.mas_complex.specs.declared.complex.Complex.{Complex}
use Rattle.mas_complex.specs.declared.renewals.Renewals.{Renewals}

-- all of them: the plant; each copy, whether it counts as alive, and the level that was found on it last; the rest as
-- it stands
pub record Parts (P C : Type 0) : Type 0 where
  pub plant : P
  pub first_copy : C
  pub first_alive : Bool
  pub first_found : ℕ
  pub second_copy : C
  pub second_alive : Bool
  pub second_found : ℕ
  pub book : Book
  pub base : Queue
  pub since : ℕ
  pub batches : List Batch
  pub current : Option Batch
  pub reserved : Option (List Entry)
  pub printed : List ℕ
  pub placed : Bool
  pub first : Place
  pub second : Place
  pub level : ℕ
  pub renewals : Renewals
  pub had : List (List Page)

-- what the plant shows, what the bytes of a copy read as, and those parts of which facts are told
pub record Shown : Type 0 where
  pub view : View
  pub reads : List ℕ → Option (List ℕ)
  pub first_alive : Bool
  pub second_alive : Bool
  pub book : Book
  pub base : Queue
  pub since : ℕ
  pub batches : List Batch
  pub current : Option Batch
  pub reserved : Option (List Entry)
  pub printed : List ℕ
  pub first : Place
  pub second : Place
  pub level : ℕ
  pub had : List (List Page)

-- the parts, with what they show
abbrev pub shows : {P C : Type 0} → (List ℕ → Option (List ℕ)) → (P → View) → Parts P C → Shown
shows reads view x = record {
  view = view x.plant;
  reads = reads;
  first_alive = x.first_alive;
  second_alive = x.second_alive;
  book = x.book;
  base = x.base;
  since = x.since;
  batches = x.batches;
  current = x.current;
  reserved = x.reserved;
  printed = x.printed;
  first = x.first;
  second = x.second;
  level = x.level;
  had = x.had;
}

module _ {P C : Type 0} {plants : PlantGhosts P} {steadies : SteadyGhosts C} {copies : CopyGhosts C} where
  abbrev pub parts_of : Complex P C plants steadies copies → Parts P C
  parts_of x = record {
    plant = x.plant;
    first_copy = x.pair.first.copy;
    first_alive = x.pair.first.alive;
    first_found = x.pair.first.found;
    second_copy = x.pair.second.copy;
    second_alive = x.pair.second.alive;
    second_found = x.pair.second.found;
    book = x.book;
    base = x.base;
    since = x.since;
    batches = x.journal.batches;
    current = x.current;
    reserved = x.reserved;
    printed = x.printed;
    placed = x.placed;
    first = x.first;
    second = x.second;
    level = x.level;
    renewals = x.renewals;
    had = values_of x.had;
  }

  -- the copy on a device and how far a batch has come on it, and the same of the other copy
  abbrev pub half_on : Dev → Complex P C plants steadies copies → Half C
  half_on dev x = pick dev x.pair.first x.pair.second

  abbrev pub place_on : Dev → Complex P C plants steadies copies → Place
  place_on dev x = pick dev x.first x.second

  abbrev pub half_beside : Dev → Complex P C plants steadies copies → Half C
  half_beside dev x = other dev x.pair.first x.pair.second

  abbrev pub place_beside : Dev → Complex P C plants steadies copies → Place
  place_beside dev x = other dev x.first x.second

  abbrev pub shown_of : Complex P C plants steadies copies → Shown
  shown_of x = shows copies.reads plants.view (parts_of x)

-- WHAT A CALL CHANGES Each of these takes the parts as they are after a call, or what the call was given, and the parts
-- before it. What it names is as it is after the call, and all else as it was.

-- the plant, and the copy on one device
abbrev pub with_half : {P C : Type 0} → Dev → Parts P C → Parts P C → Parts P C
with_half dev is was = record was {
  plant = is.plant;
  first_copy = pick dev is.first_copy was.first_copy;
  first_alive = pick dev is.first_alive was.first_alive;
  first_found = pick dev is.first_found was.first_found;
  second_copy = other dev is.second_copy was.second_copy;
  second_alive = other dev is.second_alive was.second_alive;
  second_found = other dev is.second_found was.second_found;
}

-- the plant, the copy on one device, and how far the batch in flight has come on it
abbrev pub with_copy : {P C : Type 0} → Dev → Parts P C → Parts P C → Parts P C
with_copy dev is was = record (with_half dev is was)
    { first = pick dev is.first was.first; second = other dev is.second was.second }

-- the plant, and both copies
abbrev pub with_pair : {P C : Type 0} → Parts P C → Parts P C → Parts P C
with_pair is was = record was {
  plant = is.plant;
  first_copy = is.first_copy;
  first_alive = is.first_alive;
  first_found = is.first_found;
  second_copy = is.second_copy;
  second_alive = is.second_alive;
  second_found = is.second_found;
}

-- the plant, both copies, and how far the batch in flight has come on each
abbrev pub with_copies : {P C : Type 0} → Parts P C → Parts P C → Parts P C
with_copies is was = record (with_pair is was) { first = is.first; second = is.second }

-- the batches with the place of a batch to come, at a moment, unless they have one
abbrev pub placed_at : ℕ → Bool → List Batch → List Batch
placed_at now true batches = batches
placed_at now false batches = batches
    ++ record { first = now; last = now; by = record { 0 = 0 }; fate = Dropped; entries = [] } ∷ []

-- entries are reserved at a moment, in the place of a batch to come
abbrev pub reserved_in : {P C : Type 0} → ℕ → List Entry → Parts P C → Parts P C
reserved_in now entries was = record was
    { batches = placed_at now was.placed was.batches; reserved = Some entries; placed = true }

-- the batches without an unused place: that of a batch in flight stays
abbrev pub batches_left : Bool → Option Batch → List Batch → List Batch
batches_left placed (Some b) batches = batches
batches_left true None batches = without_last batches
batches_left false None batches = batches

abbrev pub placed_left : Bool → Option Batch → Bool
placed_left placed None = false
placed_left placed (Some b) = placed

-- what is reserved is given up, and an unused place with it
abbrev pub unreserved_in : {P C : Type 0} → Parts P C → Parts P C
unreserved_in was = record was {
  batches = batches_left was.placed was.current was.batches;
  reserved = None;
  placed = placed_left was.placed was.current;
}

-- the batch in flight, or the reserved one, which begins at a moment
abbrev pub flying_from : ℕ → MemberId → Option Batch → Option (List Entry) → Option Batch
flying_from now by (Some b) reserved = Some b
flying_from now by None (Some entries) = Some (begun now by entries)
flying_from now by None None = None

-- a member's reserved batch is in flight from a moment on
abbrev pub begun_in : {P C : Type 0} → ℕ → MemberId → Parts P C → Parts P C
begun_in now by was = record was {
  current = flying_from now by was.current was.reserved;
  reserved = None;
  printed = printed_after by (entries_reserved was.reserved) was.printed;
}

-- the batches, where this one, if there is one, stands last since a moment with this fate
abbrev pub ended_at : Fate → ℕ → Option Batch → List Batch → List Batch
ended_at fate now None batches = batches
ended_at fate now (Some b) batches = with_last (fated fate now b) batches

-- the batch in flight is kept since a moment
abbrev pub kept_in : {P C : Type 0} → ℕ → Parts P C → Parts P C
kept_in now was = record was {
  batches = ended_at Kept now was.current was.batches;
  current = None;
  placed = false;
  first = Before;
  second = Before;
  level = was.level + 1;
}

-- a member's reserved batch is kept at a moment, without a write
abbrev pub kept_same_in : {P C : Type 0} → ℕ → MemberId → Parts P C → Parts P C
kept_same_in now by was = record was {
  batches = ended_at Kept now (flying_from now by None was.reserved) was.batches;
  reserved = None;
  printed = printed_after by (entries_reserved was.reserved) was.printed;
  placed = false;
}

-- the batch in flight is dropped at a moment
abbrev pub dropped_in : {P C : Type 0} → ℕ → Parts P C → Parts P C
dropped_in now was = record was {
  batches = ended_at Dropped now was.current was.batches;
  current = None;
  placed = false;
  first = Before;
  second
      = Before;
}

-- A member was to replace the copy on a device, from one moment to another. With Ok the device and the copy are as they
-- are after the call, and the copy is as before any batch. After Failed and Halted the copy counts as lost as before.
abbrev pub replaced_in : {P C T : Type 0} → Result T ReplaceNo → Dev → ℕ → ℕ → Parts P C → Parts P C → Parts P C
replaced_in (Ok value) dev from now is was = record (with_half dev is was) {
  first = pick dev Before was.first;
  second = other dev Before was.second;
  renewals = ended_on dev now (begun_on dev from was.renewals);
}
replaced_in (Err NotLost) dev from now is was = was
replaced_in (Err BothLost) dev from now is was = was
replaced_in (Err NoMemory) dev from now is was = was
replaced_in (Err Failed) dev from now is was = record was
    { plant = is.plant; renewals = begun_on dev from was.renewals }
replaced_in (Err Halted) dev from now is was = record was
    { plant = is.plant; renewals = begun_on dev from was.renewals }

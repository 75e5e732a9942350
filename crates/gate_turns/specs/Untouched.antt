-- Which calls change lines, and which change begun entries.
use Rattle.std.specs.Prelude.{◌≡◌, ◌≢◌, ◌⊎◌, ℕ, Bool, true, if◌then◌else◌, List, [], ◌++◌, Option, Some, None}
use Rattle.mas_types.specs.declared.ids.Dev.TheVariants.{Spool}
use Rattle.mas_types.specs.declared.ids.MemberId.{MemberId}
use Rattle.mas_types.specs.declared.journals.Batch.{Batch}
use Rattle.mas_types.specs.declared.journals.Entry.{Entry}
use Rattle.mas_types.specs.declared.journals.Fate.TheVariants.{Kept}
use Rattle.mas_types.specs.Ids.{same_member}
use Rattle.spool_plant.specs.declared.plant.Act.{Act}
use Rattle.spool_plant.specs.declared.plant.Part.TheVariants.{Console, Disk, Printer}
use Rattle.spool_plant.specs.View.{View}
use Rattle.spool_plant.specs.Acts.{Acts, OnDevice, Prints, Says}
use Rattle.lock_cycle.specs.Books.{Book}
use Rattle.gate_facts.specs.Values.{lines_of}
use Rattle.mas_complex.specs.Journals.{begun, fated, in_flight, with_last, EndsInPlace, HasPlace}
use Rattle.mas_complex.specs.Parts.{Shown}
use Rattle.mas_complex.specs.Seen.{IsFatedBy}
use Rattle.gate_turns.specs.Words.{speaker}
use Rattle.gate_turns.specs.Shared.{begun_by, facts_of}
use Rattle.gate_turns.specs.Laws.{with_book, with_view, with_print, with_kept, with_call, with_reserved, unreserved, HasBegun, HasGrown, IsCall}

-- the lines of all members are as they were
abbrev pub SaysNothing : Bool → Shown → Shown → Type 0
SaysNothing told x y = (facts_of told y).lines ≡ (facts_of told x).lines

-- the entries that each member began are as they were
abbrev pub BeginsNothing : Bool → Shown → Shown → Type 0
BeginsNothing told x y = (facts_of told y).begun ≡ (facts_of told x).begun

-- nothing is said and nothing begun: of each member both are as they were
abbrev pub IsQuiet : Bool → Shown → Shown → Type 0
IsQuiet told x y = SaysNothing told x y × BeginsNothing told x y

-- a call on the lock, which may give up what is reserved
abbrev pub BooksAreQuiet : Type 0
BooksAreQuiet = (told : Bool) (x : Shown) (book : Book) (reserved : Option (List Entry))
    → IsQuiet told x (with_book x book reserved)

-- a batch is reserved: the journal may gain the place of a batch to come
abbrev pub ReservesAreQuiet : Type 0
ReservesAreQuiet = (told : Bool) (x : Shown) (batches : List Batch) (reserved : Option (List Entry))
    → HasGrown x.batches batches → IsQuiet told x (with_reserved x batches reserved)

-- what is reserved is given up
abbrev pub GivesUpAreQuiet : Type 0
GivesUpAreQuiet = (told placed : Bool) (x : Shown) → ∥ HasPlace placed x.batches ∥₁
    → IsQuiet told x (unreserved placed x)

-- an act on a spool volume
abbrev pub SpoolActsAreQuiet : Type 0
SpoolActsAreQuiet = (told : Bool) (x : Shown) (view : View) (by volume : ℕ) (result : Act)
    → Acts by (Disk (Spool volume)) x.view view result → (told ≡ true → OnDevice (Spool volume) x.view view)
    → (told ≡ true → HasBegun x) → IsQuiet told x (with_view x view)

-- a print
abbrev pub PrintsAreQuiet : Type 0
PrintsAreQuiet = (told : Bool) (x : Shown) (view : View) (by : MemberId) (line : List ℕ) (result : Act)
    → Acts by.0 (Printer by) x.view view result → (told ≡ true → Prints by.0 line x.view view result)
    → (told ≡ true → HasBegun x) → IsQuiet told x (with_print x view by result)

-- a call of the holder on the copies that begins no batch and gives none its fate
abbrev pub CallsAreQuiet : Type 0
CallsAreQuiet = (told stopped : Bool) (x c : Shown) (by : MemberId) → IsCall by stopped told x c
    → c.batches ≡ x.batches → c.current ≡ x.current → IsQuiet told x (with_call x c)

-- the call with which a batch is kept, and the one that finds out what became of a batch in flight
abbrev pub FatesAreQuiet : Type 0
FatesAreQuiet = (told stopped : Bool) (x c : Shown) (by : MemberId) (found now : ℕ) → IsCall by stopped told x c
    → ∥ EndsInPlace x.batches ∥₁ → c.current ≡ None
    → ((b : Batch) × (x.current ≡ Some b) × (c.batches ≡ with_last (fated Kept now b) x.batches))
    ⊎ IsFatedBy found x.level now x.current x.batches c.batches
    → IsQuiet told x (with_call x c)

-- the entries that a member began are those before, and these where they are its own
abbrev pub BeginsOwn : MemberId → List Entry → Shown → Shown → Type 0
BeginsOwn by entries x y = (m : MemberId) → begun_by m (y.batches ++ in_flight y.current)
    ≡ begun_by m (x.batches ++ in_flight x.current) ++ (if same_member by m then entries else [])

-- the first call that puts the pages of a batch on a copy says nothing, and begins the batch's entries
abbrev pub LogsBeginOwn : Type 0
LogsBeginOwn = (told stopped : Bool) (x c : Shown) (by : MemberId) (now : ℕ) (entries : List Entry)
    → IsCall by stopped told x c → c.batches ≡ x.batches → x.current ≡ None → c.current ≡ Some (begun now by entries)
    → SaysNothing told x (with_call x c) × BeginsOwn by entries x (with_call x c)

-- so does the call that keeps a batch without a write
abbrev pub KeepsBeginOwn : Type 0
KeepsBeginOwn = (told : Bool) (x : Shown) (by : MemberId) (now : ℕ) (entries : List Entry) → x.current ≡ None
    → ∥ EndsInPlace x.batches ∥₁
    → SaysNothing told x (with_kept x now by entries) × BeginsOwn by entries x (with_kept x now by entries)

-- a line that is said changes the lines of the member that its first word names, or else those of member 0, and begins
-- nothing
abbrev pub SaysChangeNamed : Type 0
SaysChangeNamed = (told : Bool) (x : Shown) (view : View) (by : ℕ) (line : List ℕ) (result : Act)
    → Acts by Console x.view view result → (told ≡ true → Says line x.view view result) → (told ≡ true → HasBegun x)
    → BeginsNothing told x (with_view x view)
    × ((k : ℕ) → speaker x.base.config.members line ≢ k
    → lines_of (facts_of told (with_view x view)) k ≡ lines_of (facts_of told x) k)

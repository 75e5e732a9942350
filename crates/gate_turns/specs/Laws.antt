-- What calls of a shared value leave to the others, so that it may be given back.
use Rattle.mas_complex.specs.Past.{noted_by}
use Rattle.std.specs.Prelude.{◌≡◌, ◌≢◌, ◌⊎◌, ℕ, ◌^◌, ◌<◌, ◌≤◌, ◌↔◌, Bool, true, false, List, [], ◌∷◌, ◌++◌, length, Option, Some, None, All}
use Rattle.mas_types.specs.declared.ids.MemberId.{MemberId}
use Rattle.mas_types.specs.declared.ids.GroupNo.{GroupNo}
use Rattle.mas_types.specs.declared.ids.Page.{Page}
use Rattle.mas_types.specs.declared.ids.Dev.TheVariants.{Ckpt1, Ckpt2, Spool}
use Rattle.mas_types.specs.declared.journals.Entry.{Entry}
use Rattle.mas_types.specs.declared.journals.Batch.{Batch}
use Rattle.mas_types.specs.declared.journals.Fate.TheVariants.{Kept}
use Rattle.mas_types.specs.declared.answers.Closing.{Closing}
use Rattle.mas_types.specs.Closings.{closing_line}
use Rattle.mas_types.specs.Ids.{same_member}
use Rattle.mas_types.specs.Limits.{members_most, page_bytes}
use Rattle.spool_plant.specs.declared.plant.Act.{Act}
use Rattle.spool_plant.specs.declared.plant.Part.TheVariants.{Disk, Console, Printer}
use Rattle.spool_plant.specs.View.{View, disk_now}
use Rattle.spool_plant.specs.Acts.{Acts, Prints, Syncs, Says, Loses}
use Rattle.duplex_pair.specs.Halves.{Acted}
use Rattle.duplex_pair.specs.Both.{PairActed}
use Rattle.queue_laws.specs.Laws.{resets}
use Rattle.lock_cycle.specs.Books.{Book, IsMember, is_holder, after_try, after_free, after_stop, after_seize, after_spend}
use Rattle.gate_facts.specs.declared.facts.Facts.{Facts}
use Rattle.gate_facts.specs.Values.{marked_at}
use Rattle.gate_facts.specs.Memory.{MayGiveBack}
use Rattle.mas_complex.specs.CallCounts.{KeepsCounts, PairState, shown_state}
use Rattle.mas_complex.specs.Elsewhere.{OnCopies}
use Rattle.mas_complex.specs.Journals.{kept_all, entries_reserved, begun, fated, with_last, IsPlace, EndsInPlace, HasPlace}
use Rattle.mas_complex.specs.Meaning.{run, is_telling, Closes}
use Rattle.mas_complex.specs.Paper.{counts_of, printed_after, printed_by}
use Rattle.mas_complex.specs.Spool.{IsHeldBy, device_of, ReadsGroup, WritesGroup}
use Rattle.mas_complex.specs.Texts.{spools_at, IsSynced}
use Rattle.mas_complex.specs.Locking.{IsOwn, reserved_after_stop}
use Rattle.mas_complex.specs.Seen.{IsFatedBy}
use Rattle.gate_turns.specs.Desks.{group_on, groups_from}
use Rattle.gate_turns.specs.Seats.{shows_stopped}
use Rattle.mas_complex.specs.Parts.{Shown, batches_left}
use Rattle.gate_turns.specs.Words.{speaker}
use Rattle.gate_turns.specs.Told.{step_told, IsShort}
use Rattle.gate_turns.specs.Shared.{facts_of}

-- a value may be given back as it was taken
abbrev pub ItselfMayGoBack : Type 0
ItselfMayGoBack = (m : ℕ) (cares : List Bool) (is : Facts) → MayGiveBack m cares is is

-- what may be given back where another value was taken, and this one where that may
abbrev pub OneByOne : Type 0
OneByOne = (m : ℕ) (cares : List Bool) (was between is : Facts) → MayGiveBack m cares was between
    → MayGiveBack m cares between is → MayGiveBack m cares was is

-- the value with this book and this reserved batch
abbrev pub with_book : Shown → Book → Option (List Entry) → Shown
with_book x book reserved = record x { book = book; reserved = reserved }

-- the value after acts: the plant shows this
abbrev pub with_view : Shown → View → Shown
with_view x view = record x { view = view }

-- the value after a print: the plant shows this, and a line that was printed is counted
abbrev pub with_print : Shown → View → MemberId → Act → Shown
with_print x view by result = record x { view = view; printed = printed_by by result x.printed }

-- the value in which this member's reserved batch is kept since a moment
abbrev pub with_kept : Shown → ℕ → MemberId → List Entry → Shown
with_kept x now by entries = record x {
  batches = with_last (fated Kept now (begun now by entries)) x.batches;
  reserved = None;
  printed = printed_after by
      entries x.printed;
}

-- whatever the member cares for, it may give back the value with this book and this reserved batch
abbrev pub MayGoBack : MemberId → Shown → Book → Option (List Entry) → Type 0
MayGoBack by x book reserved = (told : Bool) (cares : List Bool)
    → MayGiveBack by.0 cares (facts_of told x) (facts_of told (with_book x book reserved))

-- the value may go back after a try at the lock, granted or refused
abbrev pub TriesMayGoBack : Type 0
TriesMayGoBack = (x : Shown) (by : MemberId) (inner : Bool) → IsMember x.book by
    → MayGoBack by x (after_try x.book by inner) x.reserved

-- the value may go back after its member gave the lock up, with the batch that was reserved
abbrev pub FreesMayGoBack : Type 0
FreesMayGoBack = (x : Shown) (by : MemberId) (inner : Bool) → IsMember x.book by → is_holder x.book by ≡ true
    → MayGoBack by x (after_free x.book by inner) None

-- the value may go back after its member was stopped, where a reserved batch is the holder's
abbrev pub StopsMayGoBack : Type 0
StopsMayGoBack = (x : Shown) (by : MemberId) → IsMember x.book by
    → All (λ e. e.by ≡ x.book.holder) (entries_reserved x.reserved)
    → MayGoBack by x (after_stop x.book by) (reserved_after_stop by x.reserved)

-- the value may go back after its member took over the lock of a stopped one
abbrev pub SeizesMayGoBack : Type 0
SeizesMayGoBack = (x : Shown) (by of : MemberId) → IsMember x.book by → IsMember x.book of
    → MayGoBack by x (after_seize x.book by of) x.reserved

-- the value may go back after a part of the member's hold was spent
abbrev pub SpendsMayGoBack : Type 0
SpendsMayGoBack = (x : Shown) (by : MemberId) (commands : ℕ) → IsMember x.book by
    → MayGoBack by x (after_spend x.book by commands) x.reserved

-- the value may go back after its member kept a reserved batch without a write
abbrev pub KeepsMayGoBack : Type 0
KeepsMayGoBack = (x : Shown) (by : MemberId) (now : ℕ) (entries : List Entry) (told : Bool) (cares : List Bool) →
    x.reserved ≡ Some entries → All (λ e. e.by ≡ by) entries → x.current ≡ None → ∥ EndsInPlace x.batches ∥₁
    → x.book.holder ≡ by
    → (told ≡ true → run x.base (kept_all x.batches ++ entries) ≡ run x.base (kept_all x.batches))
    → marked_at cares by.0 ≡ true
    → MayGiveBack by.0 cares (facts_of told x) (facts_of told (with_kept x now by entries))

-- the value began at a moment that is past, and the lines that stood on the console then still do
abbrev pub HasBegun : Shown → Type 0
HasBegun x = (x.since ≤ x.view.now) × (length (x.view.world x.since).console ≤ length (x.view.world x.view.now).console)

-- the value may go back after its member said a line that the member's own name begins
abbrev pub SaysMayGoBack : Type 0
SaysMayGoBack = (x : Shown) (view : View) (by : MemberId) (line : List ℕ) (result : Act) (told : Bool)
    (cares : List Bool) →
    Acts by.0 Console x.view view result → (told ≡ true → Says line x.view view result) → (told ≡ true → HasBegun x)
    → speaker x.base.config.members line ≡ by.0 → marked_at cares by.0 ≡ true
    → MayGiveBack by.0 cares (facts_of told x) (facts_of told (with_view x view))

-- the value may go back after its member printed a line, or didn't; where the member was stopped in that, the book is
-- as after a stop
abbrev pub PrintsMayGoBack : Type 0
PrintsMayGoBack = (x : Shown) (view : View) (by : MemberId) (line : List ℕ) (result : Act) (told : Bool)
    (cares : List Bool) →
    Acts by.0 (Printer by) x.view view result → (told ≡ true → Prints by.0 line x.view view result)
    → (told ≡ true → HasBegun x) → marked_at cares by.0 ≡ true
    → MayGiveBack by.0 cares (facts_of told x) (facts_of told (with_print x view by result))

-- the value may go back after its member read a group
abbrev pub ReadsMayGoBack : Type 0
ReadsMayGoBack = (x : Shown) (view : View) (by : MemberId) (group : GroupNo) (into : Page) (result : Act) (told : Bool)
    (cares : List Bool) →
    Acts by.0 (Disk (device_of x.base.config.groups group)) x.view view result
    → (told ≡ true → ReadsGroup x.base.config.groups group x.view view into result)
    → (told ≡ true → HasBegun x) → marked_at cares by.0 ≡ true
    → MayGiveBack by.0 cares (facts_of told x) (facts_of told (with_view x view))

-- the value may go back after its member synced a volume
abbrev pub SyncsMayGoBack : Type 0
SyncsMayGoBack = (x : Shown) (view : View) (by : MemberId) (volume : ℕ) (result : Act) (told : Bool) (cares : List Bool)
    →
    Acts by.0 (Disk (Spool volume)) x.view view result → (told ≡ true → Syncs (Spool volume) x.view view result)
    → (told ≡ true → HasBegun x) → marked_at cares by.0 ≡ true
    → MayGiveBack by.0 cares (facts_of told x) (facts_of told (with_view x view))

-- the value may go back after its member wrote a group of its own
abbrev pub WritesMayGoBack : Type 0
WritesMayGoBack = (x : Shown) (view : View) (by : MemberId) (group : GroupNo) (bytes : Page) (result : Act)
    (told : Bool) (cares : List Bool) →
    Acts by.0 (Disk (device_of x.base.config.groups group)) x.view view result
    → (told ≡ true → WritesGroup x.base.config.groups group x.view view bytes result)
    → length bytes.0 ≡ page_bytes → (told ≡ true → IsHeldBy by group (run x.base (kept_all x.batches)))
    → (told ≡ true → HasBegun x) → marked_at cares by.0 ≡ true
    → MayGiveBack by.0 cares (facts_of told x) (facts_of told (with_view x view))

-- CALLS ON THE COPIES

-- the value after a call, which changes all but base, first moment and book to what another one has
abbrev pub with_call : Shown → Shown → Shown
with_call x c = record c { reads = x.reads; book = x.book; base = x.base; since = x.since }

-- what acts on one copy count, or on both, and what the loss of one that counted as alive
abbrev pub CopyActsCount : Type 0
CopyActsCount = (by : ℕ) (stopped : Bool) (x y : PairState) →
    (y.second ≡ x.second → Acted by Ckpt1 x.first y.first stopped x.view y.view → KeepsCounts by stopped x y)
    × (y.first ≡ x.first → Acted by Ckpt2 x.second y.second stopped x.view y.view → KeepsCounts by stopped x y)

abbrev pub PairActsCount : Type 0
PairActsCount = (by : ℕ) (stopped : Bool) (x y : PairState)
    → PairActed by x.first y.first x.second y.second stopped x.view y.view → KeepsCounts by stopped x y

abbrev pub LossesCount : Type 0
LossesCount = (by : ℕ) (x y : PairState) →
    (x.first ≡ true → y.first ≡ false → y.second ≡ x.second → Loses (Disk Ckpt1) x.view y.view
    → KeepsCounts by false x y)
    × (x.second ≡ true → y.second ≡ false → y.first ≡ x.first → Loses (Disk Ckpt2) x.view y.view
    → KeepsCounts by false x y)

-- a batch that a member begins leaves the counts of printed lines of each other member
abbrev pub BatchesLeaveCounts : Type 0
BatchesLeaveCounts = (by : MemberId) (entries : List Entry) (printed : List ℕ) (m : MemberId) → m.0 ≢ by.0
    → counts_of (printed_after by entries printed) m ≡ counts_of printed m

-- the member holds the lock, or is the operator while nobody does, and its call leaves so much of what is counted, of
-- the volumes and of the console, and the counts of printed lines of each other member
pub record IsCall (by : MemberId) (stopped told : Bool) (x c : Shown) : Type 0 where
  pub holds : x.book.holder ≡ by
  pub counts : KeepsCounts by.0 stopped (shown_state x) (shown_state c)
  pub apart : told ≡ true → OnCopies x.view c.view
  pub begun : told ≡ true → HasBegun x
  pub printed : (m : MemberId) → m.0 ≢ by.0 → counts_of c.printed m ≡ counts_of x.printed m
  pub noted : (m : MemberId) → m.0 ≢ by.0 → noted_by c.had m.0 ≡ noted_by x.had m.0

-- entries that are kept leave the groups of each other member that isn't stopped
abbrev pub LeavesGroups : MemberId → Shown → List Entry → Type 0
LeavesGroups by x entries = (m : MemberId) → m.0 ≢ by.0 → shows_stopped x.book m ≡ false
    → groups_from m 0 (run x.base (kept_all x.batches ++ entries)).owners
    ≡ groups_from m 0 (run x.base (kept_all x.batches)).owners

-- an entry is of another member than this one, and doesn't reset it
abbrev pub Passes : MemberId → Entry → Type 0
Passes m e = (same_member m e.by ≡ false) × (resets m e.command ≡ false)

-- entries that pass by each other member that isn't stopped leave its groups
abbrev pub PassingLeavesGroups : Type 0
PassingLeavesGroups = (x : Shown) (by : MemberId) (entries : List Entry)
    → ((m : MemberId) → m.0 ≢ by.0 → shows_stopped x.book m ≡ false → All (Passes m) entries)
    → LeavesGroups by x entries

-- the value may go back after its member read a page, settled the copies or lost one
abbrev pub CallsMayGoBack : Type 0
CallsMayGoBack = (x c : Shown) (by : MemberId) (stopped told : Bool) (cares : List Bool) → IsCall by stopped told x c
    → marked_at cares by.0 ≡ true
    → c.batches ≡ x.batches → c.current ≡ x.current
    → MayGiveBack by.0 cares (facts_of told x) (facts_of told (with_call x c))

-- the value may go back after its member put pages of its batch on a copy, or opened the first of two gates
abbrev pub PutsMayGoBack : Type 0
PutsMayGoBack = (x c : Shown) (by : MemberId) (stopped told : Bool) (cares : List Bool) → IsCall by stopped told x c
    → marked_at cares by.0 ≡ true
    → c.batches ≡ x.batches → IsOwn x.current by → IsOwn c.current by
    → MayGiveBack by.0 cares (facts_of told x) (facts_of told (with_call x c))

-- the value may go back after its member opened the gate with which its batch is kept
abbrev pub OpensMayGoBack : Type 0
OpensMayGoBack = (x c : Shown) (by : MemberId) (stopped told : Bool) (cares : List Bool) (now : ℕ) (b : Batch)
    → IsCall by stopped told x c → marked_at cares by.0 ≡ true
    → x.current ≡ Some b → All (λ e. e.by ≡ by) b.entries → ∥ EndsInPlace x.batches ∥₁
    → c.batches ≡ with_last (fated Kept now b) x.batches → c.current ≡ None
    → (told ≡ true → LeavesGroups by x b.entries)
    → MayGiveBack by.0 cares (facts_of told x) (facts_of told (with_call x c))

-- the batch in flight, if there is one, is of a stopped member, with each of its entries
abbrev pub IsOfStopped : Shown → Option Batch → Type 0
IsOfStopped x None = Unit {0}
IsOfStopped x (Some b) = (shows_stopped x.book b.by ≡ true) × (b.by.0 ≤ members_most) × All (λ e. e.by ≡ b.by) b.entries
    × ∥ EndsInPlace x.batches ∥₁

abbrev pub BatchLeavesGroups : MemberId → Shown → Option Batch → Type 0
BatchLeavesGroups by x None = Unit {0}
BatchLeavesGroups by x (Some b) = LeavesGroups by x b.entries

-- the value may go back after its member found out what became of a stopped member's batch
abbrev pub RecoversMayGoBack : Type 0
RecoversMayGoBack = (x c : Shown) (by : MemberId) (stopped told : Bool) (cares : List Bool) (now found : ℕ)
    → IsCall by stopped told x c → marked_at cares by.0 ≡ true
    → IsOfStopped x x.current → IsFatedBy found x.level now x.current x.batches c.batches → c.current ≡ None
    → (told ≡ true → BatchLeavesGroups by x x.current)
    → MayGiveBack by.0 cares (facts_of told x) (facts_of told (with_call x c))

-- the value with a batch reserved
abbrev pub with_reserved : Shown → List Batch → Option (List Entry) → Shown
with_reserved x batches reserved = record x { batches = batches; reserved = reserved }

-- the batches as they were, or with the place of a batch to come after them
abbrev pub HasGrown : List Batch → List Batch → Type 0
HasGrown was is = (is ≡ was) ⊎ ((place : Batch) × (is ≡ was ++ place ∷ []) × IsPlace place)

-- the value may go back after its member reserved a batch
abbrev pub ReservesMayGoBack : Type 0
ReservesMayGoBack = (x : Shown) (by : MemberId) (batches : List Batch) (reserved : Option (List Entry)) (told : Bool)
    (cares : List Bool) →
    x.book.holder ≡ by → HasGrown x.batches batches
    → MayGiveBack by.0 cares (facts_of told x) (facts_of told (with_reserved x batches reserved))

-- the value after what was reserved is given up, and an unused place with it
abbrev pub unreserved : Bool → Shown → Shown
unreserved placed x = with_reserved x (batches_left placed x.current x.batches) None

-- the value may go back after its member gave up what it had reserved
abbrev pub GivesUpMayGoBack : Type 0
GivesUpMayGoBack = (x : Shown) (by : MemberId) (placed told : Bool) (cares : List Bool) →
    x.book.holder ≡ by → ∥ HasPlace placed x.batches ∥₁
    → MayGiveBack by.0 cares (facts_of told x) (facts_of told (unreserved placed x))

-- a group counts as unsynced at a desk unless no byte of its page is
abbrev pub UnsyncedAsTheyAre : Type 0
UnsyncedAsTheyAre = (v : View) (per : ℕ) (g : GroupNo)
    → ((group_on (disk_now v) per g).unsynced ≡ false) ↔ IsSynced (spools_at v v.now) per g

-- a line with which a step closes tells the step, where the closing tells it
abbrev pub ClosingsTell : Type 0
ClosingsTell = (m : MemberId) (at : ℕ) (end : Closing) → is_telling end ≡ true → at < 2 ^ 64 → IsShort end
    → step_told m (closing_line m at end) ≡ at

-- no line tells a step except one with which the step closes
abbrev pub OnlyClosingsTell : Type 0
OnlyClosingsTell = (m : MemberId) (line : List ℕ) → 0 < step_told m line → Closes line m (step_told m line)

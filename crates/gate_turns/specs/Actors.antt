-- Who acts, and in whose pass.
use Rattle.std.specs.Prelude.{◌≡◌, ◌⊎◌, ℕ, ◌&&◌, nat_le, Bool, true, if◌then◌else◌, List, All, None}
use Rattle.mas_types.specs.declared.answers.Closing.{Closing}
use Rattle.mas_types.specs.declared.commands.Command.{Command}
use Rattle.mas_types.specs.declared.ids.MemberId.{MemberId}
use Rattle.mas_types.specs.declared.journals.Entry.{Entry}
use Rattle.mas_types.specs.Closings.{closing_line, detail_line}
use Rattle.spool_plant.specs.declared.plant.Act.{Act}
use Rattle.spool_plant.specs.declared.plant.Part.TheVariants.{Console}
use Rattle.spool_plant.specs.View.{View}
use Rattle.spool_plant.specs.Acts.{Acts, Says}
use Rattle.queue_laws.specs.Laws.{resets}
use Rattle.lock_cycle.specs.Books.{Book, IsMember, after_seize, after_stop}
use Rattle.gate_facts.specs.Values.{marked_at}
use Rattle.gate_facts.specs.Memory.{MayGiveBack}
use Rattle.mas_complex.specs.Parts.{Shown}
use Rattle.mas_complex.specs.Seen.{IsFatedBy}
use Rattle.gate_turns.specs.Seats.{shows_stopped}
use Rattle.gate_turns.specs.Words.{speaker}
use Rattle.gate_turns.specs.Shared.{facts_of}
use Rattle.gate_turns.specs.Laws.{with_book, with_call, with_view, BatchLeavesGroups, HasBegun, IsCall, IsOfStopped, LeavesGroups}

-- LINES

-- the member that a line with this name at its front is of, among so many: that member, or the operator
abbrev pub named_among : ℕ → MemberId → ℕ
named_among members m = if nat_le 1 m.0 && nat_le m.0 members then m.0 else 0

-- a line with which a step closes, or of a display, is of the member that it names. One of a member above those of the
-- configuration is the operator's.
abbrev pub LinesAreNamed : Type 0
LinesAreNamed = (members : ℕ) (m : MemberId) (at : ℕ)
    → ((end : Closing) → speaker members (closing_line m at end) ≡ named_among members m)
    × ((text : List ℕ) → speaker members (detail_line m at text) ≡ named_among members m)

-- the operator acts, which is never stopped, or a member for which the pass cares
abbrev pub ActsFor : List Bool → MemberId → Type 0
ActsFor cares actor = (actor.0 ≡ 0) ⊎ (marked_at cares actor.0 ≡ true)

-- The value may go back after a line of the pass's member, whoever said it. So the operator says in a member's pass
-- that it is stopped, or was, and in its own pass what it says to members above those of the configuration.
abbrev pub SaysForMayGoBack : Type 0
SaysForMayGoBack = (x : Shown) (view : View) (actor pass : MemberId) (line : List ℕ) (result : Act) (told : Bool)
    (cares : List Bool) →
    Acts actor.0 Console x.view view result → (told ≡ true → Says line x.view view result) → (told ≡ true → HasBegun x)
    → ActsFor cares actor → marked_at cares pass.0 ≡ true → speaker x.base.config.members line ≡ pass.0
    → MayGiveBack pass.0 cares (facts_of told x) (facts_of told (with_view x view))

-- ENTRIES

-- a command resets only members that are stopped
abbrev pub ResetsStopped : Book → Command → Type 0
ResetsStopped book c = (m : MemberId) → resets m c ≡ true → shows_stopped book m ≡ true

-- entries of a member's own, which reset only stopped members, leave the groups of each other member that isn't stopped
abbrev pub OwnLeaveGroups : Type 0
OwnLeaveGroups = (x : Shown) (by : MemberId) (entries : List Entry) → All (λ e. e.by ≡ by) entries
    → All (λ e. ResetsStopped x.book e.command) entries → LeavesGroups by x entries

-- so do those of a stopped member, to whomever took its lock over
abbrev pub OthersLeaveGroups : Type 0
OthersLeaveGroups = (x : Shown) (by of : MemberId) (entries : List Entry) → All (λ e. e.by ≡ of) entries
    → shows_stopped x.book of ≡ true → All (λ e. ResetsStopped x.book e.command) entries → LeavesGroups by x entries

-- TAKEOVERS

-- the member took the lock over, and what it found on the copies left this
abbrev pub taken : Shown → Shown → MemberId → MemberId → Shown
taken x c by of = with_call (with_book x (after_seize x.book by of) x.reserved) c

-- the value may go back after a takeover that gave the batch in flight its fate
abbrev pub TakeoversMayGoBack : Type 0
TakeoversMayGoBack = (x c : Shown) (by of : MemberId) (stopped told : Bool) (cares : List Bool) (now found : ℕ)
    → IsMember x.book by → IsMember x.book of → marked_at cares by.0 ≡ true
    → IsCall by stopped told (with_book x (after_seize x.book by of) x.reserved) c
    → IsOfStopped (with_book x (after_seize x.book by of) x.reserved) x.current
    → IsFatedBy found x.level now x.current x.batches c.batches → c.current ≡ None
    → (told ≡ true → BatchLeavesGroups by (with_book x (after_seize x.book by of) x.reserved) x.current)
    → MayGiveBack by.0 cares (facts_of told x) (facts_of told (taken x c by of))

-- What a takeover leaves that found nothing out may be handed back. Both copies are lost, or there was no memory, or
-- the member that took over was stopped: then it is stopped in the book.
abbrev pub FailedTakeoversMayGoBack : Type 0
FailedTakeoversMayGoBack = (x c : Shown) (by of : MemberId) (stopped told : Bool) (cares : List Bool)
    → IsMember x.book by → IsMember x.book of → marked_at cares by.0 ≡ true
    → IsCall by stopped told (with_book x (after_seize x.book by of) x.reserved) c
    → c.batches ≡ x.batches → c.current ≡ x.current → c.reserved ≡ None
    → MayGiveBack by.0 cares (facts_of told x) (facts_of told (taken x c by of))
    × MayGiveBack by.0 cares (facts_of told x)
    (facts_of told (with_book (taken x c by of) (after_stop (after_seize x.book by of) by) None))

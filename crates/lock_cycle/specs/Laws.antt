-- What holds of every book, and of all that calls make of a new one.
use Rattle.std.specs.Prelude.{◌≡◌, ◌≢◌, ℕ, ◌+◌, ◌<◌, ◌≤◌, ◌⊎◌, ◌↔◌, Bool, true, false, List, [], ◌∷◌, length, Some, None}
use Rattle.mas_types.specs.declared.ids.MemberId.{MemberId}
use Rattle.mas_types.specs.Ids.{nobody}
use Rattle.lock_cycle.specs.declared.answers.LockNo.{LockNo}
use Rattle.lock_cycle.specs.declared.answers.LockNo.TheVariants as lock
use Rattle.lock_cycle.specs.declared.answers.NotHolder.{NotHolder}
use Rattle.lock_cycle.specs.declared.answers.SeizeNo.{SeizeNo}
use Rattle.lock_cycle.specs.Books.{Book, tick_most, new_book, IsMember, standing, is_stopped, left_of, tick_of, ticked, try_refusal, after_try, free_refusal, after_free, after_stop, seize_refusal, after_seize, after_spend}

-- GRANTS

-- the member holds the lock with a whole hold; the tick is this one, and the other members stand as they stood
pub record IsGranted (before after : Book) (m : MemberId) (tick : ℕ) : Type 0 where
  pub holder : after.holder ≡ m
  pub left : left_of after m ≡ before.hold
  pub ticks : after.tick ≡ tick
  pub others : (other : MemberId) → 0 < other.0 → other.0 ≢ m.0 → standing after other ≡ standing before other

-- a member that doesn't hold gets the lock where its try isn't refused
abbrev pub TriesGrant : Type 0
TriesGrant = (b : Book) (m : MemberId) (inner : Bool) →
    IsMember b m → b.holder.0 ≢ m.0 → try_refusal b m inner ≡ None
    → IsGranted b (after_try b m inner) m (tick_of b.tick inner)

-- a member gets the lock of a stopped holder
abbrev pub SeizesGrant : Type 0
SeizesGrant = (b : Book) (m of : MemberId) → IsMember b m → seize_refusal b of ≡ None
    → IsGranted b (after_seize b m of) m b.tick

-- a holder that isn't stopped may try again, and nothing changes
abbrev pub HoldersMayTry : Type 0
HoldersMayTry = (b : Book) (m : MemberId) (inner : Bool) →
    is_stopped b m ≡ false → b.holder.0 ≡ m.0 → (try_refusal b m inner ≡ None) × (after_try b m inner ≡ b)

-- REFUSALS

-- a refused try changes the tick alone
abbrev pub RefusedTriesTick : Type 0
RefusedTriesTick = (b : Book) (m : MemberId) (inner : Bool) (why : LockNo) →
    try_refusal b m inner ≡ Some why → why ≢ lock.Down → after_try b m inner ≡ ticked b inner

-- a try of a stopped member changes nothing
abbrev pub StoppedTriesDoNothing : Type 0
StoppedTriesDoNothing = (b : Book) (m : MemberId) (inner : Bool) →
    is_stopped b m ≡ true → (try_refusal b m inner ≡ Some lock.Down) × (after_try b m inner ≡ b)

abbrev pub RefusedFreesDoNothing : Type 0
RefusedFreesDoNothing = (b : Book) (m : MemberId) (inner : Bool) (why : NotHolder) → free_refusal b m ≡ Some why
    → after_free b m inner ≡ b

abbrev pub RefusedSeizesDoNothing : Type 0
RefusedSeizesDoNothing = (b : Book) (m of : MemberId) (why : SeizeNo) → seize_refusal b of ≡ Some why
    → after_seize b m of ≡ b

-- DORMANCY

-- who gave the lock up is dormant at just the tries before that tick and the dormancy together
abbrev pub DormantForSoLong : Type 0
DormantForSoLong = (b : Book) (m : MemberId) (freed : ℕ) →
    is_stopped b m ≡ false → b.holder.0 ≢ m.0 → b.holder.0 ≡ 0 → (standing b m).freed ≡ Some freed
    → freed + b.dormancy ≤ tick_most → b.tick < tick_most
    → (try_refusal b m false ≡ Some (lock.Dormant (freed + b.dormancy))) ↔ (b.tick + 1 < freed + b.dormancy)

-- in the middle of a step nobody is dormant
abbrev pub InnerTriesAreAwake : Type 0
InnerTriesAreAwake = (b : Book) (m : MemberId) (until : ℕ) → try_refusal b m true ≢ Some (lock.Dormant until)

-- at the greatest tick nobody is dormant
abbrev pub LastTriesAreAwake : Type 0
LastTriesAreAwake = (b : Book) (m : MemberId) (inner : Bool) (until : ℕ) → b.tick ≡ tick_most
    → try_refusal b m inner ≢ Some (lock.Dormant until)

-- HISTORIES

-- a call that may move the book
pub data Call : Type 0 where
  tries : MemberId → Bool → Call
  frees : MemberId → Bool → Call
  stops : MemberId → Call
  seizes : MemberId → MemberId → Call
  spends : MemberId → ℕ → Call

abbrev pub moved : Book → Call → Book
moved b (tries m inner) = after_try b m inner
moved b (frees m inner) = after_free b m inner
moved b (stops m) = after_stop b m
moved b (seizes m of) = after_seize b m of
moved b (spends m commands) = after_spend b m commands

-- the book after these calls, the first before the others
abbrev pub moved_by : Book → List Call → Book
moved_by b [] = b
moved_by b (c ∷ cs) = moved_by (moved b c) cs

-- the lock may pass so: nobody's to one that tries, the holder's to nobody, a stopped holder's to one that takes it
-- over
abbrev pub MayPass : Book → Call → MemberId → Type 0
MayPass b (tries m inner) next = (b.holder.0 ≡ 0) × (next ≡ m)
MayPass b (frees m inner) next = (b.holder.0 ≡ m.0) × (next ≡ nobody)
MayPass b (stops m) next = ⊥
MayPass b (seizes m of) next = (b.holder.0 ≡ of.0) × (is_stopped b of ≡ true) × (next ≡ m)
MayPass b (spends m commands) next = ⊥

-- the holder stays, or the lock passes as it may
abbrev pub HoldersStay : Type 0
HoldersStay = (b : Book) (c : Call) → ((moved b c).holder ≡ b.holder) ⊎ MayPass b c (moved b c).holder

-- no call changes the number of members
abbrev pub MembersStay : Type 0
MembersStay = (b : Book) (c : Call) → length (moved b c).members ≡ length b.members

abbrev pub TicksDoNotFall : Type 0
TicksDoNotFall = (b : Book) (c : Call) → b.tick ≤ tick_most → b.tick ≤ (moved b c).tick

-- with a dormancy of 0 no try is ever dormant
abbrev pub NobodyIsDormant : Type 0
NobodyIsDormant = (count hold : ℕ) (calls : List Call) (m : MemberId) (inner : Bool) (until : ℕ) →
    try_refusal (moved_by (new_book count hold 0) calls) m inner ≢ Some (lock.Dormant until)

-- WORKED ROWS

abbrev first : MemberId
first = record { 0 = 1 }

abbrev second : MemberId
second = record { 0 = 2 }

-- two members of a hold of 64 and this dormancy
abbrev two : ℕ → Book
two dormancy = new_book 2 64 dormancy

-- while the first member holds, the second finds it busy, and afterwards not
abbrev pub BusyWhileHeld : Type 0
BusyWhileHeld =
    (try_refusal (two 0) first false ≡ None)
    × (try_refusal (moved_by (two 0) (tries first false ∷ [])) second false ≡ Some (lock.Busy first))
    × (free_refusal (moved_by (two 0) (tries first false ∷ tries second false ∷ [])) first ≡ None)
    × (try_refusal (moved_by (two 0) (tries first false ∷ tries second false ∷ frees first false ∷ [])) second false
    ≡ None)

-- of three steps of the first member, at a dormancy of 2, the second is refused
abbrev pub DormantOnce : Type 0
DormantOnce =
    (try_refusal (two 2) first false ≡ None)
    × (try_refusal (moved_by (two 2) (tries first false ∷ frees first false ∷ [])) first false ≡ Some (lock.Dormant 3))
    × (try_refusal (moved_by (two 2) (tries first false ∷ frees first false ∷ tries first false ∷ [])) first false
    ≡ None)

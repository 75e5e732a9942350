-- A wire with two ends. The sender loads jobs one after another and gives frames of them; the receiver keeps each job
-- whose number is the next, and gives acknowledgements. Every frame and acknowledgement ever given may come again, in
-- any order, or never.
use Rattle.std.specs.Prelude.{◌≡◌, ℕ, zero, suc, ◌+◌, ◌-◌, ◌≤◌, ◌==◌, ◌⊎◌, true, false, ◌&&◌, if◌then◌else◌, List, [], ◌∷◌, ◌++◌, length, Option, Some, None, slice_get}
use Rattle.nje_store.specs.declared.wire.WireWorld.{WireWorld}
use Rattle.nje_store.specs.declared.wire.WireFrame.{WireFrame}
use Rattle.nje_store.specs.declared.wire.WireEvent.{WireEvent}
use Rattle.nje_store.specs.declared.wire.WireEvent.TheVariants.{Load, Give, Frame, Ack}
use Rattle.nje_store.specs.declared.custody.Custody.{Custody}
use Rattle.nje_store.specs.declared.custody.Custody.TheVariants.{Next, Again, Gap}
use Rattle.nje_store.specs.Custody.{custody_of}

-- a wire with which nothing was loaded yet
abbrev pub quiet : WireWorld
quiet = record { loaded = []; busy = false; sent = 0; frames = []; kept = []; acks = [] }

-- the i-th item, counted from 1
abbrev pub item_at : {A : Type 0} → List A → ℕ → Option A
item_at items zero = None
item_at items (suc i) = slice_get items i

-- the next job, where none is on its way
abbrev pub loads : WireWorld → List (List ℕ) → WireWorld
loads w text = if w.busy then w else record w { loaded = w.loaded ++ text ∷ []; busy = true }

-- a frame of the job that is on its way, which is the last
abbrev pub gives_text : WireWorld → Option (List (List ℕ)) → WireWorld
gives_text w None = w
gives_text w (Some text) = record w { frames = w.frames ++ record { number = w.sent + 1; text = text } ∷ [] }

abbrev pub gives : WireWorld → WireWorld
gives w = if w.busy then gives_text w (slice_get w.loaded (length w.loaded - 1)) else w

-- what the receiver does with a number that it judged so
abbrev pub judged : WireWorld → WireFrame → Custody → WireWorld
judged w f Next = record w { kept = w.kept ++ f.text ∷ []; acks = w.acks ++ f.number ∷ [] }
judged w f (Again number) = record w { acks = w.acks ++ f.number ∷ [] }
judged w f (Gap number kept) = w

abbrev pub gets : WireWorld → Option WireFrame → WireWorld
gets w None = w
gets w (Some f) = judged w f (custody_of (length w.kept) f.number)

-- the job on its way leaves the sender, where the number is its own
abbrev pub leaves : WireWorld → Option ℕ → WireWorld
leaves w None = w
leaves w (Some number) = if w.busy && (number == w.sent + 1) then record w { sent = number; busy = false } else w

-- the receiver kept the job of the frame, and acknowledged it
abbrev pub KeepsAt : WireWorld → WireWorld → Option WireFrame → Type 0
KeepsAt old new None = ⊥
KeepsAt old new (Some f) = new ≡ judged old f Next

-- one event: what is not possible changes nothing
abbrev pub happens : WireWorld → WireEvent → WireWorld
happens w (Load text) = loads w text
happens w Give = gives w
happens w (Frame i) = gets w (item_at w.frames i)
happens w (Ack i) = leaves w (item_at w.acks i)

-- one event after another
abbrev pub run : WireWorld → List WireEvent → WireWorld
run w [] = w
run w (event ∷ events) = run (happens w event) events

-- WHICH NUMBERS ARE GOT

-- the number of a job that the receiver judged so, if it keeps the job
abbrev pub got_number : Custody → ℕ → List ℕ
got_number Next number = number ∷ []
got_number (Again again) number = []
got_number (Gap gap kept) number = []

abbrev pub got_frame : WireWorld → Option WireFrame → List ℕ
got_frame w None = []
got_frame w (Some f) = got_number (custody_of (length w.kept) f.number) f.number

-- the number that an event makes got
abbrev pub got_by : WireWorld → WireEvent → List ℕ
got_by w (Load text) = []
got_by w Give = []
got_by w (Frame i) = got_frame w (item_at w.frames i)
got_by w (Ack i) = []

-- the numbers that the events make got, in their order
abbrev pub all_got : WireWorld → List WireEvent → List ℕ
all_got w [] = []
all_got w (event ∷ events) = got_by w event ++ all_got (happens w event) events

-- 1, 2, 3 and so on up to the number
abbrev pub numbers_to : ℕ → List ℕ
numbers_to zero = []
numbers_to (suc n) = numbers_to n ++ suc n ∷ []

-- PROMISES

-- the kept jobs are the first that were loaded, each once
abbrev pub IsFrontOf : List (List (List ℕ)) → List (List (List ℕ)) → Type 0
IsFrontOf kept loaded = (rest : List (List (List ℕ))) × (kept ++ rest ≡ loaded)

-- what was loaded is kept, all of it, or all but the last, which is on its way
abbrev pub NoneIsLost : WireWorld → Type 0
NoneIsLost w = (w.loaded ≡ w.kept) ⊎ ((text : List (List ℕ)) × (w.busy ≡ true) × (w.loaded ≡ w.kept ++ text ∷ []))

-- no job doubles, and none is lost: what the receiver kept was loaded, in its order, each once; what left the sender is
-- kept; what was loaded has left, except the one on its way
pub record HasCustody (w : WireWorld) : Type 0 where
  pub front : IsFrontOf w.kept w.loaded
  pub sent : w.sent ≤ length w.kept
  pub loaded : length w.loaded ≡ (if w.busy then w.sent + 1 else w.sent)
  pub all : NoneIsLost w

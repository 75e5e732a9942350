-- What the turns of a member find and leave of a value that others change between them, and what they are together.
use Rattle.std.specs.Prelude.{◌≡◌, ℕ, ◌+◌, ◌≤◌, Bool, true, false, ◌||◌, List, [], ◌∷◌, ◌++◌, length, map, drop, None}
use Rattle.mas_types.specs.declared.ids.MemberId.{MemberId}
use Rattle.mas_types.specs.declared.journals.Entry.{Entry}
use Rattle.mas_types.specs.declared.queues.Queue.{Queue}
use Rattle.lock_cycle.specs.Books.{is_stopped}
use Rattle.run_turns.specs.Cuts.{Left, entries_of}
use Rattle.run_turns.specs.Scenes.{kept_in}
use Rattle.race_turns.specs.Turns.{Stage, Turn, turn_at}
use Rattle.race_turns.specs.Races.{Asked, IsEnd, Leaves, Standing, Taken, TakesTurns, ends_in, is_stopped_in, none, queue_at, stands_then, stops_in, then_left, turn_left, unless_ended, whole_texts}

-- What a value shows one member: the entries that are kept, those of the member's batches, its whole lines on the
-- console, its count of printed lines, and whether it is stopped.
pub record Side : Type 0 where
  pub kept : List Entry
  pub begun : List Entry
  pub said : List (List ℕ)
  pub count : ℕ
  pub stopped : Bool

-- the first list begins with the second
abbrev pub Extends : List Entry → List Entry → Type 0
Extends longer first = (more : List Entry) × (longer ≡ first ++ more)

-- A turn of the member, on a value that showed it this before and after. A takeover finds out first what became of a
-- batch in flight: that stands before the turn's place. Where the run ends for the member in it the member may be
-- stopped too, as the operator couldn't say so.
pub record Takes (base : Queue) (by : MemberId) (at : Standing) (a : Asked) (t : Taken) (turn : Turn) (l : Left)
    (was is : Side) : Type 0 where
  pub turn_is : turn
      ≡ turn_at (queue_at base is.kept by t.place) t.book by a.number a.what t.count t.inked t.found at.stage
  pub left : l ≡ turn_left base is.kept by a t turn
  pub stopped : is_stopped t.book by ≡ was.stopped
  pub printed : t.count ≡ was.count
  pub grows : Extends is.kept was.kept
  pub behind : length was.kept ≤ t.place
  pub within : t.place + length (kept_in l.batches) ≡ length is.kept
  pub kept : drop t.place is.kept ≡ kept_in l.batches
  pub begun : is.begun ≡ was.begun ++ entries_of l.batches
  pub said : is.said ≡ was.said ++ whole_texts l.lines
  pub count : t.cut ≡ None → is.count ≡ l.count
  pub stops : ends_in t.cut ≡ false → is.stopped ≡ (was.stopped || stops_in t.cut)

-- What the value shows the member later, whatever the others did: more may be kept, and nothing else differs, but that
-- nothing is said of the count of a member that is stopped.
pub record Follows (left found : Side) : Type 0 where
  pub kept : Extends found.kept left.kept
  pub begun : found.begun ≡ left.begun
  pub said : found.said ≡ left.said
  pub stopped : found.stopped ≡ left.stopped
  pub count : found.stopped ≡ false → found.count ≡ left.count

-- a turn, with what the value showed the member before and after it
pub record Sided : Type 0 where
  pub taken : Taken
  pub was : Side
  pub is : Side

-- Turns of the member one after another, from where it stands on: they find what follows what the one before left.
module _ (base : Queue) (by : MemberId) (saw : Queue → Stage → Taken → Turn → Type 0) (ended : Bool) where
  abbrev pub AreTaken : Side → Standing → List Asked → List Sided → Leaves → Side → Type 0
  AreTaken s at lines [] all last = (last ≡ s) × IsEnd ended lines × (all ≡ none)
  AreTaken s at [] (h ∷ hs) all last = ⊥
  AreTaken s at (a ∷ lines) (h ∷ hs) all last =
      Follows s h.was
      × ((turn : Turn) × (l : Left) × (more : Leaves) × Takes base by at a h.taken turn l h.was h.is
      × saw (queue_at base h.is.kept by h.taken.place) at.stage h.taken turn × (all ≡ then_left l more)
      × unless_ended (ends_in h.taken.cut) ((ended ≡ true) × (hs ≡ []) × (more ≡ none) × (last ≡ h.is))
      (AreTaken h.is (stands_then at h.taken turn l) (stands_then at h.taken turn l).lines hs more last))

-- Turns of the member in none of which the run ended for it: from where it stands to where it stands then.
module _ (base : Queue) (by : MemberId) (saw : Queue → Stage → Taken → Turn → Type 0) where
  abbrev pub TakesOn : Side → Standing → List Sided → Leaves → Side → Standing → Type 0
  TakesOn s at [] all last then_at = (last ≡ s) × (then_at ≡ at) × (all ≡ none)
  TakesOn s at (h ∷ hs) all last then_at =
      Follows s h.was
      × ((a : Asked) × (lines : List Asked) × (turn : Turn) × (l : Left) × (more : Leaves) × (at.lines ≡ a ∷ lines)
      × Takes base by at a h.taken turn l h.was h.is
      × saw (queue_at base h.is.kept by h.taken.place) at.stage h.taken turn × (all ≡ then_left l more)
      × (ends_in h.taken.cut ≡ false) × TakesOn h.is (stands_then at h.taken turn l) hs more last then_at)

-- what one and then another left
abbrev pub and_then : Leaves → Leaves → Leaves
and_then one more = record { batches = one.batches ++ more.batches; lines = one.lines ++ more.lines }

-- where a member stands as the value shows it
pub record StandsAs (at : Standing) (s : Side) : Type 0 where
  pub from : at.from ≤ length s.kept
  pub stopped : at.stopped ≡ s.stopped
  pub printed : s.stopped ≡ false → at.count ≡ s.count

-- the turns alone
abbrev pub taken_of : List Sided → List Taken
taken_of hs = map (λ h. h.taken) hs

-- The turns of a member are turns at the history of each later value; and that has of the member what they left, and
-- what it had before them. Unless the run ended for it the member is stopped there where it was stopped in one of them.
pub record HasSides (base : Queue) (by : MemberId) (saw : Queue → Stage → Taken → Turn → Type 0) (ended : Bool)
    (s : Side) (at : Standing) (lines : List Asked) (hs : List Sided) (all : Leaves) (end : Side) : Type 0 where
  pub takes : TakesTurns base end.kept by saw ended at lines (taken_of hs) all
  pub begun : end.begun ≡ s.begun ++ entries_of all.batches
  pub said : end.said ≡ s.said ++ whole_texts all.lines
  pub stopped : ended ≡ false → end.stopped ≡ (s.stopped || is_stopped_in (taken_of hs))

-- so it is whatever is seen of a turn besides; here nothing is
abbrev pub anything : Queue → Stage → Taken → Turn → Type 0
anything Q s t turn = Unit {0}

abbrev pub TurnsAreOneHistory : Type 0
TurnsAreOneHistory = (base : Queue) (by : MemberId) (ended : Bool) (s : Side) (at : Standing) (lines : List Asked)
    (hs : List Sided) (all : Leaves) (last end : Side) → StandsAs at s
    → AreTaken base by anything ended s at lines hs all last → Follows last end
    → HasSides base by anything ended s at lines hs all end

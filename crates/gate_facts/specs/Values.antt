-- What a value tells, member by member, and how two values compare.
use Rattle.std.specs.Prelude.{◌≡◌, ℕ, ◌+◌, ◌≤◌, ◌⊎◌, Bool, true, false, List, [], ◌∷◌, ◌++◌, slice_index_or, nat_eq, if◌then◌else◌}
use Rattle.mas_types.specs.declared.journals.Entry.{Entry}
use Rattle.gate_facts.specs.declared.facts.Facts.{Facts}
use Rattle.gate_facts.specs.declared.desks.Group.{Group}
use Rattle.gate_facts.specs.declared.desks.Desk.{Desk}
use Rattle.gate_facts.specs.declared.marks.Marks.{Marks}

-- xs begins with ys
abbrev pub StartsWith : {A : Type 0} → List A → List A → Type 0
StartsWith {A} xs ys = (more : List A) × (xs ≡ ys ++ more)

-- is the place marked
abbrev pub marked_at : List Bool → ℕ → Bool
marked_at bs k = slice_index_or bs k false

abbrev pub number_at : List ℕ → ℕ → ℕ
number_at ns k = slice_index_or ns k 0

-- who doesn't hold, has printed and told nothing and has no group
abbrev pub no_desk : Desk
no_desk = record {
  hold = record { locked = false; pages = []; batch = []; logged = []; opened = [] };
  printed = 0;
  told
      = 0;
  groups = [];
  noted = [];
}

abbrev pub begun_of : Facts → ℕ → List Entry
begun_of f m = slice_index_or f.begun m []

abbrev pub stopped_of : Facts → ℕ → Bool
stopped_of f m = marked_at f.stopped m

abbrev pub desk_of : Facts → ℕ → Desk
desk_of f m = slice_index_or f.desks m no_desk

abbrev pub lines_of : Facts → ℕ → List (List ℕ)
lines_of f m = slice_index_or f.lines m []

-- the entries of one member
abbrev pub entries_by : ℕ → List Entry → List Entry
entries_by m [] = []
entries_by m (e ∷ es) = if nat_eq e.by.0 m then e ∷ entries_by m es else entries_by m es

-- the first groups are the second, of which some may have become synced
abbrev pub SyncedGroups : List Group → List Group → Type 0
SyncedGroups [] [] = Unit {0}
SyncedGroups [] (h ∷ hs) = ⊥
SyncedGroups (g ∷ gs) [] = ⊥
SyncedGroups (g ∷ gs) (h ∷ hs) = (g.number ≡ h.number) × (g.bytes ≡ h.bytes) × (g.unsynced ≡ true → h.unsynced ≡ true)
    × SyncedGroups gs hs

-- the first desk is the second, but that groups in it may have become synced
pub record Synced (d e : Desk) : Type 0 where
  pub hold : d.hold ≡ e.hold
  pub printed : d.printed ≡ e.printed
  pub told : d.told ≡ e.told
  pub groups : SyncedGroups d.groups e.groups
  pub noted : d.noted ≡ e.noted

-- WHAT ONLY GROWS

-- the lines of the operator, member 0, are this one's, so it plays them
abbrev pub PlaysOperator : List Bool → Type 0
PlaysOperator cares = marked_at cares 0 ≡ true

-- the device was lost by call as often as before, or once more, and its copy counts as lost since
abbrev pub LostOnce : Marks → Marks → ℕ → Type 0
LostOnce a b d = (number_at a.loses d ≡ number_at b.loses d)
    ⊎ ((number_at a.loses d ≡ number_at b.loses d + 1) × (marked_at a.lost d ≡ true) × (marked_at b.lost d ≡ false))

-- the device was lost by call as often as before, or once more, and its copy counts as lost
abbrev pub LostAtMostOnce : Marks → Marks → ℕ → Type 0
LostAtMostOnce a b d = (number_at a.loses d ≡ number_at b.loses d)
    ⊎ ((number_at a.loses d ≡ number_at b.loses d + 1) × (marked_at a.lost d ≡ true))

-- the device was lost by call as often as before, or more often, and its copy counts as lost
abbrev pub LostAgain : Marks → Marks → ℕ → Type 0
LostAgain a b d = (number_at b.loses d ≤ number_at a.loses d)
    × (marked_at a.lost d ≡ false → number_at a.loses d ≡ number_at b.loses d)

-- The first marks are as late as the second, or later: no count fell, and what was lost is lost. Of the members that
-- are marked the stops are the same. No device of a copy that counts as alive was lost by a call. One of a copy that
-- counts as lost may have been lost again by a line of the operator; whoever plays these lines knows that it was lost
-- at most once more.
pub record Later (cares : List Bool) (a b : Marks) : Type 0 where
  pub since : a.since ≡ b.since
  pub arms : a.arms ≡ b.arms
  pub own_stops : (m : ℕ) → marked_at cares m ≡ true → number_at a.stops m ≡ number_at b.stops m
  pub stops : (m : ℕ) → number_at b.stops m ≤ number_at a.stops m
  pub faults : (k : ℕ) → number_at b.faults k ≤ number_at a.faults k
  pub lost : (d : ℕ) → marked_at b.lost d ≡ true → marked_at a.lost d ≡ true
  pub own_loses : PlaysOperator cares → (d : ℕ) → LostAtMostOnce a b d
  pub loses : (d : ℕ) → LostAgain a b d

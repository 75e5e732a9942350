-- Who may act, and what becomes of a reserved batch when its member is stopped.
use Rattle.mas_complex.specs.Names.{nobody, same_member, MemberId, Batch, Entry, Config, members_most, Book, is_stopped, new_book}
use Rattle.std.specs.Prelude.{◌≡◌, ◌≢◌, ◌<◌, min, Bool, false, if◌then◌else◌, List, [], ◌∷◌, Option, Some, None}

-- the book of a run with this configuration, in which nobody holds
abbrev pub book_of : Config → Book
book_of config = new_book (min config.members members_most) config.hold config.dormancy

-- the member isn't stopped, as the operator never is
abbrev pub IsUp : Book → MemberId → Type 0
IsUp b m = 0 < m.0 → is_stopped b m ≡ false

-- the member holds the lock, the operator where nobody does, and isn't stopped
pub record MayAct (b : Book) (m : MemberId) : Type 0 where
  pub holds : b.holder ≡ m
  pub up : IsUp b m

-- a batch in flight is of another member
abbrev pub IsOfOther : Option Batch → MemberId → Type 0
IsOfOther None m = Unit {0}
IsOfOther (Some b) m = b.by ≢ m

-- a batch in flight is of this member
abbrev pub IsOwn : Option Batch → MemberId → Type 0
IsOwn None m = Unit {0}
IsOwn (Some b) m = b.by ≡ m

-- while nobody holds, when the operator may act, nothing is reserved or in flight: so the operator has no batch
abbrev pub IsOperatorAway : Book → Option (List Entry) → Option Batch → Type 0
IsOperatorAway b reserved current = b.holder ≡ nobody → (reserved ≡ None) × (current ≡ None)

-- the entries, all of one member, are of this one
abbrev pub is_of_member : MemberId → List Entry → Bool
is_of_member by [] = false
is_of_member by (entry ∷ entries) = same_member entry.by by

-- a reserved batch goes where it is of the member that stopped
abbrev pub reserved_after_stop : MemberId → Option (List Entry) → Option (List Entry)
reserved_after_stop by None = None
reserved_after_stop by (Some entries) = if is_of_member by entries then None else Some entries

-- What acts come to.
use Rattle.std.specs.Prelude.{ℕ, ◌+◌, nat_le, nat_lt, ◌==◌, ◌&&◌, not, if◌then◌else◌, Bool, true, false, List, [], ◌∷◌, ◌++◌, length, take, drop, replicate, Option}
use Rattle.spool_plant.specs.View.{Disk, Line}

-- An act that a plant recorded. A write has a stretch of a slot, and the bytes that came there; a line has the place of
-- the console or printer that it stands on; bytes on a wire were given or taken by a member. A renewed device was lost
-- since a moment, or wasn't.
pub data Deed : Type 0 where
  Idle : Deed
  Wrote : (slot at len : ℕ) (bytes : List ℕ) → Deed
  Synced : (slot : ℕ) → Deed
  Said : (place : ℕ) (text : List ℕ) (whole : Bool) → Deed
  Passed : (given : Bool) (wire member : ℕ) (bytes : List ℕ) → Deed
  Fetched : (slot : ℕ) → Deed
  Renewed : (slot : ℕ) (since : Option ℕ) → Deed

-- bytes put over those of a device, if they fit
abbrev pub overwrite : ℕ → List ℕ → List ℕ → List ℕ
overwrite at bytes old = if nat_le (at + length bytes) (length old) then take at old ++ bytes
    ++ drop (at + length bytes) old else old

-- a device after an act
abbrev pub effect : ℕ → Disk → Deed → Disk
effect slot d Idle = d
effect slot d (Wrote s at len bytes) =
    if s == slot then record {
      bytes = overwrite at bytes d.bytes;
      unsynced = record { from = at; len = len }
          ∷ d.unsynced;
      lost = d.lost;
    } else d
effect slot d (Synced s) = if s == slot then record { bytes = d.bytes; unsynced = []; lost = d.lost } else d
effect slot d (Said place text whole) = d
effect slot d (Passed given wire member bytes) = d
effect slot d (Fetched s) = d
effect slot d (Renewed s since) = if s == slot then record
    { bytes = replicate (length d.bytes) 0; unsynced = []; lost = d.lost } else d

-- a device after all acts of a list
abbrev pub after : ℕ → Disk → List Deed → Disk
after slot d [] = d
after slot d (e ∷ es) = after slot (effect slot d e) es

-- all that acts add to a list, one after another
abbrev pub gather : {T : Type 0} → (Deed → List T) → List Deed → List T
gather adds [] = []
gather adds (e ∷ es) = adds e ++ gather adds es

-- the line that an act puts on a place
abbrev pub line_on : ℕ → Deed → List Line
line_on place Idle = []
line_on place (Wrote s at len bytes) = []
line_on place (Synced s) = []
line_on place (Said p text whole) = if p == place then record { text = text; whole = whole } ∷ [] else []
line_on place (Passed given wire member bytes) = []
line_on place (Fetched s) = []
line_on place (Renewed s since) = []

-- the lines that stand on a place
abbrev pub lines_of : ℕ → List Deed → List Line
lines_of place es = gather (line_on place) es

abbrev pub same_side : Bool → Bool → Bool
same_side true given = given
same_side false given = not given

-- the bytes that an act of a member gives on a wire, or takes from it
abbrev pub moved : Bool → ℕ → ℕ → Deed → List ℕ
moved side wire member Idle = []
moved side wire member (Wrote s at len bytes) = []
moved side wire member (Synced s) = []
moved side wire member (Said p text whole) = []
moved side wire member (Passed given w m bytes) = if same_side side given && (w == wire && m == member) then bytes else
    []
moved side wire member (Fetched s) = []
moved side wire member (Renewed s since) = []

-- the bytes that an act gives on a wire, whoever makes it
abbrev pub gives : ℕ → Deed → List ℕ
gives wire Idle = []
gives wire (Wrote s at len bytes) = []
gives wire (Synced s) = []
gives wire (Said p text whole) = []
gives wire (Passed given w m bytes) = if given && w == wire then bytes else []
gives wire (Fetched s) = []
gives wire (Renewed s since) = []

-- an act is a read of a slot
abbrev pub is_read : ℕ → Deed → Bool
is_read slot Idle = false
is_read slot (Wrote s at len bytes) = false
is_read slot (Synced s) = false
is_read slot (Said p text whole) = false
is_read slot (Passed given w m bytes) = false
is_read slot (Fetched s) = s == slot
is_read slot (Renewed s since) = false

-- a moment passes, in which nothing is done. It is recorded where there is room
abbrev pub idled : ℕ → List Deed → List Deed
idled acts deeds = if nat_lt (length deeds) acts then deeds ++ Idle ∷ [] else deeds

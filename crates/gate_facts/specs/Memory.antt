-- What one who takes turns at a value remembers of it, and what that says of the value.
use Rattle.std.specs.Prelude.{◌≡◌, ◌≢◌, ℕ, ◌+◌, ◌<◌, ◌≤◌, ◌⊎◌, Bool, true, false, List, [], ◌∷◌, ◌++◌, length, replicate}
use mathlib.Core.Option.{some}
use lib.ListN.{get_elem?}
use Rattle.mas_types.specs.declared.journals.Entry.{Entry}
use Rattle.mas_types.specs.declared.queues.Queue.{Queue}
use Rattle.mas_types.specs.Limits.{members_most}
use Rattle.gate_facts.specs.declared.facts.Facts.{Facts}
use Rattle.gate_facts.specs.declared.desks.Desk.{Desk}
use Rattle.gate_facts.specs.declared.marks.Marks.{Marks}
use Rattle.gate_facts.specs.Values.{StartsWith, marked_at, number_at, begun_of, stopped_of, desk_of, lines_of, Synced, LostOnce, Later}

-- the members with member 0
abbrev pub seats : ℕ
seats = members_most + 1

-- the base; the entries that were kept; of which members it knows the begun entries, the lines and the counts of stops;
-- these, and each member's stop and desk; the marks
pub record Memory : Type 0 where
  pub base : Queue
  pub seen : List Entry
  pub cares : List Bool
  pub begun : ℕ → List Entry
  pub lines : ℕ → List (List ℕ)
  pub stopped : ℕ → Bool
  pub desk : ℕ → Desk
  pub marks : Marks

-- the memory of a value that nobody else can change
abbrev pub memory_of : Facts → Memory
memory_of f = record {
  base = f.base;
  seen = f.kept;
  cares = replicate seats true;
  begun = begun_of f;
  lines = lines_of
      f;
  stopped = stopped_of f;
  desk = desk_of f;
  marks = f.marks;
}

-- WHAT THE MEMBER KNOWS: what the value may be at a turn of the member m that remembers this
pub record Knows (m : ℕ) (y : Memory) (is : Facts) : Type 0 where
  pub base : is.base ≡ y.base
  pub kept : StartsWith is.kept y.seen
  pub begun : (k : ℕ) → marked_at y.cares k ≡ true → begun_of is k ≡ y.begun k
  pub lines : (k : ℕ) → marked_at y.cares k ≡ true → lines_of is k ≡ y.lines k
  pub stopped : 0 < m → stopped_of is m ≡ y.stopped m
  pub desk : stopped_of is m ≡ false → Synced (desk_of is m) (y.desk m)
  pub no_more : stopped_of is m ≡ false → (k : ℕ) (e : Entry) → get_elem? is.kept k ≡ some e → length y.seen ≤ k
      → e.by.0 ≢ m
  pub marks : Later y.cares is.marks y.marks

abbrev pub EachOf : (Entry → Type 0) → List Entry → Type 0
EachOf P [] = Unit {0}
EachOf P (e ∷ es) = P e × EachOf P es

-- WHAT IT MAY GIVE BACK: what the value may be that the member m, which cares for these, gives back where it took `was`
pub record MayGiveBack (m : ℕ) (cares : List Bool) (was is : Facts) : Type 0 where
  pub base : is.base ≡ was.base
  pub kept : (more : List Entry) × (is.kept ≡ was.kept ++ more)
      × EachOf (λ e. (e.by.0 ≡ m) ⊎ (stopped_of is e.by.0 ≡ true)) more
  pub still_stopped : (k : ℕ) → stopped_of was k ≡ true → stopped_of is k ≡ true
  pub still_up : (k : ℕ) → k ≢ m → stopped_of was k ≡ false → stopped_of is k ≡ false
  pub begun : (k : ℕ) → marked_at cares k ≡ false → begun_of is k ≡ begun_of was k
  pub lines : (k : ℕ) → marked_at cares k ≡ false → lines_of is k ≡ lines_of was k
  pub desks : (k : ℕ) → k ≢ m → stopped_of is k ≡ false → Synced (desk_of is k) (desk_of was k)
  pub other_stops : (k : ℕ) → marked_at cares k ≡ false → number_at is.marks.stops k ≡ number_at was.marks.stops k
  pub other_loses : marked_at cares 0 ≡ false → (d : ℕ) → LostOnce is.marks was.marks d
  pub marks : Later [] is.marks was.marks

-- WHAT IS LEFT: what the member m remembers once it gave back this value
pub record IsLeft (m : ℕ) (y : Memory) (is : Facts) : Type 0 where
  pub base : y.base ≡ is.base
  pub seen : y.seen ≡ is.kept
  pub begun : (k : ℕ) → marked_at y.cares k ≡ true → y.begun k ≡ begun_of is k
  pub lines : (k : ℕ) → marked_at y.cares k ≡ true → y.lines k ≡ lines_of is k
  pub stopped : y.stopped m ≡ stopped_of is m
  pub desk : y.desk m ≡ desk_of is m
  pub marks : y.marks ≡ is.marks

-- What stands on the printers at each moment since a shared value was made.
use Rattle.mas_complex.specs.Names.{MemberId, Text, Whole, Batch, Entry, Queue, IsSound, members_most, Book, is_stopped, after_stop, View, Line, Throughout, Act, Done, ActHalted as Halted, Counts, begins_anew, AreAllowed, AreLinesOn, AreMarksOn, AreMarkedLinesOn, IsNextLine}
use Rattle.std.specs.Prelude.{◌≡◌, ◌⊎◌, ℕ, ◌+◌, ◌-◌, ◌≤◌, ◌<◌, max, nat_le, ◌&&◌, if◌then◌else◌, true, false, List, [], ◌∷◌, ◌++◌, length, slice_index_or, slice_set, replicate, Option, Some, None, All, Contains}
use Rattle.std.specs.List.{list_any}
use Rattle.mas_types.specs.declared.ids.JobNo.{JobNo}
use Rattle.mas_types.specs.declared.ids.OutNo.{OutNo}
use Rattle.mas_types.specs.Printed.{printed_line}
use Rattle.queue_laws.specs.Runs.{IsGiven}
use Rattle.mas_complex.specs.Meaning.{run}
use Rattle.mas_complex.specs.Locking.{reserved_after_stop}
use Rattle.mas_complex.specs.Journals.{kept, flying, kept_all, in_flight, entries_in}

-- the lines of each member's printer
abbrev pub Papers : Type 0
Papers = ℕ → List Line

-- the line stands whole on a printer
pub record Stands (papers : Papers) (bytes : List ℕ) : Type 0 where
  pub printer : ℕ
  pub there : Contains (papers printer) (record { text = bytes; whole = true })

-- this line of an output with this text, counted from 1 over all copies, stands whole on a printer
pub record IsOnPaper (papers : Papers) (n : JobNo) (i : OutNo) (line : ℕ) (text : Text) : Type 0 where
  pub lines : List (List ℕ)
  pub is : text ≡ Whole lines
  pub stands : Stands papers (printed_line n i line lines)

-- the printers keep their lines through a call
abbrev pub SamePapers : View → View → Type 0
SamePapers old new = Throughout old.now new.now (λ t. (m : ℕ) → (new.world t).paper m ≡ (old.world old.now).paper m)

-- WHICH LINES ARE PRINTED

-- the moment since which a member counts its printed lines: the first one of its last batch with a Pick, Mark, Back or
-- Forward that began by this moment
abbrev pub turned : MemberId → List Batch → ℕ → ℕ → ℕ
turned m [] t since = since
turned m (b ∷ bs) t since = turned m bs t
    (if list_any (begins_anew m) b.entries && nat_le b.first t then max since b.first else since)

-- how many lines a member has printed since a moment
abbrev pub count_from : ℕ → View → ℕ → MemberId → ℕ
count_from from v t m = length ((v.world t).paper m.0) - length ((v.world from).paper m.0)

-- A line more stands on the member's printer at the next moment. A whole one is the line after those that the member
-- has printed, since the moment from which it counts, of the output that is busy at it after the kept entries. A torn
-- one stands only there where an act of the member was halted: its count of stops isn't 0.
pub record IsPrintedAt (base : Queue) (K : List Entry) (from : ℕ) (v : View) (t : ℕ) (m : MemberId) : Type 0 where
  pub line : Line
  pub more : (v.world (t + 1)).paper m.0 ≡ (v.world t).paper m.0 ++ line ∷ []
  pub next : line.whole ≡ true → IsNextLine (run base K) m (count_from from v t m) line.text
  pub torn : line.whole ≡ false → 0 < v.stops m.0

-- between two moments a member's printer keeps its lines, or has one more: the next one, or a torn one
abbrev pub LineFrom : Queue → List Entry → ℕ → View → ℕ → MemberId → Type 0
LineFrom base K from v t m = ((v.world (t + 1)).paper m.0 ≡ (v.world t).paper m.0) ⊎ IsPrintedAt base K from v t m

abbrev pub LineAt : Queue → List Batch → ℕ → View → ℕ → MemberId → Type 0
LineAt base J since v t m = LineFrom base (kept J t) (turned m J t since) v t m

-- WHAT A JOURNAL SAYS OF A MOMENT: the entries kept by then, those in flight, and the moment since which each member
-- counts its printed lines, where all count since a first one
abbrev pub Account : Type 0
Account = List Entry × List Entry × (MemberId → ℕ → ℕ)

abbrev pub account : List Batch → ℕ → Account
account J t = (kept J t, flying J t, λ m since. turned m J t since)

-- the moment since which a member counts once each of the batches has begun
abbrev pub turned_last : MemberId → List Batch → ℕ → ℕ
turned_last m [] since = since
turned_last m (b ∷ bs) since = turned_last m bs
    (if list_any (begins_anew m) b.entries then max since b.first else since)

-- What stands on paper at a moment: at each place of the kept entries and those in flight, of each output that no
-- Forward has touched by then each line after its mark in the base (0 if it is new) up to its mark. And the line that
-- is printed then.
pub record PaperAt (base : Queue) (since : ℕ) (told : Account) (v : View) (t : ℕ) : Type 0 where
  pub marks : AreMarksOn (IsOnPaper (v.world t).paper) base (told.0 ++ told.1)
  pub lines : (m : MemberId) → LineFrom base told.0 (told.2 m since) v t m

-- WHAT THE SHARED VALUE KEEPS

-- the counts of members, from the operator's on, which is 0
abbrev pub counts_of : List ℕ → Counts
counts_of printed m = slice_index_or printed m.0 0

-- nobody has printed anything
abbrev pub no_counts : List ℕ
no_counts = replicate (members_most + 1) 0

-- a member's count falls to 0 where it gives one of the commands that begin it anew
abbrev pub printed_after : MemberId → List Entry → List ℕ → List ℕ
printed_after by entries printed = if list_any (begins_anew by) entries then slice_set printed by.0 0 else printed

-- A batch of these entries may begin after the kept ones: each is within the limits and given by a member that may give
-- it, and a Mark is one of what its member has printed. This is asked where the base has the sound parts.
abbrev pub MayBegin : Queue → List Batch → List ℕ → List Entry → Type 0
MayBegin base js printed es = IsSound base → ∥ AreAllowed base (run base (kept_all js)) (counts_of printed) es ∥₁

-- a line was printed, or not
abbrev pub printed_by : MemberId → Act → List ℕ → List ℕ
printed_by by Done printed = slice_set printed by.0 (counts_of printed by + 1)
printed_by by _ printed = printed

-- the member that was stopped in a print is stopped in the book, and its reserved batch is given up
abbrev pub book_by : MemberId → Act → Book → Book
book_by by Halted book = after_stop book by
book_by by _ book = book

abbrev pub reserved_by : MemberId → Act → Option (List Entry) → Option (List Entry)
reserved_by by Halted reserved = reserved_after_stop by reserved
reserved_by by _ reserved = reserved

-- each entry of the batches is within the limits, and of a member that may give it
abbrev pub AreGivenIn : Queue → List Batch → Type 0
AreGivenIn base [] = Unit {0}
AreGivenIn base (b ∷ bs) = All (IsGiven base) b.entries × AreGivenIn base bs

-- each entry of a batch in flight is of its member
abbrev pub IsOfItsMember : Option Batch → Type 0
IsOfItsMember None = Unit {0}
IsOfItsMember (Some b) = All (λ e. e.by ≡ b.by) b.entries

-- the counts of printed lines, and the book that says who is stopped
abbrev pub Counting : Type 0
Counting = List ℕ × Book

-- at each past moment, and now: a member that isn't stopped has printed as many lines as are counted since it counts
pub record KeepsPaper (base : Queue) (since : ℕ) (js : List Batch) (current : Option Batch) (counting : Counting)
    (v : View) : Type 0 where
  pub given : AreGivenIn base js
  pub coming_given : All (IsGiven base) (entries_in current)
  pub own : IsOfItsMember current
  pub past : (t : ℕ) → since ≤ t → t < v.now → PaperAt base since (account (js ++ in_flight current) t) v t
  pub marks : AreMarksOn (IsOnPaper (v.world v.now).paper) base (kept_all js ++ entries_in current)
  pub kept_lines : AreLinesOn (IsOnPaper (v.world v.now).paper) base (counts_of counting.0) (kept_all js)
  pub coming_lines : AreLinesOn (IsOnPaper (v.world v.now).paper) base (counts_of counting.0)
      (kept_all js ++ entries_in current)
  pub counted : (m : MemberId) → m.0 < length counting.0 → is_stopped counting.1 m ≡ false
      → length ((v.world v.now).paper m.0)
      ≡ length ((v.world (turned_last m (js ++ in_flight current) since)).paper m.0) + counts_of counting.0 m

-- WHAT IT HANDS OUT

-- At each moment since the first: where a Mark among the kept entries answered a count, the lines of its output from
-- after its mark in the base (0 if it is new) up to that stand on paper, where no Forward has touched it. And from
-- each moment to the next each printer keeps its lines, or has one more: the next one of the output that is busy at its
-- member. Each entry is within the limits, and of a member that may give it.
pub record PaperKept (base : Queue) (since : ℕ) (J : List Batch) (v : View) : Type 0 where
  pub given : AreGivenIn base J
  pub marks : (t : ℕ) → since ≤ t → t ≤ v.now → AreMarkedLinesOn (IsOnPaper (v.world t).paper) base (kept J t)
  pub lines : (t : ℕ) → since ≤ t → t < v.now → (m : MemberId) → LineAt base J since v t m

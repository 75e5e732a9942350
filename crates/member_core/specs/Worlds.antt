-- What a world says of its members, its copies and its journal.
use Rattle.std.specs.Prelude.{ℕ, zero, suc, Bool, true, false, not, ◌&&◌, ◌||◌, ◌==◌, nat_lt, if◌then◌else◌, List, [], ◌∷◌, ◌++◌, length, None}
use Rattle.std.specs.List.{list_any}
use Rattle.mas_types.specs.declared.ids.MemberId.{MemberId}
use Rattle.mas_types.specs.declared.journals.Fate.{Fate}
use Rattle.mas_types.specs.declared.journals.Fate.TheVariants as fate
use Rattle.mas_types.specs.declared.journals.Entry.{Entry}
use Rattle.mas_types.specs.declared.journals.Batch.{Batch}
use Rattle.mas_types.specs.declared.journals.Journal.{Journal}
use Rattle.mas_types.specs.Lists.{change_at}
use Rattle.mas_types.specs.Ids.{is_somebody, same_member}
use Rattle.member_core.specs.declared.worlds.At.{At}
use Rattle.member_core.specs.declared.worlds.At.TheVariants as at
use Rattle.member_core.specs.declared.worlds.CopyAt.{CopyAt}
use Rattle.member_core.specs.declared.worlds.MemberAt.{MemberAt}
use Rattle.member_core.specs.declared.worlds.World.{World}

-- LISTS

module _ {A : Type 0} where
  abbrev pub is_nil : List A → Bool
  is_nil [] = true
  is_nil (x ∷ xs) = false

  -- the item at a place, or the one given where there is none
  abbrev pub at_or : A → ℕ → List A → A
  at_or d i [] = d
  at_or d zero (x ∷ xs) = x
  at_or d (suc i) (x ∷ xs) = at_or d i xs

-- STAGES

abbrev pub is_away : At → Bool
is_away at.Away = true
is_away _ = false

abbrev pub is_locked : At → Bool
is_locked at.Locked = true
is_locked _ = false

abbrev pub is_read1 : At → Bool
is_read1 at.Read1 = true
is_read1 _ = false

abbrev pub is_read2 : At → Bool
is_read2 at.Read2 = true
is_read2 _ = false

abbrev pub is_ready : At → Bool
is_ready at.Ready = true
is_ready _ = false

abbrev pub is_logged1 : At → Bool
is_logged1 at.Logged1 = true
is_logged1 _ = false

abbrev pub is_logged2 : At → Bool
is_logged2 at.Logged2 = true
is_logged2 _ = false

abbrev pub is_opened1 : At → Bool
is_opened1 at.Opened1 = true
is_opened1 _ = false

-- MEMBERS

-- a member that isn't there
abbrev pub absent : MemberAt
absent = record { up = false; stage = at.Away; own = []; batch = []; printed = 0; step = 0 }

abbrev pub member_in : List MemberAt → MemberId → MemberAt
member_in members m = at_or absent m.0 members

abbrev pub member_at : World → MemberId → MemberAt
member_at w m = member_in w.members m

abbrev pub on_member : MemberId → (MemberAt → MemberAt) → List MemberAt → List MemberAt
on_member m f members = change_at m.0 f members

-- one of the members from 1 on that is up
abbrev pub is_up_in : List MemberAt → MemberId → Bool
is_up_in members m = is_somebody m && (member_in members m).up

abbrev pub is_up : World → MemberId → Bool
is_up w m = is_up_in w.members m

-- one that is up, or member 0
abbrev pub acts_in : List MemberAt → MemberId → Bool
acts_in members m = not (is_somebody m) || (member_in members m).up

abbrev pub acts : World → MemberId → Bool
acts w m = acts_in w.members m

abbrev pub to_stage : At → MemberAt → MemberAt
to_stage s a = record a { stage = s }

-- COPIES

abbrev pub no_copy : CopyAt
no_copy = record { good = false; reads = []; next = None; sure = true }

abbrev pub first_copy : List CopyAt → CopyAt
first_copy copies = at_or no_copy 0 copies

abbrev pub second_copy : List CopyAt → CopyAt
second_copy copies = at_or no_copy 1 copies

-- the first and the second copy, changed
abbrev pub on_copies : (CopyAt → CopyAt) → (CopyAt → CopyAt) → List CopyAt → List CopyAt
on_copies f g [] = []
on_copies f g (a ∷ []) = f a ∷ []
on_copies f g (a ∷ (b ∷ rest)) = f a ∷ (g b ∷ rest)

abbrev pub same_copy : CopyAt → CopyAt
same_copy c = c

abbrev pub longer : List Entry → List Entry → List Entry
longer xs ys = if nat_lt (length xs) (length ys) then ys else xs

-- what a good copy reads
abbrev pub good_reads : CopyAt → List Entry
good_reads c = if c.good then c.reads else []

-- the longest list that a good copy reads
abbrev pub longest : List CopyAt → List Entry
longest copies = longer (good_reads (first_copy copies)) (good_reads (second_copy copies))

-- each good copy reads as many entries
abbrev pub reads_so_many : ℕ → CopyAt → Bool
reads_so_many n c = not c.good || (length c.reads == n)

-- THE JOURNAL

abbrev pub entries_kept : Fate → List Entry → List Entry
entries_kept fate.Kept es = es
entries_kept fate.Dropped es = []
entries_kept fate.Flying es = []

abbrev pub entries_flying : Fate → List Entry → List Entry
entries_flying fate.Kept es = []
entries_flying fate.Dropped es = []
entries_flying fate.Flying es = es

-- the entries of the kept batches
abbrev pub kept_in : List Batch → List Entry
kept_in [] = []
kept_in (b ∷ bs) = entries_kept b.fate b.entries ++ kept_in bs

-- the entries of the batches in flight
abbrev pub flying_in : List Batch → List Entry
flying_in [] = []
flying_in (b ∷ bs) = entries_flying b.fate b.entries ++ flying_in bs

abbrev pub kept : World → List Entry
kept w = kept_in w.journal.batches

abbrev pub flying : World → List Entry
flying w = flying_in w.journal.batches

-- the fate of a batch once those in flight have one
abbrev pub fate_after : Fate → Fate → Fate
fate_after new fate.Kept = fate.Kept
fate_after new fate.Dropped = fate.Dropped
fate_after new fate.Flying = new

abbrev pub settled : Fate → List Batch → List Batch
settled new [] = []
settled new (b ∷ bs) = record b { fate = fate_after new b.fate } ∷ settled new bs

abbrev pub with_batches : List Batch → Journal
with_batches bs = record { batches = bs }

-- an entry of that step of that member
abbrev pub is_of : MemberId → ℕ → Entry → Bool
is_of m n e = same_member e.by m && (e.step == n)

-- a batch that isn't kept has an entry of that step
abbrev pub is_unkept : Fate → Bool
is_unkept fate.Kept = false
is_unkept fate.Dropped = true
is_unkept fate.Flying = true

abbrev pub has_unkept : List Batch → MemberId → ℕ → Bool
has_unkept [] m n = false
has_unkept (b ∷ bs) m n = (is_unkept b.fate && list_any (is_of m n) b.entries) || has_unkept bs m n

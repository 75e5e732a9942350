-- The world's invariant in the words of its users, and what a start finds.
use Rattle.std.specs.Prelude.{◌≡◌, ◌⊎◌, true, false, not, length, List, ◌++◌, Some, Contains}
use Rattle.std.specs.List.{AllByRecursion}
use Rattle.mas_types.specs.declared.ids.MemberId.{MemberId}
use Rattle.mas_types.specs.declared.queues.Queue.{Queue}
use Rattle.mas_types.specs.declared.journals.Fate.TheVariants as fate
use Rattle.mas_types.specs.declared.journals.Entry.{Entry}
use Rattle.mas_types.specs.declared.journals.Batch.{Batch}
use Rattle.mas_types.specs.Ids.{is_somebody, same_member, nobody}
use Rattle.mas_types.specs.Sound.{IsSound}
use Rattle.mas_types.specs.Run.{run}
use Rattle.member_core.specs.declared.worlds.At.{At}
use Rattle.member_core.specs.declared.worlds.At.TheVariants as at
use Rattle.member_core.specs.declared.worlds.CopyAt.{CopyAt}
use Rattle.member_core.specs.declared.worlds.MemberAt.{MemberAt}
use Rattle.member_core.specs.declared.worlds.Said.{Said}
use Rattle.member_core.specs.declared.worlds.Event.{Event}
use Rattle.member_core.specs.declared.worlds.World.{World}
use Rattle.member_core.specs.Worlds.{is_nil, member_at, is_up, acts, first_copy, second_copy, longest, kept, flying, is_of}
use Rattle.member_core.specs.Events.{start, runs, is_any_good, is_synced}
use Rattle.member_core.specs.Holds.{IsAhead, IsPending, IsAt, AreLinesInked, printed_in, is_restart}
use Rattle.member_core.specs.Told.{IsFitEvent}

-- one of the two copies
abbrev pub OfCopies : World → (CopyAt → Type 0) → Type 0
OfCopies w P = P (first_copy w.copies) × P (second_copy w.copies)

-- where a member's own list stands
abbrev pub IsOwn : At → List Entry → List Entry → MemberAt → Type 0
IsOwn at.Ready K F x = x.own ≡ K ++ x.batch
IsOwn at.Logged1 K F x = x.own ≡ K ++ F
IsOwn at.Logged2 K F x = x.own ≡ K ++ F
IsOwn at.Opened1 K F x = (is_nil F ≡ false → x.own ≡ K ++ F) × (is_nil F ≡ true → x.own ≡ K)
IsOwn at.Read2 K F x = (x.own ≡ K) ⊎ (x.own ≡ K ++ F)
IsOwn _ K F x = Unit {0}

pub record IsRight (w : World) : Type 0 where
  -- a good copy reads the kept entries, or those and the ones in flight
  pub reads : OfCopies w (λ c. c.good ≡ true → (c.reads ≡ kept w)
      ⊎ ((is_nil (flying w) ≡ false) × (c.reads ≡ kept w ++ flying w)))
  -- once a good copy may read the longer list, each good one has it as next
  pub ahead : is_nil (flying w) ≡ false → IsAhead (kept w) (flying w) (first_copy w.copies)
      ⊎ IsAhead (kept w) (flying w) (second_copy w.copies) → OfCopies w (IsPending (kept w) (flying w))
  -- a gate is unsure only so
  pub unsure : OfCopies w (λ c. c.sure ≡ false → (c.next ≡ Some (kept w ++ flying w)) × ((is_nil (flying w) ≡ false)
      × (((member_at w nobody).stage ≡ at.Away)
      × (is_up w w.holder ≡ true → (member_at w w.holder).stage ≡ at.Locked))))
  -- one member works at a time, and its own list is known
  pub alone : (m : MemberId) → is_up w m ≡ true → same_member w.holder m ≡ false → (member_at w m).stage ≡ at.Away
  pub zero : is_somebody w.holder ≡ true → (member_at w nobody).stage ≡ at.Away
  pub own : (m : MemberId) → acts w m ≡ true → IsOwn (member_at w m).stage (kept w) (flying w) (member_at w m)
  -- what was told is kept
  pub told : (s : Said) (b : Batch) (e : Entry) → Contains w.told s → Contains w.journal.batches b
      → Contains b.entries e → is_of s.by s.step e ≡ true → b.fate ≡ fate.Kept
  -- a batch's entries are by its member, and Restart stands in batches of member 0, alone, and nowhere else
  pub by : (b : Batch) (e : Entry) → Contains w.journal.batches b → Contains b.entries e → e.by ≡ b.by
  pub restart : (b : Batch) (e : Entry) → Contains w.journal.batches b → Contains b.entries e
      → is_restart e.command ≡ not (is_somebody b.by)
  pub single : (b : Batch) → Contains w.journal.batches b → is_somebody b.by ≡ false → length b.entries ≡ 1
  -- no group of a deck or an output is unsynced
  pub synced : (is_synced (run w.base (kept w)) w.unsynced ≡ true)
      × (is_synced (run w.base (kept w ++ flying w)) w.unsynced ≡ true)
  -- the lines up to each mark were printed
  pub lines_kept : AreLinesInked w.base w.printed (printed_in w.members) (kept w)
  pub lines_both : AreLinesInked w.base w.printed (printed_in w.members) (kept w ++ flying w)
  pub lines_own : (m : MemberId) → acts w m ≡ true → is_nil (member_at w m).batch ≡ false
      → AreLinesInked w.base w.printed (printed_in w.members) (member_at w m).own
  -- what holds in each stage
  pub stages : (m : MemberId) → acts w m ≡ true
      → IsAt (member_at w m).stage w.base m (kept w) (flying w) (first_copy w.copies) (second_copy w.copies)
      (member_at w m)

-- what a start would find: the entries that are kept, or those and the ones in flight, all that was told among them,
-- and so the queue after these
pub record Finds (w : World) (found : List Entry) : Type 0 where
  pub entries : (found ≡ kept w) ⊎ (found ≡ kept w ++ flying w)
  pub queue : (run w.base found ≡ run w.base (kept w)) ⊎ (run w.base found ≡ run w.base (kept w ++ flying w))
  pub told : (s : Said) (b : Batch) (e : Entry) → Contains w.told s → Contains w.journal.batches b
      → Contains b.entries e → is_of s.by s.step e ≡ true → Contains found e

-- where a copy is good a start finds so
abbrev pub FindsRight : World → Type 0
FindsRight w = is_any_good w.copies ≡ true → Finds w (longest w.copies)

-- over a sound base every list of events leaves a right world, whose copies are found right
abbrev pub EveryRunIsRight : Type 0
EveryRunIsRight = (base : Queue) (events : List Event) → IsSound base → AllByRecursion IsFitEvent events
    → IsRight (runs (start base) events) × FindsRight (runs (start base) events)

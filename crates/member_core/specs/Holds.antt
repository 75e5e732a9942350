-- What holds of every world that the events give.
use Rattle.std.specs.Prelude.{◌≡◌, ◌⊎◌, ◌<◌, ◌≤◌, ◌+◌, ℕ, suc, Bool, true, false, not, ◌&&◌, ◌==◌, if◌then◌else◌, List, [], ◌∷◌, ◌++◌, length, Some, None}
use Rattle.std.specs.List.{list_any, AllByRecursion}
use Rattle.mas_types.specs.declared.ids.MemberId.{MemberId}
use Rattle.mas_types.specs.declared.ids.JobNo.{JobNo}
use Rattle.mas_types.specs.declared.ids.OutNo.{OutNo}
use Rattle.mas_types.specs.declared.ids.GroupNo.{GroupNo}
use Rattle.mas_types.specs.declared.jobs.Output.{Output}
use Rattle.mas_types.specs.declared.queues.Queue.{Queue}
use Rattle.mas_types.specs.declared.commands.Command.{Command}
use Rattle.mas_types.specs.declared.commands.Command.TheVariants as command
use Rattle.mas_types.specs.declared.journals.Entry.{Entry}
use Rattle.mas_types.specs.declared.journals.Batch.{Batch}
use Rattle.mas_types.specs.Ids.{is_somebody, same_member, same_number, same_index}
use Rattle.mas_types.specs.Queue.{output_at}
use Rattle.mas_types.specs.Journal.{is_flying}
use Rattle.queue_laws.specs.Runs.{IsGiven}
use Rattle.mas_types.specs.Sound.{IsSound}
use Rattle.mas_types.specs.Step.{step}
use Rattle.mas_types.specs.Run.{run}
use Rattle.member_core.specs.declared.worlds.At.{At}
use Rattle.member_core.specs.declared.worlds.At.TheVariants as at
use Rattle.member_core.specs.declared.worlds.CopyAt.{CopyAt}
use Rattle.member_core.specs.declared.worlds.MemberAt.{MemberAt}
use Rattle.member_core.specs.declared.worlds.Inked.{Inked}
use Rattle.member_core.specs.declared.worlds.Said.{Said}
use Rattle.member_core.specs.declared.worlds.World.{World}
use Rattle.member_core.specs.Worlds.{is_nil, is_away, is_ready, member_in, acts_in, is_up_in, first_copy, second_copy, kept_in, flying_in, is_of, has_unkept}
use Rattle.member_core.specs.Events.{is_synced}
use Rattle.paper_laws.specs.Paper.{mark_of, printed_at, touched}

-- COPIES

-- a good copy reads the kept entries, or those and the ones in flight; its next list is that longer one
pub record IsCopy (K F : List Entry) (c : CopyAt) : Type 0 where
  pub reads : c.good ≡ true → (c.reads ≡ K) ⊎ (c.reads ≡ K ++ F)
  pub next : c.good ≡ true → (c.next ≡ None) ⊎ (c.next ≡ Some (K ++ F))

-- a good copy that may already read as the longer list
abbrev pub IsAhead : List Entry → List Entry → CopyAt → Type 0
IsAhead K F c = (c.good ≡ true) × ((c.reads ≡ K ++ F) ⊎ (c.sure ≡ false))

-- a good copy that reads the kept entries alone has the longer list as next
abbrev pub IsPending : List Entry → List Entry → CopyAt → Type 0
IsPending K F c = c.good ≡ true → c.reads ≡ K → c.next ≡ Some (K ++ F)

pub record AreCopies (K F : List Entry) (a b : CopyAt) : Type 0 where
  pub first : IsCopy K F a
  pub second : IsCopy K F b
  pub ahead : is_nil F ≡ false → IsAhead K F a ⊎ IsAhead K F b → IsPending K F a × IsPending K F b

-- an unsure gate is on a copy with the longer list as next, while a batch is in flight and nobody works on the copies
abbrev pub is_calm : At → Bool
is_calm at.Away = true
is_calm at.Locked = true
is_calm _ = false

pub record IsUnsure (K F : List Entry) (members : List MemberAt) (c : CopyAt) : Type 0 where
  pub next : c.next ≡ Some (K ++ F)
  pub flying : is_nil F ≡ false
  pub calm : (m : MemberId) → acts_in members m ≡ true → is_calm (member_in members m).stage ≡ true

abbrev pub AreGatesRight : List Entry → List Entry → List MemberAt → CopyAt → CopyAt → Type 0
AreGatesRight K F members a b = (a.sure ≡ false → IsUnsure K F members a) × (b.sure ≡ false → IsUnsure K F members b)

-- ENTRIES

-- each is of a command within its limits, by one who may give it
abbrev pub AreGiven : Queue → List Entry → Type 0
AreGiven Q es = AllByRecursion (IsGiven Q) es

-- STAGES

pub record IsRead2 (m : MemberId) (K F : List Entry) (a b : CopyAt) (x : MemberAt) : Type 0 where
  pub somebody : is_somebody m ≡ true
  pub batch : x.batch ≡ []
  pub own : (x.own ≡ K) ⊎ (x.own ≡ K ++ F)
  pub first : a.good ≡ true → a.reads ≡ K ++ F → x.own ≡ K ++ F
  pub second : b.good ≡ true → b.reads ≡ K ++ F → x.own ≡ K ++ F
  pub pending : is_nil F ≡ false → x.own ≡ K ++ F → IsPending K F a × IsPending K F b

pub record IsReady (base : Queue) (m : MemberId) (K F : List Entry) (a b : CopyAt) (x : MemberAt) : Type 0 where
  pub flying : F ≡ []
  pub own : x.own ≡ K ++ x.batch
  pub first : a.good ≡ true → a.next ≡ None
  pub second : b.good ≡ true → b.next ≡ None
  pub mine : AllByRecursion (λ e. is_of m x.step e ≡ true) x.batch
  pub given : AreGiven base x.batch
  pub single : is_somebody m ≡ false → length x.batch ≡ 1

pub record IsLogged1 (K F : List Entry) (a b : CopyAt) (x : MemberAt) : Type 0 where
  pub flying : is_nil F ≡ false
  pub batch : F ≡ x.batch
  pub own : x.own ≡ K ++ F
  pub first : a.good ≡ true → a.next ≡ Some x.own

pub record IsLogged2 (K F : List Entry) (a b : CopyAt) (x : MemberAt) : Type 0 where
  pub flying : is_nil F ≡ false
  pub batch : F ≡ x.batch
  pub own : x.own ≡ K ++ F
  pub first : a.good ≡ true → a.next ≡ Some x.own
  pub second : b.good ≡ true → b.next ≡ Some x.own

-- the batch is in flight or kept already
pub record IsOpened1 (K F : List Entry) (a b : CopyAt) (x : MemberAt) : Type 0 where
  pub own : x.own ≡ K ++ F
  pub first : a.good ≡ true → a.reads ≡ x.own
  pub first_next : a.good ≡ true → a.next ≡ None
  pub second : is_nil F ≡ false → b.good ≡ true → b.next ≡ Some x.own
  pub batch : is_nil F ≡ false → F ≡ x.batch

abbrev pub IsAt : At → Queue → MemberId → List Entry → List Entry → CopyAt → CopyAt → MemberAt → Type 0
IsAt at.Away base m K F a b x = x.batch ≡ []
IsAt at.Locked base m K F a b x = (x.batch ≡ []) × (is_somebody m ≡ true)
IsAt at.Read1 base m K F a b x = (x.batch ≡ []) × (is_somebody m ≡ true)
IsAt at.Read2 base m K F a b x = IsRead2 m K F a b x
IsAt at.Ready base m K F a b x = IsReady base m K F a b x
IsAt at.Logged1 base m K F a b x = IsLogged1 K F a b x
IsAt at.Logged2 base m K F a b x = IsLogged2 K F a b x
IsAt at.Opened1 base m K F a b x = IsOpened1 K F a b x

abbrev pub AreStages : Queue → List Entry → List Entry → CopyAt → CopyAt → List MemberAt → Type 0
AreStages base K F a b members =
    (m : MemberId) → acts_in members m ≡ true → IsAt (member_in members m).stage base m K F a b (member_in members m)

-- of member 0 and the members that are up only the holder works
abbrev pub IsAlone : MemberId → List MemberAt → Type 0
IsAlone holder members = (m : MemberId) → acts_in members m ≡ true → is_away (member_in members m).stage ≡ false
    → holder.0 ≡ m.0

-- the holder works, where it is up
abbrev pub IsHolderAtWork : MemberId → List MemberAt → Type 0
IsHolderAtWork holder members = (m : MemberId) → is_up_in members m ≡ true → holder.0 ≡ m.0
    → is_away (member_in members m).stage ≡ false

-- WHO WRITES

-- the stages with a batch in flight or just kept
abbrev pub is_writing : At → Bool
is_writing at.Logged1 = true
is_writing at.Logged2 = true
is_writing at.Opened1 = true
is_writing _ = false

-- no entry is by the member
abbrev pub IsNoneBy : MemberId → List Entry → Type 0
IsNoneBy m es = AllByRecursion (λ e. same_member e.by m ≡ false) es

-- what is in flight is by none that is up and doesn't write
abbrev pub IsByWriter : List Entry → List MemberAt → Type 0
IsByWriter F members = (m : MemberId) → is_up_in members m ≡ true → is_writing (member_in members m).stage ≡ false
    → IsNoneBy m F

-- LINES PRINTED

abbrev pub is_line : JobNo → OutNo → ℕ → Inked → Bool
is_line n i line x = same_number x.job n && (same_index x.index i && (x.line == line))

abbrev pub is_inked : JobNo → OutNo → ℕ → List Inked → Bool
is_inked n i line inked = list_any (is_line n i line) inked

-- each line up to an output's mark, and those that its member printed after it, are printed
abbrev pub AreLinesInked : Queue → List Inked → (MemberId → ℕ) → List Entry → Type 0
AreLinesInked base inked counts es =
    (n : JobNo) (i : OutNo) (o : Output) → output_at (run base es) n i ≡ Some o → touched base es n i ≡ false
    → (line : ℕ) → mark_of (output_at base n i) < line → line ≤ o.mark + printed_at counts o.busy
    → is_inked n i line inked ≡ true

abbrev pub printed_in : List MemberAt → MemberId → ℕ
printed_in members m = (member_in members m).printed

abbrev pub IsPaper : Queue → List Inked → List Entry → List Entry → List MemberAt → Type 0
IsPaper base inked K F members =
    AreLinesInked base inked (printed_in members) K × (AreLinesInked base inked (printed_in members) (K ++ F)
    × ((m : MemberId) → acts_in members m ≡ true → is_ready (member_in members m).stage ≡ true
    → AreLinesInked base inked (printed_in members) (member_in members m).own))

-- THE JOURNAL

-- only the last batch may be in flight, and then it has an entry
abbrev pub IsJournal : List Batch → Type 0
IsJournal [] = Unit {0}
IsJournal (b ∷ bs) = (is_flying b.fate ≡ true → (bs ≡ []) × (is_nil b.entries ≡ false)) × IsJournal bs

abbrev pub is_restart : Command → Bool
is_restart command.Restart = true
is_restart _ = false

-- each entry is by the member, and Restart stands in batches of member 0, alone, and nowhere else
pub record IsBatchOf (m : MemberId) (es : List Entry) : Type 0 where
  pub by : AllByRecursion (λ e. same_member e.by m ≡ true) es
  pub restart : AllByRecursion (λ e. is_restart e.command ≡ not (is_somebody m)) es
  pub single : is_somebody m ≡ false → length es ≡ 1

abbrev pub AreBy : List Batch → Type 0
AreBy [] = Unit {0}
AreBy (b ∷ bs) = IsBatchOf b.by b.entries × AreBy bs

-- RESETS

abbrev pub resets_up : List MemberAt → Command → Bool
resets_up members (command.Reset of_member) = is_up_in members of_member
resets_up members _ = false

-- no member that is up is reset
abbrev pub IsNoUpReset : List MemberAt → List Entry → Type 0
IsNoUpReset members es = AllByRecursion (λ e. resets_up members e.command ≡ false) es

abbrev pub AreResetsRight : List MemberAt → List Entry → Type 0
AreResetsRight members F =
    IsNoUpReset members F × ((m : MemberId) → acts_in members m ≡ true → is_ready (member_in members m).stage ≡ true
    → IsNoUpReset members (member_in members m).batch)

-- WHAT WAS TOLD

-- no batch that isn't kept has an entry of the step, and the member is past it
abbrev pub IsTold : List Batch → List MemberAt → Said → Type 0
IsTold batches members s = (has_unkept batches s.by s.step ≡ false)
    × ((is_somebody s.by ≡ true) × (s.step < (member_in members s.by).step))

-- ALL OF IT

pub record HoldsOf (base : Queue) (batches : List Batch) (a b : CopyAt) (holder : MemberId) (members : List MemberAt)
    (inked : List Inked) (unsynced : List GroupNo) (told : List Said) : Type 0 where
  pub sound : IsSound base
  pub fit : length members ≡ suc base.config.members
  pub journal : IsJournal batches
  pub by_member : AreBy batches
  pub resets : AreResetsRight members (flying_in batches)
  pub given : AreGiven base (kept_in batches) × AreGiven base (flying_in batches)
  pub copies : AreCopies (kept_in batches) (flying_in batches) a b
  pub gates : AreGatesRight (kept_in batches) (flying_in batches) members a b
  pub stages : AreStages base (kept_in batches) (flying_in batches) a b members
  pub alone : IsAlone holder members
  pub at_work : IsHolderAtWork holder members
  pub writer : IsByWriter (flying_in batches) members
  pub tells : AllByRecursion (IsTold batches members) told
  pub synced : (is_synced (run base (kept_in batches)) unsynced ≡ true)
      × (is_synced (run base (kept_in batches ++ flying_in batches)) unsynced ≡ true)
  pub paper : IsPaper base inked (kept_in batches) (flying_in batches) members

abbrev pub has_two : List CopyAt → Bool
has_two (a ∷ (b ∷ [])) = true
has_two _ = false

pub record Holds (w : World) : Type 0 where
  pub two : has_two w.copies ≡ true
  pub all : HoldsOf w.base w.journal.batches (first_copy w.copies) (second_copy w.copies) w.holder w.members w.printed
      w.unsynced w.told

-- How many lines each member has printed since its last Pick, Mark, Back or Forward, and which Marks these allow.
use Rattle.std.specs.Prelude.{◌≡◌, ℕ, ◌+◌, nat_le, Bool, true, false, not, ◌&&◌, ◌||◌, if◌then◌else◌, List, [], ◌∷◌, Option, Some, None}
use Rattle.std.specs.List.{list_any}
use Rattle.mas_types.specs.declared.ids.MemberId.{MemberId}
use Rattle.mas_types.specs.declared.jobs.Output.{Output}
use Rattle.mas_types.specs.declared.queues.Queue.{Queue}
use Rattle.mas_types.specs.declared.commands.Command.{Command}
use Rattle.mas_types.specs.declared.commands.Command.TheVariants as command
use Rattle.mas_types.specs.declared.journals.Entry.{Entry}
use Rattle.mas_types.specs.Ids.{is_somebody, same_member}
use Rattle.mas_types.specs.Queue.{output_at}
use Rattle.mas_types.specs.Step.{step}
use Rattle.queue_laws.specs.Runs.{IsGiven}

abbrev pub Counts : Type 0
Counts = MemberId → ℕ

abbrev pub none_printed : Counts
none_printed m = 0

-- the commands with which a member begins to count its printed lines anew, refused or not
abbrev pub counts_anew : Command → Bool
counts_anew command.Pick = true
counts_anew (command.Mark job index line) = true
counts_anew (command.Back lines) = true
counts_anew (command.Forward lines) = true
counts_anew _ = false

-- with this entry the member begins to count its printed lines anew
abbrev pub begins_anew : MemberId → Entry → Bool
begins_anew m e = same_member e.by m && counts_anew e.command

-- the counts after an entry, and after a list of entries
abbrev pub count_after : Entry → Counts → Counts
count_after e counts m = if begins_anew m e then 0 else counts m

abbrev pub counts_after : List Entry → Counts → Counts
counts_after es counts m = if list_any (begins_anew m) es then 0 else counts m

-- the member has printed a line
abbrev pub one_more : MemberId → Counts → Counts
one_more m counts k = if same_member k m then counts k + 1 else counts k

-- a Mark of an output that is busy at the member is at most at what it has printed
abbrev pub may_mark : MemberId → ℕ → ℕ → Option Output → Bool
may_mark m printed at None = true
may_mark m printed at (Some o) = not (same_member o.busy m) || nat_le at (o.mark + printed)

abbrev pub IsMarkRight : Queue → MemberId → ℕ → Command → Type 0
IsMarkRight Q m printed (command.Mark job index at) = (is_somebody m ≡ true)
    × (may_mark m printed at (output_at Q job index) ≡ true)
IsMarkRight Q m printed _ = Unit {0}

-- An entry is within the limits, given by a member of the base that may give it, and if it is a Mark, then one of what
-- its member has printed.
pub record IsAllowed (base Q : Queue) (counts : Counts) (e : Entry) : Type 0 where
  pub given : IsGiven base e
  pub mark : IsMarkRight Q e.by (counts e.by) e.command

-- each of the entries is allowed, at its place
abbrev pub AreAllowed : Queue → Queue → Counts → List Entry → Type 0
AreAllowed base Q counts [] = Unit {0}
AreAllowed base Q counts (e ∷ es) = IsAllowed base Q counts e
    × AreAllowed base (step Q e.by e.command).0 (count_after e counts) es

-- the entry is a Mark
abbrev pub is_mark : Command → Bool
is_mark (command.Mark job index line) = true
is_mark _ = false

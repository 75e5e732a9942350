-- How far the steps of the members have come, and what a crash leaves of a copy.
use Rattle.std.specs.Prelude.{ℕ, ◌<◌, if◌then◌else◌, List}
use Rattle.std.specs.List.{AllByRecursion}
use Rattle.mas_types.specs.declared.journals.Entry.{Entry}
use Rattle.member_core.specs.declared.worlds.Left.{Left}
use Rattle.member_core.specs.declared.worlds.CopyAt.{CopyAt}
use Rattle.member_core.specs.declared.worlds.MemberAt.{MemberAt}
use Rattle.member_core.specs.Events.{left_of}

-- each member's step is below the bound
abbrev pub AreStepsBelow : ℕ → List MemberAt → Type 0
AreStepsBelow bound members = AllByRecursion (λ a. a.step < bound) members

-- what a crash leaves of a copy whose opening was in hand, or whose gate was unsure
abbrev pub crash_reads : Left → List Entry → CopyAt → List Entry
crash_reads l kept c = if c.sure then left_of l c.reads c.next else left_of l kept c.next

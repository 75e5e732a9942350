-- What a member that is up has busy, while others take their turns.
use Rattle.std.specs.Prelude.{◌≡◌, true, false, List, ◌++◌, All}
use Rattle.mas_types.specs.declared.commands.Command.{Command}
use Rattle.mas_types.specs.declared.ids.MemberId.{MemberId}
use Rattle.mas_types.specs.declared.journals.Entry.{Entry}
use Rattle.mas_types.specs.declared.queues.Queue.{Queue}
use Rattle.mas_types.specs.Ids.{is_somebody}
use Rattle.mas_types.specs.Sound.{IsSound}
use Rattle.queue_laws.specs.Laws.{resets, IsBusyKept}
use Rattle.queue_laws.specs.Runs.{IsGiven}
use Rattle.gate_facts.specs.declared.facts.Facts.{Facts}
use Rattle.gate_facts.specs.Values.{stopped_of}
use Rattle.gate_facts.specs.Memory.{Memory, Knows}
use Rattle.mas_complex.specs.Meaning.{run}
use Rattle.gate_turns.specs.Desks.{groups_from}
use Rattle.gate_turns.specs.Laws.{Passes}

-- jobs and outputs that are busy at the member are so after these entries, in phase, text, mark and lines, and the
-- member's groups are its own
pub record Stays (m : MemberId) (old new : Queue) : Type 0 where
  pub busy : IsBusyKept m old new
  pub groups : groups_from m 0 new.owners ≡ groups_from m 0 old.owners

-- entries that are another's, and don't reset the member, leave what is busy at it
abbrev pub BusyStays : Type 0
BusyStays = (Q : Queue) (m : MemberId) (entries : List Entry) → IsSound Q → All (IsGiven Q) entries
    → is_somebody m ≡ true → All (Passes m) entries → Stays m Q (run Q entries)

-- the value shows each member that the command resets as stopped
abbrev pub ResetsShownStopped : Facts → Command → Type 0
ResetsShownStopped is c = (k : MemberId) → resets k c ≡ true → stopped_of is k.0 ≡ true

-- What a member that isn't stopped had busy when it gave the value back it has busy at its next turn, where the entries
-- kept since then reset only stopped members.
abbrev pub BusyIsKnown : Type 0
BusyIsKnown = (m : MemberId) (y : Memory) (is : Facts) (more : List Entry) → Knows m.0 y is
    → stopped_of is m.0 ≡ false → is_somebody m ≡ true → is.kept ≡ y.seen ++ more → IsSound is.base
    → All (IsGiven is.base) is.kept → All (λ e. ResetsShownStopped is e.command) more
    → Stays m (run is.base y.seen) (run is.base is.kept)

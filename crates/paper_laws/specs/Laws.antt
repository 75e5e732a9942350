-- What commands and printed lines keep of lines on paper, as laws over any test of what stands there.
use Rattle.std.specs.Prelude.{◌≡◌, ℕ, ◌+◌, Bool, true, false, List, ◌++◌, Some, All}
use Rattle.mas_types.specs.declared.ids.MemberId.{MemberId}
use Rattle.mas_types.specs.declared.ids.JobNo.{JobNo}
use Rattle.mas_types.specs.declared.ids.OutNo.{OutNo}
use Rattle.mas_types.specs.declared.jobs.Output.{Output}
use Rattle.mas_types.specs.declared.jobs.Text.{Text}
use Rattle.mas_types.specs.declared.queues.Queue.{Queue}
use Rattle.mas_types.specs.declared.journals.Entry.{Entry}
use Rattle.mas_types.specs.Ids.{is_somebody, same_member}
use Rattle.mas_types.specs.Queue.{printing_at}
use Rattle.mas_types.specs.Run.{run}
use Rattle.mas_types.specs.Sound.{IsSound}
use Rattle.queue_laws.specs.Runs.{IsGiven}
use Rattle.paper_laws.specs.Counts.{Counts, counts_after, one_more, AreAllowed, is_mark}
use Rattle.paper_laws.specs.Paper.{AreLinesOn, AreMarksOn, AreMarkedLinesOn}

abbrev pub Test : Type 0
Test = JobNo → OutNo → ℕ → Text → Bool

abbrev pub Passed : Test → JobNo → OutNo → ℕ → Text → Type 0
Passed test n i line text = test n i line text ≡ true

-- allowed entries keep it, at each of their places: what is marked stands on paper
abbrev pub EntriesKeepLines : Type 0
EntriesKeepLines =
    (on : Test) (base : Queue) (counts : Counts) (K es : List Entry) → IsSound base → All (IsGiven base) K
    → AreAllowed base (run base K) counts es
    → AreLinesOn (Passed on) base counts K → AreMarksOn (Passed on) base K
    → AreLinesOn (Passed on) base (counts_after es counts) (K ++ es) × AreMarksOn (Passed on) base (K ++ es)

-- a line that the member prints behind those that it has printed keeps it, with entries of others in flight
abbrev pub LinesKeepLines : Type 0
LinesKeepLines =
    (on after : Test) (base : Queue) (counts : Counts) (K es : List Entry) (m : MemberId) (o : Output) → IsSound base
    → All (IsGiven base) K → All (IsGiven base) es
    → is_somebody m ≡ true → All (λ e. same_member e.by m ≡ false) es → printing_at (run base K) m ≡ Some o
    → ((n : JobNo) (i : OutNo) (line : ℕ) (text : Text) → on n i line text ≡ true → after n i line text ≡ true)
    → after o.job o.index (o.mark + counts m + 1) o.text ≡ true
    → AreLinesOn (Passed on) base counts (K ++ es) → AreLinesOn (Passed after) base (one_more m counts) (K ++ es)

-- what stands on paper at each place is what each Mark answered
abbrev pub MarksAnswerLines : Type 0
MarksAnswerLines =
    (on : Test) (base : Queue) (es : List Entry) → IsSound base → All (IsGiven base) es → AreMarksOn (Passed on) base es
    → AreMarkedLinesOn (Passed on) base es

-- entries without a Mark are allowed where they are within the limits, and given by members that may give them
abbrev pub PlainEntriesAreAllowed : Type 0
PlainEntriesAreAllowed = (base Q : Queue) (counts : Counts) (es : List Entry) → All (IsGiven base) es
    → All (λ e. is_mark e.command ≡ false) es → AreAllowed base Q counts es

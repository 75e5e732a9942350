-- What holds of runs of entries, one after another.
use Rattle.std.specs.Prelude.{◌≡◌, true, List, All}
use Rattle.mas_types.specs.declared.journals.Entry.{Entry}
use Rattle.mas_types.specs.declared.queues.Queue.{Queue}
use Rattle.mas_types.specs.Closings.{IsReplyNamed}
use Rattle.mas_types.specs.Fit.{IsFit}
use Rattle.mas_types.specs.Run.{run, replies}
use Rattle.mas_types.specs.Sound.{IsSound}
use Rattle.mas_types.specs.Step.{may_give}
use Rattle.queue_laws.specs.Laws.{IsConfigurationKept}

-- the entry's command is within its limits, and its member may give it
pub record IsGiven (Q : Queue) (e : Entry) : Type 0 where
  pub by : may_give Q e.by e.command ≡ true
  pub fit : IsFit e.command

-- a run keeps the configuration and the routes
abbrev pub RunsKeepConfiguration : Type 0
RunsKeepConfiguration = (Q : Queue) (es : List Entry) → IsConfigurationKept Q (run Q es)

-- a run of entries that may be given keeps the sound parts
abbrev pub RunsKeepSound : Type 0
RunsKeepSound = (Q : Queue) (es : List Entry) → IsSound Q → All (IsGiven Q) es → IsSound (run Q es)

-- each reply of a run names only the operator and members that there may be
abbrev pub RunsNameMembers : Type 0
RunsNameMembers = (Q : Queue) (es : List Entry) → IsSound Q → All (IsGiven Q) es → All IsReplyNamed (replies Q es)

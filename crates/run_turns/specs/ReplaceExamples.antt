-- Worked examples: a copy that is replaced, or isn't.
use Rattle.std.specs.Prelude.{◌≡◌, List, [], ◌∷◌, map, codes}
use Rattle.mas_types.specs.declared.ids.Dev.TheVariants as dev
use Rattle.mas_types.specs.Starts.{default_config}
use Rattle.queue_laws.specs.Examples.Small.{empty}
use Rattle.script_lang.specs.declared.types.Ask.TheVariants as ask
use Rattle.script_lang.specs.declared.types.Step.{Step}
use Rattle.run_turns.specs.Sights.{LostAgain, NotLost, Sight, clear}
use Rattle.run_turns.specs.Cuts.{whole}
use Rattle.run_turns.specs.Runs.{console, outcomes_of}
use Rattle.run_turns.specs.Examples.{Says, line}

-- A COPY IS LOST AND REPLACED, and then the other one is lost
abbrev pub replaced_lines : List Step
replaced_lines =
    line 1 (ask.Lose dev.Ckpt1)
    ∷ line 1 (ask.Replace dev.Ckpt1)
    ∷ line 1 (ask.Deck (codes "//A JOB" ∷ []))
    ∷ line 1 (ask.Lose dev.Ckpt2)
    ∷ []

abbrev pub CopyIsReplaced : Type 0
CopyIsReplaced =
    Says default_config replaced_lines (codes "SYSA 00002 OK" ∷ codes "SYSA 00003 OK JOB00001" ∷ [])

-- A REPLACEMENT that isn't done, of a copy that isn't lost, or whose new device is lost: the lock is free after it
abbrev pub refused_lines : List Step
refused_lines = line 1 (ask.Replace dev.Ckpt1) ∷ line 2 (ask.Replace dev.Ckpt2) ∷ line 1 ask.Lock ∷ []

abbrev pub refused_sights : List Sight
refused_sights = record clear { renewed = NotLost } ∷ record clear { renewed = LostAgain } ∷ []

abbrev pub CopyIsNotReplaced : Type 0
CopyIsNotReplaced =
    map (λ s. s.line) (console (outcomes_of (empty default_config) refused_sights refused_lines))
    ≡ map whole
    (codes "SYSA 00001 NO NOT LOST CKPT1" ∷ codes "SYSB 00002 NO CKPT LOST CKPT2" ∷ codes "SYSA 00003 OK" ∷ [])

-- A HOLDER BY LOCK holds on after a replacement, which another member can't have
abbrev pub held_lines : List Step
held_lines =
    line 1 ask.Lock
    ∷ line 1 (ask.Replace dev.Ckpt2)
    ∷ line 2 (ask.Replace dev.Ckpt2)
    ∷ line 1 ask.Free
    ∷ line 2 (ask.Replace dev.Ckpt2)
    ∷ line 8 (ask.Replace dev.Ckpt2)
    ∷ []

abbrev pub ReplacedUnderLock : Type 0
ReplacedUnderLock =
    Says default_config held_lines
    (codes "SYSA 00001 OK"
    ∷ codes "SYSA 00002 OK"
    ∷ codes "SYSB 00003 BUSY SYSA"
    ∷ codes "SYSA 00004 OK"
    ∷ codes "SYSB 00005 OK"
    ∷ codes "SYSH 00006 NO NO MEMBER"
    ∷ [])

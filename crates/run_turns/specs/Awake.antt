-- Where there is no dormancy no line is refused because it comes too early.
use Rattle.std.specs.Prelude.{◌≡◌, ◌≢◌, ℕ, ◌+◌, List, [], ◌∷◌, drop, get_or}
use Rattle.mas_types.specs.declared.queues.Queue.{Queue}
use Rattle.lock_cycle.specs.declared.answers.LockNo.TheVariants as lock
use Rattle.script_lang.specs.declared.types.Step.{Step}
use Rattle.run_turns.specs.Sights.{Sight, clear}
use Rattle.run_turns.specs.Scenes.{Scene, scene_of}
use Rattle.run_turns.specs.Admissions.{Denied, admitted}
use Rattle.run_turns.specs.Givens.{RightIf}
use Rattle.run_turns.specs.Steps.{played}

abbrev pub IsNotDormant : Scene → Step → Type 0
IsNotDormant S step = (tick : ℕ) → admitted S.queue.config S.book step.by step.what ≢ Denied (lock.Dormant tick)

-- no line of a run that is played, from a scene on
abbrev pub NoneIsDormant : Scene → ℕ → List Sight → List Step → Type 0
NoneIsDormant S at sights [] = Unit {0}
NoneIsDormant S at sights (step ∷ steps) =
    let p = played S at (get_or sights 0 clear) step in
    IsNotDormant S step × RightIf p.goes_on (NoneIsDormant p.next (at + 1) (drop 1 sights) steps)

abbrev pub AwakeRunsAreNotDormant : Type 0
AwakeRunsAreNotDormant = (Q : Queue) (sights : List Sight) (steps : List Step) → Q.config.dormancy ≡ 0
    → NoneIsDormant (scene_of Q) 1 sights steps

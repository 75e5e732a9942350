-- A script that several members play, line after line.
use Rattle.std.specs.Prelude.{ℕ, ◌+◌, ◌==◌, Bool, true, false, ◌&&◌, if◌then◌else◌, List, [], ◌∷◌, ◌++◌, drop, get_or, map}
use Rattle.mas_types.specs.declared.ids.MemberId.{MemberId}
use Rattle.mas_types.specs.declared.journals.Fate.{Fate}
use Rattle.mas_types.specs.declared.journals.Fate.TheVariants.{Kept, Dropped, Flying}
use Rattle.mas_types.specs.declared.queues.Queue.{Queue}
use Rattle.mas_types.specs.Ids.{same_member}
use Rattle.script_lang.specs.declared.types.Ask.{Ask}
use Rattle.script_lang.specs.declared.types.Ask.TheVariants as ask
use Rattle.script_lang.specs.declared.types.Step.{Step}
use Rattle.spool_plant.specs.View.{Line}
use Rattle.run_turns.specs.Sights.{Sight, clear}
use Rattle.run_turns.specs.Scenes.{Batched, Scene, scene_of, with_fate}
use Rattle.run_turns.specs.Steps.{Outcome, Said, played}

-- LINES ONE AFTER ANOTHER, of which the first has this number, up to one that ends the run. What they found stands in a
-- list, and nothing was found lost by those after its end.

abbrev pub outcomes_if : Bool → List Outcome → List Outcome
outcomes_if true os = os
outcomes_if false os = []

abbrev pub outcomes_from : Scene → ℕ → List Sight → List Step → List Outcome
outcomes_from S at sights [] = []
outcomes_from S at sights (step ∷ steps) =
    let p = played S at (get_or sights 0 clear) step in
    p.outcome ∷ outcomes_if p.goes_on (outcomes_from p.next (at + 1) (drop 1 sights) steps)

abbrev pub scene_if : Bool → Scene → Scene → Scene
scene_if true last here = last
scene_if false last here = here

abbrev pub scene_after : Scene → ℕ → List Sight → List Step → Scene
scene_after S at sights [] = S
scene_after S at sights (step ∷ steps) =
    let p = played S at (get_or sights 0 clear) step in
    scene_if p.goes_on (scene_after p.next (at + 1) (drop 1 sights) steps) p.next

-- A run from its first queue. Lines that are steps are numbered from 1.
abbrev pub outcomes_of : Queue → List Sight → List Step → List Outcome
outcomes_of Q sights steps = outcomes_from (scene_of Q) 1 sights steps

-- THE HISTORY

-- what was found of a batch in flight is its fate
abbrev pub fate_then : Fate → Fate → Fate
fate_then found Kept = Kept
fate_then found Dropped = Dropped
fate_then found Flying = found

abbrev pub settled : Fate → List Batched → List Batched
settled found bs = map (λ b. with_fate (fate_then found b.fate) b.entries) bs

-- the batches of the lines one after another, after those that stood there
abbrev pub history_from : List Batched → List Outcome → List Batched
history_from bs [] = bs
history_from bs (o ∷ os) = history_from (settled o.found bs ++ o.batches) os

abbrev pub history : List Outcome → List Batched
history os = history_from [] os

-- THE CONSOLE, and the printers

abbrev pub console : List Outcome → List Said
console [] = []
console (o ∷ os) = o.said ++ console os

-- what the lines of a member print, each line of the script beside its outcome
abbrev pub paper_of : MemberId → List Step → List Outcome → List Line
paper_of m (step ∷ steps) (o ∷ os) = (if same_member step.by m then o.printed else []) ++ paper_of m steps os
paper_of m _ _ = []

-- THE LINES TO OTHER NODES: what the steps of a member give on a line

abbrev pub serves_ask : ℕ → Ask → Bool
serves_ask l (ask.Line n) = n == l
serves_ask l _ = false

abbrev pub serves_line : MemberId → ℕ → Step → Bool
serves_line m l step = same_member step.by m && serves_ask l step.what

abbrev pub given_on : MemberId → ℕ → List Step → List Outcome → List ℕ
given_on m l (step ∷ steps) (o ∷ os) = (if serves_line m l step then o.given else []) ++ given_on m l steps os
given_on m l _ _ = []

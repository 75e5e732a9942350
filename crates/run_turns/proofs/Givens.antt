-- Lines whose pieces are right come to what the script says of them.
use Rattle.std.proofs.Common.{◌≡◌, ℕ, ◌+◌, Bool, true, false, List, [], ◌∷◌, refl, ap, ◌∙◌}
use Rattle.mas_types.specs.declared.ids.MemberId.{MemberId}
use Rattle.script_lang.specs.declared.types.Ask.{Ask}
use Rattle.script_lang.specs.declared.types.Ask.TheVariants as ask
use Rattle.script_lang.specs.declared.types.Step.{Step}
use Rattle.run_turns.specs.Scenes.{Scene}
use Rattle.run_turns.specs.Admissions.{Admission, admitted}
use Rattle.run_turns.specs.Steps.{Played, played_as, played_ask}
use Rattle.run_turns.specs.Runs.{outcomes_from, outcomes_if, scene_after, scene_if}
use Rattle.run_turns.specs.Givens.{ArePiecesOf, AreRight, Given, IsAskRight, RightIf, RightLinesAreTheScript, ask_with, none_given, outcomes_with, played_with, scene_with, sights_of}

-- A LINE

as_right : (S : Scene) (by : MemberId) (at : ℕ) (a : Admission) (g : Given) → ArePiecesOf S by at a g
    → played_with S by at a g ≡ played_as S by at g.sight a
as_right S by at a g right = ap (λ ps. played_with S by at a (record { sight = g.sight; pieces = ps })) right

pub ask_right : (S : Scene) (by : MemberId) (at : ℕ) (g : Given) (what : Ask) → IsAskRight S by at g what
    → ask_with S by at g what ≡ played_ask S by at g.sight what
ask_right S by at g ask.Stop right = refl
ask_right S by at g (ask.StopIn what n) right = refl
ask_right S by at g (ask.Lose dev) right = refl
ask_right S by at g (ask.Deck cards) right = as_right S by at (admitted S.queue.config S.book by (ask.Deck cards)) g right
ask_right S by at g (ask.Command c) right = as_right S by at (admitted S.queue.config S.book by (ask.Command c)) g right
ask_right S by at g (ask.Work n) right = as_right S by at (admitted S.queue.config S.book by (ask.Work n)) g right
ask_right S by at g ask.Lock right = as_right S by at (admitted S.queue.config S.book by ask.Lock) g right
ask_right S by at g ask.Free right = as_right S by at (admitted S.queue.config S.book by ask.Free) g right
ask_right S by at g (ask.Line n) right = as_right S by at (admitted S.queue.config S.book by (ask.Line n)) g right
ask_right S by at g (ask.Replace dev) right = as_right S by at (admitted S.queue.config S.book by (ask.Replace dev)) g right

-- LINES

module _ (at : ℕ) (gs : List Given) (steps : List Step) where
  abbrev Same : Scene → Type 0
  Same S = (outcomes_with S at gs steps ≡ outcomes_from S at (sights_of gs) steps) × (scene_with S at gs steps ≡ scene_after S at (sights_of gs) steps)

  same_if : (b : Bool) (S : Scene) → RightIf b (AreRight S at gs steps) → (AreRight S at gs steps → Same S)
      → (outcomes_if b (outcomes_with S at gs steps) ≡ outcomes_if b (outcomes_from S at (sights_of gs) steps))
      × (scene_if b (scene_with S at gs steps) S ≡ scene_if b (scene_after S at (sights_of gs) steps) S)
  same_if true S right more = more right
  same_if false S right more = (refl, refl)

  same_on : (p q : Played) → p ≡ q → RightIf p.goes_on (AreRight p.next at gs steps) → ((S : Scene) → AreRight S at gs steps → Same S)
      → (p.outcome ∷ outcomes_if p.goes_on (outcomes_with p.next at gs steps) ≡ q.outcome ∷ outcomes_if q.goes_on (outcomes_from q.next at (sights_of gs) steps))
      × (scene_if p.goes_on (scene_with p.next at gs steps) p.next ≡ scene_if q.goes_on (scene_after q.next at (sights_of gs) steps) q.next)
  same_on p q e right more =
      let i = same_if p.goes_on p.next right (more p.next) in (
        ap (λ os. p.outcome ∷ os) i.0 ∙ ap (λ (r : Played). r.outcome ∷ outcomes_if r.goes_on (outcomes_from r.next at (sights_of gs) steps)) e,
        i.1 ∙ ap (λ (r : Played). scene_if r.goes_on (scene_after r.next at (sights_of gs) steps) r.next) e,
      )

pub right_lines : RightLinesAreTheScript
right_lines S at gs [] right = (refl, refl)
right_lines S at [] (step ∷ steps) right = same_on (at + 1) [] steps _ _ (ask_right S step.by at none_given step.what right.0) right.1
    (λ next. right_lines next (at + 1) [] steps)
right_lines S at (g ∷ gs) (step ∷ steps) right = same_on (at + 1) gs steps _ _ (ask_right S step.by at g step.what right.0) right.1
    (λ next. right_lines next (at + 1) gs steps)

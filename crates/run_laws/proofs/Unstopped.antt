-- A run in which no stop of a member is armed.
use Rattle.std.proofs.Common.{◌≡◌, ℕ, ◌+◌, ◌==◌, ◌&&◌, Bool, true, false, if◌then◌else◌, List, [], ◌∷◌, drop, All, refl, ◌∙◌}
use Rattle.std.proofs.lemmas.Bool.{and_right as and_none, ne_eqb}
use Rattle.std.proofs.lemmas.List.Elements.{All-head, All-tail}
use Rattle.mas_types.specs.declared.ids.MemberId.{MemberId}
use Rattle.script_lang.specs.declared.types.Ask.{Ask}
use Rattle.script_lang.specs.declared.types.Ask.TheVariants as ask
use Rattle.script_lang.specs.declared.types.Step.{Step}
use Rattle.spool_plant.specs.Acts.{next}
use Rattle.run_turns.specs.Scenes.{Scene, scene_of}
use Rattle.run_turns.specs.Steps.{is_up}
use Rattle.run_turns.specs.Runs.{scene_if}
use Rattle.run_turns.specs.Givens.{Given, given_first, line_with, scene_with}
use Rattle.mas_run.specs.Lines.{arms_by}
use Rattle.mas_run.specs.Passed.{arms_after}
use Rattle.mas_run.specs.Runs.{LinesBegun, LinesEnded, HavePassed}
use Rattle.mas_run.proofs.PassedLemmas.{arms_ask}
use Rattle.run_laws.specs.Unstopped.{ArmsNone, IsNoArming}

none_by : (S : Scene) (by : MemberId) (what : Ask) (m : ℕ) → (by.0 ≡ m → IsNoArming what) → (arms_by S by what && (by.0 == m)) ≡ false
none_by S by (ask.StopIn what n) m arms = and_none (is_up S by) (by.0 == m) (ne_eqb by.0 m arms)
none_by S by (ask.Deck cards) m arms = refl
none_by S by (ask.Command c) m arms = refl
none_by S by (ask.Work n) m arms = refl
none_by S by (ask.Lose dev) m arms = refl
none_by S by ask.Lock m arms = refl
none_by S by ask.Free m arms = refl
none_by S by (ask.Line n) m arms = refl
none_by S by (ask.Replace dev) m arms = refl
none_by S by ask.Stop m arms = refl

-- what the count is after a line that arms no stop of the member
same_if : (b : Bool) (n : ℕ) → b ≡ false → (if b then next n else n) ≡ n
same_if true n e = absurd (cc)
same_if false n e = refl

ends_as : (b : Bool) (m : ℕ) (last here : Scene) (n k : ℕ) → arms_after m last.armed n ≡ k → arms_after m here.armed n ≡ k → arms_after m (scene_if b last here).armed n ≡ k
ends_as true m last here n k one two = one
ends_as false m last here n k one two = two

none_armed : (m : ℕ) (S : Scene) (at : ℕ) (gs : List Given) (steps : List Step) (n : ℕ) → All (ArmsNone m) steps → arms_after m (scene_with S at gs steps).armed n ≡ arms_after m S.armed n
none_armed m S at gs [] n none = refl
none_armed m S at gs (step ∷ steps) n none =
    let g = given_first gs in
    let p = line_with S at g step in
    let before = arms_after m S.armed n in
    let here : arms_after m p.next.armed n ≡ before =
    arms_ask S step.by at g step.what m n
    ∙ same_if (arms_by S step.by step.what && (step.by.0 == m)) before (none_by S step.by step.what m (All-head (ArmsNone m) step steps none)) in
    let more = none_armed m p.next (at + 1) (drop 1 gs) steps n (All-tail (ArmsNone m) step steps none) in
    ends_as p.goes_on m (scene_with p.next (at + 1) (drop 1 gs) steps) p.next n before (more ∙ here) here

-- no stop was armed before the lines, nor in them
pub still_unarmed : (told : Type 0) (m : ℕ) (b : LinesBegun) (e : LinesEnded) (p : HavePassed told b e) → b.view.arms m ≡ 0 → All (ArmsNone m) b.steps → e.view.arms m ≡ 0
still_unarmed told m b e p before none = p.arms m ∙ none_armed m (scene_of b.from) 1 p.given b.steps (b.view.arms m) none ∙ before

-- What holds of each line that was played, by what it did between two moments of the run.
use Rattle.mas_run.proofs.Names.{List, [], ◌∷◌, drop, ℕ, ◌+◌, sym, subst, Step, Given, RightIf, given_first, played_at, LineAt, ArePassed, Here, IsNext, There, here_after, line_of, Proceeds, proceeds_none}
use Rattle.mas_run.specs.Passed.{AreEach}
use Rattle.mas_run.proofs.PassedLemmas.{by_going, passed_goes}

-- what is known before a line makes this known of it, and as much after it
module _ (told : Type 0) (P : LineAt → Type 0) (Known : List Step → Here → Type 0) (end : There)
    (one : (h : Here) (g : Given) (step : Step) (steps : List Step) (there : There) → Known (step ∷ steps) h → IsNext told h g step there → Proceeds there.view end.view
    → P (line_of h g step) × Known steps (here_after h g step there)) where
  pub each_line : (h : Here) (gs : List Given) (steps : List Step) (many : ℕ) → Known steps h → ArePassed told h gs steps many end → AreEach P h.scene h.number gs steps
  each_line h gs [] many is p = tt
  each_line h gs (step ∷ steps) many is (there, more, so, next, rest) =
      let g = given_first gs in
      let p = played_at (line_of h g step) in
      let after = here_after h g step there in
      let goes : Proceeds there.view end.view = by_going p.goes_on (λ b. Proceeds there.view end.view) rest (λ on m. passed_goes told after (drop 1 gs) steps more end m.1)
      (λ off e. subst (λ (x : There). Proceeds there.view x.view) (sym e.0) (proceeds_none there.view)) in
      let it = one h g step steps there is next goes in
      (it.0, by_going p.goes_on (λ b. RightIf b (AreEach P p.next (h.number + 1) (drop 1 gs) steps)) rest (λ on m. each_line after (drop 1 gs) steps more it.1 m.1) (λ off e. tt))

use Rattle.std.proofs.Common.{◌∙◌, ◌++◌, ◌∷◌, [], sym, ap, length, List, ℕ, arith}
use Rattle.std.proofs.lemmas.List.{length-drop}
use Rattle.mas_types.specs.LinesLeft.{left_in}
use Rattle.mas_types.proofs.LineLemmas.{next_line}
use Rattle.card_reader.proofs.Fronts.{front_more}
use Rattle.card_reader.proofs.decks.front_of.Goals as goal
use Rattle.card_reader.proofs.decks.front_of.Goals.{in-Some+in_ok-push, in_default}

pub loop-at-preserved : goal.loop-at-preserved
loop-at-preserved c =
    let cards = c.args.cards.now in
    elim c.match-next.branch [
      | in-Some+in_ok-push w ↦
          (let card = w.in-Some.card.now in
          let here = next_line cards c.loop-at._at card (left_in c.next.new.self) (sym c.loop-at.invariant.1 ∙ w.in-Some.ensures.steps) in
          rw w.text-is (w.in_ok-push.ensures.ok ∙ ap (λ (l : List (List ℕ)). l ++ card ∷ []) c.loop-at.invariant.0 ∙ sym (front_more c.loop-at._at cards card here.0), here.1))
      | in_default w ↦
          (let none = ap length (sym c.loop-at.invariant.1 ∙ w.in_default.ensures.steps.0) in
          absurd (omega (arith, none, length-drop c.loop-at._at cards)))
    ]

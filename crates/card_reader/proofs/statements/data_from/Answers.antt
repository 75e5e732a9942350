use Rattle.std.proofs.Common.{◌≡◌, ◌∙◌, sym, ap, true, false, rules, arith}
use Rattle.std.proofs.lemmas.List.{drop_all}
use Rattle.mas_types.specs.LinesLeft.{left_in}
use Rattle.mas_types.proofs.LineLemmas.{next_line}
use Rattle.card_reader.specs.Statements.{ends_before, ends_at, data_behind}
use Rattle.card_reader.proofs.Continued.{data_behind-before, data_behind-at, data_behind-more, same_data}
use Rattle.card_reader.proofs.statements.data_from.Goals as goal
use Rattle.card_reader.proofs.statements.data_from.Goals.{else-loop-at-test, then-loop-at-test+in_default, then-loop-at-test+in-Some+then-ends_before}

pub returns-then-ends_at-clause-value : goal.returns-then-ends_at-clause-value
returns-then-ends_at-clause-value c =
    let card = c.in-Some.card.now in
    let here = next_line c.args.cards.now c.loop-at.at card (left_in c.next.new.self) (sym c.loop-at.invariant.left ∙ c.in-Some.ensures.steps) in
    let not_before : ends_before c.args.ending card ≡ false = search rules in
    let is : ends_at c.args.ending card ≡ true = search rules in
    let step = data_behind-at c.args.cards.now c.loop-at.at card here.0 c.args.ending not_before is in
    let cards = rw step at c.loop-at.invariant.cards in
    let taken = rw step at c.loop-at.invariant.taken in
    same_data _ _ (omega arith) (omega arith)

pub loop-at-preserved : goal.loop-at-preserved
loop-at-preserved c =
    let card = c.in-Some.card.now in
    let here = next_line c.args.cards.now c.loop-at.at card (left_in c.next.new.self) (sym c.loop-at.invariant.left ∙ c.in-Some.ensures.steps) in
    let not_before : ends_before c.args.ending card ≡ false = search rules in
    let not_at : ends_at c.args.ending card ≡ false = search rules in
    let step = data_behind-more c.args.cards.now c.loop-at.at card here.0 c.args.ending not_before not_at in
    let cards = rw step at c.loop-at.invariant.cards in
    let taken = rw step at c.loop-at.invariant.taken in
    record { behind = omega arith; within = omega arith; left = here.1; cards = omega arith; taken = omega arith }

pub returns-clause-value : goal.returns-clause-value
returns-clause-value c =
    elim c.loop-at-test.branch [
      | else-loop-at-test w ↦
          (let step = ap (data_behind c.args.ending) (drop_all c.loop-at.at c.args.cards.now (omega arith)) in
          let cards = rw step at c.loop-at.invariant.cards in
          let taken = rw step at c.loop-at.invariant.taken in
          same_data _ _ (omega arith) (omega arith))
      | then-loop-at-test+in_default w ↦
          (let step = ap (data_behind c.args.ending) (sym c.loop-at.invariant.left ∙ w.in_default.ensures.steps.0) in
          let cards = rw step at c.loop-at.invariant.cards in
          let taken = rw step at c.loop-at.invariant.taken in
          same_data _ _ (omega arith) (omega arith))
      | then-loop-at-test+in-Some+then-ends_before w ↦
          (let card = w.in-Some.card.now in
          let here = next_line c.args.cards.now c.loop-at.at card (left_in w.next.new.self) (sym c.loop-at.invariant.left ∙ w.in-Some.ensures.steps) in
          let is : ends_before c.args.ending card ≡ true = search rules in
          let step = data_behind-before c.args.cards.now c.loop-at.at card here.0 c.args.ending is in
          let cards = rw step at c.loop-at.invariant.cards in
          let taken = rw step at c.loop-at.invariant.taken in
          same_data _ _ (omega arith) (omega arith))
    ]

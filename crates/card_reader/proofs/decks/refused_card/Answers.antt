use Rattle.std.proofs.Common.{◌≡◌, ◌∙◌, sym, ap, ◌+◌, true, false, length, rules, arith}
use Rattle.std.proofs.lemmas.List.{length-drop}
use Rattle.mas_types.specs.LinesLeft.{left_in}
use Rattle.mas_types.proofs.LineLemmas.{next_line}
use Rattle.card_reader.specs.Decks.{is_card}
use Rattle.card_reader.proofs.Refusals.{refused-text, refused-many, refused-after, refused-more}
use Rattle.card_reader.proofs.decks.refused_card.Goals as goal

pub loop-at-preserved : goal.loop-at-preserved
loop-at-preserved c =
    let line = c.in-Some.line.now in
    let here = next_line c.args.cards.now c.loop-at.at line (left_in c.next.new.self) (sym c.loop-at.invariant.left ∙ c.in-Some.ensures.steps) in
    let is : is_card line ≡ true = search rules in
    let more = refused-more c.args.cards.now (c.args.end + 1) c.loop-at.at line here.0 is (omega arith) (omega arith) in
    record { within = omega arith; few = omega arith; left = here.1; rest = sym more ∙ c.loop-at.invariant.rest }

pub returns-then-not-is_card-clause-value : goal.returns-then-not-is_card-clause-value
returns-then-not-is_card-clause-value c =
    let line = c.in-Some.line.now in
    let here = next_line c.args.cards.now c.loop-at.at line (left_in c.next.new.self) (sym c.loop-at.invariant.left ∙ c.in-Some.ensures.steps) in
    let is : is_card line ≡ false = search rules in
    sym (refused-text c.args.cards.now (c.args.end + 1) c.loop-at.at line here.0 is) ∙ c.loop-at.invariant.rest

pub returns-then-card-gt-TEXT_LINES_MOST-clause-value : goal.returns-then-card-gt-TEXT_LINES_MOST-clause-value
returns-then-card-gt-TEXT_LINES_MOST-clause-value c =
    let line = c.in-Some.line.now in
    let here = next_line c.args.cards.now c.loop-at.at line (left_in c.next.new.self) (sym c.loop-at.invariant.left ∙ c.in-Some.ensures.steps) in
    let is : is_card line ≡ true = search rules in
    sym (refused-many c.args.cards.now (c.args.end + 1) c.loop-at.at line here.0 is (omega arith)) ∙ c.loop-at.invariant.rest

pub returns-then-at-end-clause-value : goal.returns-then-at-end-clause-value
returns-then-at-end-clause-value c =
    let line = c.in-Some.line.now in
    let here = next_line c.args.cards.now c.loop-at.at line (left_in c.next.new.self) (sym c.loop-at.invariant.left ∙ c.in-Some.ensures.steps) in
    let is : is_card line ≡ true = search rules in
    sym (refused-after c.args.cards.now (c.args.end + 1) c.loop-at.at line here.0 is (omega arith) (omega arith)) ∙ c.loop-at.invariant.rest

pub returns-in_default-clause-few : goal.returns-in_default-clause-few
returns-in_default-clause-few c =
    let none = ap length (sym c.loop-at.invariant.left ∙ c.in_default.ensures.steps.0) in
    omega (arith, none, length-drop c.loop-at.at c.args.cards.now)

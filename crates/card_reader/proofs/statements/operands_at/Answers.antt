use Rattle.std.proofs.Common.{◌≡◌, ◌+◌, ◌++◌, true, false, not, drop, rules}
use Rattle.card_reader.specs.Cards.{is_continued, first_field, ends_quoted}
use Rattle.card_reader.specs.Statements.{continued}
use Rattle.card_reader.proofs.Continued.{operands_from-last, operands_from-more, same_operands}
use Rattle.card_reader.proofs.statements.operands_at.Goals as goal

pub returns-then-not-is_continued-clause-value : goal.returns-then-not-is_continued-clause-value
returns-then-not-is_continued-clause-value c =
    let last : is_continued (first_field c.line.result.now) ≡ false = search rules in
    let whole = operands_from-last c.args.cards.now c.args.at c.line.result.now c.line.ensures last in
    let text : c.append.new.text ≡ first_field c.line.result.now = search rules in
    let ends : not c.is_cut.result ≡ not (ends_quoted false (first_field c.line.result.now)) = search rules in
    rw whole (same_operands _ _ text ends (search rules))

pub returns-clause-value : goal.returns-clause-value
returns-clause-value c =
    let more : is_continued (first_field c.line.result.now) ≡ true = search rules in
    let whole = operands_from-more c.args.cards.now c.args.at c.line.result.now c.line.ensures more in
    let first : c.append.new.text ≡ first_field c.line.result.now = search rules in
    let text : c.append_continued.new.text ≡ first_field c.line.result.now ++ (continued (drop (c.args.at + 1) c.args.cards.now)).text = rw (← first, ← c.behind-from.ensures) c.in_ok-whole.ensures.text in
    let rest : c.in_ok-whole.whole ≡ (continued (drop (c.args.at + 1) c.args.cards.now)).whole = rw (← c.behind-from.ensures) c.in_ok-whole.ensures.whole in
    let cards : c.in_ok-whole.taken ≡ (continued (drop (c.args.at + 1) c.args.cards.now)).cards = rw (← c.behind-from.ensures) c.in_ok-whole.ensures.cards in
    rw whole (same_operands _ _ text rest cards)

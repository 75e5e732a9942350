use Rattle.std.proofs.Common.{◌≡◌, sym, ◌+◌, true, false, drop, rules}
use Rattle.card_reader.specs.Cards.{is_statement_kind, kind_of, operation_of}
use Rattle.card_reader.specs.Statements.{ending_of, data_behind}
use Rattle.card_reader.proofs.Continued.{further_cards-other, further_cards-statement}
use Rattle.card_reader.proofs.statements.further_at.Goals as goal

pub returns-then-not-is_statement-clause-value : goal.returns-then-not-is_statement-clause-value
returns-then-not-is_statement-clause-value c =
    let other : is_statement_kind (kind_of c.line-card.result.now) ≡ false = search rules in
    sym (further_cards-other c.args.cards.now c.args.at c.line-card.result.now c.line-card.ensures other)

pub returns-clause-value : goal.returns-clause-value
returns-clause-value c =
    let is : is_statement_kind (kind_of c.line-card.result.now) ≡ true = search rules in
    let ending : c.ending_of-ending.result ≡ ending_of (operation_of c.line-card.result.now) c.in_ok-operands.operands.text = search rules in
    let cut : c.data_from-data.result ≡ data_behind c.ending_of-ending.result (drop (c.args.at + 1 + c.in_ok-operands.operands.cards) c.args.cards.now) = rw (← c.behind-from.ensures) c.data_from-data.ensures.value in
    sym (further_cards-statement c.args.cards.now c.args.at c.line-card.result.now c.line-card.ensures c.in_ok-operands.operands c.ending_of-ending.result c.data_from-data.result is c.in_ok-operands.ensures.value ending cut)

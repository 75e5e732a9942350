use Rattle.std.proofs.Common.{◌≡◌, true, false, rules, arith}
use Rattle.card_reader.specs.Cards.{is_null_kind, kind_of}
use Rattle.card_reader.proofs.Seen.{cards_to_end-end, cards_to_end-more}
use Rattle.card_reader.proofs.decks.cards_to_end.Goals as goal

pub returns-then-ends_job-clause-value : goal.returns-then-ends_job-clause-value
returns-then-ends_job-clause-value c =
    let is : is_null_kind (kind_of c.line.result.now) ≡ true = search rules in
    let none = cards_to_end-end c.args.cards.now c.loop-at.at c.line.result.now c.line.ensures is in
    let rest = rw none at c.loop-at.invariant.rest in
    omega arith

pub loop-at-preserved : goal.loop-at-preserved
loop-at-preserved c =
    let other : is_null_kind (kind_of c.line.result.now) ≡ false = search rules in
    let more = cards_to_end-more c.args.cards.now c.loop-at.at c.line.result.now c.line.ensures c.in_ok-at.field-0 other c.in_ok-at.ensures.value c.in_ok-at.ensures.within in
    let rest = rw more at c.loop-at.invariant.rest in
    record { within = omega (arith, c.in_ok-at.ensures.within); rest = omega arith }

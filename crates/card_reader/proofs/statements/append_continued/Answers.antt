use Rattle.std.proofs.Common.{◌≡◌, ◌∙◌, sym, ◌++◌, true, false, not, drop, append_assoc, rules, arith}
use Rattle.std.proofs.lemmas.List.{append-nil}
use Rattle.card_reader.specs.Cards.{is_comment, is_continuation, is_continued, ends_quoted, next_field}
use Rattle.card_reader.specs.Statements.{continued}
use Rattle.card_reader.proofs.Continued.{continued-comment, continued-other, continued-last, continued-more}
use Rattle.card_reader.proofs.statements.append_continued.Goals as goal

pub loop-at-preserved-then-is_comment : goal.loop-at-preserved-then-is_comment
loop-at-preserved-then-is_comment c =
    let comment : is_comment c.line-card.result.now ≡ true = search rules in
    let step = continued-comment c.args.cards.now c.loop-at.at c.line-card.result.now c.line-card.ensures comment in
    let cards = rw step at c.loop-at.invariant.cards in
    record {
      behind = omega arith;
      within = omega arith;
      text = rw step at c.loop-at.invariant.text;
      whole = rw step at c.loop-at.invariant.whole;
      cards = omega arith;
    }

pub returns-then-not-is_continuation-clause-text : goal.returns-then-not-is_continuation-clause-text
returns-then-not-is_continuation-clause-text c =
    let no_comment : is_comment c.line-card.result.now ≡ false = search rules in
    let other : is_continuation c.line-card.result.now ≡ false = search rules in
    let step = continued-other c.args.cards.now c.loop-at.at c.line-card.result.now c.line-card.ensures no_comment other in
    sym (append-nil c.loop-at.text) ∙ rw step at c.loop-at.invariant.text

pub returns-then-not-is_continuation-clause-whole : goal.returns-then-not-is_continuation-clause-whole
returns-then-not-is_continuation-clause-whole c =
    let no_comment : is_comment c.line-card.result.now ≡ false = search rules in
    let other : is_continuation c.line-card.result.now ≡ false = search rules in
    let step = continued-other c.args.cards.now c.loop-at.at c.line-card.result.now c.line-card.ensures no_comment other in
    rw step at c.loop-at.invariant.whole

pub returns-then-not-is_continuation-clause-cards : goal.returns-then-not-is_continuation-clause-cards
returns-then-not-is_continuation-clause-cards c =
    let no_comment : is_comment c.line-card.result.now ≡ false = search rules in
    let other : is_continuation c.line-card.result.now ≡ false = search rules in
    let step = continued-other c.args.cards.now c.loop-at.at c.line-card.result.now c.line-card.ensures no_comment other in
    let cards = rw step at c.loop-at.invariant.cards in
    omega arith

pub returns-then-not-is_continued-clause-text : goal.returns-then-not-is_continued-clause-text
returns-then-not-is_continued-clause-text c =
    let no_comment : is_comment c.line-card.result.now ≡ false = search rules in
    let more : is_continuation c.line-card.result.now ≡ true = search rules in
    let last : is_continued (next_field c.line-card.result.now) ≡ false = search rules in
    let step = continued-last c.args.cards.now c.loop-at.at c.line-card.result.now c.line-card.ensures no_comment more last in
    let all : c.loop-at.text ++ next_field c.line-card.result.now ≡ c.args.text.now ++ (continued (drop c.args.from c.args.cards.now)).text = rw step at c.loop-at.invariant.text in
    let added : c.append.new.text ≡ c.loop-at.text ++ next_field c.line-card.result.now = search rules in
    added ∙ all

pub returns-then-not-is_continued-clause-whole : goal.returns-then-not-is_continued-clause-whole
returns-then-not-is_continued-clause-whole c =
    let no_comment : is_comment c.line-card.result.now ≡ false = search rules in
    let more : is_continuation c.line-card.result.now ≡ true = search rules in
    let last : is_continued (next_field c.line-card.result.now) ≡ false = search rules in
    let step = continued-last c.args.cards.now c.loop-at.at c.line-card.result.now c.line-card.ensures no_comment more last in
    let all : not (ends_quoted false (next_field c.line-card.result.now)) ≡ (continued (drop c.args.from c.args.cards.now)).whole = rw step at c.loop-at.invariant.whole in
    let cut : not c.is_cut.result ≡ not (ends_quoted false (next_field c.line-card.result.now)) = search rules in
    cut ∙ all

pub returns-then-not-is_continued-clause-cards : goal.returns-then-not-is_continued-clause-cards
returns-then-not-is_continued-clause-cards c =
    let no_comment : is_comment c.line-card.result.now ≡ false = search rules in
    let more : is_continuation c.line-card.result.now ≡ true = search rules in
    let last : is_continued (next_field c.line-card.result.now) ≡ false = search rules in
    let step = continued-last c.args.cards.now c.loop-at.at c.line-card.result.now c.line-card.ensures no_comment more last in
    let all = rw step at c.loop-at.invariant.cards in
    omega arith

pub loop-at-preserved : goal.loop-at-preserved
loop-at-preserved c =
    let no_comment : is_comment c.line-card.result.now ≡ false = search rules in
    let more : is_continuation c.line-card.result.now ≡ true = search rules in
    let next : is_continued (next_field c.line-card.result.now) ≡ true = search rules in
    let step = continued-more c.args.cards.now c.loop-at.at c.line-card.result.now c.line-card.ensures no_comment more next in
    let cards = rw step at c.loop-at.invariant.cards in
    let text = rw step at c.loop-at.invariant.text in
    let added : c.append.new.text ≡ c.loop-at.text ++ next_field c.line-card.result.now = search rules in
    record {
      behind = omega arith;
      within = omega arith;
      text = rw (added, append_assoc) text;
      whole = rw step at c.loop-at.invariant.whole;
      cards = omega arith;
    }

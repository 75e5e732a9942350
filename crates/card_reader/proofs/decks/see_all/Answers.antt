use Rattle.std.proofs.Common.{◌≡◌, ◌∙◌, sym, true, false, rules, arith}
use Rattle.card_reader.specs.Cards.{is_null_kind, kind_of}
use Rattle.card_reader.proofs.Seen.{seen_after-refused, seen_after-end, seen_after-more}
use Rattle.card_reader.proofs.decks.see_all.Goals as goal

pub returns-in-Err-clause-value : goal.returns-in-Err-clause-value
returns-in-Err-clause-value c =
    sym (seen_after-refused c.args.own c.loop-at.seen c.args.cards.now c.loop-at.at c.line-card.result.now c.line-card.ensures c.in-Err.refused (sym c.in-Err.is ∙ c.in_ok-more.ensures.value)) ∙ c.loop-at.invariant.rest

pub returns-then-ends_job-clause-value : goal.returns-then-ends_job-clause-value
returns-then-ends_job-clause-value c =
    let is : is_null_kind (kind_of c.line-card.result.now) ≡ true = search rules in
    sym (seen_after-end c.args.own c.loop-at.seen c.args.cards.now c.loop-at.at c.line-card.result.now c.line-card.ensures c.in-Ok.more (sym c.in-Ok.is ∙ c.in_ok-more.ensures.value) is) ∙ c.loop-at.invariant.rest

pub loop-at-preserved : goal.loop-at-preserved
loop-at-preserved c =
    let other : is_null_kind (kind_of c.line-card.result.now) ≡ false = search rules in
    let more = seen_after-more c.args.own c.loop-at.seen c.args.cards.now c.loop-at.at c.line-card.result.now c.line-card.ensures c.in-Ok.more c.in_ok-at.field-0 (sym c.in-Ok.is ∙ c.in_ok-more.ensures.value) other c.in_ok-at.ensures.value in
    record { within = omega (arith, c.in_ok-at.ensures.within); rest = sym more ∙ c.loop-at.invariant.rest }

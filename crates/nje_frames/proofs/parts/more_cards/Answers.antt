use Rattle.std.proofs.Common.{◌≡◌, ℕ, false, ◌-◌, List, drop, length, Ok, arith, sym, ap, ◌∙◌}
use Rattle.std.proofs.lemmas.List.{take_rest}
use Rattle.std.proofs.lemmas.Result.{err_from_is_err_and}
use Rattle.nje_frames.specs.Reading.{cards_at, with_cards}
use Rattle.nje_frames.proofs.PartSteps.{cards_end, cards_go, cards_stop, last_end, last_stop, ended_some}
use Rattle.nje_frames.proofs.parts.more_cards.Goals as goal

pub returns-then-is_ended : goal.returns-then-is_ended
returns-then-is_ended c =
    cards_end c.loop.text c.args.most c.loop.counter c.loop.rest.now (with_cards c.args.text.now (cards_at c.args.most c.args.bytes.now)) c.loop.invariant c.loop-test.true (sym c.is_ended.ensures ∙ c.if-is_ended.true)
    ∙ ap (λ (w : List ℕ). Ok (c.loop.text, w)) (sym (take_rest c.loop.rest.now 1))

pub returns-in_err-card : goal.returns-in_err-card
returns-in_err-card c =
    let p = err_from_is_err_and c.from_residual.result c.from_residual.ensures.1 in
    rw (p.1, p.2) (cards_stop c.loop.text c.args.most c.loop.counter c.loop.rest.now (with_cards c.args.text.now (cards_at c.args.most c.args.bytes.now)) c.loop.invariant c.in_err-card.field-0.0 c.loop-test.true (sym c.is_ended.ensures ∙ c.if-is_ended.false) c.in_err-card.ensures)

pub loop-preserved : goal.loop-preserved
loop-preserved c =
    let pushed = c.in_ok-push.ensures.ok in
    rw pushed (cards_go c.loop.text c.args.most c.loop.counter c.loop.rest.now (with_cards c.args.text.now (cards_at c.args.most c.args.bytes.now)) c.loop.invariant c.in_ok-card.card.now c.in_ok-card.after.now c.loop-test.true (sym c.is_ended.ensures ∙ c.if-is_ended.false) c.in_ok-card.ensures)

pub returns-in_err-byte_of : goal.returns-in_err-byte_of
returns-in_err-byte_of c =
    let p = err_from_is_err_and c.from_residual-in_err-byte_of.result c.from_residual-in_err-byte_of.ensures.1 in
    rw (p.1, p.2) (last_stop c.loop.text c.args.most c.loop.counter c.loop.rest.now (with_cards c.args.text.now (cards_at c.args.most c.args.bytes.now)) c.loop.invariant c.in_err-byte_of.field-0.0 c.loop-test.false c.in_err-byte_of.ensures)

pub returns : goal.returns
returns c = last_end c.loop.text c.args.most c.loop.counter c.loop.rest.now (with_cards c.args.text.now (cards_at c.args.most c.args.bytes.now)) c.loop.invariant c.in_ok-byte_of.field-0.now c.loop-test.false c.in_ok-byte_of.ensures

use Rattle.std.proofs.Common.{◌≡◌, ℕ, true, false, ◌<◌, ◌+◌, ◌-◌, List, take, get_or, Ok, arith, sym, ap, ◌∙◌}
use Rattle.std.proofs.lemmas.List.{take_rest}
use Rattle.std.proofs.lemmas.Bool.{ne_eqb, le-ltb, and_left, and_right}
use Rattle.std.specs.Prelude.{nat_lt}
use Rattle.mas_types.specs.Fit.{is_text_byte}
use Rattle.nje_frames.proofs.PartSteps.{card_feed, card_next, card_bad, card_over}
use Rattle.nje_frames.proofs.parts.card_of.Goals as goal

pub loop-at-preserved : goal.loop-at-preserved
loop-at-preserved c =
    let few : c.loop-at.at < 80 = omega arith in
    let text : is_text_byte (get_or c.args.bytes.now c.loop-at.at 0) ≡ true = sym c.is_text_byte.ensures ∙ c.if-not-is_text_byte.false in
    record {
      few = omega arith;
      same = card_next c.args.bytes.now c.loop-at.at c.loop-at-test.true c.loop-at.invariant.same (ne_eqb (get_or c.args.bytes.now c.loop-at.at 0) 10 c.if-byte-eq-LINE_FEED.false) text few;
    }

pub returns-then-byte-eq-LINE_FEED : goal.returns-then-byte-eq-LINE_FEED
returns-then-byte-eq-LINE_FEED c =
    card_feed c.args.bytes.now c.loop-at.at c.loop-at-test.true c.loop-at.invariant.same c.if-byte-eq-LINE_FEED.true
    ∙ ap (λ (w : List ℕ). Ok (take c.loop-at.at c.args.bytes.now, w)) (sym (take_rest c.args.bytes.now (c.loop-at.at + 1)))

pub returns-then-at-ge-CARD_BYTES : goal.returns-then-at-ge-CARD_BYTES
returns-then-at-ge-CARD_BYTES c =
    let full : nat_lt 0 (80 - c.loop-at.at) ≡ false = le-ltb 0 (80 - c.loop-at.at) (omega arith) in
    card_bad c.args.bytes.now c.loop-at.at c.loop-at-test.true c.loop-at.invariant.same (ne_eqb (get_or c.args.bytes.now c.loop-at.at 0) 10 c.if-byte-eq-LINE_FEED.false)
    (and_right (is_text_byte (get_or c.args.bytes.now c.loop-at.at 0)) (nat_lt 0 (80 - c.loop-at.at)) full)

pub returns-then-not-is_text_byte : goal.returns-then-not-is_text_byte
returns-then-not-is_text_byte c =
    let other : is_text_byte (get_or c.args.bytes.now c.loop-at.at 0) ≡ false = sym c.is_text_byte.ensures ∙ c.if-not-is_text_byte.true in
    card_bad c.args.bytes.now c.loop-at.at c.loop-at-test.true c.loop-at.invariant.same (ne_eqb (get_or c.args.bytes.now c.loop-at.at 0) 10 c.if-byte-eq-LINE_FEED.false)
    (and_left (is_text_byte (get_or c.args.bytes.now c.loop-at.at 0)) (nat_lt 0 (80 - c.loop-at.at)) other)

pub returns : goal.returns
returns c = card_over c.args.bytes.now c.loop-at.at (omega arith) c.loop-at.invariant.same

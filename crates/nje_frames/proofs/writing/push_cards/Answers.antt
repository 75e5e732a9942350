use Rattle.nje_frames.proofs.CardLines.{cards_written}
use Rattle.nje_frames.proofs.writing.push_cards.Goals as goal

pub loop-at-preserved : goal.loop-at-preserved
loop-at-preserved c =
    cards_written c.args.bytes.now c.loop-at.bytes c.push_text.new.line c.push.new.self c.args.text.now c.loop-at.at c.line.result.now c.line.ensures c.loop-at.invariant c.in_ok-push_text.ensures c.in_ok-push.ensures.ok

use Rattle.std.proofs.Common.{◌+◌, ◌-◌, arith}
use Rattle.gen_work.specs.Generated.{deck_data_count}
use Rattle.gen_work.proofs.Pieces.{data_more}
use Rattle.gen_work.proofs.script.push_data_cards.Goals as goal

pub loop-number-preserved : goal.loop-number-preserved
loop-number-preserved c =
    data_more c.args.deck c.loop-number.number (c.loop-number.number + 1 - 1) c.args.script.now c.loop-number.script c.push_data_card.new.script (omega arith) (omega arith) c.loop-number.invariant c.in_ok-push_data_card.ensures

pub returns-in_ok-push_data_card : goal.returns-in_ok-push_data_card
returns-in_ok-push_data_card c =
    data_more c.args.deck c.loop-number.number (deck_data_count c.args.deck) c.args.script.now c.loop-number.script c.push_data_card.new.script (omega arith) (omega arith) c.loop-number.invariant c.in_ok-push_data_card.ensures

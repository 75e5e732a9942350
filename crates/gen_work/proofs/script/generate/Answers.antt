use Rattle.std.proofs.Common.{◌∙◌, ◌+◌, ◌-◌, arith, refl}
use Rattle.gen_work.proofs.Pieces.{parts_more, script_whole}
use Rattle.gen_work.proofs.script.generate.Goals as goal
use Rattle.gen_work.proofs.script.generate.Goals.{else-loop-deck-test, then-loop-deck-test+in_ok-push_deck+in_ok-push_work+else-deck-n}

pub loop-deck-preserved : goal.loop-deck-preserved
loop-deck-preserved c =
    parts_more c.loop-deck.deck (c.loop-deck.deck + 1 - 1) c.loop-deck.script c.push_deck.new.script c.push_work.new.script (omega arith) (omega arith) c.loop-deck.invariant c.in_ok-push_deck.ensures c.in_ok-push_work.ensures

pub returns : goal.returns
returns c = elim c.loop-deck-test.branch [
  | else-loop-deck-test w ↦ script_whole c.args.n (c.loop-deck.deck - 1) c.loop-deck-test.script c.push_line.new.script (omega arith) (w.script-is ∙ c.loop-deck.invariant) c.in_ok-push_line.ensures
  | then-loop-deck-test+in_ok-push_deck+in_ok-push_work+else-deck-n w ↦ script_whole c.args.n c.args.n c.loop-deck-test.script c.push_line.new.script refl (w.script-is ∙ parts_more c.loop-deck.deck c.args.n c.loop-deck.script w.push_deck.new.script w.push_work.new.script (omega arith) (omega arith) c.loop-deck.invariant w.in_ok-push_deck.ensures w.in_ok-push_work.ensures) c.in_ok-push_line.ensures
]

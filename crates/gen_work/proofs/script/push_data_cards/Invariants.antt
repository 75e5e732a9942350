use Rattle.std.proofs.Common.{◌≡◌, ◌-◌, ◌++◌, map}
use Rattle.std.specs.List.{range_with_len}
use Rattle.gen_work.specs.Generated.{data_card, lines_text}
use Rattle.gen_work.proofs.script.push_data_cards.Given as goal

-- the lines so far stand at the end
abbrev pub invariant-loop-number : goal.invariant-loop-number
invariant-loop-number l =
    l.script ≡ l.initial.script ++ lines_text (map (data_card l.deck) (range_with_len 1 (l.number - 1)))

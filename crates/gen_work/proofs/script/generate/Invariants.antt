use Rattle.std.proofs.Common.{◌≡◌, ◌-◌}
use Rattle.std.specs.List.{flat_map, range_with_len}
use Rattle.gen_work.specs.Generated.{lines_text, part_lines}
use Rattle.gen_work.proofs.script.generate.Given as goal

-- the decks so far, with the work after them
abbrev pub invariant-loop-deck : goal.invariant-loop-deck
invariant-loop-deck l = l.script ≡ lines_text (flat_map part_lines (range_with_len 1 (l.deck - 1)))

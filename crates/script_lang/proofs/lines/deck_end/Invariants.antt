use Rattle.std.proofs.Common.{◌≡◌, ◌+◌, ◌≤◌, length, drop}
use Rattle.std.specs.List.{list_any, position_or_len}
use Rattle.script_lang.specs.Lines.{is_deck_end, lines_of}
use Rattle.script_lang.proofs.lines.deck_end.Given as goal

-- the lines after those passed decide whether the deck has an end, and where
abbrev pub invariant-loop-rest : goal.invariant-loop-rest
invariant-loop-rest l = record {
  found : list_any is_deck_end (lines_of l.rest) ≡ list_any is_deck_end (lines_of l.fn.script);
  place : l.lines + position_or_len is_deck_end (lines_of l.rest) ≡ position_or_len is_deck_end (lines_of l.fn.script);
  rest : lines_of l.rest ≡ drop l.lines (lines_of l.fn.script);
  within : l.lines + length l.rest ≤ length l.fn.script;
}

abbrev pub decreases-loop-rest : goal.decreases-loop-rest
decreases-loop-rest l = length l.rest

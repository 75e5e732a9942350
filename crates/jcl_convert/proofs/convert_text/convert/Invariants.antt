use Rattle.std.proofs.Common.{◌≡◌, ◌+◌, ◌-◌, ◌≤◌, drop, length}
use Rattle.card_reader.specs.Statements.{items_from, up_to_end}
use Rattle.jcl_convert.specs.Jcl.{converted_after, converted}
use Rattle.jcl_convert.proofs.convert_text.convert.Given as goal

-- the cards that are left decide the conversion, after what was converted so far
abbrev pub invariant-loop-at : goal.invariant-loop-at
invariant-loop-at l = record {
  within : l.at ≤ length l.text;
  rest : converted_after l.fields l.job (up_to_end (items_from (l.at + 1) 0 (drop l.at l.text))) ≡ converted l.fields l.text;
}

abbrev pub decreases-loop-at : goal.decreases-loop-at
decreases-loop-at l = length l.text - l.at

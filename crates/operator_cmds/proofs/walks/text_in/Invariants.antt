use Rattle.std.proofs.Common.{◌≡◌, ◌≤◌, length, drop}
use Rattle.operator_cmds.specs.Walks.{text_in}
use Rattle.operator_cmds.proofs.walks.text_in.Given as goal

-- what is left decides
abbrev pub invariant-loop-place : goal.invariant-loop-place
invariant-loop-place l = record {
  within : l.at ≤ length l.text;
  left : text_in (drop l.place-index l.form) (drop l.at l.text) l.letter ≡ text_in l.form l.text l.letter;
}

use Rattle.std.proofs.Common.{◌≡◌, ◌+◌, ◌≤◌, length, drop, option_map}
use Rattle.operator_cmds.specs.Walks.{stop}
use Rattle.operator_cmds.proofs.walks.stop.Given as goal

-- what is left decides
abbrev pub invariant-loop-letter : goal.invariant-loop-letter
invariant-loop-letter l = record {
  within : l.at ≤ length l.text;
  left : option_map (λ m. l.at + m) (stop (drop l.letter-index l.form) (drop l.at l.text)) ≡ stop l.form l.text;
}

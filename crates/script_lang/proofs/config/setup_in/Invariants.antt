use Rattle.std.proofs.Common.{◌≡◌}
use Rattle.script_lang.specs.Lines.{parts_left}
use Rattle.script_lang.specs.Config.{between_commas, nothing_given, with_operands}
use Rattle.script_lang.proofs.Parts.{length_left}
use Rattle.script_lang.proofs.config.setup_in.Given as goal

-- what is left decides
abbrev pub invariant-loop-rest : goal.invariant-loop-rest
invariant-loop-rest l = with_operands l.given (parts_left 44 l.rest) ≡ with_operands nothing_given (between_commas l.operands)

abbrev pub decreases-loop-rest : goal.decreases-loop-rest
decreases-loop-rest l = length_left l.rest

use Rattle.std.proofs.Common.{◌≡◌, []}
use Rattle.script_lang.specs.Lines.{parts_left}
use Rattle.script_lang.specs.Config.{between_pluses, routes_behind}
use Rattle.script_lang.proofs.Parts.{length_left}
use Rattle.script_lang.proofs.config.routes_in.Given as goal

-- what is left decides
abbrev pub invariant-loop-rest : goal.invariant-loop-rest
invariant-loop-rest l = routes_behind l.routes (parts_left 43 l.rest) ≡ routes_behind [] (between_pluses l.value)

abbrev pub decreases-loop-rest : goal.decreases-loop-rest
decreases-loop-rest l = length_left l.rest

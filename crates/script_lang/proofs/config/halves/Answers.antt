use Rattle.std.proofs.Common.{◌==◌}
use Rattle.script_lang.proofs.Parts.{halves_three}
use Rattle.script_lang.proofs.config.halves.Goals as goal

pub returns-in_default-Some : goal.returns-in_default-Some
returns-in_default-Some c =
    halves_three (λ b. b == c.args.at) c.args.text.now c.in_ok-behind.behind.now c.in_default-Some.field-0-1.now c.cut.result.0.now c.cut-2.result.0.now (rw c.in_ok-behind.was at c.cut.ensures.parts) (rw c.in_default-Some.is-1 at c.cut-2.ensures.parts)

use Rattle.std.proofs.Common.{◌≡◌, Bool, true, false, ◌&&◌}
use Rattle.script_lang.specs.Asks.{is_calm}
use Rattle.script_laws.proofs.LineReads.{line_of_step}
use Rattle.script_laws.proofs.LineSays.{line_calm, step_of_line}
use Rattle.script_laws.proofs.law_of_lines.Goals as goal

in_race : (race calm : Bool) → (race && calm) ≡ false → race ≡ true → calm ≡ false
in_race true calm e is = e
in_race false calm e is = absurd (cc)

pub returns : goal.returns
returns c run words step = (
  λ e.
      let line = line_of_step c.law_of_commands.ensures run words step e in
      (line.0, line.2, λ race. (line_calm words step line.0).0 (in_race run.race (is_calm words) line.1 race)),
  λ is. step_of_line c.law_of_commands.ensures run words step is.1 is.2 is.0,
)

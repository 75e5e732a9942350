use Rattle.std.proofs.Common.{false, refl, true, All}
use Rattle.script_lang.specs.declared.types.Run.{Run}
use Rattle.script_lang.specs.Script.{said}
use Rattle.script_laws.specs.Limits.{IsScript}
use Rattle.script_input.specs.Played.{IsPlayed, MayBeRaced}
use Rattle.script_input.proofs.ScriptLemmas.{all_play, if_read}
use Rattle.script_input.proofs.TypeLemmas.{all_raced}
use Rattle.script_input.proofs.script.read_race.Goals as goal

pub returns-clause-fits : goal.returns-clause-fits
returns-clause-fits c =
    let run : Run = record { cold = c.args.cold; race = true; only = false } in
    if_read (said run c.args.bytes.now) IsScript c.read_script.result c.read_script.ensures.said (λ script e. c.law_of_limits.ensures run c.args.bytes.now script e)

pub returns-clause-plays : goal.returns-clause-plays
returns-clause-plays c =
    let run : Run = record { cold = c.args.cold; race = true; only = false } in
    if_read (said run c.args.bytes.now) (λ script. All IsPlayed script.steps) c.read_script.result c.read_script.ensures.said
    (λ script e. all_play script.steps (c.law_of_limits.ensures run c.args.bytes.now script e).steps (c.law_of_typed_commands.ensures run c.args.bytes.now script e))

pub returns-clause-races : goal.returns-clause-races
returns-clause-races c =
    let run : Run = record { cold = c.args.cold; race = true; only = false } in
    if_read (said run c.args.bytes.now) (λ script. All MayBeRaced script.steps) c.read_script.result c.read_script.ensures.said
    (λ script e. all_raced c.law_of_scripts.ensures run c.args.bytes.now script refl e)

-- What is read is played.
use Rattle.std.proofs.Common.{◌≡◌, refl, true, Ok, Err, List, get_or}
use Rattle.std.specs.Prelude.{All, IfOk, Result}
use Rattle.script_lang.specs.declared.types.Ask.{Ask}
use Rattle.script_lang.specs.declared.types.Ask.TheVariants as ask
use Rattle.script_lang.specs.declared.types.Script.{Script}
use Rattle.script_lang.specs.declared.types.ScriptNo.{ScriptNo}
use Rattle.script_lang.specs.declared.types.Step.{Step}
use Rattle.script_lang.specs.Script.{ComesTo, Said}
use Rattle.script_laws.specs.Limits.{IsStep}
use Rattle.script_input.specs.Laws.{IsTypedIn}
use Rattle.script_input.specs.Played.{IsPlayed, may_ask}

-- a script that was read is one that was said
pub if_read : (is : Said) (A : Script → Type 0) (r : Result Script ScriptNo) → ComesTo r is → ((script : Script) → is ≡ Ok script → A script) → IfOk r A
if_read is A (Ok script) came of = of script came
if_read is A (Err why) came of = tt

typed_built : (what : Ask) → IsTypedIn what → may_ask what ≡ true
typed_built (ask.Deck cards) typed = refl
typed_built (ask.Command given) typed = typed
typed_built (ask.Lose device) typed = refl
typed_built (ask.Work n) typed = refl
typed_built ask.Lock typed = refl
typed_built ask.Free typed = refl
typed_built (ask.Line line) typed = refl
typed_built (ask.Replace copy) typed = refl
typed_built ask.Stop typed = refl
typed_built (ask.StopIn fuse n) typed = refl

-- where each command is typed each step is played
pub all_play : (steps : List Step) → All IsStep steps → All (λ step. IsTypedIn step.what) steps → All IsPlayed steps
all_play steps fit typed = λ k d lt. record { fits = fit k d lt; built = typed_built (get_or steps k d).what (typed k d lt) }

-- Which steps of a script are played.
use Rattle.std.specs.Prelude.{◌≡◌, Bool, true, false}
use Rattle.script_lang.specs.declared.types.Ask.{Ask}
use Rattle.script_lang.specs.declared.types.Ask.TheVariants as ask
use Rattle.script_lang.specs.declared.types.Step.{Step}
use Rattle.script_laws.specs.Grammar.{MayRace}
use Rattle.script_laws.specs.Limits.{IsStep}
use Rattle.script_input.specs.Commands.{is_typed}

-- what a line may ask for; of commands, one that an operator types
abbrev pub may_ask : Ask → Bool
may_ask (ask.Deck cards) = true
may_ask (ask.Command given) = is_typed given
may_ask (ask.Lose device) = true
may_ask (ask.Work n) = true
may_ask ask.Lock = true
may_ask ask.Free = true
may_ask (ask.Line line) = true
may_ask (ask.Replace copy) = true
may_ask ask.Stop = true
may_ask (ask.StopIn fuse n) = true

abbrev pub is_built : Step → Bool
is_built step = may_ask step.what

-- a step that is played, within the limits
pub record IsPlayed (step : Step) : Type 0 where
  pub fits : IsStep step
  pub built : is_built step ≡ true

-- a step that may stand in a race
abbrev pub MayBeRaced : Step → Type 0
MayBeRaced step = MayRace step.what

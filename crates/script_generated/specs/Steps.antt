-- The steps of a script that is generated.
use Rattle.std.specs.Prelude.{◌≡◌, ℕ, ◌%◌, ◌==◌, false, if◌then◌else◌, List, [], ◌∷◌, ◌++◌, Ok}
use Rattle.std.specs.List.{flat_map, range_with_len}
use Rattle.mas_types.specs.declared.ids.MemberId.{MemberId}
use Rattle.script_lang.specs.declared.types.Ask.TheVariants as ask
use Rattle.script_lang.specs.declared.types.Run.{Run}
use Rattle.script_lang.specs.declared.types.Script.{Script}
use Rattle.script_lang.specs.declared.types.Step.{Step}
use Rattle.script_lang.specs.Script.{said}
use Rattle.script_laws.specs.Grammar.{step_of_member}
use Rattle.script_laws.specs.Whole.{default_setup, script_of}
use Rattle.script_input.specs.Script.{read_as}
use Rattle.gen_work.specs.Generated.{IsDeckCount, deck_cards, deck_member, script_text}

abbrev pub sysa : MemberId
sysa = record { 0 = 1 }

abbrev pub sysb : MemberId
sysb = record { 0 = 2 }

abbrev pub deck_step : ℕ → Step
deck_step i = step_of_member (deck_member i) (ask.Deck (deck_cards i))

-- after each fourth deck SYSA works
abbrev pub work_steps : ℕ → List Step
work_steps i = if i % 4 == 0 then step_of_member sysa (ask.Work 40) ∷ [] else []

abbrev pub part_steps : ℕ → List Step
part_steps i = deck_step i ∷ work_steps i

-- the decks in order, and at the end SYSB does the work that is left
abbrev pub script_steps : ℕ → List Step
script_steps n = flat_map part_steps (range_with_len 1 n) ++ step_of_member sysb (ask.Work 9999) ∷ []

-- the script of so many decks, over the default configuration
abbrev pub script_generated : ℕ → Script
script_generated n = script_of default_setup (script_steps n)

-- what is generated is read as this script, in each run that may have steps
abbrev pub ReadsGenerated : Type 0
ReadsGenerated = (run : Run) (n : ℕ) → IsDeckCount n → run.only ≡ false
    → said run (script_text n) ≡ Ok (script_generated n)

-- what is generated is played as this script, in each run that may have steps
abbrev pub PlaysGenerated : Type 0
PlaysGenerated = (run : Run) (n : ℕ) → IsDeckCount n → run.only ≡ false
    → read_as run (script_text n) ≡ Ok (script_generated n)

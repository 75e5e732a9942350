-- A whole script, as a grammar: its CONFIG line, its lines of steps, and the lines that are skipped.
use Rattle.std.specs.Prelude.{◌≡◌, ℕ, Bool, true, false, not, ◌&&◌, ◌||◌, List, [], ◌∷◌, ◌++◌, Some, codes}
use Rattle.std.specs.List.{list_all}
use Rattle.mas_types.specs.declared.ids.MemberId.{MemberId}
use Rattle.mas_types.specs.Starts.{default_config}
use Rattle.script_lang.specs.declared.config.Setup.{Setup}
use Rattle.script_lang.specs.declared.types.Ask.TheVariants as ask
use Rattle.script_lang.specs.declared.types.Run.{Run}
use Rattle.script_lang.specs.declared.types.Script.{Script}
use Rattle.script_lang.specs.declared.types.Step.{Step}
use Rattle.script_lang.specs.Config.{configured}
use Rattle.script_lang.specs.Lines.{has_word, is_deck_end, is_empty, is_line, words_of}
use Rattle.script_lang.specs.Script.{is_deck}
use Rattle.script_laws.specs.Grammar.{IsLineOf, MayRace, step_of_member}

-- a line that is skipped outside decks: at most 255 blanks
abbrev pub is_skipped : List ℕ → Bool
is_skipped line = is_line line && is_empty line

-- a line of words: at most 255 text bytes, not all of them blanks
abbrev pub has_words : List ℕ → Bool
has_words line = is_line line && not (is_empty line)

-- a card: at most 255 text bytes, and not the end of its deck
abbrev pub is_card : List ℕ → Bool
is_card line = is_line line && not (is_deck_end line)

-- the line of a step that may stand in the run: not where it only formats, and in a race only what may stand there
pub record IsStepLine (run : Run) (line : List ℕ) (step : Step) : Type 0 where
  pub text : has_words line ≡ true
  pub words : IsLineOf (words_of line) step
  pub only : run.only ≡ false
  pub race : run.race ≡ true → MayRace step.what

-- lines and their steps. A deck is its DECK line, its cards and `++END`
pub data AreLinesOf (run : Run) : List (List ℕ) → List Step → Type 0 where
  NoLine : AreLinesOf run [] []
  SkippedLine : (line : List ℕ) (lines : List (List ℕ)) (steps : List Step) → is_skipped line ≡ true
      → AreLinesOf run lines steps → AreLinesOf run (line ∷ lines) steps
  StepLine : (line : List ℕ) (lines : List (List ℕ)) (step : Step) (steps : List Step) → IsStepLine run line step
      → is_deck step.what ≡ false → AreLinesOf run lines steps → AreLinesOf run (line ∷ lines) (step ∷ steps)
  DeckLines : (line : List ℕ) (cards : List (List ℕ)) (lines : List (List ℕ)) (m : MemberId) (steps : List Step) → IsStepLine run line (step_of_member m (ask.Deck [])) → list_all is_card cards ≡ true → AreLinesOf run lines steps → AreLinesOf run (line ∷ cards ++ codes "++END" ∷ lines) (step_of_member m (ask.Deck cards) ∷ steps)

-- the line that configures the run: one from an empty queue, or one that only formats
pub record IsConfigLine (run : Run) (line : List ℕ) (setup : Setup) : Type 0 where
  pub text : has_words line ≡ true
  pub config : has_word (words_of line) 0 (codes "CONFIG") ≡ true
  pub may : (run.cold || run.only) ≡ true
  pub says : configured (words_of line) ≡ Some setup

abbrev pub script_of : Setup → List Step → Script
script_of setup steps = record { config = setup.config; routes = setup.routes; steps = steps }

abbrev pub default_setup : Setup
default_setup = record { config = default_config; routes = [] }

-- the lines of a script: with a CONFIG line before all others that are not skipped, or without one
pub data IsScriptOf (run : Run) : List (List ℕ) → Script → Type 0 where
  Plain : (lines : List (List ℕ)) (steps : List Step) → AreLinesOf run lines steps
      → IsScriptOf run lines (script_of default_setup steps)
  Configured : (front : List (List ℕ)) (line : List ℕ) (lines : List (List ℕ)) (setup : Setup) (steps : List Step)
      → list_all is_skipped front ≡ true → IsConfigLine run line setup → AreLinesOf run lines steps
      → IsScriptOf run (front ++ line ∷ lines) (script_of setup steps)

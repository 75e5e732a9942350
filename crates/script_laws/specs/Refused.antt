-- The least line that is refused, in the words of the grammar.
use Rattle.std.specs.Prelude.{◌≡◌, ℕ, ◌+◌, ◌-◌, ◌≤◌, false, List, [], ◌∷◌, ◌++◌, length, take}
use Rattle.std.specs.List.{list_any}
use Rattle.mas_types.specs.declared.ids.MemberId.{MemberId}
use Rattle.mas_types.specs.Limits.{steps_most}
use Rattle.script_lang.specs.declared.types.Ask.TheVariants as ask
use Rattle.script_lang.specs.declared.types.Run.{Run}
use Rattle.script_lang.specs.declared.types.Script.{Script}
use Rattle.script_lang.specs.Lines.{is_deck_end}
use Rattle.script_laws.specs.Grammar.{step_of_member}
use Rattle.script_laws.specs.Whole.{IsScriptOf, IsStepLine}

-- lines with which a script may begin
pub record MayBegin (run : Run) (lines : List (List ℕ)) : Type 0 where
  pub rest : List (List ℕ)
  pub script : Script
  pub is : IsScriptOf run (lines ++ rest) script
  pub short : length script.steps ≤ steps_most

-- the line of this number, counted from 1, is the first with which no script may begin
pub record IsFirstOutside (run : Run) (lines : List (List ℕ)) (number : ℕ) : Type 0 where
  pub numbered : 1 ≤ number
  pub within : number ≤ length lines
  pub before : MayBegin run (take (number - 1) lines)
  pub outside : MayBegin run (take number lines) → ⊥

-- the line of this number is a DECK line, behind which no line ends its deck; a script may begin with the lines before
-- it
pub record IsCutOff (run : Run) (lines : List (List ℕ)) (number : ℕ) : Type 0 where
  pub front : List (List ℕ)
  pub deck : List ℕ
  pub rest : List (List ℕ)
  pub m : MemberId
  pub whole : lines ≡ front ++ deck ∷ rest
  pub numbered : number ≡ length front + 1
  pub before : MayBegin run front
  pub is : IsStepLine run deck (step_of_member m (ask.Deck []))
  pub no_end : list_any is_deck_end rest ≡ false

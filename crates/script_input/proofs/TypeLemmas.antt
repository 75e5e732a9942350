-- The commands of a script are typed.
use Rattle.std.proofs.Common.{◌≡◌, refl, subst, sym, true, List, ℕ, Ok}
use Rattle.std.specs.Prelude.{All}
use Rattle.std.proofs.lemmas.List.Elements.{All-cons, All-nil}
use Rattle.mas_types.specs.declared.commands.Command.{Command}
use Rattle.operator_cmds.specs.declared.forms.Form.{Form}
use Rattle.operator_cmds.specs.declared.forms.Form.TheVariants as form
use Rattle.operator_cmds.specs.Spellings.{IsSpelling, command_of}
use Rattle.script_lang.specs.declared.types.Ask.{Ask}
use Rattle.script_lang.specs.declared.types.Ask.TheVariants as ask
use Rattle.script_lang.specs.declared.types.Run.{Run}
use Rattle.script_lang.specs.declared.types.Script.{Script}
use Rattle.script_lang.specs.declared.types.Step.{Step}
use Rattle.script_lang.specs.Lines.{lines_of, words_of}
use Rattle.script_laws.specs.Grammar.{AsksFor, DeckLine, LockLine, FreeLine, CommandLine, WorkLine, WireLine, FirstCopyLine, SecondCopyLine, IsLineOf, MemberLine, StopLine, StopInLine, StopPrintLine, LoseFirstLine, LoseSecondLine, LoseVolumeLine, step_of_member}
use Rattle.script_laws.specs.Laws.{ReadsScripts}
use Rattle.script_laws.specs.Whole.{AreLinesOf, NoLine, SkippedLine, StepLine, DeckLines, IsScriptOf, Plain, Configured}
use Rattle.script_input.specs.Commands.{is_typed}
use Rattle.script_lang.specs.Script.{said}
use Rattle.script_input.specs.Laws.{IsTypedIn, TypesCommands}
use Rattle.script_input.specs.Played.{MayBeRaced}

abbrev IsTypedStep : Step → Type 0
IsTypedStep step = IsTypedIn step.what

form_typed : (kind : Form) (texts : ℕ → List ℕ) → is_typed (command_of kind texts) ≡ true
form_typed form.Hold texts = refl
form_typed form.Release texts = refl
form_typed form.Cancel texts = refl
form_typed form.SetPrio texts = refl
form_typed form.SetClass texts = refl
form_typed form.Out texts = refl
form_typed form.CancelOut texts = refl
form_typed form.SetOut texts = refl
form_typed form.ShowJob texts = refl
form_typed form.ShowQueue texts = refl
form_typed form.ShowOutputs texts = refl
form_typed form.ShowSpool texts = refl
form_typed form.ShowMembers texts = refl
form_typed form.SetInit texts = refl
form_typed form.SetPrt texts = refl
form_typed form.Back texts = refl
form_typed form.Forward texts = refl
form_typed form.Reset texts = refl

spelled_typed : (given : Command) (text : List ℕ) → IsSpelling given text → is_typed given ≡ true
spelled_typed given text spelled = subst (λ (c : Command). is_typed c ≡ true) (sym spelled.says) (form_typed spelled.kind _)

asks_typed : (words : List (List ℕ)) (what : Ask) → AsksFor words what → IsTypedIn what
asks_typed _ _ DeckLine = tt
asks_typed _ _ LockLine = tt
asks_typed _ _ FreeLine = tt
asks_typed _ _ (CommandLine given text spelled) = spelled_typed given text spelled
asks_typed _ _ (WorkLine n text number) = tt
asks_typed _ _ (WireLine n text number) = tt
asks_typed _ _ FirstCopyLine = tt
asks_typed _ _ SecondCopyLine = tt

line_typed : (words : List (List ℕ)) (step : Step) → IsLineOf words step → IsTypedStep step
line_typed _ _ (MemberLine m name words what named asks) = asks_typed words what asks
line_typed _ _ (StopLine m name named) = tt
line_typed _ _ (StopInLine m name n text named number) = tt
line_typed _ _ (StopPrintLine m name n text named number) = tt
line_typed _ _ LoseFirstLine = tt
line_typed _ _ LoseSecondLine = tt
line_typed _ _ (LoseVolumeLine v text number) = tt

lines_typed : (run : Run) (lines : List (List ℕ)) (steps : List Step) → AreLinesOf run lines steps → All IsTypedStep steps
lines_typed run _ _ NoLine = All-nil IsTypedStep
lines_typed run _ _ (SkippedLine line lines steps is behind) = lines_typed run lines steps behind
lines_typed run _ _ (StepLine line lines step steps is other behind) = All-cons IsTypedStep step steps (line_typed (words_of line) step is.words) (lines_typed run lines steps behind)
lines_typed run _ _ (DeckLines line cards lines m steps is all behind) = All-cons IsTypedStep (step_of_member m (ask.Deck cards)) steps tt (lines_typed run lines steps behind)

script_typed : (run : Run) (lines : List (List ℕ)) (script : Script) → IsScriptOf run lines script → All IsTypedStep script.steps
script_typed run _ _ (Plain lines steps are) = lines_typed run lines steps are
script_typed run _ _ (Configured front line lines setup steps skipped config are) = lines_typed run lines steps are

pub types_commands : ReadsScripts → TypesCommands
types_commands reads run bytes script e = script_typed run (lines_of bytes) script ((reads run bytes script).0 e).2

-- THE LINES OF A RACE are such as may stand in it

lines_raced : (run : Run) (lines : List (List ℕ)) (steps : List Step) → run.race ≡ true → AreLinesOf run lines steps → All MayBeRaced steps
lines_raced run _ _ race NoLine = All-nil MayBeRaced
lines_raced run _ _ race (SkippedLine line lines steps is behind) = lines_raced run lines steps race behind
lines_raced run _ _ race (StepLine line lines step steps is other behind) = All-cons MayBeRaced step steps (is.race race) (lines_raced run lines steps race behind)
lines_raced run _ _ race (DeckLines line cards lines m steps is all behind) = All-cons MayBeRaced (step_of_member m (ask.Deck cards)) steps tt (lines_raced run lines steps race behind)

script_raced : (run : Run) (lines : List (List ℕ)) (script : Script) → run.race ≡ true → IsScriptOf run lines script → All MayBeRaced script.steps
script_raced run _ _ race (Plain lines steps are) = lines_raced run lines steps race are
script_raced run _ _ race (Configured front line lines setup steps skipped config are) = lines_raced run lines steps race are

pub all_raced : ReadsScripts → (run : Run) (bytes : List ℕ) (script : Script) → run.race ≡ true → said run bytes ≡ Ok script
    → All MayBeRaced script.steps
all_raced reads run bytes script race e = script_raced run (lines_of bytes) script race ((reads run bytes script).0 e).2

-- A script that is read is in the grammar.
use Rattle.std.proofs.Common.{◌≡◌, ◌∙◌, sym, ap, subst, ℕ, ◌+◌, Bool, true, false, not, ◌&&◌, ◌||◌, List, [], ◌∷◌, ◌++◌, codes, Option, Some, None, Result, Ok, Err, refl, append_assoc}
use Rattle.std.specs.List.{list_all, list_any}
use Rattle.std.proofs.lemmas.Bool.{and_from, not-false, not_from_false}
use Rattle.std.proofs.lemmas.List.{append-nil}
use Rattle.mas_types.specs.declared.answers.LineCause.{LineCause}
use Rattle.mas_types.specs.declared.answers.LineCause.TheVariants as cause
use Rattle.mas_types.specs.declared.ids.MemberId.{MemberId}
use Rattle.operator_cmds.specs.Laws.{ComputesCommands}
use Rattle.script_lang.specs.declared.config.Setup.{Setup}
use Rattle.script_lang.specs.declared.script.OpenDeck.{OpenDeck}
use Rattle.script_lang.specs.declared.script.State.{State}
use Rattle.script_lang.specs.declared.types.Ask.{Ask}
use Rattle.script_lang.specs.declared.types.Ask.TheVariants as ask
use Rattle.script_lang.specs.declared.types.Run.{Run}
use Rattle.script_lang.specs.declared.types.Script.{Script}
use Rattle.script_lang.specs.declared.types.Step.{Step}
use Rattle.script_lang.specs.Asks.{is_calm, step_of}
use Rattle.script_lang.specs.Config.{configured}
use Rattle.script_lang.specs.Lines.{has_word, is_deck_end, is_empty, is_line, words_of}
use Rattle.script_lang.specs.Script.{with_setup, has_room, with_step, with_deck, is_deck, next_asked, next_step, next_outside, next_card, next_in, next, said_from}
use Rattle.script_laws.specs.Grammar.{AsksFor, DeckLine, LockLine, FreeLine, CommandLine, WorkLine, WireLine, FirstCopyLine, SecondCopyLine, IsLineOf, MemberLine, StopLine, StopInLine, StopPrintLine, LoseFirstLine, LoseSecondLine, LoseVolumeLine, step_of_member}
use Rattle.script_laws.specs.Whole.{is_skipped, has_words, is_card, IsStepLine, AreLinesOf, NoLine, SkippedLine, StepLine, DeckLines, script_of, default_setup, IsScriptOf, Plain, Configured}
use Rattle.script_laws.proofs.ByCases.{if_ok, not_ok, one_ok}
use Rattle.script_laws.proofs.LineReads.{line_of_step}
use Rattle.script_laws.proofs.LineSays.{line_calm}
use Rattle.script_laws.proofs.LineWords.{word_is}
use Rattle.script_laws.proofs.ScriptFits.{script_more}

-- WHAT IS SAID SO FAR, AND WHAT FOLLOWS

abbrev pub state : Script → Bool → Option OpenDeck → State
state so_far seen deck = record { script = so_far; seen = seen; deck = deck }

-- the script with these steps after the steps so far
abbrev pub with_steps : Script → List Step → Script
with_steps so_far steps = record { config = so_far.config; routes = so_far.routes; steps = so_far.steps ++ steps }

pub no_steps : (so_far : Script) → with_steps so_far [] ≡ so_far
no_steps so_far = ap (λ (steps : List Step). let script : Script = record { config = so_far.config; routes = so_far.routes; steps = steps } in script) (append-nil so_far.steps)

pub more_steps : (so_far : Script) (step : Step) (steps : List Step) → with_steps (with_steps so_far (step ∷ [])) steps ≡ with_steps so_far (step ∷ steps)
more_steps so_far step steps = ap (λ (all : List Step). let script : Script = record { config = so_far.config; routes = so_far.routes; steps = all } in script) (append_assoc so_far.steps (step ∷ []) steps)

-- lines outside decks say these steps more
pub record ReadsSteps (run : Run) (so_far : Script) (lines : List (List ℕ)) (script : Script) : Type 0 where
  pub steps : List Step
  pub are : AreLinesOf run lines steps
  pub is : script ≡ with_steps so_far steps

-- lines of an open deck say the rest of its cards, its end, and the steps after its end
pub record ReadsDeck (run : Run) (so_far : Script) (deck : OpenDeck) (lines : List (List ℕ)) (script : Script) : Type 0 where
  pub cards : List (List ℕ)
  pub rest : List (List ℕ)
  pub steps : List Step
  pub each : list_all is_card cards ≡ true
  pub whole : lines ≡ cards ++ codes "++END" ∷ rest
  pub are : AreLinesOf run rest steps
  pub is : script ≡ with_steps so_far (step_of_member deck.by (ask.Deck (deck.cards ++ cards)) ∷ steps)

abbrev pub Reads : Run → Script → Option OpenDeck → List (List ℕ) → Script → Type 0
Reads run so_far None lines script = ReadsSteps run so_far lines script
Reads run so_far (Some deck) lines script = ReadsDeck run so_far deck lines script

-- an open deck has an end
abbrev pub EndsDeck : Option OpenDeck → List (List ℕ) → Type 0
EndsDeck None lines = Unit {0}
EndsDeck (Some deck) lines = list_any is_deck_end lines ≡ true

-- what these lines say, whatever was said before them
abbrev pub ReadsAll : Run → ℕ → List (List ℕ) → Script → Type 0
ReadsAll run number lines script = (so_far : Script) (seen : Bool) (deck : Option OpenDeck) → seen ≡ true → EndsDeck deck lines → said_from run number (state so_far seen deck) lines ≡ Ok script → Reads run so_far deck lines script

-- ONE LINE

skipped_more : (run : Run) (so_far : Script) (line : List ℕ) (lines : List (List ℕ)) (script : Script) → is_skipped line ≡ true → ReadsSteps run so_far lines script → ReadsSteps run so_far (line ∷ lines) script
skipped_more run so_far line lines script is rest = record { steps = rest.steps; are = SkippedLine line lines rest.steps is rest.are; is = rest.is }

step_more : (run : Run) (so_far : Script) (line : List ℕ) (lines : List (List ℕ)) (step : Step) (script : Script) → IsStepLine run line step → is_deck step.what ≡ false → ReadsSteps run (with_steps so_far (step ∷ [])) lines script → ReadsSteps run so_far (line ∷ lines) script
step_more run so_far line lines step script is other rest = record {
  steps = step ∷ rest.steps;
  are = StepLine line lines step rest.steps is other rest.are;
  is = rest.is ∙ more_steps so_far step rest.steps;
}

deck_more : (run : Run) (so_far : Script) (line : List ℕ) (lines : List (List ℕ)) (m : MemberId) (script : Script) → IsStepLine run line (step_of_member m (ask.Deck [])) → ReadsDeck run so_far (record { by = m; cards = [] }) lines script → ReadsSteps run so_far (line ∷ lines) script
deck_more run so_far line lines m script is rest = record {
  steps = step_of_member m (ask.Deck rest.cards) ∷ rest.steps;
  are = subst (λ (ls : List (List ℕ)). AreLinesOf run (line ∷ ls) (step_of_member m (ask.Deck rest.cards) ∷ rest.steps)) (sym rest.whole) (DeckLines line rest.cards rest.rest m rest.steps is rest.each rest.are);
  is = rest.is;
}

end_more : (run : Run) (so_far : Script) (deck : OpenDeck) (line : List ℕ) (lines : List (List ℕ)) (script : Script) → is_deck_end line ≡ true → ReadsSteps run (with_steps so_far (step_of_member deck.by (ask.Deck deck.cards) ∷ [])) lines script → ReadsDeck run so_far deck (line ∷ lines) script
end_more run so_far deck line lines script is rest = record {
  cards = [];
  rest = lines;
  steps = rest.steps;
  each = refl;
  whole = ap (λ (l : List ℕ). l ∷ lines) (word_is line (codes "++END") is);
  are = rest.are;
  is = rest.is ∙ more_steps so_far (step_of_member deck.by (ask.Deck deck.cards)) rest.steps ∙ ap (λ (cards : List (List ℕ)). with_steps so_far (step_of_member deck.by (ask.Deck cards) ∷ rest.steps)) (sym (append-nil deck.cards));
}

card_more : (run : Run) (so_far : Script) (deck : OpenDeck) (line : List ℕ) (lines : List (List ℕ)) (script : Script) → is_card line ≡ true → ReadsDeck run so_far (record { by = deck.by; cards = deck.cards ++ line ∷ [] }) lines script → ReadsDeck run so_far deck (line ∷ lines) script
card_more run so_far deck line lines script is rest = record {
  cards = line ∷ rest.cards;
  rest = rest.rest;
  steps = rest.steps;
  each = and_from (is_card line) (list_all is_card rest.cards) is rest.each;
  whole = ap (λ (ls : List (List ℕ)). line ∷ ls) rest.whole;
  are = rest.are;
  is = rest.is ∙ ap (λ (cards : List (List ℕ)). with_steps so_far (step_of_member deck.by (ask.Deck cards) ∷ rest.steps)) (append_assoc deck.cards (line ∷ []) rest.cards);
}

-- WHICH STEP A LINE IS

in_race : (race calm : Bool) → (race && calm) ≡ false → race ≡ true → calm ≡ false
in_race true calm e is = e
in_race false calm e is = absurd (cc)

pub step_line : (computes : ComputesCommands) (run : Run) (line : List ℕ) (step : Step) → has_words line ≡ true → step_of run (words_of line) ≡ Ok step → IsStepLine run line step
step_line computes run line step text e =
    let read = line_of_step computes run (words_of line) step e in
    record {
      text = text;
      words = read.0;
      only = read.2;
      race = λ race. (line_calm (words_of line) step read.0).0 (in_race run.race (is_calm (words_of line)) read.1 race);
    }

-- a DECK line has no cards yet
words_deck : (words : List (List ℕ)) (a : Ask) → AsksFor words a → is_deck a ≡ true → a ≡ ask.Deck []
words_deck _ _ DeckLine is = refl
words_deck _ _ LockLine is = absurd (cc)
words_deck _ _ FreeLine is = absurd (cc)
words_deck _ _ (CommandLine c text s) is = absurd (cc)
words_deck _ _ (WorkLine n text number) is = absurd (cc)
words_deck _ _ (WireLine n text number) is = absurd (cc)
words_deck _ _ FirstCopyLine is = absurd (cc)
words_deck _ _ SecondCopyLine is = absurd (cc)

pub line_deck : (words : List (List ℕ)) (s : Step) → IsLineOf words s → is_deck s.what ≡ true → s.what ≡ ask.Deck []
line_deck _ _ (MemberLine m name words a named asks) is = words_deck words a asks is
line_deck _ _ (StopLine m name named) is = absurd (cc)
line_deck _ _ (StopInLine m name n text named number) is = absurd (cc)
line_deck _ _ (StopPrintLine m name n text named number) is = absurd (cc)
line_deck _ _ LoseFirstLine is = absurd (cc)
line_deck _ _ LoseSecondLine is = absurd (cc)
line_deck _ _ (LoseVolumeLine v text number) is = absurd (cc)

-- LINES

-- the line of a step, and what the lines after it say
asked_read : (run : Run) (number : ℕ) (so_far : Script) (seen : Bool) (t : State) (line : List ℕ) (lines : List (List ℕ)) (step : Step) (script : Script) → ReadsAll run (number + 1) lines script → IsStepLine run line step → next_asked (state so_far seen None) (list_any is_deck_end lines) step ≡ Ok t → said_from run (number + 1) t lines ≡ Ok script → ReadsSteps run so_far (line ∷ lines) script
asked_read run number so_far seen t line lines step script more is e said =
    if_ok (is_deck step.what) _ _ t (ReadsSteps run so_far (line ∷ lines) script)
    (λ deck e. if_ok (list_any is_deck_end lines) _ _ t (ReadsSteps run so_far (line ∷ lines) script)
    (λ ends e. if_ok (has_room (state so_far seen None)) _ _ t (ReadsSteps run so_far (line ∷ lines) script)
    (λ room e.
    let empty : step ≡ step_of_member step.by (ask.Deck []) = ap (λ (a : Ask). step_of_member step.by a) (line_deck (words_of line) step is.words deck) in
    let said_so : said_from run (number + 1) (with_deck (state so_far seen None) step.by []) lines ≡ Ok script = one_ok t (with_deck (state so_far seen None) step.by []) (λ (u : State). said_from run (number + 1) u lines ≡ Ok script) said (sym e) in
    deck_more run so_far line lines step.by script (subst (IsStepLine run line) empty is) (more so_far true (Some (record { by = step.by; cards = [] })) refl ends said_so))
    (λ room e. not_ok cause.Steps t (ReadsSteps run so_far (line ∷ lines) script) e) e)
    (λ ends e. not_ok cause.End t (ReadsSteps run so_far (line ∷ lines) script) e) e)
    (λ other e. if_ok (has_room (state so_far seen None)) _ _ t (ReadsSteps run so_far (line ∷ lines) script)
    (λ room e.
    let said_so : said_from run (number + 1) (with_step (state so_far seen None) step.by step.what) lines ≡ Ok script = one_ok t (with_step (state so_far seen None) step.by step.what) (λ (u : State). said_from run (number + 1) u lines ≡ Ok script) said (sym e) in
    step_more run so_far line lines step script is other (more (with_steps so_far (step ∷ [])) true None refl tt said_so))
    (λ room e. not_ok cause.Steps t (ReadsSteps run so_far (line ∷ lines) script) e) e) e

step_read : (computes : ComputesCommands) (run : Run) (number : ℕ) (so_far : Script) (seen : Bool) (t : State) (line : List ℕ) (lines : List (List ℕ)) (r : Result Step LineCause) (script : Script) → ReadsAll run (number + 1) lines script → has_words line ≡ true → step_of run (words_of line) ≡ r → next_step (state so_far seen None) (list_any is_deck_end lines) r ≡ Ok t → said_from run (number + 1) t lines ≡ Ok script → ReadsSteps run so_far (line ∷ lines) script
step_read computes run number so_far seen t line lines (Err why) script more text is e said = not_ok why t (ReadsSteps run so_far (line ∷ lines) script) e
step_read computes run number so_far seen t line lines (Ok step) script more text is e said = asked_read run number so_far seen t line lines step script more (step_line computes run line step text is) e said

both : (a b : Bool) → not a ≡ false → b ≡ true → (a && b) ≡ true
both a b left right = and_from a b (not-false a left) right

pub words_there : (line : List ℕ) → not (is_line line) ≡ false → is_empty line ≡ false → has_words line ≡ true
words_there line text some = and_from (is_line line) (not (is_empty line)) (not-false (is_line line) text) (not_from_false (is_empty line) some)

outside_read : (computes : ComputesCommands) (run : Run) (number : ℕ) (so_far : Script) (t : State) (line : List ℕ) (lines : List (List ℕ)) (script : Script) → ReadsAll run (number + 1) lines script → next_outside run (state so_far true None) (list_any is_deck_end lines) line ≡ Ok t → said_from run (number + 1) t lines ≡ Ok script → ReadsSteps run so_far (line ∷ lines) script
outside_read computes run number so_far t line lines script more e said =
    if_ok (not (is_line line)) _ _ t (ReadsSteps run so_far (line ∷ lines) script)
    (λ text e. not_ok cause.Text t (ReadsSteps run so_far (line ∷ lines) script) e)
    (λ text e. if_ok (is_empty line) _ _ t (ReadsSteps run so_far (line ∷ lines) script)
    (λ empty e.
    let said_so : said_from run (number + 1) (state so_far true None) lines ≡ Ok script = one_ok t (state so_far true None) (λ (u : State). said_from run (number + 1) u lines ≡ Ok script) said (sym e) in
    skipped_more run so_far line lines script (both (is_line line) (is_empty line) text empty) (more so_far true None refl tt said_so))
    (λ some e. if_ok (has_word (words_of line) 0 (codes "CONFIG")) _ _ t (ReadsSteps run so_far (line ∷ lines) script)
    (λ config e. not_ok cause.Late t (ReadsSteps run so_far (line ∷ lines) script) e)
    (λ config e. step_read computes run number so_far true t line lines (step_of run (words_of line)) script more (words_there line text some) refl e said) e) e) e

ends_behind : (line : List ℕ) (lines : List (List ℕ)) → is_deck_end line ≡ false → list_any is_deck_end (line ∷ lines) ≡ true → list_any is_deck_end lines ≡ true
ends_behind line lines other ends = rw other at ends

card_read : (run : Run) (number : ℕ) (so_far : Script) (deck : OpenDeck) (t : State) (line : List ℕ) (lines : List (List ℕ)) (script : Script) → ReadsAll run (number + 1) lines script → list_any is_deck_end (line ∷ lines) ≡ true → next_card (state so_far true None) deck line ≡ Ok t → said_from run (number + 1) t lines ≡ Ok script → ReadsDeck run so_far deck (line ∷ lines) script
card_read run number so_far deck t line lines script more ends e said =
    if_ok (is_deck_end line) _ _ t (ReadsDeck run so_far deck (line ∷ lines) script)
    (λ close e.
    let said_so : said_from run (number + 1) (with_step (state so_far true None) deck.by (ask.Deck deck.cards)) lines ≡ Ok script = one_ok t (with_step (state so_far true None) deck.by (ask.Deck deck.cards)) (λ (u : State). said_from run (number + 1) u lines ≡ Ok script) said (sym e) in
    end_more run so_far deck line lines script close (more (with_steps so_far (step_of_member deck.by (ask.Deck deck.cards) ∷ [])) true None refl tt said_so))
    (λ other e. if_ok (is_line line) _ _ t (ReadsDeck run so_far deck (line ∷ lines) script)
    (λ text e.
    let said_so : said_from run (number + 1) (with_deck (state so_far true None) deck.by (deck.cards ++ line ∷ [])) lines ≡ Ok script = one_ok t (with_deck (state so_far true None) deck.by (deck.cards ++ line ∷ [])) (λ (u : State). said_from run (number + 1) u lines ≡ Ok script) said (sym e) in
    card_more run so_far deck line lines script (and_from (is_line line) (not (is_deck_end line)) text (not_from_false (is_deck_end line) other)) (more so_far true (Some (record { by = deck.by; cards = deck.cards ++ line ∷ [] })) refl (ends_behind line lines other ends) said_so))
    (λ text e. not_ok cause.Text t (ReadsDeck run so_far deck (line ∷ lines) script) e) e) e

line_read : (computes : ComputesCommands) (run : Run) (number : ℕ) (so_far : Script) (deck : Option OpenDeck) (t : State) (line : List ℕ) (lines : List (List ℕ)) (script : Script) → ReadsAll run (number + 1) lines script → EndsDeck deck (line ∷ lines) → next_in run (state so_far true None) deck (list_any is_deck_end lines) line ≡ Ok t → said_from run (number + 1) t lines ≡ Ok script → Reads run so_far deck (line ∷ lines) script
line_read computes run number so_far None t line lines script more ends e said = outside_read computes run number so_far t line lines script more e said
line_read computes run number so_far (Some deck) t line lines script more ends e said = card_read run number so_far deck t line lines script more ends e said

nothing_read : (run : Run) (so_far : Script) (deck : Option OpenDeck) (script : Script) → EndsDeck deck [] → so_far ≡ script → Reads run so_far deck [] script
nothing_read run so_far None script ends same = record { steps = []; are = NoLine; is = sym same ∙ sym (no_steps so_far) }
nothing_read run so_far (Some deck) script ends same = absurd (cc)

-- lines behind the first one that is not skipped
pub lines_read : (computes : ComputesCommands) (run : Run) (number : ℕ) (lines : List (List ℕ)) (script : Script) → ReadsAll run number lines script
lines_read computes run number [] script = λ so_far seen deck is ends e. nothing_read run so_far deck script ends (one_ok so_far script (λ (u : Script). so_far ≡ u) refl e)
lines_read computes run number (line ∷ lines) script = λ so_far seen deck is ends e.
    let seen_so : said_from run number (state so_far true deck) (line ∷ lines) ≡ Ok script = subst (λ (v : Bool). said_from run number (state so_far v deck) (line ∷ lines) ≡ Ok script) is e in
    script_more number (λ t. said_from run (number + 1) t lines) (next run (state so_far true deck) (list_any is_deck_end lines) line) script (Reads run so_far deck (line ∷ lines) script)
    (λ t h said. line_read computes run number so_far deck t line lines script (lines_read computes run (number + 1) lines script) ends h said) seen_so

-- WHOLE SCRIPTS

-- the lines of a script in front of which nothing but skipped lines stands
abbrev pub first_state : State
first_state = state (script_of default_setup []) false None

skipped_front : (run : Run) (line : List ℕ) (lines : List (List ℕ)) (script : Script) → is_skipped line ≡ true → IsScriptOf run lines script → IsScriptOf run (line ∷ lines) script
skipped_front run line _ _ is (Plain lines steps are) = Plain (line ∷ lines) steps (SkippedLine line lines steps is are)
skipped_front run line _ _ is (Configured front config lines setup steps all says are) = Configured (line ∷ front) config lines setup steps (and_from (is_skipped line) (list_all is_skipped front) is all) says are

plain_read : (run : Run) (lines : List (List ℕ)) (script : Script) → ReadsSteps run (script_of default_setup []) lines script → IsScriptOf run lines script
plain_read run lines script reads = subst (IsScriptOf run lines) (sym reads.is) (Plain lines reads.steps reads.are)

may_configure : (cold only : Bool) → (not cold && not only) ≡ false → (cold || only) ≡ true
may_configure true only e = refl
may_configure false true e = refl
may_configure false false e = absurd (cc)

setup_read : (computes : ComputesCommands) (run : Run) (number : ℕ) (t : State) (line : List ℕ) (lines : List (List ℕ)) (o : Option Setup) (script : Script) → has_words line ≡ true → has_word (words_of line) 0 (codes "CONFIG") ≡ true → (not run.cold && not run.only) ≡ false → configured (words_of line) ≡ o → with_setup first_state o ≡ Ok t → said_from run (number + 1) t lines ≡ Ok script → IsScriptOf run (line ∷ lines) script
setup_read computes run number t line lines None script text config may says e said = not_ok cause.Config t (IsScriptOf run (line ∷ lines) script) e
setup_read computes run number t line lines (Some setup) script text config may says e said =
    let said_so : said_from run (number + 1) (state (script_of setup []) true None) lines ≡ Ok script = one_ok t (state (script_of setup []) true None) (λ (u : State). said_from run (number + 1) u lines ≡ Ok script) said (sym e) in
    let reads = lines_read computes run (number + 1) lines script (script_of setup []) true None refl tt said_so in
    subst (IsScriptOf run (line ∷ lines)) (sym reads.is)
    (Configured [] line lines setup reads.steps refl (record { text = text; config = config; may = may_configure run.cold run.only may; says = says }) reads.are)

front_read : (computes : ComputesCommands) (run : Run) (number : ℕ) (t : State) (line : List ℕ) (lines : List (List ℕ)) (script : Script) → (said_from run (number + 1) first_state lines ≡ Ok script → IsScriptOf run lines script) → next_outside run first_state (list_any is_deck_end lines) line ≡ Ok t → said_from run (number + 1) t lines ≡ Ok script → IsScriptOf run (line ∷ lines) script
front_read computes run number t line lines script more e said =
    if_ok (not (is_line line)) _ _ t (IsScriptOf run (line ∷ lines) script)
    (λ text e. not_ok cause.Text t (IsScriptOf run (line ∷ lines) script) e)
    (λ text e. if_ok (is_empty line) _ _ t (IsScriptOf run (line ∷ lines) script)
    (λ empty e. skipped_front run line lines script (both (is_line line) (is_empty line) text empty) (more (one_ok t first_state (λ (u : State). said_from run (number + 1) u lines ≡ Ok script) said (sym e))))
    (λ some e. if_ok (has_word (words_of line) 0 (codes "CONFIG")) _ _ t (IsScriptOf run (line ∷ lines) script)
    (λ config e. if_ok (not run.cold && not run.only) _ _ t (IsScriptOf run (line ∷ lines) script)
    (λ warm e. not_ok cause.Warm t (IsScriptOf run (line ∷ lines) script) e)
    (λ warm e. setup_read computes run number t line lines (configured (words_of line)) script (words_there line text some) config warm refl e said) e)
    (λ config e. plain_read run (line ∷ lines) script (step_read computes run number (script_of default_setup []) false t line lines (step_of run (words_of line)) script (lines_read computes run (number + 1) lines script) (words_there line text some) refl e said)) e) e) e

pub script_read : (computes : ComputesCommands) (run : Run) (number : ℕ) (lines : List (List ℕ)) (script : Script) → said_from run number first_state lines ≡ Ok script → IsScriptOf run lines script
script_read computes run number [] script e = one_ok (script_of default_setup []) script (IsScriptOf run []) (Plain [] [] NoLine) e
script_read computes run number (line ∷ lines) script e =
    script_more number (λ t. said_from run (number + 1) t lines) (next run first_state (list_any is_deck_end lines) line) script (IsScriptOf run (line ∷ lines) script)
    (λ t h said. front_read computes run number t line lines script (script_read computes run (number + 1) lines script) h said) e

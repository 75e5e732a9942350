-- A script of the grammar is read as what it says.
use Rattle.std.proofs.Common.{◌≡◌, ◌∙◌, sym, ap, subst, ℕ, ◌+◌, ◌<◌, ◌≤◌, Bool, true, false, not, ◌&&◌, ◌||◌, if◌then◌else◌, List, [], ◌∷◌, ◌++◌, length, codes, Some, None, Ok, refl, append_assoc, length-append, arith}
use Rattle.std.specs.List.{list_all, list_any}
use Rattle.std.proofs.lemmas.Bool.{and_parts, lt-ltb, not-true, not_from_true, or_right}
use Rattle.std.proofs.lemmas.List.{append-nil}
use Rattle.mas_types.specs.declared.ids.MemberId.{MemberId}
use Rattle.mas_types.specs.Limits.{steps_most}
use Rattle.operator_cmds.specs.Laws.{ComputesCommands}
use Rattle.script_lang.specs.declared.config.Setup.{Setup}
use Rattle.script_lang.specs.declared.script.OpenDeck.{OpenDeck}
use Rattle.script_lang.specs.declared.script.State.{State}
use Rattle.script_lang.specs.declared.types.Ask.TheVariants as ask
use Rattle.script_lang.specs.declared.types.Run.{Run}
use Rattle.script_lang.specs.declared.types.Script.{Script}
use Rattle.script_lang.specs.declared.types.Step.{Step}
use Rattle.script_lang.specs.Lines.{has_word, is_deck_end, is_empty, is_line, words_of}
use Rattle.script_lang.specs.Script.{Next, Said, with_setup, has_room, with_step, with_deck, is_deck, next_asked, next_step, next_outside, next_card, and_then, said_from}
use Rattle.script_laws.specs.Grammar.{IsLineOf, MemberLine, StopLine, StopInLine, StopPrintLine, LoseFirstLine, LoseSecondLine, LoseVolumeLine, step_of_member}
use Rattle.script_laws.specs.Whole.{is_skipped, is_card, IsStepLine, AreLinesOf, NoLine, SkippedLine, StepLine, DeckLines, IsConfigLine, script_of, default_setup, IsScriptOf, Plain, Configured}
use Rattle.script_laws.proofs.LineSays.{step_of_line}
use Rattle.script_laws.proofs.ScriptReads.{state, first_state, with_steps, no_steps, more_steps}

-- BY CASES

if_first : (b : Bool) (one other x : Next) → b ≡ true → one ≡ x → (if b then one else other) ≡ x
if_first true one other x is e = e
if_first false one other x is e = absurd (cc)

if_second : (b : Bool) (one other x : Next) → b ≡ false → other ≡ x → (if b then one else other) ≡ x
if_second true one other x is e = absurd (cc)
if_second false one other x is e = e

-- ONE LINE

skipped_next : (run : Run) (s : State) (ends : Bool) (line : List ℕ) → is_skipped line ≡ true → next_outside run s ends line ≡ Ok s
skipped_next run s ends line is =
    let both = and_parts (is_line line) (is_empty line) is in
    if_second (not (is_line line)) _ _ (Ok s) (not_from_true (is_line line) both.0) (if_first (is_empty line) _ _ (Ok s) both.1 refl)

-- the line of a step is no CONFIG line
no_config : (words : List (List ℕ)) (s : Step) → IsLineOf words s → has_word words 0 (codes "CONFIG") ≡ false
no_config _ _ (MemberLine m name words a named asks) = subst (λ (t : List ℕ). has_word (t ∷ words) 0 (codes "CONFIG") ≡ false) (sym named.named) refl
no_config _ _ (StopLine m name named) = refl
no_config _ _ (StopInLine m name n text named number) = refl
no_config _ _ (StopPrintLine m name n text named number) = refl
no_config _ _ LoseFirstLine = refl
no_config _ _ LoseSecondLine = refl
no_config _ _ (LoseVolumeLine v text number) = refl

step_next : (computes : ComputesCommands) (run : Run) (s : State) (ends : Bool) (line : List ℕ) (step : Step) → IsStepLine run line step → next_outside run s ends line ≡ next_asked s ends step
step_next computes run s ends line step is =
    let both = and_parts (is_line line) (not (is_empty line)) is.text in
    if_second (not (is_line line)) _ _ (next_asked s ends step) (not_from_true (is_line line) both.0)
    (if_second (is_empty line) _ _ (next_asked s ends step) (not-true (is_empty line) both.1)
    (if_second (has_word (words_of line) 0 (codes "CONFIG")) _ _ (next_asked s ends step) (no_config (words_of line) step is.words)
    (ap (next_step s ends) (step_of_line computes run (words_of line) step is.only is.race is.words))))

room_is : (s : State) → length s.script.steps < steps_most → has_room s ≡ true
room_is s room = lt-ltb (length s.script.steps) steps_most room

other_next : (s : State) (ends : Bool) (step : Step) → is_deck step.what ≡ false → length s.script.steps < steps_most → next_asked s ends step ≡ Ok (with_step s step.by step.what)
other_next s ends step other room =
    if_second (is_deck step.what) _ _ (Ok (with_step s step.by step.what)) other (if_first (has_room s) _ _ (Ok (with_step s step.by step.what)) (room_is s room) refl)

deck_next : (s : State) (ends : Bool) (m : MemberId) → ends ≡ true → length s.script.steps < steps_most → next_asked s ends (step_of_member m (ask.Deck [])) ≡ Ok (with_deck s m [])
deck_next s ends m there room = if_first ends _ _ (Ok (with_deck s m [])) there (if_first (has_room s) _ _ (Ok (with_deck s m [])) (room_is s room) refl)

card_next : (s : State) (deck : OpenDeck) (line : List ℕ) → is_card line ≡ true → next_card s deck line ≡ Ok (with_deck s deck.by (deck.cards ++ line ∷ []))
card_next s deck line is =
    let both = and_parts (is_line line) (not (is_deck_end line)) is in
    if_second (is_deck_end line) _ _ (Ok (with_deck s deck.by (deck.cards ++ line ∷ []))) (not-true (is_deck_end line) both.1)
    (if_first (is_line line) _ _ (Ok (with_deck s deck.by (deck.cards ++ line ∷ []))) both.0 refl)

config_next : (run : Run) (ends : Bool) (line : List ℕ) (setup : Setup) → IsConfigLine run line setup → next_outside run first_state ends line ≡ Ok (state (script_of setup []) true None)
config_next run ends line setup is =
    let both = and_parts (is_line line) (not (is_empty line)) is.text in
    let x : Next = Ok (state (script_of setup []) true None) in
    if_second (not (is_line line)) _ _ x (not_from_true (is_line line) both.0)
    (if_second (is_empty line) _ _ x (not-true (is_empty line) both.1)
    (if_first (has_word (words_of line) 0 (codes "CONFIG")) _ _ x is.config
    (if_second (not run.cold && not run.only) _ _ x (cold_or_only run.cold run.only is.may)
    (ap (with_setup first_state) is.says))))
  where
    cold_or_only : (cold only : Bool) → (cold || only) ≡ true → (not cold && not only) ≡ false
    cold_or_only true only e = refl
    cold_or_only false true e = refl
    cold_or_only false false e = absurd (cc)

-- DECKS

ends_there : (cards lines : List (List ℕ)) → list_any is_deck_end (cards ++ codes "++END" ∷ lines) ≡ true
ends_there [] lines = refl
ends_there (card ∷ cards) lines = or_right (is_deck_end card) (list_any is_deck_end (cards ++ codes "++END" ∷ lines)) (ends_there cards lines)

-- the cards of an open deck and its end, and what the lines after its end say
cards_said : (run : Run) (m : MemberId) (lines : List (List ℕ)) (script : Script) (cards : List (List ℕ)) → list_all is_card cards ≡ true → (number : ℕ) (so_far : Script) (before : List (List ℕ)) → ((k : ℕ) → said_from run k (state (with_steps so_far (step_of_member m (ask.Deck (before ++ cards)) ∷ [])) true None) lines ≡ Ok script) → said_from run number (state so_far true (Some (record { by = m; cards = before }))) (cards ++ codes "++END" ∷ lines) ≡ Ok script
cards_said run m lines script [] each number so_far before h =
    subst (λ (all : List (List ℕ)). said_from run (number + 1) (state (with_steps so_far (step_of_member m (ask.Deck all) ∷ [])) true None) lines ≡ Ok script) (append-nil before) (h (number + 1))
cards_said run m lines script (card ∷ cards) each number so_far before h =
    let both = and_parts (is_card card) (list_all is_card cards) each in
    let more : (k : ℕ) → said_from run k (state (with_steps so_far (step_of_member m (ask.Deck ((before ++ card ∷ []) ++ cards)) ∷ [])) true None) lines ≡ Ok script =
    λ k. subst (λ (all : List (List ℕ)). said_from run k (state (with_steps so_far (step_of_member m (ask.Deck all) ∷ [])) true None) lines ≡ Ok script) (sym (append_assoc before (card ∷ []) cards)) (h k) in
    ap (and_then number (λ t. said_from run (number + 1) t (cards ++ codes "++END" ∷ lines))) (card_next (state so_far true None) (record { by = m; cards = before }) card both.0)
    ∙ cards_said run m lines script cards both.1 (number + 1) so_far (before ++ card ∷ []) more

-- LINES

fewer : (so_far : Script) (step : Step) (steps : List Step) → length (so_far.steps ++ step ∷ steps) ≤ steps_most → length ((so_far.steps ++ step ∷ []) ++ steps) ≤ steps_most
fewer so_far step steps few = subst (λ (all : List Step). length all ≤ steps_most) (sym (append_assoc so_far.steps (step ∷ []) steps)) few

room_for : (so_far : Script) (step : Step) (steps : List Step) → length (so_far.steps ++ step ∷ steps) ≤ steps_most → length so_far.steps < steps_most
room_for so_far step steps few = omega (arith, length-append so_far.steps (step ∷ steps))

ok_same : (one other : Script) → one ≡ other → ◌≡◌ {A = Said} (Ok one) (Ok other)
ok_same one other e = ap (λ (s : Script). let said : Said = Ok s in said) e

lines_said : (computes : ComputesCommands) (run : Run) (lines : List (List ℕ)) (steps : List Step) → AreLinesOf run lines steps → (number : ℕ) (so_far : Script) (seen : Bool) → length (so_far.steps ++ steps) ≤ steps_most → said_from run number (state so_far seen None) lines ≡ Ok (with_steps so_far steps)
lines_said computes run _ _ NoLine number so_far seen few = ok_same so_far (with_steps so_far []) (sym (no_steps so_far))
lines_said computes run _ _ (SkippedLine line lines steps is are) number so_far seen few =
    ap (and_then number (λ t. said_from run (number + 1) t lines)) (skipped_next run (state so_far seen None) (list_any is_deck_end lines) line is)
    ∙ lines_said computes run lines steps are (number + 1) so_far seen few
lines_said computes run _ _ (StepLine line lines step steps is other are) number so_far seen few =
    ap (and_then number (λ t. said_from run (number + 1) t lines)) (step_next computes run (state so_far seen None) (list_any is_deck_end lines) line step is ∙ other_next (state so_far seen None) (list_any is_deck_end lines) step other (room_for so_far step steps few))
    ∙ lines_said computes run lines steps are (number + 1) (with_steps so_far (step ∷ [])) true (fewer so_far step steps few)
    ∙ ok_same (with_steps (with_steps so_far (step ∷ [])) steps) (with_steps so_far (step ∷ steps)) (more_steps so_far step steps)
lines_said computes run _ _ (DeckLines line cards lines m steps is each are) number so_far seen few =
    let step : Step = step_of_member m (ask.Deck cards) in
    ap (and_then number (λ t. said_from run (number + 1) t (cards ++ codes "++END" ∷ lines))) (step_next computes run (state so_far seen None) (list_any is_deck_end (cards ++ codes "++END" ∷ lines)) line (step_of_member m (ask.Deck [])) is ∙ deck_next (state so_far seen None) (list_any is_deck_end (cards ++ codes "++END" ∷ lines)) m (ends_there cards lines) (room_for so_far step steps few))
    ∙ cards_said run m lines (with_steps so_far (step ∷ steps)) cards each (number + 1) so_far []
    (λ k. lines_said computes run lines steps are k (with_steps so_far (step ∷ [])) true (fewer so_far step steps few) ∙ ok_same (with_steps (with_steps so_far (step ∷ [])) steps) (with_steps so_far (step ∷ steps)) (more_steps so_far step steps))

-- WHOLE SCRIPTS

front_said : (run : Run) (front lines : List (List ℕ)) (script : Script) → list_all is_skipped front ≡ true → (number : ℕ) → ((k : ℕ) → said_from run k first_state lines ≡ Ok script) → said_from run number first_state (front ++ lines) ≡ Ok script
front_said run [] lines script all number h = h number
front_said run (line ∷ front) lines script all number h =
    let both = and_parts (is_skipped line) (list_all is_skipped front) all in
    ap (and_then number (λ t. said_from run (number + 1) t (front ++ lines))) (skipped_next run first_state (list_any is_deck_end (front ++ lines)) line both.0)
    ∙ front_said run front lines script both.1 (number + 1) h

pub script_said : (computes : ComputesCommands) (run : Run) (number : ℕ) (lines : List (List ℕ)) (script : Script) → IsScriptOf run lines script → length script.steps ≤ steps_most → said_from run number first_state lines ≡ Ok script
script_said computes run number _ _ (Plain lines steps are) few = lines_said computes run lines steps are number (script_of default_setup []) false few
script_said computes run number _ _ (Configured front line lines setup steps all is are) few =
    front_said run front (line ∷ lines) (script_of setup steps) all number
    (λ k. ap (and_then k (λ t. said_from run (k + 1) t lines)) (config_next run (list_any is_deck_end lines) line setup is) ∙ lines_said computes run lines steps are (k + 1) (script_of setup []) true few)

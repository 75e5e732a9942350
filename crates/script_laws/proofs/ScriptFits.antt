-- What a script says is within the limits.
use Rattle.std.proofs.Common.{◌≡◌, ℕ, ◌+◌, ◌<◌, ◌≤◌, nat_lt, Bool, true, not, ◌&&◌, List, [], ◌∷◌, ◌++◌, length, codes, Option, Some, None, Result, Ok, Err, lit≤, refl, arith}
use Rattle.std.specs.Prelude.{IfSome}
use Rattle.std.specs.List.{list_any}
use Rattle.std.proofs.lemmas.Bool.{ltb-true}
use Rattle.std.proofs.lemmas.List.{length_push}
use Rattle.std.proofs.lemmas.List.Elements.{All-nil, All-push}
use Rattle.mas_types.specs.declared.answers.LineCause.{LineCause}
use Rattle.mas_types.specs.declared.answers.LineCause.TheVariants as cause
use Rattle.mas_types.specs.declared.ids.MemberId.{MemberId}
use Rattle.mas_types.specs.Limits.{script_bytes, steps_most}
use Rattle.operator_cmds.specs.Laws.{ComputesCommands}
use Rattle.script_lang.specs.declared.config.Setup.{Setup}
use Rattle.script_lang.specs.declared.script.OpenDeck.{OpenDeck}
use Rattle.script_lang.specs.declared.script.State.{State}
use Rattle.script_lang.specs.declared.types.Ask.{Ask}
use Rattle.script_lang.specs.declared.types.Ask.TheVariants as ask
use Rattle.script_lang.specs.declared.types.Run.{Run}
use Rattle.script_lang.specs.declared.types.Script.{Script}
use Rattle.script_lang.specs.declared.types.ScriptNo.TheVariants as no
use Rattle.script_lang.specs.declared.types.Step.{Step}
use Rattle.script_lang.specs.Asks.{step_of}
use Rattle.script_lang.specs.Config.{configured}
use Rattle.script_laws.specs.Limits.{AreCards, IsBy, IsMember, IsRoute, IsScript, IsStep}
use Rattle.script_lang.specs.Lines.{has_word, is_deck_end, is_empty, is_line, lines_of, words_of}
use Rattle.script_lang.specs.Script.{Next, Said, start, with_setup, next_config, has_room, with_step, with_deck, is_deck, next_asked, next_step, next_outside, next_card, closed, next_in, next, and_then, said_from, said}
use Rattle.script_laws.proofs.AskFits.{step-within}
use Rattle.script_laws.proofs.ByCases.{if_ok, not_ok, one_ok}
use Rattle.script_laws.proofs.ConfigFits.{IsSetup, default-within, setup-within}

-- an open deck has a member, cards, and room for its step
pub record IsOpen (s : State) (deck : OpenDeck) : Type 0 where
  pub by : IsMember deck.by
  pub cards : AreCards deck.cards
  pub room : length s.script.steps < steps_most

pub record IsState (s : State) : Type 0 where
  pub script : IsScript s.script
  pub deck : IfSome s.deck (IsOpen s)

-- STEPS

step_added : (s : State) (by : MemberId) (what : Ask) → IsScript s.script → length s.script.steps < steps_most → IsStep (record { by = by; what = what }) → IsState (with_step s by what)
step_added s by what is room step =
    let more : length (s.script.steps ++ (record { by = by; what = what }) ∷ []) ≤ steps_most = omega (arith, length_push s.script.steps (record { by = by; what = what })) in
    record {
      script = record {
        config = is.config;
        few = is.few;
        routes = is.routes;
        apart = is.apart;
        short = more;
        steps = All-push IsStep s.script.steps (record { by = by; what = what }) is.steps step;
      };
      deck = tt;
    }

room_is : (s : State) → has_room s ≡ true → length s.script.steps < steps_most
room_is s is = ltb-true (length s.script.steps) steps_most is

-- a DECK step is a member's
deck_by : (m : MemberId) (a : Ask) → is_deck a ≡ true → IsBy m a → IsMember m
deck_by m (ask.Deck cards) is by = by
deck_by m (ask.Command command) is by = absurd (cc)
deck_by m (ask.Work n) is by = absurd (cc)
deck_by m ask.Lock is by = absurd (cc)
deck_by m ask.Free is by = absurd (cc)
deck_by m (ask.Line line) is by = absurd (cc)
deck_by m (ask.Replace copy) is by = absurd (cc)
deck_by m ask.Stop is by = absurd (cc)
deck_by m (ask.StopIn fuse n) is by = absurd (cc)
deck_by m (ask.Lose device) is by = absurd (cc)

asked : (s t : State) (ends : Bool) (step : Step) → IsScript s.script → IsStep step → next_asked s ends step ≡ Ok t → IsState t
asked s t ends step is fits e =
    if_ok (is_deck step.what) _ _ t (IsState t)
    (λ deck e. if_ok ends _ _ t (IsState t)
    (λ there e. if_ok (has_room s) _ _ t (IsState t)
    (λ room e. one_ok (with_deck s step.by []) t IsState (record { script = is; deck = record { by = deck_by step.by step.what deck fits.by; cards = All-nil (λ card. is_line card ≡ true); room = room_is s room } }) e)
    (λ room e. not_ok cause.Steps t (IsState t) e) e)
    (λ there e. not_ok cause.End t (IsState t) e) e)
    (λ deck e. if_ok (has_room s) _ _ t (IsState t)
    (λ room e. one_ok (with_step s step.by step.what) t IsState (step_added s step.by step.what is (room_is s room) (record { by = fits.by; what = fits.what })) e)
    (λ room e. not_ok cause.Steps t (IsState t) e) e) e

of_step : (s t : State) (ends : Bool) (r : Result Step LineCause) → IsScript s.script → ((step : Step) → r ≡ Ok step → IsStep step) → next_step s ends r ≡ Ok t → IsState t
of_step s t ends (Err why) is fits e = not_ok why t (IsState t) e
of_step s t ends (Ok step) is fits e = asked s t ends step is (fits step refl) e

-- LINES

of_setup : (s t : State) (o : Option Setup) → IsScript s.script → ((setup : Setup) → o ≡ Some setup → IsSetup setup) → with_setup s o ≡ Ok t → IsState t
of_setup s t None is fits e = not_ok cause.Config t (IsState t) e
of_setup s t (Some setup) is fits e =
    let fit = fits setup refl in
    one_ok (record { script = record { config = setup.config; routes = setup.routes; steps = s.script.steps }; seen = true; deck = None }) t IsState
    (record {
      script = record { config = fit.config; few = fit.few; routes = fit.routes; apart = fit.apart; short = is.short; steps = is.steps };
      deck = tt;
    }) e

of_config : (run : Run) (s t : State) (words : List (List ℕ)) → IsScript s.script → next_config run s words ≡ Ok t → IsState t
of_config run s t words is e =
    if_ok s.seen _ _ t (IsState t)
    (λ v e. not_ok cause.Late t (IsState t) e)
    (λ v e. if_ok (not run.cold && not run.only) _ _ t (IsState t)
    (λ v e. not_ok cause.Warm t (IsState t) e)
    (λ v e. of_setup s t (configured words) is (λ setup found. setup-within words setup found) e) e) e

of_outside : ComputesCommands → (run : Run) (s t : State) (ends : Bool) (line : List ℕ) → IsState s → next_outside run s ends line ≡ Ok t → IsState t
of_outside computes run s t ends line is e =
    if_ok (not (is_line line)) _ _ t (IsState t)
    (λ v e. not_ok cause.Text t (IsState t) e)
    (λ v e. if_ok (is_empty line) _ _ t (IsState t)
    (λ v e. one_ok s t IsState is e)
    (λ v e. if_ok (has_word (words_of line) 0 (codes "CONFIG")) _ _ t (IsState t)
    (λ v e. of_config run s t (words_of line) is.script e)
    (λ v e. of_step s t ends (step_of run (words_of line)) is.script (λ step found. step-within computes run (words_of line) step found) e) e) e) e

of_card : (s t : State) (deck : OpenDeck) (line : List ℕ) → IsScript s.script → IsOpen s deck → next_card s deck line ≡ Ok t → IsState t
of_card s t deck line is fits e =
    if_ok (is_deck_end line) _ _ t (IsState t)
    (λ v e. one_ok (with_step s deck.by (ask.Deck deck.cards)) t IsState (step_added s deck.by (ask.Deck deck.cards) is fits.room (record { by = fits.by; what = fits.cards })) e)
    (λ v e. if_ok (is_line line) _ _ t (IsState t)
    (λ v e. one_ok (with_deck s deck.by (deck.cards ++ line ∷ [])) t IsState (record { script = is; deck = record { by = fits.by; cards = All-push (λ card. is_line card ≡ true) deck.cards line fits.cards v; room = fits.room } }) e)
    (λ v e. not_ok cause.Text t (IsState t) e) e) e

of_line : ComputesCommands → (run : Run) (s t : State) (deck : Option OpenDeck) (ends : Bool) (line : List ℕ) → IsScript s.script → IfSome deck (IsOpen s) → next_in run (closed s) deck ends line ≡ Ok t → IsState t
of_line computes run s t None ends line is fits e = of_outside computes run (closed s) t ends line (record { script = is; deck = tt }) e
of_line computes run s t (Some deck) ends line is fits e = of_card (closed s) t deck line is (record { by = fits.by; cards = fits.cards; room = fits.room }) e

-- SCRIPTS

pub script_more : (number : ℕ) (more : State → Said) (r : Next) (script : Script) (P : Type 0) → ((t : State) → r ≡ Ok t → more t ≡ Ok script → P) → and_then number more r ≡ Ok script → P
script_more number more (Ok t) script P h e = h t refl e
script_more number more (Err why) script P h e = not_ok (no.BadLine number why) script P e

pub script_from : ComputesCommands → (run : Run) (number : ℕ) (s : State) (lines : List (List ℕ)) (script : Script) → IsState s → said_from run number s lines ≡ Ok script → IsScript script
script_from computes run number s [] script is e = one_ok s.script script IsScript is.script e
script_from computes run number s (line ∷ lines) script is e =
    script_more number (λ t. said_from run (number + 1) t lines) (next run s (list_any is_deck_end lines) line) script (IsScript script)
    (λ t h more. script_from computes run (number + 1) t lines script (of_line computes run s t s.deck (list_any is_deck_end lines) line is.script is.deck h) more) e

pub start_within : IsState start
start_within = record {
  script = record { config = default-within; few = lit≤ tt; routes = All-nil IsRoute; apart = refl; short = lit≤ tt; steps = All-nil IsStep };
  deck = tt;
}

pub script-within : ComputesCommands → (run : Run) (bytes : List ℕ) (script : Script) → said run bytes ≡ Ok script → IsScript script
script-within computes run bytes script e =
    if_ok (nat_lt script_bytes (length bytes)) _ _ script (IsScript script)
    (λ is e. not_ok no.TooLong script (IsScript script) e)
    (λ is e. script_from computes run 1 start (lines_of bytes) script start_within e) e

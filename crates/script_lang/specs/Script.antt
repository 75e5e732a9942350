-- What a script says: its configuration and its steps, or the least line that is refused.
use Rattle.std.specs.Prelude.{◌≡◌, ℕ, ◌+◌, nat_lt, Bool, true, false, not, ◌&&◌, if◌then◌else◌, List, [], ◌∷◌, ◌++◌, length, codes, Option, Some, None, Result, Ok, Err}
use Rattle.std.specs.List.{list_any}
use Rattle.mas_types.specs.declared.answers.LineCause.{LineCause}
use Rattle.mas_types.specs.declared.answers.LineCause.TheVariants as cause
use Rattle.mas_types.specs.declared.ids.MemberId.{MemberId}
use Rattle.mas_types.specs.Limits.{script_bytes, steps_most}
use Rattle.mas_types.specs.Starts.{default_config}
use Rattle.script_lang.specs.declared.config.Setup.{Setup}
use Rattle.script_lang.specs.declared.script.OpenDeck.{OpenDeck}
use Rattle.script_lang.specs.declared.script.State.{State}
use Rattle.script_lang.specs.declared.types.Ask.{Ask}
use Rattle.script_lang.specs.declared.types.Ask.TheVariants as ask
use Rattle.script_lang.specs.declared.types.Run.{Run}
use Rattle.script_lang.specs.declared.types.Script.{Script}
use Rattle.script_lang.specs.declared.types.ScriptNo.{ScriptNo}
use Rattle.script_lang.specs.declared.types.ScriptNo.TheVariants as no
use Rattle.script_lang.specs.declared.types.Step.{Step}
use Rattle.script_lang.specs.Asks.{step_of}
use Rattle.script_lang.specs.Config.{configured}
use Rattle.script_lang.specs.Lines.{has_word, is_deck_end, is_empty, is_line, lines_of, words_of}

-- before the first line: the default configuration, no routes and no steps
abbrev pub start : State
start = record { script = record { config = default_config; routes = []; steps = [] }; seen = false; deck = None }

-- what a line makes of what was said before it, or its cause
abbrev pub Next : Type 0
Next = Result State LineCause

-- THE CONFIGURATION

abbrev pub with_setup : State → Option Setup → Next
with_setup s None = Err cause.Config
with_setup s (Some setup) = Ok
    (record {
      script = record { config = setup.config; routes = setup.routes; steps = s.script.steps };
      seen = true;
      deck = None;
    })

-- a CONFIG line: the first cause of Late, Warm and Config, or what it sets
abbrev pub next_config : Run → State → List (List ℕ) → Next
next_config run s words =
    if s.seen then Err cause.Late
    else if not run.cold && not run.only then Err cause.Warm
    else with_setup s (configured words)

-- STEPS

-- a step more may stand in the script
abbrev pub has_room : State → Bool
has_room s = nat_lt (length s.script.steps) steps_most

abbrev pub with_step : State → MemberId → Ask → State
with_step s by what = record {
  script = record {
    config = s.script.config;
    routes = s.script.routes;
    steps = s.script.steps
        ++ (record { by = by; what = what }) ∷ [];
  };
  seen = true;
  deck = None;
}

abbrev pub with_deck : State → MemberId → List (List ℕ) → State
with_deck s by cards = record { script = s.script; seen = true; deck = Some (record { by = by; cards = cards }) }

abbrev pub if_room : State → State → Next
if_room s t = if has_room s then Ok t else Err cause.Steps

abbrev pub is_deck : Ask → Bool
is_deck (ask.Deck cards) = true
is_deck others = false

-- a DECK line: a deck is open from here on, where its end is still to come
abbrev pub next_deck : State → Bool → MemberId → Next
next_deck s ends by = if ends then if_room s (with_deck s by []) else Err cause.End

-- the line of a step
abbrev pub next_asked : State → Bool → Step → Next
next_asked s ends step = if is_deck step.what then next_deck s ends step.by else if_room s
    (with_step s step.by step.what)

abbrev pub next_step : State → Bool → Result Step LineCause → Next
next_step s ends (Err why) = Err why
next_step s ends (Ok step) = next_asked s ends step

-- LINES

abbrev pub next_words : Run → State → Bool → List (List ℕ) → Next
next_words run s ends words = if has_word words 0 (codes "CONFIG") then next_config run s words else next_step s ends (step_of run words)

-- a line outside decks
abbrev pub next_outside : Run → State → Bool → List ℕ → Next
next_outside run s ends line =
    if not (is_line line) then Err cause.Text
    else if is_empty line then Ok s
    else next_words run s ends (words_of line)

-- a line of a deck: its end, or a card
abbrev pub next_card : State → OpenDeck → List ℕ → Next
next_card s deck line =
    if is_deck_end line then Ok (with_step s deck.by (ask.Deck deck.cards))
    else if is_line line then Ok (with_deck s deck.by (deck.cards ++ line ∷ []))
    else Err cause.Text

-- no deck is open
abbrev pub closed : State → State
closed s = record { script = s.script; seen = s.seen; deck = None }

abbrev pub next_in : Run → State → Option OpenDeck → Bool → List ℕ → Next
next_in run s None ends line = next_outside run s ends line
next_in run s (Some deck) ends line = next_card s deck line

-- what a line makes of what was said before it, where `ends` says whether a line behind it ends a deck
abbrev pub next : Run → State → Bool → List ℕ → Next
next run s ends line = next_in run (closed s) s.deck ends line

-- SCRIPTS

abbrev pub Said : Type 0
Said = Result Script ScriptNo

-- what follows, unless the line of this number was refused
abbrev pub and_then : ℕ → (State → Said) → Next → Said
and_then number more (Ok s) = more s
and_then number more (Err why) = Err (no.BadLine number why)

-- what the lines from this number on say, behind what was said before
abbrev pub said_from : Run → ℕ → State → List (List ℕ) → Said
said_from run number s [] = Ok s.script
said_from run number s (line ∷ lines) = and_then number (λ t. said_from run (number + 1) t lines)
    (next run s (list_any is_deck_end lines) line)

-- what a script says. Lines are numbered from 1, skipped ones and cards too
abbrev pub said : Run → List ℕ → Said
said run bytes = if nat_lt script_bytes (length bytes) then Err no.TooLong else said_from run 1 start (lines_of bytes)

-- the reading came to what the script says, or memory ran out
abbrev pub ComesTo : Result Script ScriptNo → Said → Type 0
ComesTo (Ok script) is = is ≡ Ok script
ComesTo (Err no.NoMemory) is = Unit {0}
ComesTo (Err no.TooLong) is = is ≡ Err no.TooLong
ComesTo (Err (no.BadLine line why)) is = is ≡ Err (no.BadLine line why)

-- a line was taken: what is said from now on, or its cause
abbrev pub Takes : {A : Type 0} → Result A LineCause → State → Next → Type 0
Takes (Ok done) s is = is ≡ Ok s
Takes (Err why) s is = is ≡ Err why

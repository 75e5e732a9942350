-- The words that the program is called with: a command, and behind it its options and its number, in any order.
use Rattle.std.specs.Prelude.{ℕ, nat_eq, nat_le, Bool, true, false, not, ◌&&◌, ◌||◌, List, [], ◌∷◌, length, drop, Option, Some, None, Result, Ok, Err, ⊤, ◌≡◌, is_some, if◌then◌else◌, codes, unwrap_or}
use Rattle.std.specs.Prelude.{option_and_then, option_map}
use Rattle.std.specs.List.{starts_with}
use Rattle.std.specs.Option.{option_map_or}
use Rattle.std.specs.Str.{bytes_eq}
use Rattle.mas_types.specs.Numerals.{is_numeral, value_of}
use Rattle.mas_words.specs.declared.types.Verb.{Verb}
use Rattle.mas_words.specs.declared.types.Verb.TheVariants as verb
use Rattle.mas_words.specs.declared.types.Words.{Words}
use Rattle.mas_words.specs.declared.types.WordsNo.{WordsNo}
use Rattle.mas_words.specs.declared.types.WordsNo.TheVariants as refused

abbrev pub Text : Type 0
Text = List ℕ

pub data Command : Type 0 where
  play : Command
  race : Command
  format : Command
  report : Command
  check : Command
  generate : Command

abbrev pub command_of : Text → Option Command
command_of word =
    if bytes_eq word (codes "play") then Some play
    else if bytes_eq word (codes "race") then Some race
    else if bytes_eq word (codes "format") then Some format
    else if bytes_eq word (codes "report") then Some report
    else if bytes_eq word (codes "check") then Some check
    else if bytes_eq word (codes "generate") then Some generate
    else None

-- what the words behind the command say, up to one of them
pub record Given : Type 0 where
  pub cold : Bool
  pub dir : Option Text
  pub number : Option Text
  -- the last word was `--dir`, so that the next one is the folder
  pub is_due : Bool

abbrev pub nothing : Given
nothing = record { cold = false; dir = None; number = None; is_due = false }

-- each stands once at most
abbrev pub with_cold : Given → Option Given
with_cold g = if g.cold then None else Some (record g { cold = true })

abbrev pub with_dir : Text → Given → Option Given
with_dir dir g = if is_some g.dir then None else Some (record g { dir = Some dir; is_due = false })

abbrev pub with_number : Text → Given → Option Given
with_number text g = if is_some g.number then None else Some (record g { number = Some text })

-- what was given, with one more word; a word that is no option stands for the number
abbrev pub with_word : Text → Given → Option Given
with_word word g =
    if g.is_due then with_dir word g
    else if bytes_eq word (codes "--cold") then with_cold g
    else if bytes_eq word (codes "--dir") then Some (record g { is_due = true })
    else if starts_with nat_eq word (codes "--dir=") then with_dir (drop 6 word) g
    else with_number word g

abbrev pub with_words : Given → List Text → Option Given
with_words g [] = Some g
with_words g (word ∷ rest) = option_and_then (λ next. with_words next rest) (with_word word g)

-- the name of a folder is not empty, and has no hyphen (45) at its head
abbrev pub is_folder : Text → Bool
is_folder [] = false
is_folder (byte ∷ rest) = not (nat_eq byte 45)

-- the most decks that are generated, and the most digits with which their number is written
abbrev pub decks_most : ℕ
decks_most = 1000

abbrev pub digits_most : ℕ
digits_most = 4

-- 1 to 4 digits of value 1 to 1,000
abbrev pub is_number : Text → Bool
is_number text = is_numeral text && nat_le (length text) digits_most && nat_le 1 (value_of text) && nat_le
    (value_of text) decks_most

-- only `generate` takes a number, and wants one
abbrev pub verb_of : Command → Option Text → Option Verb
verb_of play None = Some verb.Play
verb_of race None = Some verb.Race
verb_of format None = Some verb.Format
verb_of report None = Some verb.Report
verb_of check None = Some verb.Check
verb_of generate (Some text) = if is_number text then Some (verb.Generate (value_of text)) else None
verb_of _ _ = None

abbrev pub takes_cold : Command → Bool
takes_cold play = true
takes_cold race = true
takes_cold _ = false

-- the options are the command's, and no folder is due
abbrev pub has_its_options : Command → Given → Bool
has_its_options command g =
    not g.is_due && (not g.cold || takes_cold command) && option_map_or is_folder g.dir true

abbrev pub words_for : Given → Verb → Words
words_for g v = record { verb = v; cold = g.cold; dir = unwrap_or g.dir [] }

abbrev pub words_with : Command → Given → Option Words
words_with command g = if has_its_options command g then option_map (words_for g) (verb_of command g.number) else None

-- what the words ask for, if they are the program's
abbrev pub words_of : List Text → Option Words
words_of [] = None
words_of (word ∷ rest) =
    option_and_then (λ command. option_and_then (words_with command) (with_words nothing rest)) (command_of word)

-- an answer is what is spelled, and the words are refused exactly where nothing is; memory may be wanting at any time
abbrev pub Reads : {T : Type 0} → Option T → Result T WordsNo → Type 0
Reads spelled (Ok value) = spelled ≡ Some value
Reads spelled (Err refused.Words) = spelled ≡ None
Reads spelled (Err refused.NoMemory) = ⊤

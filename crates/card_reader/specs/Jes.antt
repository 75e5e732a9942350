-- JES2 cards.
use Rattle.std.specs.Prelude.{ℕ, ◌==◌, nat_le, Bool, true, false, not, ◌&&◌, ◌||◌, if◌then◌else◌, Option, Some, None, List, length, drop, codes}
use Rattle.std.specs.Str.{bytes_eq}
use Rattle.mas_types.specs.declared.ids.Name8.{Name8}
use Rattle.mas_types.specs.declared.ids.Prio.{Prio}
use Rattle.mas_types.specs.Limits.{prio_most}
use Rattle.mas_types.specs.Names.{is_name_text, padded}
use Rattle.mas_types.specs.Numerals.{is_numeral, value_of}
use Rattle.card_reader.specs.declared.jes.JesCard.{JesCard}
use Rattle.card_reader.specs.declared.jes.JesCard.TheVariants as jes
use Rattle.card_reader.specs.Cards.{word, behind_word, without_blanks}

-- a priority: 1 to 10 digits of a value of at most 15
abbrev pub prio_of : List ℕ → Option Prio
prio_of text = if is_numeral text && nat_le (value_of text) prio_most then Some (record { 0 = value_of text }) else None

-- a name as a text gives it
abbrev pub name8_of : List ℕ → Option Name8
name8_of text = if is_name_text text then Some (record { 0 = padded text }) else None

-- what a card says that begins with `/*`: its words stand behind these two bytes, in all 80 columns
abbrev pub words_at : List ℕ → List ℕ
words_at card = without_blanks (drop 2 card)

-- the first four words; a word that is missing is empty
abbrev pub first_word : List ℕ → List ℕ
first_word card = word (words_at card)

abbrev pub second_word : List ℕ → List ℕ
second_word card = word (behind_word (words_at card))

abbrev pub third_word : List ℕ → List ℕ
third_word card = word (behind_word (behind_word (words_at card)))

-- what stands behind the second word, and behind the third
abbrev pub behind_second : List ℕ → List ℕ
behind_second card = behind_word (behind_word (words_at card))

abbrev pub behind_third : List ℕ → List ℕ
behind_third card = behind_word (behind_second card)

-- `/*PRIORITY`, whatever stands after it
abbrev pub is_priority : List ℕ → Bool
is_priority card = bytes_eq (first_word card) (codes "PRIORITY")

abbrev pub priority_card : Option Prio → Option JesCard
priority_card None = None
priority_card (Some prio) = Some (jes.Priority prio)

abbrev pub print_card : Option Name8 → Option JesCard
print_card None = None
print_card (Some name) = Some (jes.Print name)

abbrev pub node_card : Option Name8 → Option JesCard
node_card None = None
node_card (Some name) = Some (jes.Xeq name)

-- `RESTART=Y` or `RESTART=N`
abbrev pub restart_card : List ℕ → Option JesCard
restart_card value =
    if bytes_eq value (codes "RESTART=Y") then Some (jes.Restart true)
    else if bytes_eq value (codes "RESTART=N") then Some (jes.Restart false)
    else None

-- `PRIORITY p`, `JOBPARM RESTART=Y`
abbrev pub card_of_two : List ℕ → List ℕ → Option JesCard
card_of_two first second =
    if bytes_eq first (codes "PRIORITY") then priority_card (prio_of second)
    else if bytes_eq first (codes "JOBPARM") then restart_card second
    else None

-- `PRINT name`, `XEQ name`
abbrev pub route_card : List ℕ → List ℕ → Option JesCard
route_card second third =
    if bytes_eq second (codes "PRINT") then print_card (name8_of third)
    else if bytes_eq second (codes "XEQ") then node_card (name8_of third)
    else None

-- a card of two words, or `ROUTE` with two words behind it, and nothing further
abbrev pub jes_of : List ℕ → Option JesCard
jes_of card =
    if length (behind_second card) == 0 then card_of_two (first_word card) (second_word card)
    else if not (length (behind_third card) == 0) || not (bytes_eq (first_word card) (codes "ROUTE")) then None
    else route_card (second_word card) (third_word card)

-- Statements: their operands over all their cards, the data behind them, and the cards that are read by themselves.
use Rattle.std.specs.Prelude.{ℕ, zero, suc, ◌+◌, ◌==◌, nat_eq, Bool, true, false, not, ◌&&◌, ◌||◌, if◌then◌else◌, Option, Some, None, List, [], ◌∷◌, ◌++◌, length, drop, slice_index, codes}
use Rattle.std.specs.List.{starts_with}
use Rattle.std.specs.Str.{bytes_eq}
use Rattle.card_reader.specs.declared.cards.Kind.{Kind}
use Rattle.card_reader.specs.declared.cards.Kind.TheVariants as kind
use Rattle.card_reader.specs.declared.cards.Operation.{Operation}
use Rattle.card_reader.specs.declared.cards.Operation.TheVariants as operation
use Rattle.card_reader.specs.declared.statements.Operands.{Operands}
use Rattle.card_reader.specs.declared.statements.Ending.{Ending}
use Rattle.card_reader.specs.declared.statements.Ending.TheVariants as ending
use Rattle.card_reader.specs.declared.statements.DataCards.{DataCards}
use Rattle.card_reader.specs.Cards.{is_comment, is_delimiter, kind_of, is_null_kind, operation_of, ends_quoted, first_field, is_continuation, next_field, is_continued}
use Rattle.card_reader.specs.Operands.{first_operand, operands_of, is_plain}

-- THE OPERANDS OVER ALL CARDS

-- a continuation that is missing
abbrev pub missing : Operands
missing = record { text = []; whole = false; cards = 0 }

-- the operands, where they continue one card further
abbrev pub one_further : Operands → Operands
one_further rest = record { text = rest.text; whole = rest.whole; cards = 1 + rest.cards }

-- a card's field, with what continues it where it has to be continued
abbrev pub with_field : List ℕ → Operands → Operands
with_field field rest =
    if is_continued field then record { text = field ++ rest.text; whole = rest.whole; cards = rest.cards }
    else record { text = field; whole = not (ends_quoted false field); cards = 0 }

-- What continues a statement, on the cards behind its last one. Comments are passed over, and a card that is no
-- continuation makes it missing.
abbrev pub continued : List (List ℕ) → Operands
continued [] = missing
continued (card ∷ cards) =
    if is_comment card then one_further (continued cards)
    else if is_continuation card then one_further (with_field (next_field card) (continued cards))
    else missing

-- the operands of the statement with which these cards begin
abbrev pub operands_from : List (List ℕ) → Operands
operands_from [] = missing
operands_from (card ∷ cards) = with_field (first_field card) (continued cards)

-- DATA

-- the two bytes of `DLM=xx`, neither an apostrophe nor a parenthesis
abbrev pub mark_of : List ℕ → Option (ℕ × ℕ)
mark_of operand =
    if starts_with nat_eq operand (codes "DLM=") && (length operand == 6) && is_plain (slice_index operand 4) && is_plain (slice_index operand 5)
    then Some (slice_index operand 4, slice_index operand 5) else None

abbrev pub later_mark : Option (ℕ × ℕ) → Option (ℕ × ℕ) → Option (ℕ × ℕ)
later_mark before None = before
later_mark before (Some mark) = Some mark

-- the last mark that operands give, after one
abbrev pub marks_after : Option (ℕ × ℕ) → List (List ℕ) → Option (ℕ × ℕ)
marks_after mark [] = mark
marks_after mark (operand ∷ operands) = marks_after (later_mark mark (mark_of operand)) operands

abbrev pub marked_or : Ending → Option (ℕ × ℕ) → Ending
marked_or other None = other
marked_or other (Some (first, second)) = ending.Marked first second

-- What ends the data of a statement: of a DD whose first operand is `*` or `DATA`.
abbrev pub ending_of : Operation → List ℕ → Ending
ending_of operation.Dd operands =
    if bytes_eq (first_operand operands) (codes "*") then marked_or ending.Statement (marks_after None (operands_of operands))
    else if bytes_eq (first_operand operands) (codes "DATA") then marked_or ending.Delimiter (marks_after None (operands_of operands))
    else ending.NoData
ending_of operation.Job operands = ending.NoData
ending_of operation.Exec operands = ending.NoData
ending_of operation.Other operands = ending.NoData

-- a `/*` card that is read as a JES2 card
abbrev pub is_jes : List ℕ → Bool
is_jes card = starts_with nat_eq card (codes "/*") && not (is_delimiter card)

-- whether data ends before a card
abbrev pub ends_before : Ending → List ℕ → Bool
ends_before ending.NoData card = true
ends_before ending.Statement card = starts_with nat_eq card (codes "//") || is_jes card
ends_before ending.Delimiter card = is_jes card
ends_before (ending.Marked first second) card = false

-- whether a card ends data, and is read with it
abbrev pub ends_at : Ending → List ℕ → Bool
ends_at ending.NoData card = false
ends_at ending.Statement card = is_delimiter card
ends_at ending.Delimiter card = is_delimiter card
ends_at (ending.Marked first second) card = starts_with nat_eq card (first ∷ second ∷ [])

abbrev pub one_card_more : DataCards → DataCards
one_card_more rest = record { cards = 1 + rest.cards; taken = 1 + rest.taken }

-- the cards of data with which these cards begin
abbrev pub data_behind : Ending → List (List ℕ) → DataCards
data_behind ends [] = record { cards = 0; taken = 0 }
data_behind ends (card ∷ cards) =
    if ends_before ends card then record { cards = 0; taken = 0 }
    else if ends_at ends card then record { cards = 0; taken = 1 }
    else one_card_more (data_behind ends cards)

-- THE CARDS THAT ARE READ BY THEMSELVES

-- the cards of data behind a statement with these operands
abbrev pub statement_data : List ℕ → Operands → List (List ℕ) → DataCards
statement_data card operands behind = data_behind (ending_of (operation_of card) operands.text)
    (drop operands.cards behind)

abbrev pub further_of_kind : Kind → List ℕ → List (List ℕ) → ℕ
further_of_kind kind.Statement card behind = (operands_from (card ∷ behind)).cards
    + (statement_data card (operands_from (card ∷ behind)) behind).taken
further_of_kind kind.Comment card behind = 0
further_of_kind kind.Null card behind = 0
further_of_kind kind.Delimiter card behind = 0
further_of_kind kind.Jes card behind = 0
further_of_kind kind.Stray card behind = 0

-- how many cards are read with the first one: those that continue a statement, and its data
abbrev pub further_cards : List (List ℕ) → ℕ
further_cards [] = 0
further_cards (card ∷ behind) = further_of_kind (kind_of card) card behind

-- a card that is read by itself, its number in the deck, and the cards behind it
pub record Item : Type 0 where
  pub number : ℕ
  pub card : List ℕ
  pub behind : List (List ℕ)

-- the cards that are read by themselves, from a number on, behind so many that are not
abbrev pub items_from : ℕ → ℕ → List (List ℕ) → List Item
items_from n skipped [] = []
items_from n (suc skipped) (card ∷ cards) = items_from (n + 1) skipped cards
items_from n zero (card ∷ cards) = record { number = n; card = card; behind = cards }
    ∷ items_from (n + 1) (further_cards (card ∷ cards)) cards

-- whether an item ends the job
abbrev pub ends_job : Item → Bool
ends_job item = is_null_kind (kind_of item.card)

-- the items up to the first that ends the job, with it
abbrev pub up_to_end : List Item → List Item
up_to_end [] = []
up_to_end (item ∷ items) = if ends_job item then item ∷ [] else item ∷ up_to_end items

-- the cards outside data that are read of a deck, numbered from 1
abbrev pub items_of : List (List ℕ) → List Item
items_of cards = up_to_end (items_from 1 0 cards)

-- the number of cards before the one that ends the job, behind so many that are passed over
abbrev pub cards_to_end : ℕ → List (List ℕ) → ℕ
cards_to_end skipped [] = 0
cards_to_end (suc skipped) (card ∷ cards) = 1 + cards_to_end skipped cards
cards_to_end zero (card ∷ cards) = if is_null_kind (kind_of card) then 0 else 1
    + cards_to_end (further_cards (card ∷ cards)) cards

-- the first of some cards
abbrev pub first_of : List (List ℕ) → List ℕ
first_of [] = []
first_of (card ∷ cards) = card

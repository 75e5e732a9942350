-- Decks: what each says of its job, or the least card that is refused and why.
use Rattle.std.specs.Prelude.{ℕ, is_some, unwrap_or, ◌+◌, nat_le, nat_lt, Bool, true, false, not, ◌&&◌, if◌then◌else◌, Option, Some, None, Result, Ok, Err, List, [], ◌∷◌, length, take}
use Rattle.mas_types.specs.declared.answers.CardCause.{CardCause}
use Rattle.mas_types.specs.declared.answers.CardCause.TheVariants as cause
use Rattle.mas_types.specs.declared.ids.Name8.{Name8}
use Rattle.mas_types.specs.declared.ids.Prio.{Prio}
use Rattle.mas_types.specs.declared.jobs.JobFields.{JobFields}
use Rattle.mas_types.specs.Fit.{is_text_line}
use Rattle.mas_types.specs.Limits.{card_bytes, text_lines_most}
use Rattle.mas_types.specs.Names.{local_name, padded}
use Rattle.card_reader.specs.declared.cards.Kind.{Kind}
use Rattle.card_reader.specs.declared.cards.Kind.TheVariants as kind
use Rattle.card_reader.specs.declared.cards.Operation.{Operation}
use Rattle.card_reader.specs.declared.cards.Operation.TheVariants as operation
use Rattle.card_reader.specs.declared.decks.Refused.{Refused}
use Rattle.card_reader.specs.declared.decks.Seen.{Seen}
use Rattle.card_reader.specs.declared.decks.DeckNo.{DeckNo}
use Rattle.card_reader.specs.declared.decks.DeckNo.TheVariants as no
use Rattle.card_reader.specs.declared.jes.JesCard.{JesCard}
use Rattle.card_reader.specs.declared.jes.JesCard.TheVariants as jes
use Rattle.card_reader.specs.declared.jobs.JobOperands.{JobOperands}
use Rattle.card_reader.specs.Cards.{kind_of, name_of, operation_of, is_statement_name}
use Rattle.card_reader.specs.Jes.{is_priority, jes_of}
use Rattle.card_reader.specs.Jobs.{job_operands_of}
use Rattle.card_reader.specs.Statements.{Item, items_of, operands_from, cards_to_end}

abbrev pub bad : ℕ → CardCause → Refused
bad card cause = record { card = card; cause = cause }

-- CARDS AS SUCH

-- a card has at most 80 text bytes
abbrev pub is_card : List ℕ → Bool
is_card card = nat_le (length card) card_bytes && is_text_line card

-- The least of these cards that is refused as such, from a number on, where the job ends before the card behind so
-- many: it is no text of 80 bytes, it is one too many, or it stands behind the card that ends the job.
abbrev pub refused_card : ℕ → ℕ → List (List ℕ) → Option Refused
refused_card n last [] = None
refused_card n last (card ∷ cards) =
    if not (is_card card) then Some (bad n cause.Text)
    else if nat_lt text_lines_most n then Some (bad n cause.Many)
    else if nat_lt last n then Some (bad n cause.After)
    else refused_card (n + 1) last cards

-- WHAT THE CARDS SAY

-- a job as its JOB statement says it, at its own node, with the default of all that JES2 cards say
abbrev pub job_of : Name8 → Name8 → Option Prio → JobOperands → JobFields
job_of own name priority operands = record {
  name = name;
  class = operands.class;
  msgclass = operands.msgclass;
  prio = unwrap_or priority operands.prio;
  held = operands.held;
  scan = operands.scan;
  restart = true;
  dest = local_name;
  node = own;
  origin = own;
}

abbrev pub item_of : ℕ → List ℕ → List (List ℕ) → Item
item_of n card behind = record { number = n; card = card; behind = behind }

-- what was seen of a deck after one of its cards, or that this card is refused
abbrev pub Sees : Type 0
Sees = Result Seen Refused

abbrev pub refused : ℕ → CardCause → Sees
refused n why = Err (bad n why)

-- nothing, before the first card
abbrev pub nothing_seen : Seen
nothing_seen = record { priority = None; job = None; has_steps = false }

-- what follows, unless a card was refused
abbrev pub result_and_then : (Seen → Sees) → Sees → Sees
result_and_then next (Ok seen) = next seen
result_and_then next (Err worse) = Err worse

-- a `/*PRIORITY` card may stand before the JOB statement, once
abbrev pub priority_seen : Seen → ℕ → Option JesCard → Sees
priority_seen seen n None = refused n cause.Jes
priority_seen seen n (Some (jes.Priority prio)) = if is_some seen.priority then refused n cause.Place else Ok
    (record seen { priority = Some prio })
priority_seen seen n (Some (jes.Restart restart)) = refused n cause.Jes
priority_seen seen n (Some (jes.Print dest)) = refused n cause.Jes
priority_seen seen n (Some (jes.Xeq node)) = refused n cause.Jes

-- JES2 cards except `/*PRIORITY` may stand after the JOB statement, before the first EXEC statement
abbrev pub jes_seen : Seen → JobFields → ℕ → Option JesCard → Sees
jes_seen seen job n None = refused n cause.Jes
jes_seen seen job n (Some (jes.Priority prio)) = refused n cause.Place
jes_seen seen job n (Some (jes.Restart restart)) = if seen.has_steps then refused n cause.Place else Ok
    (record seen { job = Some (record job { restart = restart }) })
jes_seen seen job n (Some (jes.Print dest)) = if seen.has_steps then refused n cause.Place else Ok
    (record seen { job = Some (record job { dest = dest }) })
jes_seen seen job n (Some (jes.Xeq node)) = if seen.has_steps then refused n cause.Place else Ok
    (record seen { job = Some (record job { node = node }) })

abbrev pub job_seen : Name8 → Seen → ℕ → Name8 → Option JobOperands → Sees
job_seen own seen n name None = refused n cause.Operand
job_seen own seen n name (Some operands) = Ok (record seen { job = Some (job_of own name seen.priority operands) })

-- the JOB statement: its name, and then its operands
abbrev pub job_statement_seen : Name8 → Seen → Item → Sees
job_statement_seen own seen item =
    if is_statement_name (name_of item.card) then job_seen own seen item.number
    (record { 0 = padded (name_of item.card) }) (job_operands_of (operands_from (item.card ∷ item.behind)))
    else refused item.number cause.Name

-- the first statement of a deck, which has to be a JOB statement
abbrev pub first_statement_seen : Name8 → Seen → Item → Operation → Sees
first_statement_seen own seen item operation.Job = job_statement_seen own seen item
first_statement_seen own seen item operation.Exec = refused item.number cause.First
first_statement_seen own seen item operation.Dd = refused item.number cause.First
first_statement_seen own seen item operation.Other = refused item.number cause.First

-- a statement after the JOB statement, which may not be a second JOB statement
abbrev pub later_statement_seen : Seen → ℕ → Operation → Sees
later_statement_seen seen n operation.Job = refused n cause.Place
later_statement_seen seen n operation.Exec = Ok (record seen { has_steps = true })
later_statement_seen seen n operation.Dd = Ok seen
later_statement_seen seen n operation.Other = Ok seen

-- a card before the JOB statement
abbrev pub seen_before_job : Name8 → Seen → Item → Kind → Sees
seen_before_job own seen item kind.Comment = Ok seen
seen_before_job own seen item kind.Statement = first_statement_seen own seen item (operation_of item.card)
seen_before_job own seen item kind.Jes = if is_priority item.card then priority_seen seen item.number (jes_of item.card)
    else refused item.number cause.First
seen_before_job own seen item kind.Null = refused item.number cause.First
seen_before_job own seen item kind.Delimiter = refused item.number cause.First
seen_before_job own seen item kind.Stray = refused item.number cause.First

-- a card after the JOB statement; what stands outside data and is no statement of ours is for the converter
abbrev pub seen_in_job : Seen → JobFields → ℕ → List ℕ → Kind → Sees
seen_in_job seen job n card kind.Statement = later_statement_seen seen n (operation_of card)
seen_in_job seen job n card kind.Jes = jes_seen seen job n (jes_of card)
seen_in_job seen job n card kind.Comment = Ok seen
seen_in_job seen job n card kind.Null = Ok seen
seen_in_job seen job n card kind.Delimiter = Ok seen
seen_in_job seen job n card kind.Stray = Ok seen

abbrev pub seen_at : Name8 → Seen → Option JobFields → Item → Sees
seen_at own seen None item = seen_before_job own seen item (kind_of item.card)
seen_at own seen (Some job) item = seen_in_job seen job item.number item.card (kind_of item.card)

-- what was seen after all of these cards, up to the first that is refused
abbrev pub seen_after : Name8 → Seen → List Item → Sees
seen_after own seen [] = Ok seen
seen_after own seen (item ∷ items) = result_and_then (λ more. seen_after own more items)
    (seen_at own seen seen.job item)

-- DECKS

-- a deck without a JOB statement is refused at its first card
abbrev pub job_or_first : Option JobFields → Result JobFields Refused
job_or_first None = Err (bad 1 cause.First)
job_or_first (Some job) = Ok job

abbrev pub job_seen_in : Sees → Result JobFields Refused
job_seen_in (Err worse) = Err worse
job_seen_in (Ok seen) = job_or_first seen.job

-- the lesser card; of one card the first cause, which is one of the card as such
abbrev pub least : Option Refused → Result JobFields Refused → Result JobFields Refused
least None said = said
least (Some card) (Ok job) = Err card
least (Some card) (Err other) = if nat_le card.card other.card then Err card else Err other

-- what a deck says of its job
abbrev pub read_as : Name8 → List (List ℕ) → Result JobFields Refused
read_as own cards = least (refused_card 1 (cards_to_end 0 cards + 1) cards)
    (job_seen_in (seen_after own nothing_seen (items_of cards)))

-- the stored text: all cards before the one that ends the job
abbrev pub text_of : List (List ℕ) → List (List ℕ)
text_of cards = take (cards_to_end 0 cards) cards

-- a fact of the card that is refused, and of its cause
abbrev pub IfBadCard : DeckNo → (ℕ → CardCause → Type 0) → Type 0
IfBadCard (no.BadCard card why) P = P card why
IfBadCard no.NoMemory P = Unit {0}

-- A deck as a grammar: what stands before its JOB statement, this statement, and what stands behind it.
use Rattle.std.specs.Prelude.{◌≡◌, ℕ, ◌+◌, ◌≤◌, Bool, true, false, not, ◌&&◌, ◌||◌, unwrap_or, if◌then◌else◌, Option, Some, None, List, [], ◌∷◌, length, All}
use Rattle.mas_types.specs.declared.ids.Name8.{Name8}
use Rattle.mas_types.specs.declared.ids.Prio.{Prio}
use Rattle.mas_types.specs.declared.jobs.JobFields.{JobFields}
use Rattle.mas_types.specs.Limits.{text_lines_most}
use Rattle.mas_types.specs.Names.{local_name, padded}
use Rattle.card_reader.specs.declared.cards.Kind.{Kind}
use Rattle.card_reader.specs.declared.cards.Kind.TheVariants as kind
use Rattle.card_reader.specs.declared.cards.Operation.{Operation}
use Rattle.card_reader.specs.declared.cards.Operation.TheVariants as operation
use Rattle.card_reader.specs.declared.jes.JesCard.{JesCard}
use Rattle.card_reader.specs.declared.jes.JesCard.TheVariants as jes
use Rattle.card_reader.specs.declared.jobs.JobOperands.{JobOperands}
use Rattle.card_reader.specs.Cards.{kind_of, operation_of, name_of, is_statement_name}
use Rattle.card_reader.specs.Jes.{is_priority, jes_of}
use Rattle.card_reader.specs.Jobs.{job_operands_of}
use Rattle.card_reader.specs.Statements.{Item, items_of, operands_from, cards_to_end}
use Rattle.card_reader.specs.Decks.{is_card}

-- BEFORE THE JOB STATEMENT

-- a JOB statement with the priority that stands before it, and the cards after it
pub record Opening : Type 0 where
  pub priority : Option Prio
  pub statement : Item
  pub behind : List Item

-- the priority of a `/*PRIORITY p` card
abbrev pub priority_of : Option JesCard → Option Prio
priority_of (Some (jes.Priority prio)) = Some prio
priority_of (Some (jes.Restart restart)) = None
priority_of (Some (jes.Print dest)) = None
priority_of (Some (jes.Xeq node)) = None
priority_of None = None

-- the priority after a card: that of the first `/*PRIORITY` card
abbrev pub first_priority : Option Prio → List ℕ → Option Prio
first_priority None card = if is_priority card then priority_of (jes_of card) else None
first_priority (Some before) card = None

abbrev pub opened_if : Option Prio → (Option Prio → Option Opening) → Option Opening
opened_if None rest = None
opened_if (Some prio) rest = rest (Some prio)

abbrev pub opened_by : Operation → Option Prio → Item → List Item → Option Opening
opened_by operation.Job priority item items = Some (record { priority = priority; statement = item; behind = items })
opened_by operation.Exec priority item items = None
opened_by operation.Dd priority item items = None
opened_by operation.Other priority item items = None

abbrev pub opened : Kind → Option Prio → Item → List Item → (Option Prio → Option Opening) → Option Opening
opened kind.Comment priority item items rest = rest priority
opened kind.Jes priority item items rest = opened_if (first_priority priority item.card) rest
opened kind.Statement priority item items rest = opened_by (operation_of item.card) priority item items
opened kind.Null priority item items rest = None
opened kind.Delimiter priority item items rest = None
opened kind.Stray priority item items rest = None

-- Before the JOB statement stand comments and at most one `/*PRIORITY p` card, and nothing else.
abbrev pub opening_of : Option Prio → List Item → Option Opening
opening_of priority [] = None
opening_of priority (item ∷ items) = opened (kind_of item.card) priority item items (λ after. opening_of after items)

-- AFTER THE JOB STATEMENT

-- RESTART, PRINT or XEQ
abbrev pub is_of_job : Option JesCard → Bool
is_of_job (Some (jes.Priority prio)) = false
is_of_job (Some (jes.Restart restart)) = true
is_of_job (Some (jes.Print dest)) = true
is_of_job (Some (jes.Xeq node)) = true
is_of_job None = false

abbrev pub is_no_job : Operation → Bool
is_no_job operation.Job = false
is_no_job operation.Exec = true
is_no_job operation.Dd = true
is_no_job operation.Other = true

-- any card but a second JOB statement, and but a JES2 card of another form or behind an EXEC
abbrev pub may_follow_as : Kind → Bool → List ℕ → Bool
may_follow_as kind.Comment steps card = true
may_follow_as kind.Null steps card = true
may_follow_as kind.Statement steps card = is_no_job (operation_of card)
may_follow_as kind.Delimiter steps card = true
may_follow_as kind.Jes steps card = is_of_job (jes_of card) && not steps
may_follow_as kind.Stray steps card = true

abbrev pub is_exec_operation : Operation → Bool
is_exec_operation operation.Job = false
is_exec_operation operation.Exec = true
is_exec_operation operation.Dd = false
is_exec_operation operation.Other = false

abbrev pub is_exec_as : Kind → List ℕ → Bool
is_exec_as kind.Comment card = false
is_exec_as kind.Null card = false
is_exec_as kind.Statement card = is_exec_operation (operation_of card)
is_exec_as kind.Delimiter card = false
is_exec_as kind.Jes card = false
is_exec_as kind.Stray card = false

-- each may follow, where an EXEC stands before them or not
abbrev pub may_follow : Bool → List Item → Bool
may_follow steps [] = true
may_follow steps (item ∷ items) = may_follow_as (kind_of item.card) steps item.card && may_follow
    (is_exec_as (kind_of item.card) item.card || steps) items

-- what a JES2 card says of the job
abbrev pub with_card : JobFields → Option JesCard → JobFields
with_card job (Some (jes.Priority prio)) = job
with_card job (Some (jes.Restart restart)) = record job { restart = restart }
with_card job (Some (jes.Print dest)) = record job { dest = dest }
with_card job (Some (jes.Xeq node)) = record job { node = node }
with_card job None = job

abbrev pub with_item : Kind → JobFields → List ℕ → JobFields
with_item kind.Comment job card = job
with_item kind.Null job card = job
with_item kind.Statement job card = job
with_item kind.Delimiter job card = job
with_item kind.Jes job card = with_card job (jes_of card)
with_item kind.Stray job card = job

-- the last of a kind counts
abbrev pub with_items : JobFields → List Item → JobFields
with_items job [] = job
with_items job (item ∷ items) = with_items (with_item (kind_of item.card) job item.card) items

-- THE DECK

-- the fields that a JOB statement gives, behind a priority that wins over its own
abbrev pub fields_of : Name8 → Opening → JobOperands → JobFields
fields_of own opening operands = record {
  name = record { 0 = padded (name_of opening.statement.card) };
  class = operands.class;
  msgclass = operands.msgclass;
  prio = unwrap_or opening.priority operands.prio;
  held = operands.held;
  scan = operands.scan;
  restart = true;
  dest = local_name;
  node = own;
  origin = own;
}

-- at most 9,999 cards of at most 80 text bytes, of which none stands behind the one that ends the job
pub record AreCards (cards : List (List ℕ)) : Type 0 where
  pub each : All (λ card. is_card card ≡ true) cards
  pub few : length cards ≤ text_lines_most
  pub ended : length cards ≤ cards_to_end 0 cards + 1

-- a JOB statement with a name and operands, and cards that may follow it
pub record IsJob (own : Name8) (cards : List (List ℕ)) (fields : JobFields) : Type 0 where
  pub opening : Opening
  pub operands : JobOperands
  pub opens : opening_of None (items_of cards) ≡ Some opening
  pub named : is_statement_name (name_of opening.statement.card) ≡ true
  pub read : job_operands_of (operands_from (opening.statement.card ∷ opening.statement.behind)) ≡ Some operands
  pub follow : may_follow false opening.behind ≡ true
  pub says : fields ≡ with_items (fields_of own opening operands) opening.behind

-- What is seen of cards before and behind a JOB statement, and of cards as such.
use Rattle.std.proofs.Common.{◌≡◌, ℕ, ◌+◌, ◌≤◌, Bool, true, false, not, ◌&&◌, ◌||◌, nat_lt, if◌then◌else◌, Option, Some, None, Ok, Err, List, [], ◌∷◌, length, refl, arith}
use Rattle.std.specs.Prelude.{All, IfOk}
use Rattle.std.proofs.lemmas.Bool.Decides.{nat_tests}
use Rattle.std.proofs.lemmas.List.Elements.{All-nil, All-cons, All-head, All-tail}
use Rattle.mas_types.specs.declared.answers.CardCause.TheVariants as cause
use Rattle.mas_types.specs.declared.ids.Name8.{Name8}
use Rattle.mas_types.specs.declared.ids.Prio.{Prio}
use Rattle.mas_types.specs.declared.jobs.JobFields.{JobFields}
use Rattle.mas_types.specs.Limits.{text_lines_most}
use Rattle.card_reader.specs.declared.cards.Kind.{Kind}
use Rattle.card_reader.specs.declared.cards.Kind.TheVariants as kind
use Rattle.card_reader.specs.declared.cards.Operation.{Operation}
use Rattle.card_reader.specs.declared.cards.Operation.TheVariants as operation
use Rattle.card_reader.specs.declared.decks.Refused.{Refused}
use Rattle.card_reader.specs.declared.decks.Seen.{Seen}
use Rattle.card_reader.specs.declared.jes.JesCard.{JesCard}
use Rattle.card_reader.specs.declared.jes.JesCard.TheVariants as jes
use Rattle.card_reader.specs.Cards.{kind_of, operation_of}
use Rattle.card_reader.specs.Jes.{is_priority, jes_of}
use Rattle.card_reader.specs.Statements.{Item}
use Rattle.card_reader.specs.Decks.{Sees, bad, refused, is_card, refused_card, result_and_then, priority_seen, jes_seen, job_statement_seen, first_statement_seen, later_statement_seen, seen_before_job, seen_in_job, seen_after}
use Rattle.deck_laws.specs.Grammar.{Opening, opening_of, opened, opened_by, opened_if, priority_of, is_of_job, is_no_job, may_follow_as, is_exec_operation, is_exec_as, may_follow, with_card, with_item, with_items}

-- what is seen of a deck before its JOB statement, and in its job
abbrev pub before_job : Option Prio → Seen
before_job p = record { priority = p; job = None; has_steps = false }

abbrev pub in_job : Option Prio → JobFields → Bool → Seen
in_job p job steps = record { priority = p; job = Some job; has_steps = steps }

-- BEHIND THE JOB STATEMENT

-- all is seen, with this job, or a card is refused
abbrev pub Known : Bool → Sees → Option Prio → JobFields → Type 0
Known true sees p job = (steps : Bool) × (sees ≡ Ok (in_job p job steps))
Known false sees p job = (r : Refused) × (sees ≡ Err r)

module _ (own : Name8) (p : Option Prio) (items : List Item) where
  abbrev Rest : Type 0
  Rest = (job : JobFields) (steps : Bool) → Known (may_follow steps items) (seen_after own (in_job p job steps) items) p (with_items job items)

  abbrev further : Sees → Sees
  further sees = result_and_then (λ more. seen_after own more items) sees

  jes_step : Rest → (job : JobFields) (steps : Bool) (n : ℕ) (read : Option JesCard) → Known ((is_of_job read && not steps) && may_follow steps items) (further (jes_seen (in_job p job steps) job n read)) p (with_items (with_card job read) items)
  jes_step rest job steps n None = (bad n cause.Jes, refl)
  jes_step rest job steps n (Some (jes.Priority prio)) = (bad n cause.Place, refl)
  jes_step rest job true n (Some (jes.Restart restart)) = (bad n cause.Place, refl)
  jes_step rest job false n (Some (jes.Restart restart)) = rest (record job { restart = restart }) false
  jes_step rest job true n (Some (jes.Print dest)) = (bad n cause.Place, refl)
  jes_step rest job false n (Some (jes.Print dest)) = rest (record job { dest = dest }) false
  jes_step rest job true n (Some (jes.Xeq node)) = (bad n cause.Place, refl)
  jes_step rest job false n (Some (jes.Xeq node)) = rest (record job { node = node }) false

  statement_step : Rest → (job : JobFields) (steps : Bool) (n : ℕ) (op : Operation) → Known (is_no_job op && may_follow (is_exec_operation op || steps) items) (further (later_statement_seen (in_job p job steps) n op)) p (with_items job items)
  statement_step rest job steps n operation.Job = (bad n cause.Place, refl)
  statement_step rest job steps n operation.Exec = rest job true
  statement_step rest job steps n operation.Dd = rest job steps
  statement_step rest job steps n operation.Other = rest job steps

  behind_step : Rest → (job : JobFields) (steps : Bool) (n : ℕ) (card : List ℕ) (k : Kind) → Known (may_follow_as k steps card && may_follow (is_exec_as k card || steps) items) (further (seen_in_job (in_job p job steps) job n card k)) p (with_items (with_item k job card) items)
  behind_step rest job steps n card kind.Comment = rest job steps
  behind_step rest job steps n card kind.Null = rest job steps
  behind_step rest job steps n card kind.Statement = statement_step rest job steps n (operation_of card)
  behind_step rest job steps n card kind.Delimiter = rest job steps
  behind_step rest job steps n card kind.Jes = jes_step rest job steps n (jes_of card)
  behind_step rest job steps n card kind.Stray = rest job steps

pub behind_known : (own : Name8) (p : Option Prio) (items : List Item) (job : JobFields) (steps : Bool) → Known (may_follow steps items) (seen_after own (in_job p job steps) items) p (with_items job items)
behind_known own p [] job steps = (steps, refl)
behind_known own p (item ∷ items) job steps = behind_step own p items (λ more after. behind_known own p items more after) job steps item.number item.card (kind_of item.card)

-- BEFORE THE JOB STATEMENT

-- no job, or what the JOB statement and the cards behind it say
abbrev pub Opens : Name8 → Option Opening → Sees → Type 0
Opens own None sees = IfOk sees (λ seen. seen.job ≡ None)
Opens own (Some opening) sees = sees ≡ result_and_then (λ more. seen_after own more opening.behind) (job_statement_seen own (before_job opening.priority) opening.statement)

module _ (own : Name8) (items : List Item) where
  abbrev Front : Type 0
  Front = (q : Option Prio) → Opens own (opening_of q items) (seen_after own (before_job q) items)

  abbrev onward : Sees → Sees
  onward sees = result_and_then (λ more. seen_after own more items) sees

  first_step : Front → (n : ℕ) (v : Bool) (read : Option JesCard) → Opens own (opened_if (if v then priority_of read else None) (λ after. opening_of after items)) (onward (if v then priority_seen (before_job None) n read else refused n cause.First))
  first_step rest n false read = tt
  first_step rest n true None = tt
  first_step rest n true (Some (jes.Priority prio)) = rest (Some prio)
  first_step rest n true (Some (jes.Restart restart)) = tt
  first_step rest n true (Some (jes.Print dest)) = tt
  first_step rest n true (Some (jes.Xeq node)) = tt

  second_step : (q : Prio) (n : ℕ) (v : Bool) (read : Option JesCard) → Opens own None (onward (if v then priority_seen (before_job (Some q)) n read else refused n cause.First))
  second_step q n false read = tt
  second_step q n true None = tt
  second_step q n true (Some (jes.Priority prio)) = tt
  second_step q n true (Some (jes.Restart restart)) = tt
  second_step q n true (Some (jes.Print dest)) = tt
  second_step q n true (Some (jes.Xeq node)) = tt

  opening_step : (q : Option Prio) (item : Item) (op : Operation) → Opens own (opened_by op q item items) (onward (first_statement_seen own (before_job q) item op))
  opening_step q item operation.Job = refl
  opening_step q item operation.Exec = tt
  opening_step q item operation.Dd = tt
  opening_step q item operation.Other = tt

  front_step : Front → (q : Option Prio) (item : Item) (k : Kind) → Opens own (opened k q item items (λ after. opening_of after items)) (onward (seen_before_job own (before_job q) item k))
  front_step rest q item kind.Comment = rest q
  front_step rest q item kind.Null = tt
  front_step rest q item kind.Statement = opening_step q item (operation_of item.card)
  front_step rest q item kind.Delimiter = tt
  front_step rest None item kind.Jes = first_step rest item.number (is_priority item.card) (jes_of item.card)
  front_step rest (Some q) item kind.Jes = second_step q item.number (is_priority item.card) (jes_of item.card)
  front_step rest q item kind.Stray = tt

pub front_known : (own : Name8) (items : List Item) (q : Option Prio) → Opens own (opening_of q items) (seen_after own (before_job q) items)
front_known own [] q = refl
front_known own (item ∷ items) q = front_step own items (λ r. front_known own items r) q item (kind_of item.card)

-- CARDS AS SUCH

abbrev pub IsCard : List ℕ → Type 0
IsCard card = is_card card ≡ true

passes : (v many after : Bool) (n : ℕ) (more : Option Refused) → (if not v then Some (bad n cause.Text) else if many then Some (bad n cause.Many) else if after then Some (bad n cause.After) else more) ≡ None → (v ≡ true) × (many ≡ false) × (after ≡ false) × (more ≡ None)
passes true true after n more e = absurd (cc)
passes true false true n more e = absurd (cc)
passes true false false n more e = (refl, refl, refl, e)
passes false many after n more e = absurd (cc)

passed : (v many after : Bool) (n : ℕ) (more : Option Refused) → v ≡ true → many ≡ false → after ≡ false → more ≡ None → (if not v then Some (bad n cause.Text) else if many then Some (bad n cause.Many) else if after then Some (bad n cause.After) else more) ≡ None
passed true false false n more a b c d = d
passed false many after n more a b c d = absurd (cc)
passed true true after n more a b c d = absurd (cc)
passed true false true n more a b c d = absurd (cc)

pub record AreFrom (n last : ℕ) (cards : List (List ℕ)) : Type 0 where
  pub each : All IsCard cards
  pub few : n + length cards ≤ text_lines_most + 1
  pub ended : n + length cards ≤ last + 1

pub cards_known : (n last : ℕ) (cards : List (List ℕ)) → n ≤ text_lines_most + 1 → n ≤ last + 1 → refused_card n last cards ≡ None → AreFrom n last cards
cards_known n last [] few ended e = record { each = All-nil IsCard; few = omega arith; ended = omega arith }
cards_known n last (card ∷ cards) few ended e =
    let first : (is_card card ≡ true) × (nat_lt text_lines_most n ≡ false) × (nat_lt last n ≡ false) × (refused_card (n + 1) last cards ≡ None) = passes (is_card card) (nat_lt text_lines_most n) (nat_lt last n) n (refused_card (n + 1) last cards) e in
    let many : nat_lt text_lines_most n ≡ false = first.1 in
    let after : nat_lt last n ≡ false = first.2 in
    let most : n ≤ text_lines_most = grind (arith, nat_tests) in
    let within : n ≤ last = grind (arith, nat_tests) in
    let rest = cards_known (n + 1) last cards (omega arith) (omega arith) first.3 in
    record { each = All-cons IsCard card cards first.0 rest.each; few = omega (arith, rest.few); ended = omega (arith, rest.ended) }

pub none_refused : (n last : ℕ) (cards : List (List ℕ)) → AreFrom n last cards → refused_card n last cards ≡ None
none_refused n last [] are = refl
none_refused n last (card ∷ cards) are =
    let few = are.few in
    let ended = are.ended in
    let many : nat_lt text_lines_most n ≡ false = grind (arith, nat_tests) in
    let after : nat_lt last n ≡ false = grind (arith, nat_tests) in
    passed (is_card card) (nat_lt text_lines_most n) (nat_lt last n) n (refused_card (n + 1) last cards) (All-head IsCard card cards are.each) many after
    (none_refused (n + 1) last cards (record { each = All-tail IsCard card cards are.each; few = omega arith; ended = omega arith }))

-- What is seen of a deck, card by card.
use Rattle.std.proofs.Common.{◌≡◌, ◌∙◌, sym, ap, ℕ, ◌+◌, ◌≤◌, Bool, true, false, if◌then◌else◌, Option, Some, None, Result, Ok, Err, List, [], ◌∷◌, length, drop, refl, arith}
use Rattle.std.specs.Prelude.{IfErr, IfOk, is_some}
use Rattle.std.specs.List.{slice_get}
use Rattle.std.proofs.lemmas.List.{length-drop, drop-drop}
use Rattle.mas_types.specs.declared.ids.Name8.{Name8}
use Rattle.mas_types.specs.declared.ids.NoMemory.{NoMemory}
use Rattle.mas_types.specs.declared.jobs.JobFields.{JobFields}
use Rattle.mas_types.specs.Names.{is_name_text, padded}
use Rattle.card_reader.specs.declared.cards.Kind.{Kind}
use Rattle.card_reader.specs.declared.cards.Kind.TheVariants as kind
use Rattle.card_reader.specs.declared.cards.Operation.{Operation}
use Rattle.card_reader.specs.declared.cards.Operation.TheVariants as operation
use Rattle.card_reader.specs.declared.decks.Refused.{Refused}
use Rattle.card_reader.specs.declared.decks.Seen.{Seen}
use Rattle.card_reader.specs.declared.jes.JesCard.{JesCard}
use Rattle.card_reader.specs.declared.jes.JesCard.TheVariants as jes
use Rattle.card_reader.specs.declared.jobs.JobOperands.{JobOperands}
use Rattle.card_reader.specs.Cards.{kind_of, operation_of, is_statement_name, name_of, is_null_kind}
use Rattle.card_reader.specs.Jes.{is_priority, jes_of, name8_of}
use Rattle.card_reader.specs.Jobs.{job_operands_of}
use Rattle.card_reader.specs.Statements.{Item, items_from, up_to_end, further_cards, operands_from, cards_to_end}
use Rattle.card_reader.specs.Decks.{Sees, job_of, item_of, priority_seen, jes_seen, job_seen, job_statement_seen, first_statement_seen, later_statement_seen, seen_before_job, seen_in_job, seen_at, seen_after, result_and_then}
use Rattle.card_reader.proofs.Fronts.{rest_from, if_yes, if_no}
use Rattle.card_reader.proofs.Items.{items_at, cards_passed}

-- THE CARD THAT IS REFUSED

-- a refusal is of the card of this number
abbrev RefusesAt : ℕ → Sees → Type 0
RefusesAt n sees = IfErr sees (λ r. r.card ≡ n)

if_at : (v : Bool) (n : ℕ) (one other : Sees) → RefusesAt n one → RefusesAt n other → RefusesAt n (if v then one else other)
if_at true n one other left right = left
if_at false n one other left right = right

priority_seen-at : (seen : Seen) (n : ℕ) (read : Option JesCard) → RefusesAt n (priority_seen seen n read)
priority_seen-at seen n None = refl
priority_seen-at seen n (Some (jes.Priority prio)) = if_at (is_some seen.priority) n _ _ refl tt
priority_seen-at seen n (Some (jes.Restart restart)) = refl
priority_seen-at seen n (Some (jes.Print dest)) = refl
priority_seen-at seen n (Some (jes.Xeq node)) = refl

jes_seen-at : (seen : Seen) (job : JobFields) (n : ℕ) (read : Option JesCard) → RefusesAt n (jes_seen seen job n read)
jes_seen-at seen job n None = refl
jes_seen-at seen job n (Some (jes.Priority prio)) = refl
jes_seen-at seen job n (Some (jes.Restart restart)) = if_at seen.has_steps n _ _ refl tt
jes_seen-at seen job n (Some (jes.Print dest)) = if_at seen.has_steps n _ _ refl tt
jes_seen-at seen job n (Some (jes.Xeq node)) = if_at seen.has_steps n _ _ refl tt

job_seen-at : (own : Name8) (seen : Seen) (n : ℕ) (name : Name8) (operands : Option JobOperands) → RefusesAt n (job_seen own seen n name operands)
job_seen-at own seen n name None = refl
job_seen-at own seen n name (Some operands) = tt

job_statement-at : (own : Name8) (seen : Seen) (item : Item) → RefusesAt item.number (job_statement_seen own seen item)
job_statement-at own seen item = if_at (is_statement_name (name_of item.card)) item.number _ _ (job_seen-at own seen item.number _ (job_operands_of (operands_from (item.card ∷ item.behind)))) refl

first_statement-at : (own : Name8) (seen : Seen) (item : Item) (op : Operation) → RefusesAt item.number (first_statement_seen own seen item op)
first_statement-at own seen item operation.Job = job_statement-at own seen item
first_statement-at own seen item operation.Exec = refl
first_statement-at own seen item operation.Dd = refl
first_statement-at own seen item operation.Other = refl

later_statement-at : (seen : Seen) (n : ℕ) (op : Operation) → RefusesAt n (later_statement_seen seen n op)
later_statement-at seen n operation.Job = refl
later_statement-at seen n operation.Exec = tt
later_statement-at seen n operation.Dd = tt
later_statement-at seen n operation.Other = tt

before_job-at : (own : Name8) (seen : Seen) (item : Item) (k : Kind) → RefusesAt item.number (seen_before_job own seen item k)
before_job-at own seen item kind.Comment = tt
before_job-at own seen item kind.Null = refl
before_job-at own seen item kind.Statement = first_statement-at own seen item (operation_of item.card)
before_job-at own seen item kind.Delimiter = refl
before_job-at own seen item kind.Jes = if_at (is_priority item.card) item.number _ _ (priority_seen-at seen item.number (jes_of item.card)) refl
before_job-at own seen item kind.Stray = refl

in_job-at : (seen : Seen) (job : JobFields) (n : ℕ) (card : List ℕ) (k : Kind) → RefusesAt n (seen_in_job seen job n card k)
in_job-at seen job n card kind.Comment = tt
in_job-at seen job n card kind.Null = tt
in_job-at seen job n card kind.Statement = later_statement-at seen n (operation_of card)
in_job-at seen job n card kind.Delimiter = tt
in_job-at seen job n card kind.Jes = jes_seen-at seen job n (jes_of card)
in_job-at seen job n card kind.Stray = tt

pub seen_at-at : (own : Name8) (seen : Seen) (job : Option JobFields) (item : Item) → RefusesAt item.number (seen_at own seen job item)
seen_at-at own seen None item = before_job-at own seen item (kind_of item.card)
seen_at-at own seen (Some job) item = in_job-at seen job item.number item.card (kind_of item.card)

-- a refusal names its card also where the answer may instead be out of memory
pub ok_at : (n : ℕ) (found : Result Sees NoMemory) (said : Sees) → IfErr said (λ r. r.card ≡ n) → IfOk found (λ sees. sees ≡ said) → IfOk found (λ sees. IfErr sees (λ r. r.card ≡ n))
ok_at n (Ok sees) said at e = rw e at
ok_at n (Err none) said at e = tt

-- THE JOB STATEMENT

name_if : (v : Bool) (name other : Name8) → Some name ≡ (if v then Some other else None) → name ≡ other
name_if true name other e = cc
name_if false name other e = absurd (cc)

pub name_known : (text : List ℕ) (name : Name8) → Some name ≡ name8_of text → name ≡ record { 0 = padded text }
name_known text name e = name_if (is_name_text text) name (record { 0 = padded text }) e

pub job_statement-good : (own : Name8) (seen : Seen) (n : ℕ) (card : List ℕ) (behind : List (List ℕ)) (name : Name8) (operands : JobOperands) → is_statement_name (name_of card) ≡ true → Some name ≡ name8_of (name_of card) → Some operands ≡ job_operands_of (operands_from (card ∷ behind)) → job_statement_seen own seen (item_of n card behind) ≡ Ok (record seen { job = Some (job_of own name seen.priority operands) })
job_statement-good own seen n card behind name operands good named read =
    if_yes (is_statement_name (name_of card)) _ _ good
    ∙ ap (job_seen own seen n (record { 0 = padded (name_of card) })) (sym read)
    ∙ ap (λ (m : Name8). job_seen own seen n m (Some operands)) (sym (name_known (name_of card) name named))

-- CARD BY CARD

first_of_end : (v : Bool) (own : Name8) (seen : Seen) (item : Item) (items : List Item) (r : Refused) → seen_at own seen seen.job item ≡ Err r → seen_after own seen (if v then item ∷ [] else item ∷ up_to_end items) ≡ Err r
first_of_end true own seen item items r e = ap (result_and_then (λ more. seen_after own more [])) e
first_of_end false own seen item items r e = ap (result_and_then (λ more. seen_after own more (up_to_end items))) e

-- of some cards, the one at a place
module _ (own : Name8) (seen : Seen) (cards : List (List ℕ)) (at : ℕ) (card : List ℕ) (here : slice_get cards at ≡ Some card) where
  pub seen_after-refused : (r : Refused) → Err r ≡ seen_at own seen seen.job (item_of (at + 1) card (drop (at + 1) cards)) → seen_after own seen (up_to_end (items_from (at + 1) 0 (drop at cards))) ≡ Err r
  seen_after-refused r e =
      ap (λ (l : List Item). seen_after own seen (up_to_end l)) (items_at at (further_cards (drop at cards)) cards card here refl)
      ∙ first_of_end (is_null_kind (kind_of card)) own seen (item_of (at + 1) card (drop (at + 1) cards)) (items_from (at + (1 + further_cards (drop at cards)) + 1) 0 (drop (at + (1 + further_cards (drop at cards))) cards)) r (sym e)

  pub seen_after-end : (more : Seen) → Ok more ≡ seen_at own seen seen.job (item_of (at + 1) card (drop (at + 1) cards)) → is_null_kind (kind_of card) ≡ true → seen_after own seen (up_to_end (items_from (at + 1) 0 (drop at cards))) ≡ Ok more
  seen_after-end more e is =
      ap (λ (l : List Item). seen_after own seen (up_to_end l)) (items_at at (further_cards (drop at cards)) cards card here refl)
      ∙ ap (seen_after own seen) (if_yes (is_null_kind (kind_of card)) _ _ is)
      ∙ ap (result_and_then (λ after. seen_after own after [])) (sym e)

  pub seen_after-more : (more : Seen) (taken : ℕ) → Ok more ≡ seen_at own seen seen.job (item_of (at + 1) card (drop (at + 1) cards)) → is_null_kind (kind_of card) ≡ false → taken ≡ further_cards (drop at cards) → seen_after own seen (up_to_end (items_from (at + 1) 0 (drop at cards))) ≡ seen_after own more (up_to_end (items_from (at + (1 + taken) + 1) 0 (drop (at + (1 + taken)) cards)))
  seen_after-more more taken e is further =
      ap (λ (l : List Item). seen_after own seen (up_to_end l)) (items_at at taken cards card here further)
      ∙ ap (seen_after own seen) (if_no (is_null_kind (kind_of card)) _ _ is)
      ∙ ap (result_and_then (λ after. seen_after own after (up_to_end (items_from (at + (1 + taken) + 1) 0 (drop (at + (1 + taken)) cards))))) (sym e)

-- the number of cards before the end
module _ (cards : List (List ℕ)) (at : ℕ) (card : List ℕ) (here : slice_get cards at ≡ Some card) where
  pub cards_to_end-end : is_null_kind (kind_of card) ≡ true → cards_to_end 0 (drop at cards) ≡ 0
  cards_to_end-end is = ap (cards_to_end 0) (rest_from at cards card here) ∙ if_yes (is_null_kind (kind_of card)) _ _ is

  pub cards_to_end-more : (taken : ℕ) → is_null_kind (kind_of card) ≡ false → taken ≡ further_cards (drop at cards) → at + 1 + taken ≤ length cards → cards_to_end 0 (drop at cards) ≡ 1 + taken + cards_to_end 0 (drop (at + (1 + taken)) cards)
  cards_to_end-more taken is further within =
      let whole : drop at cards ≡ card ∷ drop (at + 1) cards = rest_from at cards card here in
      let same : taken ≡ further_cards (card ∷ drop (at + 1) cards) = further ∙ ap further_cards whole in
      let short : taken ≤ length (drop (at + 1) cards) = omega (arith, length-drop (at + 1) cards) in
      let passed : cards_to_end taken (drop (at + 1) cards) ≡ taken + cards_to_end 0 (drop taken (drop (at + 1) cards)) = cards_passed taken (drop (at + 1) cards) short in
      let place : at + 1 + taken ≡ at + (1 + taken) = omega arith in
      let rest : drop taken (drop (at + 1) cards) ≡ drop (at + (1 + taken)) cards = drop-drop taken (at + 1) cards ∙ ap (λ (k : ℕ). drop k cards) place in
      let counted : cards_to_end taken (drop (at + 1) cards) ≡ taken + cards_to_end 0 (drop (at + (1 + taken)) cards) = passed ∙ ap (λ (l : List (List ℕ)). taken + cards_to_end 0 l) rest in
      let first : cards_to_end 0 (drop at cards) ≡ 1 + cards_to_end (further_cards (card ∷ drop (at + 1) cards)) (drop (at + 1) cards) = ap (cards_to_end 0) whole ∙ if_no (is_null_kind (kind_of card)) _ _ is in
      let second : cards_to_end (further_cards (card ∷ drop (at + 1) cards)) (drop (at + 1) cards) ≡ cards_to_end taken (drop (at + 1) cards) = ap (λ (k : ℕ). cards_to_end k (drop (at + 1) cards)) (sym same) in
      omega arith

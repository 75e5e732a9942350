-- A statement's operands and its data, card by card.
use Rattle.std.proofs.Common.{◌≡◌, ◌∙◌, sym, ap, ℕ, ◌+◌, Bool, true, false, not, Some, List, ◌++◌, ◌∷◌, drop, refl}
use Rattle.std.proofs.lemmas.List.{drop-drop}
use Rattle.std.specs.List.{slice_get}
use Rattle.card_reader.specs.declared.statements.Operands.{Operands}
use Rattle.card_reader.specs.declared.statements.Ending.{Ending}
use Rattle.card_reader.specs.declared.statements.DataCards.{DataCards}
use Rattle.card_reader.specs.declared.cards.Kind.{Kind}
use Rattle.card_reader.specs.declared.cards.Kind.TheVariants as kind
use Rattle.card_reader.specs.Cards.{kind_of, operation_of, is_statement_kind, is_comment, is_continuation, is_continued, ends_quoted, first_field, next_field}
use Rattle.card_reader.specs.Statements.{missing, one_further, with_field, continued, operands_from, ends_before, ends_at, one_card_more, data_behind, ending_of, statement_data, further_of_kind, further_cards}
use Rattle.card_reader.proofs.Fronts.{rest_from, if_yes, if_no}

-- of some cards, the one at a place
module _ (cards : List (List ℕ)) (at : ℕ) (card : List ℕ) (here : slice_get cards at ≡ Some card) where
  pub continued-comment : is_comment card ≡ true → continued (drop at cards) ≡ one_further (continued (drop (at + 1) cards))
  continued-comment is = ap continued (rest_from at cards card here) ∙ if_yes (is_comment card) _ _ is

  pub continued-other : is_comment card ≡ false → is_continuation card ≡ false → continued (drop at cards) ≡ missing
  continued-other no_comment is = ap continued (rest_from at cards card here) ∙ if_no (is_comment card) _ _ no_comment ∙ if_no (is_continuation card) _ _ is

  pub continued-field : is_comment card ≡ false → is_continuation card ≡ true → continued (drop at cards) ≡ one_further (with_field (next_field card) (continued (drop (at + 1) cards)))
  continued-field no_comment is = ap continued (rest_from at cards card here) ∙ if_no (is_comment card) _ _ no_comment ∙ if_yes (is_continuation card) _ _ is

  -- what the last field makes of it, and a field that is continued
  pub continued-last : is_comment card ≡ false → is_continuation card ≡ true → is_continued (next_field card) ≡ false → continued (drop at cards) ≡ record { text = next_field card; whole = not (ends_quoted false (next_field card)); cards = 1 + 0 }
  continued-last no_comment is last = continued-field no_comment is ∙ ap one_further (if_no (is_continued (next_field card)) _ _ last)

  pub continued-more : is_comment card ≡ false → is_continuation card ≡ true → is_continued (next_field card) ≡ true → continued (drop at cards) ≡ record { text = next_field card ++ (continued (drop (at + 1) cards)).text; whole = (continued (drop (at + 1) cards)).whole; cards = 1 + (continued (drop (at + 1) cards)).cards }
  continued-more no_comment is more = continued-field no_comment is ∙ ap one_further (if_yes (is_continued (next_field card)) _ _ more)

  pub operands_from-last : is_continued (first_field card) ≡ false → operands_from (drop at cards) ≡ record { text = first_field card; whole = not (ends_quoted false (first_field card)); cards = 0 }
  operands_from-last last = ap operands_from (rest_from at cards card here) ∙ if_no (is_continued (first_field card)) _ _ last

  pub operands_from-more : is_continued (first_field card) ≡ true → operands_from (drop at cards) ≡ record { text = first_field card ++ (continued (drop (at + 1) cards)).text; whole = (continued (drop (at + 1) cards)).whole; cards = (continued (drop (at + 1) cards)).cards }
  operands_from-more more = ap operands_from (rest_from at cards card here) ∙ if_yes (is_continued (first_field card)) _ _ more

  pub data_behind-before : (ends : Ending) → ends_before ends card ≡ true → data_behind ends (drop at cards) ≡ record { cards = 0; taken = 0 }
  data_behind-before ends is = ap (data_behind ends) (rest_from at cards card here) ∙ if_yes (ends_before ends card) _ _ is

  pub data_behind-at : (ends : Ending) → ends_before ends card ≡ false → ends_at ends card ≡ true → data_behind ends (drop at cards) ≡ record { cards = 0; taken = 1 }
  data_behind-at ends not_before is = ap (data_behind ends) (rest_from at cards card here) ∙ if_no (ends_before ends card) _ _ not_before ∙ if_yes (ends_at ends card) _ _ is

  pub data_behind-more : (ends : Ending) → ends_before ends card ≡ false → ends_at ends card ≡ false → data_behind ends (drop at cards) ≡ one_card_more (data_behind ends (drop (at + 1) cards))
  data_behind-more ends not_before not_at = ap (data_behind ends) (rest_from at cards card here) ∙ if_no (ends_before ends card) _ _ not_before ∙ if_no (ends_at ends card) _ _ not_at

further_of_kind-other : (k : Kind) (card : List ℕ) (behind : List (List ℕ)) → is_statement_kind k ≡ false → further_of_kind k card behind ≡ 0
further_of_kind-other kind.Comment card behind is = refl
further_of_kind-other kind.Null card behind is = refl
further_of_kind-other kind.Statement card behind is = absurd (cc)
further_of_kind-other kind.Delimiter card behind is = refl
further_of_kind-other kind.Jes card behind is = refl
further_of_kind-other kind.Stray card behind is = refl

further_of_kind-statement : (k : Kind) (card : List ℕ) (behind : List (List ℕ)) → is_statement_kind k ≡ true → further_of_kind k card behind ≡ (operands_from (card ∷ behind)).cards + (statement_data card (operands_from (card ∷ behind)) behind).taken
further_of_kind-statement kind.Comment card behind is = absurd (cc)
further_of_kind-statement kind.Null card behind is = absurd (cc)
further_of_kind-statement kind.Statement card behind is = refl
further_of_kind-statement kind.Delimiter card behind is = absurd (cc)
further_of_kind-statement kind.Jes card behind is = absurd (cc)
further_of_kind-statement kind.Stray card behind is = absurd (cc)

-- how many cards are read with the one at a place
module _ (cards : List (List ℕ)) (at : ℕ) (card : List ℕ) (here : slice_get cards at ≡ Some card) where
  pub further_cards-other : is_statement_kind (kind_of card) ≡ false → further_cards (drop at cards) ≡ 0
  further_cards-other is = ap further_cards (rest_from at cards card here) ∙ further_of_kind-other (kind_of card) card (drop (at + 1) cards) is

  pub further_cards-statement : (operands : Operands) (ends : Ending) (found : DataCards) → is_statement_kind (kind_of card) ≡ true → operands ≡ operands_from (drop at cards) → ends ≡ ending_of (operation_of card) operands.text → found ≡ data_behind ends (drop (at + 1 + operands.cards) cards) → further_cards (drop at cards) ≡ operands.cards + found.taken
  further_cards-statement operands ends found is read ending data_is =
      let behind : List (List ℕ) = drop (at + 1) cards in
      let same : operands ≡ operands_from (card ∷ behind) = read ∙ ap operands_from (rest_from at cards card here) in
      let rest : drop operands.cards behind ≡ drop (at + 1 + operands.cards) cards = drop-drop operands.cards (at + 1) cards in
      let data_same : statement_data card operands behind ≡ found = ap (data_behind (ending_of (operation_of card) operands.text)) rest ∙ ap (λ (e : Ending). data_behind e (drop (at + 1 + operands.cards) cards)) (sym ending) ∙ sym data_is in
      let all : (operands_from (card ∷ behind)).cards + (statement_data card (operands_from (card ∷ behind)) behind).taken ≡ operands.cards + (statement_data card operands behind).taken = ap (λ (o : Operands). o.cards + (statement_data card o behind).taken) (sym same) in
      ap further_cards (rest_from at cards card here) ∙ further_of_kind-statement (kind_of card) card behind is ∙ all ∙ ap (λ (d : DataCards). operands.cards + d.taken) data_same

-- two of the same numbers are one
pub same_data : (a b : DataCards) → a.cards ≡ b.cards → a.taken ≡ b.taken → a ≡ b
same_data a b cards taken =
    let one : a ≡ record { cards = b.cards; taken = a.taken } = ap (λ (n : ℕ). let d : DataCards = record { cards = n; taken = a.taken } in d) cards in
    let other : record { cards = b.cards; taken = a.taken } ≡ b = ap (λ (n : ℕ). let d : DataCards = record { cards = b.cards; taken = n } in d) taken in
    one ∙ other

pub same_operands : (a b : Operands) → a.text ≡ b.text → a.whole ≡ b.whole → a.cards ≡ b.cards → a ≡ b
same_operands a b text whole cards =
    let first : a ≡ record { text = b.text; whole = a.whole; cards = a.cards } = ap (λ (t : List ℕ). let o : Operands = record { text = t; whole = a.whole; cards = a.cards } in o) text in
    let second : record { text = b.text; whole = a.whole; cards = a.cards } ≡ record { text = b.text; whole = b.whole; cards = a.cards } = ap (λ (w : Bool). let o : Operands = record { text = b.text; whole = w; cards = a.cards } in o) whole in
    let third : record { text = b.text; whole = b.whole; cards = a.cards } ≡ b = ap (λ (n : ℕ). let o : Operands = record { text = b.text; whole = b.whole; cards = n } in o) cards in
    first ∙ second ∙ third

-- The cards that are read by themselves, behind some that are passed over.
use Rattle.std.proofs.Common.{◌≡◌, ◌∙◌, ap, ℕ, zero, suc, ◌+◌, ◌≤◌, Some, List, [], ◌∷◌, length, drop, slice_get, refl, arith}
use Rattle.std.proofs.lemmas.List.{drop-drop}
use Rattle.card_reader.specs.Statements.{Item, items_from, cards_to_end, further_cards}
use Rattle.card_reader.proofs.Fronts.{rest_from}

-- cards that are passed over are counted
pub items_passed : (k n : ℕ) (cards : List (List ℕ)) → items_from n k cards ≡ items_from (n + k) 0 (drop k cards)
items_passed zero n cards = let same : n ≡ n + 0 = omega arith in ap (λ (m : ℕ). items_from m 0 cards) same
items_passed (suc k) n [] = refl
items_passed (suc k) n (card ∷ cards) =
    let same : n + 1 + k ≡ n + suc k = omega arith in
    items_passed k (n + 1) cards ∙ ap (λ (m : ℕ). items_from m 0 (drop k cards)) same

-- the items from a card on: the card itself, and those behind the cards that are read with it
pub items_at : (at taken : ℕ) (cards : List (List ℕ)) (card : List ℕ) → slice_get cards at ≡ Some card → taken ≡ further_cards (drop at cards) → items_from (at + 1) 0 (drop at cards) ≡ record { number = at + 1; card = card; behind = drop (at + 1) cards } ∷ items_from (at + (1 + taken) + 1) 0 (drop (at + (1 + taken)) cards)
items_at at taken cards card here is =
    let whole : drop at cards ≡ card ∷ drop (at + 1) cards = rest_from at cards card here in
    let further : taken ≡ further_cards (card ∷ drop (at + 1) cards) = rw whole at is in
    let item : Item = record { number = at + 1; card = card; behind = drop (at + 1) cards } in
    let number : at + 1 + 1 + taken ≡ at + (1 + taken) + 1 = omega arith in
    let place : at + 1 + taken ≡ at + (1 + taken) = omega arith in
    rw (whole, ← further) (ap (λ (l : List Item). item ∷ l) (items_passed taken (at + 1 + 1) (drop (at + 1) cards) ∙ rw (number, drop-drop, place) refl))

-- cards that are passed over count among the cards before the end
pub cards_passed : (k : ℕ) (cards : List (List ℕ)) → k ≤ length cards → cards_to_end k cards ≡ k + cards_to_end 0 (drop k cards)
cards_passed zero cards h = omega arith
cards_passed (suc k) [] h = absurd (omega arith)
cards_passed (suc k) (card ∷ cards) h = let more : cards_to_end k cards ≡ k + cards_to_end 0 (drop k cards) = cards_passed k cards (omega arith) in omega arith

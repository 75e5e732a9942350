-- The cards of data behind a statement.
use Rattle.std.proofs.Common.{◌≡◌, ◌∙◌, sym, ap, ℕ, zero, suc, ◌+◌, ◌-◌, ◌≤◌, Bool, true, false, if◌then◌else◌, Option, Some, None, List, [], ◌∷◌, ◌++◌, take, drop, refl, arith}
use Rattle.std.specs.Prelude.{MatchOption}
use Rattle.std.specs.Borrow.{Bor}
use Rattle.std.specs.List.{slice_get}
use Rattle.mas_types.specs.Lists.{tail}
use Rattle.card_reader.specs.Operands.{operands_left, operands_of, parts_in}
use Rattle.std.proofs.lemmas.List.{drop-drop}
use Rattle.card_reader.specs.declared.statements.Operands.{Operands}
use Rattle.card_reader.specs.declared.statements.Ending.{Ending}
use Rattle.card_reader.specs.declared.statements.DataCards.{DataCards}
use Rattle.card_reader.specs.Cards.{operation_of}
use Rattle.card_reader.specs.Statements.{operands_from, ending_of, data_behind, statement_data, ends_before, ends_at, one_card_more}
use Rattle.card_reader.proofs.Fronts.{front_more}
use Rattle.jcl_convert.specs.Jcl.{data_of}

data_if : (before at : Bool) (rest : DataCards) → rest.cards ≤ rest.taken → (let none : DataCards = record { cards = 0; taken = 0 } in let one : DataCards = record { cards = 0; taken = 1 } in let d : DataCards = (if before then none else if at then one else one_card_more rest) in d.cards ≤ d.taken)
data_if true at rest h = omega arith
data_if false true rest h = omega arith
data_if false false rest h = omega arith

-- the card that ends data is none of it
pub data_behind-fewer : (ends : Ending) (cards : List (List ℕ)) → (data_behind ends cards).cards ≤ (data_behind ends cards).taken
data_behind-fewer ends [] = omega arith
data_behind-fewer ends (card ∷ cards) = data_if (ends_before ends card) (ends_at ends card) (data_behind ends cards) (data_behind-fewer ends cards)

slice_get-drop : {A : Type 0} → (n k : ℕ) (xs : List A) → slice_get (drop n xs) k ≡ slice_get xs (n + k)
slice_get-drop zero k xs = let same : k ≡ 0 + k = omega arith in ap (λ (i : ℕ). slice_get xs i) same
slice_get-drop (suc n) k [] = refl
slice_get-drop (suc n) k (y ∷ ys) = let same : suc n + k ≡ suc (n + k) = omega arith in rw same (slice_get-drop n k ys)

-- a part of a list, one item longer
pub part_more : (from at : ℕ) (xs : List (List ℕ)) (x : List ℕ) → from ≤ at → slice_get xs at ≡ Some x → take (at + 1 - from) (drop from xs) ≡ take (at - from) (drop from xs) ++ x ∷ []
part_more from at xs x order here =
    let place : from + (at - from) ≡ at = omega arith in
    let more : at + 1 - from ≡ at - from + 1 = omega arith in
    let found : slice_get (drop from xs) (at - from) ≡ Some x = slice_get-drop from (at - from) xs ∙ ap (λ (i : ℕ). slice_get xs i) place ∙ here in
    rw more (front_more (at - from) (drop from xs) x found)

pub data_known : (text : List (List ℕ)) (at : ℕ) (card : List ℕ) (operands : Operands) (ends : Ending) (found : DataCards) → operands ≡ operands_from (card ∷ drop (at + 1) text) → ends ≡ ending_of (operation_of card) operands.text → found ≡ data_behind ends (drop (at + 1 + operands.cards) text) → take (at + 1 + operands.cards + found.cards - (at + 1 + operands.cards)) (drop (at + 1 + operands.cards) text) ≡ data_of card (drop (at + 1) text)
data_known text at card operands ends found read ending is =
    let behind : List (List ℕ) = drop (at + 1) text in
    let count : at + 1 + operands.cards + found.cards - (at + 1 + operands.cards) ≡ found.cards = omega arith in
    let rest : drop operands.cards behind ≡ drop (at + 1 + operands.cards) text = drop-drop operands.cards (at + 1) text in
    let same : statement_data card operands behind ≡ found = ap (data_behind (ending_of (operation_of card) operands.text)) rest ∙ ap (λ (e : Ending). data_behind e (drop (at + 1 + operands.cards) text)) (sym ending) ∙ sym is in
    ap (λ (n : ℕ). take n (drop (at + 1 + operands.cards) text)) (count ∙ ap (λ (d : DataCards). d.cards) (sym same))
    ∙ ap (λ (l : List (List ℕ)). take (statement_data card operands behind).cards l) (sym rest)
    ∙ ap (λ (o : Operands). take (statement_data card o behind).cards (drop o.cards behind)) read

-- the operands behind the first
pub tail_cut : (field first : List ℕ) (behind : Option (Bor (List ℕ))) → MatchOption behind (parts_in false 0 field ≡ first ∷ []) (λ b. parts_in false 0 field ≡ first ∷ parts_in false 0 b.now) → operands_left behind ≡ tail (operands_of field)
tail_cut [] first None e = refl
tail_cut [] first (Some b) e = cc
tail_cut (a ∷ field) first None e = sym (ap (λ (l : List (List ℕ)). tail l) e)
tail_cut (a ∷ field) first (Some b) e = sym (ap (λ (l : List (List ℕ)). tail l) e)

-- The steps so far, statement by statement.
use Rattle.std.proofs.Common.{◌≡◌, ◌∙◌, ap, ℕ, zero, suc, ◌+◌, ◌-◌, Bool, true, false, if◌then◌else◌, Some, Result, Ok, Err, List, [], ◌∷◌, ◌++◌, length, drop, refl, arith}
use Rattle.std.specs.Prelude.{OnOk}
use Rattle.std.specs.List.{slice_get, slice_set}
use Rattle.jcl_convert.specs.declared.steps.Dd.{Dd}
use Rattle.jcl_convert.specs.declared.steps.Step.{Step}
use Rattle.mas_types.specs.declared.answers.JclCause.{JclCause}
use Rattle.mas_types.specs.declared.jobs.JobFields.{JobFields}
use Rattle.mas_types.specs.Lists.{change_at}
use Rattle.card_reader.specs.Cards.{kind_of, is_null_kind}
use Rattle.card_reader.specs.Statements.{Item, items_from, up_to_end, further_cards}
use Rattle.card_reader.proofs.Fronts.{if_yes, if_no}
use Rattle.card_reader.proofs.Items.{items_at}
use Rattle.jcl_convert.specs.declared.convert_text.Converted.{Converted}
use Rattle.jcl_convert.specs.declared.convert_text.Refused.{Refused}
use Rattle.jcl_convert.specs.Jcl.{with_dd, card_added, at_card, converted_then, converted_after}

-- a change at a place is a write of what is changed there
pub change_at-set : {A : Type 0} → (k : ℕ) (f : A → A) (xs : List A) (x : A) → slice_get xs k ≡ Some x → slice_set xs k (f x) ≡ change_at k f xs
change_at-set zero f [] x e = absurd (cc)
change_at-set zero f (y ∷ ys) x e = let same : y ≡ x = cc in rw same refl
change_at-set (suc k) f [] x e = absurd (cc)
change_at-set (suc k) f (y ∷ ys) x e = ap (λ (l : List _). y ∷ l) (change_at-set k f ys x e)

-- a DD behind those of the last step
pub pushed : {T E : Type 0} → (r : Result T E) (steps : List Step) (n : ℕ) (last : Step) (dds : List Dd) (d : Dd) → n ≡ length steps → slice_get steps (n - 1) ≡ Some last → OnOk r (dds ≡ last.dds ++ d ∷ []) → OnOk r (slice_set steps (n - 1) (record { program = last.program; dds = dds }) ≡ with_dd d steps)
pushed (Ok x) steps n last dds d count here e =
    let place : n - 1 ≡ length steps - 1 = omega arith in
    ap (λ (l : List Dd). slice_set steps (n - 1) (let s : Step = record { program = last.program; dds = l } in s)) e
    ∙ change_at-set (n - 1) (λ step. record { program = step.program; dds = step.dds ++ d ∷ [] }) steps last here
    ∙ ap (λ (k : ℕ). change_at k (λ step. record { program = step.program; dds = step.dds ++ d ∷ [] }) steps) place
pushed (Err x) steps n last dds d count here e = tt

-- CARD BY CARD

abbrev Adding : Type 0
Adding = Result Converted Refused

first_of_end : (v : Bool) (job : JobFields) (so_far : Converted) (item : Item) (items : List Item) (why : JclCause) → card_added job so_far item.card item.behind (kind_of item.card) ≡ Err why → converted_after job so_far (if v then item ∷ [] else item ∷ up_to_end items) ≡ Err (record { card = item.number; cause = why })
first_of_end true job so_far item items why e = ap (λ (r : Result Converted JclCause). converted_then (λ more. converted_after job more []) (at_card item.number r)) e
first_of_end false job so_far item items why e = ap (λ (r : Result Converted JclCause). converted_then (λ more. converted_after job more (up_to_end items)) (at_card item.number r)) e

-- of some cards, the one at a place
module _ (job : JobFields) (so_far : Converted) (cards : List (List ℕ)) (at : ℕ) (card : List ℕ) (here : slice_get cards at ≡ Some card) where
  pub converted_after-refused : (why : JclCause) → card_added job so_far card (drop (at + 1) cards) (kind_of card) ≡ Err why → converted_after job so_far (up_to_end (items_from (at + 1) 0 (drop at cards))) ≡ Err (record { card = at + 1; cause = why })
  converted_after-refused why e =
      ap (λ (l : List Item). converted_after job so_far (up_to_end l)) (items_at at (further_cards (drop at cards)) cards card here refl)
      ∙ first_of_end (is_null_kind (kind_of card)) job so_far (record { number = at + 1; card = card; behind = drop (at + 1) cards }) (items_from (at + (1 + further_cards (drop at cards)) + 1) 0 (drop (at + (1 + further_cards (drop at cards))) cards)) why e

  pub converted_after-end : (more : Converted) → card_added job so_far card (drop (at + 1) cards) (kind_of card) ≡ Ok more → is_null_kind (kind_of card) ≡ true → converted_after job so_far (up_to_end (items_from (at + 1) 0 (drop at cards))) ≡ Ok more
  converted_after-end more e is =
      ap (λ (l : List Item). converted_after job so_far (up_to_end l)) (items_at at (further_cards (drop at cards)) cards card here refl)
      ∙ ap (converted_after job so_far) (if_yes (is_null_kind (kind_of card)) _ _ is)
      ∙ ap (λ (r : Result Converted JclCause). converted_then (λ after. converted_after job after []) (at_card (at + 1) r)) e

  pub converted_after-more : (more : Converted) (taken : ℕ) → card_added job so_far card (drop (at + 1) cards) (kind_of card) ≡ Ok more → is_null_kind (kind_of card) ≡ false → taken ≡ further_cards (drop at cards) → converted_after job so_far (up_to_end (items_from (at + 1) 0 (drop at cards))) ≡ converted_after job more (up_to_end (items_from (at + (1 + taken) + 1) 0 (drop (at + (1 + taken)) cards)))
  converted_after-more more taken e is further =
      ap (λ (l : List Item). converted_after job so_far (up_to_end l)) (items_at at taken cards card here further)
      ∙ ap (converted_after job so_far) (if_no (is_null_kind (kind_of card)) _ _ is)
      ∙ ap (λ (r : Result Converted JclCause). converted_then (λ after. converted_after job after (up_to_end (items_from (at + (1 + taken) + 1) 0 (drop (at + (1 + taken)) cards)))) (at_card (at + 1) r)) e

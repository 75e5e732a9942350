-- Slots from which on none is used.
use Rattle.std.proofs.Common.{◌≡◌, ℕ, zero, suc, ◌<◌, ◌≤◌, List, [], ◌∷◌, length, drop, set, replicate, Option, Some, None, refl, ap, ◌∙◌, arith}
use Rattle.std.proofs.lemmas.List.{drop-set-lt, drop_all}
use Rattle.lay_bytes.specs.Used.{used}

module _ {X : Type 0} where
  none_used : (n : ℕ) → used {X = X} (replicate n None) ≡ []
  none_used zero = refl
  none_used (suc n) = none_used n

  -- nothing stands in empty slots
  pub empty_ended : (slots : List (Option X)) → slots ≡ replicate (length slots) None → used (drop 0 slots) ≡ []
  empty_ended slots empty = ap used empty ∙ none_used (length slots)

  -- nothing stands past all slots
  pub all_ended : (slots : List (Option X)) → used (drop (length slots) slots) ≡ []
  all_ended slots = ap used (drop_all (length slots) slots (omega arith))

  emptied_ended : (slots : List (Option X)) (end at : ℕ) → used (drop end slots) ≡ [] → used (drop end (set slots at None)) ≡ []
  emptied_ended [] end at none = none
  emptied_ended (None ∷ slots) zero zero none = none
  emptied_ended (None ∷ slots) zero (suc at) none = emptied_ended slots zero at none
  emptied_ended (Some x ∷ slots) zero at none = absurd (cc)
  emptied_ended (s ∷ slots) (suc end) zero none = none
  emptied_ended (s ∷ slots) (suc end) (suc at) none = emptied_ended slots end at none

  later_ended : (slots : List (Option X)) (end later : ℕ) → end ≤ later → used (drop end slots) ≡ [] → used (drop later slots) ≡ []
  later_ended [] end zero le none = refl
  later_ended [] end (suc later) le none = refl
  later_ended (s ∷ slots) zero zero le none = none
  later_ended (s ∷ slots) (suc end) zero le none = absurd (omega (arith, le))
  later_ended (None ∷ slots) zero (suc later) le none = later_ended slots zero later (omega arith) none
  later_ended (Some x ∷ slots) zero (suc later) le none = absurd (cc)
  later_ended (s ∷ slots) (suc end) (suc later) le none = later_ended slots end later (omega (arith, le)) none

  -- a slot before the end is written
  pub filled_ended : (slots : List (Option X)) (end later at : ℕ) (s : Option X) → at < later → end ≤ later → used (drop end slots) ≡ [] → used (drop later (set slots at s)) ≡ []
  filled_ended slots end later at s inside le none = ap used (drop-set-lt later slots at s inside) ∙ later_ended slots end later le none

  -- a slot is emptied
  pub freed_ended : (slots : List (Option X)) (end at : ℕ) (s : Option X) → s ≡ None → used (drop end slots) ≡ [] → used (drop end (set slots at s)) ≡ []
  freed_ended slots end at s free none = ap (λ (y : Option X). used (drop end (set slots at y))) free ∙ emptied_ended slots end at none

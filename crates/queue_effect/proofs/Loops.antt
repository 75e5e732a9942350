-- Loops over slots.
use Rattle.std.proofs.Common.{◌≡◌, ℕ, ◌+◌, ◌<◌, Bool, List, [], ◌∷◌, ◌++◌, length, get_or, take, drop, Option, Some, None, refl, ap, sym, append-nil, ◌∙◌}
use Rattle.std.specs.Prelude.{count_by, filter, min, if◌then◌else◌}
use Rattle.std.proofs.lemmas.List.{drop_min, take-append-drop, take_more}
use Rattle.std.proofs.lemmas.List.Elements.{filter-append}
use Rattle.std.proofs.lemmas.List.Sums.{sum_by-append}
use Rattle.lay_bytes.specs.Used.{used}

used-append : {X : Type 0} (xs ys : List (Option X)) → used (xs ++ ys) ≡ used xs ++ used ys
used-append [] ys = refl
used-append (None ∷ xs) ys = used-append xs ys
used-append (Some x ∷ xs) ys = ap (λ zs. x ∷ zs) (used-append xs ys)

-- the slots up to an end have all that is used, where none is from there on
pub used_front : {X : Type 0} (xs : List (Option X)) (end : ℕ) → used (drop end xs) ≡ [] → used (take (min end (length xs)) xs) ≡ used xs
used_front xs end none =
    let at : ℕ = min end (length xs) in
    let rest : used (drop at xs) ≡ [] = ap used (drop_min end xs) ∙ none in
    sym (append-nil (used (take at xs))) ∙ ap (λ zs. used (take at xs) ++ zs) (sym rest) ∙ sym (used-append (take at xs) (drop at xs)) ∙ ap used (take-append-drop at xs)

-- one more slot
pub used_more : {X : Type 0} (xs : List (Option X)) (i : ℕ) (d : Option X) → i < length xs → used (take (i + 1) xs) ≡ used (take i xs) ++ used (get_or xs i d ∷ [])
used_more xs i d inside = rw (take_more xs i d inside) (used-append (take i xs) (get_or xs i d ∷ []))

-- those that a test picks, with one more slot
pub kept_more : {X : Type 0} (p : X → Bool) (xs : List (Option X)) (i : ℕ) (d : Option X) → i < length xs → filter p (used (take (i + 1) xs)) ≡ filter p (used (take i xs)) ++ filter p (used (get_or xs i d ∷ []))
kept_more p xs i d inside = ap (filter p) (used_more xs i d inside) ∙ filter-append p (used (take i xs)) (used (get_or xs i d ∷ []))

-- how many records a test picks, with one more slot
pub counted_more : {X : Type 0} (p : X → Bool) (xs : List (Option X)) (i : ℕ) (d : Option X) → i < length xs
    → count_by p (used (take (i + 1) xs)) ≡ count_by p (used (take i xs)) + count_by p (used (get_or xs i d ∷ []))
counted_more p xs i d inside = rw (used_more xs i d inside) (sum_by-append (λ y. if p y then 1 else 0) (used (take i xs)) (used (get_or xs i d ∷ [])))

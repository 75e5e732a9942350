-- Entries in brief, one more at a time.
use Rattle.std.proofs.Common.{◌≡◌, ◌∙◌, sym, ap, ℕ, ◌+◌, ◌<◌, List, [], ◌∷◌, ◌++◌, length, map, drop, get_or, refl, append_assoc, drop-cons, add-one}
use Rattle.std.proofs.lemmas.List.{length-map}
use Rattle.mas_types.specs.declared.journals.Entry.{Entry}
use Rattle.brief_journal.specs.declared.entries.BriefEntry.{BriefEntry}
use Rattle.brief_journal.specs.Brief.{brief_of}

here : {A : Type 0} (xs : List A) (i : ℕ) (x : A) → i < length xs → x ≡ get_or xs i x → drop i xs ≡ x ∷ drop (i + 1) xs
here {A} xs i x inside is = place ∙ ap (λ (y : A). y ∷ drop (i + 1) xs) (sym is) where
  place : drop i xs ≡ get_or xs i x ∷ drop (i + 1) xs
  place = rw (drop-cons xs i x inside, add-one) refl

pub briefs_more : (es : List Entry) (i : ℕ) (e : Entry) (old new whole : List BriefEntry) → i < length es
    → e ≡ get_or es i e → new ≡ old ++ brief_of e ∷ [] → old ++ map brief_of (drop i es) ≡ whole
    → new ++ map brief_of (drop (i + 1) es) ≡ whole
briefs_more es i e old new whole inside is more so_far =
    let rest = map brief_of (drop (i + 1) es) in
    ap (λ (l : List BriefEntry). l ++ rest) more ∙ append_assoc old (brief_of e ∷ []) rest
    ∙ ap (λ (l : List Entry). old ++ map brief_of l) (sym (here es i e inside is)) ∙ so_far

pub map_length : {A B : Type 0} (f : A → B) (xs : List A) → length (map f xs) ≡ length xs
map_length f xs = length-map xs f

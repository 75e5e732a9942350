-- What entries count for, and the lines that they tell, one more at a time.
use Rattle.std.proofs.Common.{◌≡◌, ◌∙◌, sym, ap, ℕ, ◌+◌, ◌<◌, Bool, true, false, List, [], ◌∷◌, ◌++◌, length, map, take, drop, get_or, refl, append_assoc, drop-cons, add-one, arith}
use Rattle.std.proofs.lemmas.List.{take_more}
use Rattle.std.proofs.lemmas.List.Elements.{filter_map-append}
use Rattle.mas_types.specs.declared.ids.JobNo.{JobNo}
use Rattle.mas_types.specs.declared.ids.OutNo.{OutNo}
use Rattle.mas_types.specs.declared.journals.Batch.{Batch}
use Rattle.mas_types.specs.Journal.{is_kept}
use Rattle.brief_journal.specs.declared.entries.BriefEntry.{BriefEntry}
use Rattle.brief_journal.specs.Brief.{entry_of}
use Rattle.gen_work.specs.declared.summaries.Counted.{Counted}
use Rattle.gen_work.specs.Summaries.{counted_in, counted_of, entries_kept, kept_in, mark_after, mark_then, printed_behind, printed_by}

-- ONE MORE

place : {A : Type 0} (xs : List A) (i : ℕ) (x : A) → i < length xs → drop i xs ≡ get_or xs i x ∷ drop (i + 1) xs
place xs i x inside = rw (drop-cons xs i x inside, add-one) refl

here : {A : Type 0} (xs : List A) (i : ℕ) (x : A) → i < length xs → x ≡ get_or xs i x → drop i xs ≡ x ∷ drop (i + 1) xs
here {A} xs i x inside is = place xs i x inside ∙ ap (λ (y : A). y ∷ drop (i + 1) xs) (sym is)

pub briefs_more : (bs : List BriefEntry) (i : ℕ) (none : BriefEntry) (old new whole : List Counted) → i < length bs
    → new ≡ old ++ counted_in (entry_of (get_or bs i none) ∷ []) → old ++ counted_in (map entry_of (drop i bs)) ≡ whole
    → new ++ counted_in (map entry_of (drop (i + 1) bs)) ≡ whole
briefs_more bs i none old new whole inside more so_far =
    let b = get_or bs i none in
    let left = map entry_of (drop (i + 1) bs) in
    let rest = counted_in left in
    let split : counted_in (map entry_of (drop i bs)) ≡ counted_in (entry_of b ∷ []) ++ rest = ap (λ (l : List BriefEntry). counted_in (map entry_of l)) (place bs i none inside)
    ∙ filter_map-append counted_of (entry_of b ∷ []) left in
    ap (λ (l : List Counted). l ++ rest) more ∙ append_assoc old (counted_in (entry_of b ∷ [])) rest
    ∙ ap (λ (l : List Counted). old ++ l) (sym split) ∙ so_far

kept_first : (b : Batch) (bs : List Batch) → kept_in (b ∷ bs) ≡ entries_kept b ++ kept_in bs
kept_first b bs = by_test (is_kept b.fate) refl where
  by_test : (v : Bool) → is_kept b.fate ≡ v → kept_in (b ∷ bs) ≡ entries_kept b ++ kept_in bs
  by_test true e = rw e refl
  by_test false e = rw e refl

pub batches_more : (bs : List Batch) (i : ℕ) (b : Batch) (old new whole : List Counted) → i < length bs → b ≡ get_or bs i b
    → new ≡ old ++ counted_in (entries_kept b) → old ++ counted_in (kept_in (drop i bs)) ≡ whole
    → new ++ counted_in (kept_in (drop (i + 1) bs)) ≡ whole
batches_more bs i b old new whole inside is more so_far =
    let rest = kept_in (drop (i + 1) bs) in
    let split : counted_in (kept_in (drop i bs)) ≡ counted_in (entries_kept b) ++ counted_in rest = ap (λ (l : List Batch). counted_in (kept_in l)) (here bs i b inside is)
    ∙ ap counted_in (kept_first b (drop (i + 1) bs)) ∙ filter_map-append counted_of (entries_kept b) rest in
    ap (λ (l : List Counted). l ++ counted_in rest) more ∙ append_assoc old (counted_in (entries_kept b)) (counted_in rest)
    ∙ ap (λ (l : List Counted). old ++ l) (sym split) ∙ so_far

-- LINES

pub mark_more : (n : JobNo) (i : OutNo) (xs : List Counted) (k : ℕ) (d : Counted) (old new whole : ℕ) → k < length xs
    → new ≡ mark_then n i old (get_or xs k d) → mark_after n i old (drop k xs) ≡ whole → mark_after n i new (drop (k + 1) xs) ≡ whole
mark_more n i xs k d old new whole inside more so_far =
    ap (λ (m : ℕ). mark_after n i m (drop (k + 1) xs)) more ∙ sym (ap (mark_after n i old) (place xs k d inside)) ∙ so_far

pub printed_more : (xs : List Counted) (k : ℕ) (d : Counted) (old new whole : ℕ) → k < length xs
    → new ≡ old + printed_by (take k xs) (get_or xs k d) → old + printed_behind (take k xs) (drop k xs) ≡ whole
    → new + printed_behind (take (k + 1) xs) (drop (k + 1) xs) ≡ whole
printed_more xs k d old new whole inside more so_far =
    let x = get_or xs k d in
    let rest = drop (k + 1) xs in
    let front : take (k + 1) xs ≡ take k xs ++ x ∷ [] = take_more xs k d inside in
    let split : printed_behind (take k xs) (drop k xs) ≡ printed_by (take k xs) x + printed_behind (take (k + 1) xs) rest = ap (printed_behind (take k xs)) (place xs k d inside)
    ∙ ap (λ (l : List Counted). printed_by (take k xs) x + printed_behind l rest) (sym front) in
    omega (arith, more, so_far, split)

-- A batch that is written to both copies.
use Rattle.std.proofs.Common.{◌≡◌, ℕ, ◌++◌, Bool, false, List, [], ◌∷◌, Option, Some, None, refl, sym, ◌∙◌, ap, subst, append-nil}
use Rattle.std.proofs.lemmas.Option.{same_Some as some_same}
use Rattle.mas_types.specs.declared.journals.Batch.{Batch}
use Rattle.mas_types.specs.declared.journals.Entry.{Entry}
use Rattle.mas_types.specs.declared.queues.Queue.{Queue}
use Rattle.ckpt_copy.specs.Pages.{Covers}
use Rattle.mas_types.specs.declared.journals.Fate.TheVariants.{Kept}
use Rattle.mas_complex.specs.Changed.{NamesOnly}
use Rattle.mas_complex.specs.Meaning.{step, run}
use Rattle.mas_complex.specs.Journals.{with_last, end_of, fated, kept_all}
use Rattle.mas_complex.proofs.Batches.{with_last-append, kept_all_append}

-- numbers that cover what differs from the pages that a copy reads
pub covers_read : (count n : ℕ) (numbers was before pages : List ℕ) (read : Option (List ℕ)) → count ≡ n → Covers n numbers before pages → read ≡ Some before → read ≡ Some was → Covers count numbers was pages
covers_read count n numbers was before pages read many covers is reads =
    let same : before ≡ was = some_same before was (sym is ∙ reads) in
    subst (λ (m : ℕ). Covers m numbers was pages) (sym many) (subst (λ (w : List ℕ). Covers n numbers w pages) same covers)

-- numbers that name only what differs from the pages that a copy reads
pub names_read : (numbers was before pages : List ℕ) (read : Option (List ℕ)) → NamesOnly numbers before pages → read ≡ Some before → read ≡ Some was → NamesOnly numbers was pages
names_read numbers was before pages read names is reads = subst (λ (w : List ℕ). NamesOnly numbers w pages) (some_same before was (sym is ∙ reads)) names

-- the journal with one batch more, as it is handed out
pub kept_out : (front was batches : List Batch) (place b : Batch) (placed : Bool) (current : Option Batch) → was ≡ front ++ place ∷ [] → batches ≡ with_last b was → placed ≡ false → current ≡ None
    → end_of placed current batches ≡ front ++ b ∷ []
kept_out front was batches place b placed current one is unplaced none =
    ap (λ (p : Bool). end_of p current batches) unplaced ∙ ap (λ (c : Option Batch). end_of false c batches) none ∙ is ∙ ap (with_last b) one ∙ with_last-append b front place

pub flying_out : (front was batches : List Batch) (place b : Batch) (placed : Bool) (current : Option Batch) → was ≡ front ++ place ∷ [] → batches ≡ was → current ≡ Some b
    → end_of placed current batches ≡ front ++ b ∷ []
flying_out front was batches place b placed current one is flies =
    ap (λ (c : Option Batch). end_of placed c batches) flies ∙ ap (with_last b) (is ∙ one) ∙ with_last-append b front place

pub none_out : (front batches : List Batch) (placed : Bool) (current : Option Batch) → batches ≡ front → placed ≡ false → current ≡ None → end_of placed current batches ≡ front
none_out front batches placed current is unplaced none =
    ap (λ (p : Bool). end_of p current batches) unplaced ∙ ap (λ (c : Option Batch). end_of false c batches) none ∙ is

-- the entries of the kept batches, with one more
pub kept_all_with : (front : List Batch) (last : ℕ) (b : Batch) → kept_all (front ++ fated Kept last b ∷ []) ≡ kept_all front ++ b.entries
kept_all_with front last b = kept_all_append front (fated Kept last b ∷ []) ∙ ap (λ (es : List Entry). kept_all front ++ es) (append-nil b.entries)

pub run_append : (Q : Queue) (xs ys : List Entry) → run Q (xs ++ ys) ≡ run (run Q xs) ys
run_append Q [] ys = refl
run_append Q (e ∷ xs) ys = run_append (step Q e.by e.command).0 xs ys

-- the queue after the kept batches, the last of which has just been written
pub queue_kept : (base base1 Q after : Queue) (front batches : List Batch) (last : ℕ) (b : Batch) (entries : List Entry) → base1 ≡ base → Q ≡ run base (kept_all front) → batches ≡ front ++ fated Kept last b ∷ []
    → b.entries ≡ entries → after ≡ run Q entries → after ≡ run base1 (kept_all batches)
queue_kept base base1 Q after front batches last b entries same is all are effect =
    effect ∙ ap (λ (q : Queue). run q entries) is ∙ sym (run_append base (kept_all front) entries)
    ∙ ap (λ (es : List Entry). run base (kept_all front ++ es)) (sym are) ∙ ap (run base) (sym (kept_all_with front last b))
    ∙ ap (λ (bs : List Batch). run base (kept_all bs)) (sym all) ∙ ap (λ (q : Queue). run q (kept_all batches)) (sym same)

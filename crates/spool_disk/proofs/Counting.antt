-- The reads of a record.
use Rattle.std.proofs.Common.{◌≡◌, ℕ, zero, suc, Bool, true, false, if◌then◌else◌, List, [], ◌∷◌, ◌++◌, ◌+◌, ◌≤◌, length, length-append, take, drop, filter, refl, ◌∙◌, ap}
use Rattle.std.proofs.lemmas.List.{drop-append-le}
use Rattle.std.proofs.lemmas.List.Elements.{filter-append}
use Rattle.spool_disk.specs.declared.entry.Entry.{Entry}
use Rattle.spool_disk.specs.declared.entry.Entry.TheVariants.{Idle as EntryIdle, Wrote as EntryWrote, Synced as EntrySynced, Said as EntrySaid, Passed as EntryPassed, Fetched as EntryFetched, Renewed as EntryRenewed}
use Rattle.spool_disk.specs.Deeds.{Deed, is_read}
use Rattle.spool_disk.specs.Entries.{kept_by, deed_of, deeds_of, reads_at}

reads_same : (slot : ℕ) (e : Entry) (bytes : List ℕ) → is_read slot (deed_of e bytes) ≡ reads_at slot e
reads_same slot EntryIdle bytes = refl
reads_same slot (EntryWrote s at len kept) bytes = refl
reads_same slot (EntrySynced s) bytes = refl
reads_same slot (EntrySaid place kept whole) bytes = refl
reads_same slot (EntryPassed given wire member kept) bytes = refl
reads_same slot (EntryFetched s) bytes = refl
reads_same slot (EntryRenewed s since) bytes = refl

count_deeds : (slot : ℕ) (log : List Entry) (arena : List ℕ) → length (filter (is_read slot) (deeds_of log arena)) ≡ length (filter (reads_at slot) log)
count_deeds slot [] arena = refl
count_deeds slot (e ∷ log) arena =
    ap (λ (b : Bool). length (if b then deed_of e (take (kept_by e) arena) ∷ filter (is_read slot) (deeds_of log (drop (kept_by e) arena)) else filter (is_read slot) (deeds_of log (drop (kept_by e) arena)))) (reads_same slot e (take (kept_by e) arena))
    ∙ by_test (reads_at slot e) (count_deeds slot log (drop (kept_by e) arena))
  where
    by_test : (b : Bool) → length (filter (is_read slot) (deeds_of log (drop (kept_by e) arena))) ≡ length (filter (reads_at slot) log) → length (if b then deed_of e (take (kept_by e) arena) ∷ filter (is_read slot) (deeds_of log (drop (kept_by e) arena)) else filter (is_read slot) (deeds_of log (drop (kept_by e) arena)))
        ≡ length (if b then e ∷ filter (reads_at slot) log else filter (reads_at slot) log)
    by_test true rest = ap suc rest
    by_test false rest = rest

pub count_drop : (slot t : ℕ) (log : List Entry) (arena : List ℕ) → length (filter (is_read slot) (drop t (deeds_of log arena))) ≡ length (filter (reads_at slot) (drop t log))
count_drop slot zero log arena = count_deeds slot log arena
count_drop slot (suc t) [] arena = refl
count_drop slot (suc t) (e ∷ log) arena = count_drop slot t log (drop (kept_by e) arena)

-- one read more
pub count_push : (slot t : ℕ) (es : List Deed) (e : Deed) → t ≤ length es → is_read slot e ≡ true → length (filter (is_read slot) (drop t (es ++ e ∷ []))) ≡ length (filter (is_read slot) (drop t es)) + 1
count_push slot t es e le is =
    ap (λ (l : List Deed). length (filter (is_read slot) l)) (drop-append-le t es (e ∷ []) le)
    ∙ ap (λ (l : List Deed). length l) (filter-append (is_read slot) (drop t es) (e ∷ []))
    ∙ length-append (filter (is_read slot) (drop t es)) (filter (is_read slot) (e ∷ []))
    ∙ ap (λ (b : Bool). length (filter (is_read slot) (drop t es)) + length (if b then e ∷ [] else [])) is

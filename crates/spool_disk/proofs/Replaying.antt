-- The entries of a record, one after another.
use Rattle.std.proofs.Common.{◌≡◌, inr, ℕ, zero, suc, ◌+◌, ◌-◌, ◌≤◌, ◌<◌, Bool, true, false, if◌then◌else◌, List, [], ◌∷◌, ◌++◌, length, take, drop, get_or, refl, subst, sym, ◌∙◌, ap, arith, length-append}
use Rattle.std.proofs.lemmas.List.{drop_all, take_more, drop-drop, drop-append-le, length-take-le, take-append-drop}
use Rattle.spool_disk.specs.declared.entry.Entry.{Entry}
use Rattle.spool_plant.specs.View.{Disk, slice}
use Rattle.spool_disk.specs.Deeds.{Deed, effect, after, gather, lines_of, line_on}
use Rattle.spool_disk.specs.DeedLaws.{after_push, gather_append}
use Rattle.spool_disk.specs.Entries.{kept_by, kept_in, deed_of, deeds_of}
use Rattle.spool_disk.specs.Settled.{is_sync, IsQuiet, EndsSynced}
use Rattle.spool_disk.proofs.Entering.{kept_push, deeds_push}

pub deeds_split : (log more : List Entry) (arena : List ℕ) → deeds_of (log ++ more) arena ≡ deeds_of log arena ++ deeds_of more (drop (kept_in log) arena)
deeds_split [] more arena = refl
deeds_split (e ∷ log) more arena =
    ap (λ (l : List Deed). deed_of e (take (kept_by e) arena) ∷ l)
    (deeds_split log more (drop (kept_by e) arena)
    ∙ ap (λ (l : List ℕ). deeds_of log (drop (kept_by e) arena) ++ deeds_of more l) (drop-drop (kept_in log) (kept_by e) arena))

pub kept_split : (log more : List Entry) → kept_in (log ++ more) ≡ kept_in log + kept_in more
kept_split [] more = omega arith
kept_split (e ∷ log) more = omega (arith, kept_split log more)

-- the next entry
module _ (log : List Entry) (arena : List ℕ) (i : ℕ) (none : Entry) (below : i < length log) where
  next_take : take (i + 1) log ≡ take i log ++ get_or log i none ∷ []
  next_take = take_more log i none below

  pub next_kept : kept_in (take (i + 1) log) ≡ kept_in (take i log) + kept_by (get_or log i none)
  next_kept = ap kept_in next_take ∙ kept_push (take i log) (get_or log i none)

  pub next_deeds : deeds_of (take (i + 1) log) arena ≡ deeds_of (take i log) arena ++ deed_of (get_or log i none) (slice (kept_in (take i log)) (kept_by (get_or log i none)) arena) ∷ []
  next_deeds = ap (λ (l : List Entry). deeds_of l arena) next_take ∙ deeds_split (take i log) (get_or log i none ∷ []) arena

  pub next_after : (slot : ℕ) (d : Disk) → after slot d (deeds_of (take (i + 1) log) arena) ≡ effect slot (after slot d (deeds_of (take i log) arena)) (deed_of (get_or log i none) (slice (kept_in (take i log)) (kept_by (get_or log i none)) arena))
  next_after slot d = ap (after slot d) next_deeds ∙ after_push slot d (deeds_of (take i log) arena) (deed_of (get_or log i none) (slice (kept_in (take i log)) (kept_by (get_or log i none)) arena))

  pub next_gather : {T : Type 0} (adds : Deed → List T) → gather adds (deeds_of (take (i + 1) log) arena) ≡ gather adds (deeds_of (take i log) arena) ++ gather adds (deed_of (get_or log i none) (slice (kept_in (take i log)) (kept_by (get_or log i none)) arena) ∷ [])
  next_gather adds = ap (gather adds) next_deeds ∙ gather_append adds (deeds_of (take i log) arena) (deed_of (get_or log i none) (slice (kept_in (take i log)) (kept_by (get_or log i none)) arena) ∷ [])

  -- the bytes of the next entry are there
  pub next_within : kept_in log ≤ length arena → kept_in (take i log) + kept_by (get_or log i none) ≤ length arena
  next_within fits =
      let parts : kept_in log ≡ kept_in (take (i + 1) log) + kept_in (drop (i + 1) log) = ap kept_in (sym (take-append-drop (i + 1) log)) ∙ kept_split (take (i + 1) log) (drop (i + 1) log) in
      omega (arith, fits, parts, next_kept)

-- the first entries and the rest
pub deeds_parts : (n : ℕ) (log : List Entry) (arena : List ℕ) → deeds_of log arena ≡ deeds_of (take n log) arena ++ deeds_of (drop n log) (drop (kept_in (take n log)) arena)
deeds_parts n log arena = ap (λ (l : List Entry). deeds_of l arena) (sym (take-append-drop n log)) ∙ deeds_split (take n log) (drop n log) arena

pub kept_parts : (n : ℕ) (log : List Entry) → kept_in log ≡ kept_in (take n log) + kept_in (drop n log)
kept_parts n log = ap kept_in (sym (take-append-drop n log)) ∙ kept_split (take n log) (drop n log)

-- the entries up to the last sync of a slot
ends_same : (slot : ℕ) (es fs : List Entry) → es ≡ fs → EndsSynced slot fs → EndsSynced slot es
ends_same slot es fs same ends = subst (EndsSynced slot) (sym same) ends

pub quiet_push : (slot : ℕ) (es : List Entry) (e : Entry) → IsQuiet slot es → is_sync slot e ≡ false → IsQuiet slot (es ++ e ∷ [])
quiet_push slot [] e quiet none = (none, tt)
quiet_push slot (f ∷ es) e quiet none = (quiet.0, quiet_push slot es e quiet.1 none)

pub quiet_take : (slot i : ℕ) (es : List Entry) → IsQuiet slot es → IsQuiet slot (take i es)
quiet_take slot zero [] quiet = tt
quiet_take slot (suc i) [] quiet = tt
quiet_take slot zero (e ∷ es) quiet = tt
quiet_take slot (suc i) (e ∷ es) quiet = (quiet.0, quiet_take slot i es quiet.1)

pub quiet_at : (slot i : ℕ) (es : List Entry) (none : Entry) → IsQuiet slot es → i < length es → is_sync slot (get_or es i none) ≡ false
quiet_at slot i [] none quiet below = absurd (omega arith)
quiet_at slot zero (e ∷ es) none quiet below = quiet.0
quiet_at slot (suc i) (e ∷ es) none quiet below = quiet_at slot i es none quiet.1 (omega arith)

module _ (slot : ℕ) (log : List Entry) (i : ℕ) (none : Entry) (below : i < length log) where
  pub ends_here : is_sync slot (get_or log i none) ≡ true → EndsSynced slot (take (i + 1) log)
  ends_here is = inr (take i log, (get_or log i none, (is, take_more log i none below)))

  pub quiet_here : IsQuiet slot (drop (i + 1) (take (i + 1) log))
  quiet_here = subst (IsQuiet slot) (sym (drop_none (i + 1) (take (i + 1) log) (omega (arith, length-take-le (i + 1) log (omega arith))))) tt where
    drop_none : (n : ℕ) (l : List Entry) → length l ≤ n → drop n l ≡ []
    drop_none n l le = drop_all n l le

  pub quiet_on : (last : ℕ) → last ≤ i → is_sync slot (get_or log i none) ≡ false → IsQuiet slot (drop last (take i log)) → IsQuiet slot (drop last (take (i + 1) log))
  quiet_on last le none_is quiet =
      let long : length (take i log) ≡ i = length-take-le i log (omega arith) in
      let next : drop last (take (i + 1) log) ≡ drop last (take i log) ++ get_or log i none ∷ [] =
      ap (drop last) (take_more log i none below) ∙ drop-append-le last (take i log) (get_or log i none ∷ []) (omega (arith, long, le)) in
      subst (IsQuiet slot) (sym next) (quiet_push slot (drop last (take i log)) (get_or log i none) quiet none_is)

  -- the entries up to the last sync, one entry on
  pub last_next : (last last' : ℕ) → last' ≡ (if is_sync slot (get_or log i none) then i + 1 else last) → last ≤ i → EndsSynced slot (take last log) → IsQuiet slot (drop last (take i log))
      → (last' ≤ i + 1) × EndsSynced slot (take last' log) × IsQuiet slot (drop last' (take (i + 1) log))
  last_next last last' is le ends quiet = by_test (is_sync slot (get_or log i none)) refl is where
    by_test : (b : Bool) → is_sync slot (get_or log i none) ≡ b → last' ≡ (if b then i + 1 else last) → (last' ≤ i + 1) × EndsSynced slot (take last' log) × IsQuiet slot (drop last' (take (i + 1) log))
    by_test true here same = subst (λ (n : ℕ). (n ≤ i + 1) × EndsSynced slot (take n log) × IsQuiet slot (drop n (take (i + 1) log))) (sym same) (omega arith, ends_here here, quiet_here)
    by_test false here same = subst (λ (n : ℕ). (n ≤ i + 1) × EndsSynced slot (take n log) × IsQuiet slot (drop n (take (i + 1) log))) (sym same) (omega arith, ends, quiet_on last le here quiet)

-- a part of the record's bytes
pub part_is : (arena : List ℕ) (from kept from' kept' : ℕ) → from ≡ from' → kept ≡ kept' → take ((from + kept) - from) (drop from arena) ≡ slice from' kept' arena
part_is arena from kept from' kept' same many =
    let n : (from + kept) - from ≡ kept' = omega (arith, many) in
    ap (λ (k : ℕ). take k (drop from arena)) n ∙ ap (λ (k : ℕ). take kept' (drop k arena)) same

-- a line more
pub add_said : (said said' : List Entry) (text text' : List ℕ) (e : Entry) (bytes : List ℕ) → kept_in said ≡ length text → kept_by e ≡ length bytes → said' ≡ said ++ e ∷ [] → text' ≡ text ++ bytes
    → (place : ℕ) → lines_of place (deeds_of said' text') ≡ lines_of place (deeds_of said text) ++ lines_of place (deed_of e bytes ∷ [])
add_said said said' text text' e bytes fits kept added more place =
    ap (lines_of place) (ap (λ (l : List Entry). deeds_of l text') added ∙ ap (deeds_of (said ++ e ∷ [])) more ∙ deeds_push said text e bytes fits kept)
    ∙ gather_append (line_on place) (deeds_of said text) (deed_of e bytes ∷ [])

pub add_said_kept : (said said' : List Entry) (text text' : List ℕ) (e : Entry) (bytes : List ℕ) → kept_in said ≡ length text → kept_by e ≡ length bytes → said' ≡ said ++ e ∷ [] → text' ≡ text ++ bytes → kept_in said' ≡ length text'
add_said_kept said said' text text' e bytes fits kept added more = omega (arith, ap kept_in added, kept_push said e, fits, kept, ap (λ (l : List ℕ). length l) more, length-append text bytes)

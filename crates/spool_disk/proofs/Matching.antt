-- What a crash leaves is an image.
use Rattle.std.proofs.Common.{◌≡◌, inl, inr, ⊎_elim, ℕ, ◌+◌, ◌-◌, ◌≤◌, ◌<◌, ◌==◌, nat_le, nat_lt, ◌&&◌, ◌||◌, min, max, Bool, true, false, if◌then◌else◌, List, [], ◌∷◌, length, take, drop, replicate, slice_index, refl, subst, sym, ◌∙◌, ap, arith}
use Rattle.std.proofs.lemmas.Bool.Decides.{nat_tests}
use Rattle.std.proofs.lemmas.List.{get_or-take, get_or-drop, length-take, length-drop, ext_get_or}
use Rattle.spool_plant.specs.declared.choice.Choice.{Choice}
use Rattle.spool_plant.specs.declared.choice.Choice.TheVariants.{Old, New, Ones}
use Rattle.spool_disk.specs.declared.entry.Entry.{Entry}
use Rattle.spool_disk.specs.declared.entry.Entry.TheVariants.{Idle as EntryIdle, Wrote as EntryWrote, Synced as EntrySynced, Said as EntrySaid, Passed as EntryPassed, Fetched as EntryFetched, Renewed as EntryRenewed}
use Rattle.spool_plant.specs.View.{Disk, Stretch, Apart, Avoids, slice}
use Rattle.spool_plant.specs.Acts.{DiffersIn}
use Rattle.spool_disk.specs.Deeds.{overwrite, effect, after}
use Rattle.spool_disk.specs.Entries.{kept_by, deed_of, deeds_of}
use Rattle.spool_plant.specs.Crash.{IsOnes, is_in, is_unsynced}
use Rattle.spool_disk.specs.Settled.{synced_by, last_synced, Leaves}
use Rattle.spool_disk.proofs.Crashing.{differs_overwrite, differs_at}

-- bytes are as an image of a device, lost or not
pub record Matches (image : List ℕ) (disk : Disk) : Type 0 where
  pub size : length image ≡ length disk.bytes
  pub synced : (s : Stretch) → Avoids disk.unsynced s → slice s.from s.len image ≡ slice s.from s.len disk.bytes

pub matches_self : (image : List ℕ) (d : Disk) → image ≡ d.bytes → Matches image d
matches_self image d same = record { size = ap (λ (l : List ℕ). length l) same; synced = λ s avoids. ap (slice s.from s.len) same }

-- stretches are the same where each byte is
slice_same : (from len : ℕ) (a b : List ℕ) → length a ≡ length b → ((i : ℕ) → from ≤ i → i < from + len → i < length b → slice_index a i ≡ slice_index b i) → slice from len a ≡ slice from len b
slice_same from len a b long each =
    let long_a : length (take len (drop from a)) ≡ min len (length a - from) = length-take len (drop from a) ∙ ap (min len) (length-drop from a) in
    let long_b : length (take len (drop from b)) ≡ min len (length b - from) = length-take len (drop from b) ∙ ap (min len) (length-drop from b) in
    ext_get_or 0 (take len (drop from a)) (take len (drop from b)) (omega (arith, long_a, long_b, long))
    (λ i lt.
    let short : i < len = omega (arith, lt, long_a) in
    let there : from + i < length b = omega (arith, lt, long_a, long) in
    get_or-take len (drop from a) i 0 short ∙ get_or-drop from a i 0 ∙ each (from + i) (omega arith) (omega (arith, short)) there ∙ sym (get_or-drop from b i 0) ∙ sym (get_or-take len (drop from b) i 0 short))

-- a place in a stretch that avoids the unsynced ones
is_synced : (rs : List Stretch) (s : Stretch) (i : ℕ) → Avoids rs s → s.from ≤ i → i < s.from + s.len → is_unsynced rs i ≡ false
is_synced [] s i avoids from to = refl
is_synced (r ∷ rs) s i avoids from to = ap (λ (b : Bool). b || is_unsynced rs i) (⊎_elim before behind avoids.0) ∙ is_synced rs s i avoids.1 from to where
  before : r.from + r.len ≤ s.from → is_in r.from r.len i ≡ false
  before le = let past : nat_lt i (r.from + r.len) ≡ false = grind (arith, nat_tests) in ap (λ (b : Bool). nat_le r.from i && b) past ∙ and_false (nat_le r.from i) where
    and_false : (b : Bool) → (b && false) ≡ false
    and_false true = refl
    and_false false = refl

  behind : s.from + s.len ≤ r.from → is_in r.from r.len i ≡ false
  behind le = let below : nat_le r.from i ≡ false = grind (arith, nat_tests) in ap (λ (b : Bool). b && nat_lt i (r.from + r.len)) below

ones_match : (d : Disk) (image : List ℕ) → IsOnes d image → Matches image d
ones_match d image is = record {
  size = is.size;
  synced = λ s avoids. slice_same s.from s.len image d.bytes is.size (λ i from to lt. is.each i lt ∙ ap (λ (b : Bool). if b then 255 else slice_index d.bytes i) (is_synced d.unsynced s i avoids from to));
}

-- a stretch apart from a change
apart_same : (from len at n : ℕ) (old new : List ℕ) → DiffersIn at n old new → Apart (record { from = at; len = n }) (record { from = from; len = len }) → slice from len new ≡ slice from len old
apart_same from len at n old new differs apart =
    slice_same from len new old differs.size
    (λ i above below lt. differs_at at n old new i differs (⊎_elim (λ behind. inr (omega (arith, behind, above))) (λ before. inl (omega (arith, before, below))) apart))

-- the bytes of the last sync
module _ (slot : ℕ) where
  step : (synced : List ℕ) (d : Disk) (e : Entry) (bytes : List ℕ) → length bytes ≤ kept_by e → Matches synced d → Matches (synced_by slot synced d (deed_of e bytes)) (effect slot d (deed_of e bytes))
  step synced d EntryIdle bytes few was = was
  step synced d (EntryWrote s at len kept) bytes few was = by_test (s == slot) where
    by_test : (b : Bool) → Matches synced (if b then record { bytes = overwrite at bytes d.bytes; unsynced = record { from = at; len = max len kept } ∷ d.unsynced; lost = d.lost } else d)
    by_test true =
        let differs = differs_overwrite at (max len kept) bytes d.bytes (omega (arith, few)) in
        record {
          size = was.size ∙ sym differs.size;
          synced = λ t avoids. was.synced t avoids.1 ∙ sym (apart_same t.from t.len at (max len kept) d.bytes (overwrite at bytes d.bytes) differs avoids.0);
        }
    by_test false = was
  step synced d (EntrySynced s) bytes few was = by_test (s == slot) where
    by_test : (b : Bool) → Matches (if b then d.bytes else synced) (if b then record { bytes = d.bytes; unsynced = []; lost = d.lost } else d)
    by_test true = matches_self d.bytes (record { bytes = d.bytes; unsynced = []; lost = d.lost }) refl
    by_test false = was
  step synced d (EntrySaid place kept whole) bytes few was = was
  step synced d (EntryPassed given wire member kept) bytes few was = was
  step synced d (EntryFetched s) bytes few was = was
  step synced d (EntryRenewed s since) bytes few was = by_test (s == slot) where
    by_test : (b : Bool) → Matches (if b then replicate (length d.bytes) 0 else synced) (if b then record { bytes = replicate (length d.bytes) 0; unsynced = []; lost = d.lost } else d)
    by_test true = matches_self (replicate (length d.bytes) 0) (record { bytes = replicate (length d.bytes) 0; unsynced = []; lost = d.lost }) refl
    by_test false = was

  synced_match : (log : List Entry) (arena synced : List ℕ) (d : Disk) → Matches synced d → Matches (last_synced slot synced d (deeds_of log arena)) (after slot d (deeds_of log arena))
  synced_match [] arena synced d was = was
  synced_match (e ∷ log) arena synced d was =
      synced_match log (drop (kept_by e) arena) (synced_by slot synced d (deed_of e (take (kept_by e) arena))) (effect slot d (deed_of e (take (kept_by e) arena)))
      (step synced d e (take (kept_by e) arena) (omega (arith, length-take (kept_by e) arena)) was)

  -- what a crash leaves, by each choice
  pub leaves_match : (choice : Choice) (log : List Entry) (arena : List ℕ) (d : Disk) (image : List ℕ) → Leaves choice (last_synced slot d.bytes d (deeds_of log arena)) (after slot d (deeds_of log arena)) image → Matches image (after slot d (deeds_of log arena))
  leaves_match Old log arena d image is = subst (λ (l : List ℕ). Matches l (after slot d (deeds_of log arena))) (sym is) (synced_match log arena d.bytes d (matches_self d.bytes d refl))
  leaves_match New log arena d image is = matches_self image (after slot d (deeds_of log arena)) is
  leaves_match Ones log arena d image is = ones_match (after slot d (deeds_of log arena)) image is

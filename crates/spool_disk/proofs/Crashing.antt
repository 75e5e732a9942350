-- What a crash leaves of a device.
use Rattle.std.proofs.Common.{◌≡◌, ◌⊎◌, inl, inr, ℕ, ◌+◌, ◌-◌, ◌≤◌, ◌<◌, ◌==◌, nat_le, nat_lt, ◌&&◌, ◌||◌, max, Bool, true, false, if◌then◌else◌, List, [], ◌∷◌, ◌++◌, length, take, drop, replicate, slice_index, refl, subst, sym, ◌∙◌, ap, arith}
use Rattle.std.proofs.lemmas.Bool.Decides.{nat_tests}
use Rattle.std.proofs.lemmas.List.{get_or-take, get_or-drop}
use Rattle.spool_plant.specs.declared.choice.Choice.{Choice}
use Rattle.spool_plant.specs.declared.choice.Choice.TheVariants.{Old, New, Ones}
use Rattle.spool_disk.specs.declared.entry.Entry.{Entry}
use Rattle.spool_disk.specs.declared.entry.Entry.TheVariants.{Idle as EntryIdle, Wrote as EntryWrote, Synced as EntrySynced, Said as EntrySaid, Passed as EntryPassed, Fetched as EntryFetched, Renewed as EntryRenewed}
use Rattle.spool_plant.specs.View.{Disk, Stretch}
use Rattle.spool_plant.specs.Acts.{DiffersIn}
use Rattle.spool_disk.specs.Deeds.{Deed, Idle, Wrote, Synced, Said, Passed, Fetched, Renewed, overwrite, effect, after}
use Rattle.spool_disk.specs.DeedLaws.{after_append, length-overwrite, length-effect, length-after}
use Rattle.spool_disk.specs.Entries.{kept_by, kept_in, deed_of, deeds_of}
use Rattle.spool_plant.specs.Crash.{IsOnes, is_in, is_unsynced}
use Rattle.spool_disk.specs.Settled.{synced_by, last_synced, Leaves, is_sync, IsQuiet, EndsSynced}
use Rattle.spool_disk.proofs.Effects.{differs_over, effect_there}
use Rattle.spool_disk.proofs.Replaying.{deeds_parts, deeds_split}

differs_none : (at len : ℕ) (l : List ℕ) → DiffersIn at len l l
differs_none at len l = record { size = refl; before = refl; after = refl }

pub differs_overwrite : (at len : ℕ) (bytes old : List ℕ) → length bytes ≤ len → DiffersIn at len old (overwrite at bytes old)
differs_overwrite at len bytes old few = by_test (nat_le (at + length bytes) (length old)) refl where
  by_test : (b : Bool) → nat_le (at + length bytes) (length old) ≡ b → DiffersIn at len old (overwrite at bytes old)
  by_test true e = let fits : at + length bytes ≤ length old = grind (arith, nat_tests) in differs_over at len bytes old fits few
  by_test false e = rw e (differs_none at len old)

-- a byte outside of what differs
pub differs_at : (at len : ℕ) (old new : List ℕ) (i : ℕ) → DiffersIn at len old new → (i < at) ⊎ (at + len ≤ i) → slice_index new i ≡ slice_index old i
differs_at at len old new i differs (inl before) = sym (get_or-take at new i 0 before) ∙ ap (λ (l : List ℕ). slice_index l i) differs.before ∙ get_or-take at old i 0 before
differs_at at len old new i differs (inr behind) =
    let there : (at + len) + (i - (at + len)) ≡ i = omega arith in
    ap (slice_index new) (sym there) ∙ sym (get_or-drop (at + len) new (i - (at + len)) 0) ∙ ap (λ (l : List ℕ). slice_index l (i - (at + len))) differs.after ∙ get_or-drop (at + len) old (i - (at + len)) 0 ∙ ap (slice_index old) there

-- ones over a write
outside : (at len i : ℕ) → is_in at len i ≡ false → (i < at) ⊎ (at + len ≤ i)
outside at len i is = by_test (nat_le at i) refl where
  by_test : (b : Bool) → nat_le at i ≡ b → (i < at) ⊎ (at + len ≤ i)
  by_test false e = inl (grind (arith, nat_tests))
  by_test true e = let not_below : nat_lt i (at + len) ≡ false = (ap (λ (b : Bool). b && nat_lt i (at + len)) (sym e)) ∙ is in inr (grind (arith, nat_tests))

pub ones_written : (slot at len : ℕ) (bytes : List ℕ) (d : Disk) (image image' : List ℕ) → length bytes ≤ len → IsOnes d image → length image' ≡ length image
    → ((k : ℕ) → k < length image → slice_index image' k ≡ (if is_in at len k then 255 else slice_index image k)) → IsOnes (effect slot d (Wrote slot at len bytes)) image'
ones_written slot at len bytes d image image' few was size put = subst (λ (x : Disk). IsOnes x image') (sym (effect_there slot at len bytes d)) (record {
  size = size ∙ was.size ∙ sym (length-overwrite at bytes d.bytes);
  each = each;
}) where
  each : (i : ℕ) → i < length (overwrite at bytes d.bytes) → slice_index image' i ≡ (if is_in at len i || is_unsynced d.unsynced i then 255 else slice_index (overwrite at bytes d.bytes) i)
  each i lt =
      let there : i < length d.bytes = omega (arith, lt, length-overwrite at bytes d.bytes) in
      by_test there (is_in at len i) refl
    where
      by_test : i < length d.bytes → (b : Bool) → is_in at len i ≡ b → slice_index image' i ≡ (if b || is_unsynced d.unsynced i then 255 else slice_index (overwrite at bytes d.bytes) i)
      by_test there true e = put i (omega (arith, there, was.size)) ∙ ap (λ (b : Bool). if b then 255 else slice_index image i) e
      by_test there false e =
          put i (omega (arith, there, was.size))
          ∙ ap (λ (b : Bool). if b then 255 else slice_index image i) e
          ∙ was.each i there
          ∙ ap (λ (n : ℕ). if is_unsynced d.unsynced i then 255 else n) (sym (differs_at at len d.bytes (overwrite at bytes d.bytes) i (differs_overwrite at len bytes d.bytes few) (outside at len i e)))

-- an entry that is no write to the slot, nor a sync of it
pub ones_painted : (slot place at len kept : ℕ) (e : Entry) (bytes : List ℕ) (d : Disk) (image image' : List ℕ) → e ≡ EntryWrote place at len kept → place ≡ slot → length bytes ≤ kept → IsOnes d image → length image' ≡ length image
    → ((k : ℕ) → k < length image → slice_index image' k ≡ (if is_in at (max len kept) k then 255 else slice_index image k)) → IsOnes (effect slot d (deed_of e bytes)) image'
ones_painted slot place at len kept e bytes d image image' is there few was size put =
    subst (λ (x : Entry). IsOnes (effect slot d (deed_of x bytes)) image') (sym (is ∙ ap (λ (s : ℕ). EntryWrote s at len kept) there))
    (ones_written slot at (max len kept) bytes d image image' (omega arith) was size put)

-- what the last sync of a slot left
quiet_synced : (slot : ℕ) (es : List Entry) (arena bytes : List ℕ) (d : Disk) → IsQuiet slot es → last_synced slot bytes d (deeds_of es arena) ≡ bytes
quiet_synced slot [] arena bytes d quiet = refl
quiet_synced slot (EntryIdle ∷ es) arena bytes d quiet = quiet_synced slot es arena bytes d quiet.1
quiet_synced slot (EntryWrote s at len kept ∷ es) arena bytes d quiet = quiet_synced slot es (drop kept arena) bytes (effect slot d (Wrote s at (max len kept) (take kept arena))) quiet.1
quiet_synced slot (EntrySynced s ∷ es) arena bytes d quiet =
    ap (λ (b : Bool). last_synced slot (if b then d.bytes else bytes) (effect slot d (Synced s)) (deeds_of es arena)) quiet.0 ∙ quiet_synced slot es arena bytes (effect slot d (Synced s)) quiet.1
quiet_synced slot (EntrySaid place kept whole ∷ es) arena bytes d quiet = quiet_synced slot es (drop kept arena) bytes d quiet.1
quiet_synced slot (EntryPassed given wire member kept ∷ es) arena bytes d quiet = quiet_synced slot es (drop kept arena) bytes d quiet.1
quiet_synced slot (EntryFetched s ∷ es) arena bytes d quiet = quiet_synced slot es arena bytes d quiet.1
quiet_synced slot (EntryRenewed s since ∷ es) arena bytes d quiet =
    ap (λ (b : Bool). last_synced slot (if b then replicate (length d.bytes) 0 else bytes) (effect slot d (Renewed s since)) (deeds_of es arena)) quiet.0 ∙ quiet_synced slot es arena bytes (effect slot d (Renewed s since)) quiet.1

synced_append : (slot : ℕ) (bytes : List ℕ) (d : Disk) (es fs : List Deed) → last_synced slot bytes d (es ++ fs) ≡ last_synced slot (last_synced slot bytes d es) (after slot d es) fs
synced_append slot bytes d [] fs = refl
synced_append slot bytes d (e ∷ es) fs = synced_append slot (synced_by slot bytes d e) (effect slot d e) es fs

-- up to a sync nothing is unsynced, and the bytes are those of the sync
record IsClean (d : Disk) (bytes : List ℕ) : Type 0 where
  same : bytes ≡ d.bytes
  clean : d.unsynced ≡ []

-- an act that leaves nothing of a slot unsynced
clean_one : (slot : ℕ) (e : Entry) (bytes synced : List ℕ) (d : Disk) → is_sync slot e ≡ true → IsClean (effect slot d (deed_of e bytes)) (synced_by slot synced d (deed_of e bytes))
clean_one slot EntryIdle bytes synced d is = absurd (cc)
clean_one slot (EntryWrote s at len kept) bytes synced d is = absurd (cc)
clean_one slot (EntrySynced s) bytes synced d is =
    subst (λ (b : Bool). IsClean (if b then record { bytes = d.bytes; unsynced = []; lost = d.lost } else d) (if b then d.bytes else synced)) (sym is) (record { same = refl; clean = refl })
clean_one slot (EntrySaid place kept whole) bytes synced d is = absurd (cc)
clean_one slot (EntryPassed given wire member kept) bytes synced d is = absurd (cc)
clean_one slot (EntryFetched s) bytes synced d is = absurd (cc)
clean_one slot (EntryRenewed s since) bytes synced d is =
    subst (λ (b : Bool). IsClean (if b then record { bytes = replicate (length d.bytes) 0; unsynced = []; lost = d.lost } else d) (if b then replicate (length d.bytes) 0 else synced)) (sym is) (record { same = refl; clean = refl })

clean_last : (slot : ℕ) (front : List Deed) (e : Entry) (bytes : List ℕ) (d : Disk) → is_sync slot e ≡ true → IsClean (after slot d (front ++ deed_of e bytes ∷ [])) (last_synced slot d.bytes d (front ++ deed_of e bytes ∷ []))
clean_last slot front e bytes d sync =
    subst (λ (x : Disk). IsClean x (last_synced slot d.bytes d (front ++ deed_of e bytes ∷ []))) (sym (after_append slot d front (deed_of e bytes ∷ [])))
    (subst (λ (l : List ℕ). IsClean (effect slot (after slot d front) (deed_of e bytes)) l) (sym (synced_append slot d.bytes d front (deed_of e bytes ∷ [])))
    (clean_one slot e bytes (last_synced slot d.bytes d front) (after slot d front) sync))

clean_at : (slot : ℕ) (es : List Entry) (arena : List ℕ) (d : Disk) → EndsSynced slot es → d.unsynced ≡ [] → IsClean (after slot d (deeds_of es arena)) (last_synced slot d.bytes d (deeds_of es arena))
clean_at slot es arena d (inl none) clean = subst (λ (l : List Entry). IsClean (after slot d (deeds_of l arena)) (last_synced slot d.bytes d (deeds_of l arena))) (sym none) (record { same = refl; clean = clean })
clean_at slot es arena d (inr (front, (e, (sync, is)))) clean =
    subst (λ (l : List Entry). IsClean (after slot d (deeds_of l arena)) (last_synced slot d.bytes d (deeds_of l arena))) (sym is)
    (subst (λ (l : List Deed). IsClean (after slot d l) (last_synced slot d.bytes d l)) (sym (deeds_split front (e ∷ []) arena))
    (clean_last slot (deeds_of front arena) e (take (kept_by e) (drop (kept_in front) arena)) d sync))

-- the parts of a record: up to the last sync, and after it
module _ (slot n : ℕ) (log : List Entry) (arena : List ℕ) (d : Disk) (clean : d.unsynced ≡ []) (ends : EndsSynced slot (take n log)) (quiet : IsQuiet slot (drop n log)) where
  whole_after : after slot d (deeds_of log arena) ≡ after slot (after slot d (deeds_of (take n log) arena)) (deeds_of (drop n log) (drop (kept_in (take n log)) arena))
  whole_after = ap (after slot d) (deeds_parts n log arena) ∙ after_append slot d (deeds_of (take n log) arena) (deeds_of (drop n log) (drop (kept_in (take n log)) arena))

  last_is : last_synced slot d.bytes d (deeds_of log arena) ≡ (after slot d (deeds_of (take n log) arena)).bytes
  last_is =
      ap (last_synced slot d.bytes d) (deeds_parts n log arena)
      ∙ synced_append slot d.bytes d (deeds_of (take n log) arena) (deeds_of (drop n log) (drop (kept_in (take n log)) arena))
      ∙ quiet_synced slot (drop n log) (drop (kept_in (take n log)) arena) (last_synced slot d.bytes d (deeds_of (take n log) arena)) (after slot d (deeds_of (take n log) arena)) quiet
      ∙ (clean_at slot (take n log) arena d ends clean).same

  pub shape_old : (image : List ℕ) → image ≡ (after slot d (deeds_of (take n log) arena)).bytes → Leaves Old (last_synced slot d.bytes d (deeds_of log arena)) (after slot d (deeds_of log arena)) image
  shape_old image is = is ∙ sym last_is

  pub shape_new : (synced image : List ℕ) → image ≡ (after slot (after slot d (deeds_of (take n log) arena)) (deeds_of (drop n log) (drop (kept_in (take n log)) arena))).bytes → Leaves New synced (after slot d (deeds_of log arena)) image
  shape_new synced image is = is ∙ sym (ap (λ (x : Disk). x.bytes) whole_after)

  pub ones_at_sync : (image : List ℕ) → image ≡ (after slot d (deeds_of (take n log) arena)).bytes → IsOnes (after slot d (deeds_of (take n log) arena)) image
  ones_at_sync image is = record {
    size = ap (λ (l : List ℕ). length l) is;
    each = λ i lt. ap (λ (l : List ℕ). slice_index l i) is ∙ sym (ap (λ (l : List Stretch). if is_unsynced l i then 255 else slice_index (after slot d (deeds_of (take n log) arena)).bytes i) (clean_at slot (take n log) arena d ends clean).clean);
  }

  pub shape_ones : (synced image : List ℕ) → IsOnes (after slot (after slot d (deeds_of (take n log) arena)) (deeds_of (drop n log) (drop (kept_in (take n log)) arena))) image → Leaves Ones synced (after slot d (deeds_of log arena)) image
  shape_ones synced image is = subst (λ (x : Disk). IsOnes x image) (sym whole_after) is

-- a device without bytes
length-synced_by : (slot : ℕ) (bytes : List ℕ) (d : Disk) (e : Deed) → length bytes ≡ length d.bytes → length (synced_by slot bytes d e) ≡ length (effect slot d e).bytes
length-synced_by slot bytes d Idle same = same
length-synced_by slot bytes d (Wrote s at len some) same = same ∙ sym (length-effect slot d (Wrote s at len some))
length-synced_by slot bytes d (Synced s) same = by_test (s == slot) where
  by_test : (b : Bool) → length (if b then d.bytes else bytes) ≡ length (if b then record { bytes = d.bytes; unsynced = []; lost = d.lost } else d).bytes
  by_test true = refl
  by_test false = same
length-synced_by slot bytes d (Said place text whole) same = same
length-synced_by slot bytes d (Passed given wire member some) same = same
length-synced_by slot bytes d (Fetched s) same = same
length-synced_by slot bytes d (Renewed s since) same = by_test (s == slot) where
  by_test : (b : Bool) → length (if b then replicate (length d.bytes) 0 else bytes) ≡ length (if b then record { bytes = replicate (length d.bytes) 0; unsynced = []; lost = d.lost } else d).bytes
  by_test true = refl
  by_test false = same

pub length-synced : (slot : ℕ) (bytes : List ℕ) (d : Disk) (es : List Deed) → length bytes ≡ length d.bytes → length (last_synced slot bytes d es) ≡ length (after slot d es).bytes
length-synced slot bytes d [] same = same
length-synced slot bytes d (e ∷ es) same = length-synced slot (synced_by slot bytes d e) (effect slot d e) es (length-synced_by slot bytes d e same)

pub leaves_length : (choice : Choice) (slot : ℕ) (d : Disk) (es : List Deed) (image : List ℕ) → Leaves choice (last_synced slot d.bytes d es) (after slot d es) image → length image ≡ length d.bytes
leaves_length Old slot d es image is = ap (λ (l : List ℕ). length l) is ∙ length-synced slot d.bytes d es refl ∙ length-after slot d es
leaves_length New slot d es image is = ap (λ (l : List ℕ). length l) is ∙ length-after slot d es
leaves_length Ones slot d es image is = is.size ∙ length-after slot d es

no_bytes : (l : List ℕ) → length l ≡ 0 → l ≡ []
no_bytes [] e = refl
no_bytes (x ∷ l) e = absurd (omega arith)

pub leaves_none : (choice : Choice) (slot : ℕ) (d : Disk) (es : List Deed) (image : List ℕ) → image ≡ d.bytes → length image ≡ 0 → Leaves choice (last_synced slot d.bytes d es) (after slot d es) image
leaves_none Old slot d es image now none = no_bytes image none ∙ sym (no_bytes (last_synced slot d.bytes d es) (length-synced slot d.bytes d es refl ∙ length-after slot d es ∙ sym (ap (λ (l : List ℕ). length l) now) ∙ none))
leaves_none New slot d es image now none = no_bytes image none ∙ sym (no_bytes (after slot d es).bytes (length-after slot d es ∙ sym (ap (λ (l : List ℕ). length l) now) ∙ none))
leaves_none Ones slot d es image now none =
    let long : length (after slot d es).bytes ≡ length image = length-after slot d es ∙ sym (ap (λ (l : List ℕ). length l) now) in
    record { size = sym long; each = λ i lt. absurd (omega (arith, lt, long, none)) }

pub empty_length : (l : List ℕ) (b : Bool) → b ≡ (length l == 0) → b ≡ true → length l ≡ 0
empty_length l b is yes_is = let test : (length l == 0) ≡ true = sym is ∙ yes_is in grind (arith, nat_tests)

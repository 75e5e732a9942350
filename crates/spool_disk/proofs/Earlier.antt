-- The bytes as before the unsynced writes.
use Rattle.std.proofs.Common.{◌≡◌, ⊎_elim, ℕ, zero, suc, ◌+◌, ◌≤◌, ◌<◌, ◌==◌, Bool, true, false, if◌then◌else◌, List, [], ◌∷◌, ◌++◌, length, take, replicate, get_or, refl, subst, sym, ◌∙◌, ap, arith}
use Rattle.std.proofs.lemmas.List.{take_all, take_more}
use Rattle.mas_types.specs.declared.ids.Dev.{Dev}
use Rattle.spool_plant.specs.View.{Disk, Stretch}
use Rattle.spool_disk.specs.Deeds.{Deed, Idle, Wrote, Synced, Said, Passed, Fetched, Renewed, overwrite, effect, after}
use Rattle.spool_disk.specs.DeedLaws.{after_push}
use Rattle.spool_plant.specs.Crash.{or_earlier, before_writes}
use Rattle.spool_disk.specs.Settled.{synced_by, last_synced}
use Rattle.spool_disk.specs.Kept.{fresh}
use Rattle.spool_disk.specs.Places.{slot_of}
use Rattle.spool_disk.specs.State.{State, view_of}
use Rattle.spool_disk.proofs.Restart.{split}

-- where nothing is unsynced, the bytes are those of the last sync
abbrev pub IsTrueAt : List ℕ → Disk → Type 0
IsTrueAt synced d = d.unsynced ≡ [] → synced ≡ d.bytes

nothing_more : (synced : List ℕ) (d : Disk) → IsTrueAt synced d → or_earlier d.unsynced d.bytes synced ≡ synced
nothing_more synced d clean = by_cases d.unsynced clean where
  by_cases : (us : List Stretch) → (us ≡ [] → synced ≡ d.bytes) → or_earlier us d.bytes synced ≡ synced
  by_cases [] clean = sym (clean refl)
  by_cases (r ∷ us) clean = refl

-- an act on
one_more : (slot : ℕ) (synced : List ℕ) (d : Disk) (e : Deed) → IsTrueAt synced d → or_earlier (effect slot d e).unsynced (effect slot d e).bytes synced ≡ synced_by slot synced d e
one_more slot synced d Idle clean = nothing_more synced d clean
one_more slot synced d (Wrote s at len bytes) clean = by_test (s == slot) where
  by_test : (b : Bool) → or_earlier (if b then record { bytes = overwrite at bytes d.bytes; unsynced = record { from = at; len = len } ∷ d.unsynced; lost = d.lost } else d).unsynced (if b then record { bytes = overwrite at bytes d.bytes; unsynced = record { from = at; len = len } ∷ d.unsynced; lost = d.lost } else d).bytes synced ≡ synced
  by_test true = refl
  by_test false = nothing_more synced d clean
one_more slot synced d (Synced s) clean = by_test (s == slot) where
  by_test : (b : Bool) → or_earlier (if b then record { bytes = d.bytes; unsynced = []; lost = d.lost } else d).unsynced (if b then record { bytes = d.bytes; unsynced = []; lost = d.lost } else d).bytes synced ≡ (if b then d.bytes else synced)
  by_test true = refl
  by_test false = nothing_more synced d clean
one_more slot synced d (Said place text whole) clean = nothing_more synced d clean
one_more slot synced d (Passed given wire member bytes) clean = nothing_more synced d clean
one_more slot synced d (Fetched s) clean = nothing_more synced d clean
one_more slot synced d (Renewed s since) clean = by_test (s == slot) where
  by_test : (b : Bool) → or_earlier (if b then record { bytes = replicate (length d.bytes) 0; unsynced = []; lost = d.lost } else d).unsynced (if b then record { bytes = replicate (length d.bytes) 0; unsynced = []; lost = d.lost } else d).bytes synced
      ≡ (if b then replicate (length d.bytes) 0 else synced)
  by_test true = refl
  by_test false = nothing_more synced d clean

true_on : (slot : ℕ) (synced : List ℕ) (d : Disk) (e : Deed) → IsTrueAt synced d → IsTrueAt (synced_by slot synced d e) (effect slot d e)
true_on slot synced d Idle clean = clean
true_on slot synced d (Wrote s at len bytes) clean = by_test (s == slot) where
  by_test : (b : Bool) → IsTrueAt synced (if b then record { bytes = overwrite at bytes d.bytes; unsynced = record { from = at; len = len } ∷ d.unsynced; lost = d.lost } else d)
  by_test true = λ none. absurd (cc)
  by_test false = clean
true_on slot synced d (Synced s) clean = by_test (s == slot) where
  by_test : (b : Bool) → IsTrueAt (if b then d.bytes else synced) (if b then record { bytes = d.bytes; unsynced = []; lost = d.lost } else d)
  by_test true = λ none. refl
  by_test false = clean
true_on slot synced d (Said place text whole) clean = clean
true_on slot synced d (Passed given wire member bytes) clean = clean
true_on slot synced d (Fetched s) clean = clean
true_on slot synced d (Renewed s since) clean = by_test (s == slot) where
  by_test : (b : Bool) → IsTrueAt (if b then replicate (length d.bytes) 0 else synced) (if b then record { bytes = replicate (length d.bytes) 0; unsynced = []; lost = d.lost } else d)
  by_test true = λ none. refl
  by_test false = clean

true_after : (slot : ℕ) (synced : List ℕ) (d : Disk) (es : List Deed) → IsTrueAt synced d → IsTrueAt (last_synced slot synced d es) (after slot d es)
true_after slot synced d [] clean = clean
true_after slot synced d (e ∷ es) clean = true_after slot (synced_by slot synced d e) (effect slot d e) es (true_on slot synced d e clean)

synced_push : (slot : ℕ) (synced : List ℕ) (d : Disk) (es : List Deed) (e : Deed) → last_synced slot synced d (es ++ e ∷ []) ≡ synced_by slot (last_synced slot synced d es) (after slot d es) e
synced_push slot synced d [] e = refl
synced_push slot synced d (f ∷ es) e = synced_push slot (synced_by slot synced d f) (effect slot d f) es e

-- what the definition says is what the record keeps
module _ (slot : ℕ) (d : Disk) (deeds : List Deed) (t : ℕ) (clean : d.unsynced ≡ []) where
  clean_then : IsTrueAt (last_synced slot d.bytes d (take t deeds)) (after slot d (take t deeds))
  clean_then = true_after slot d.bytes d (take t deeds) (λ none. refl)

  within : t < length deeds → or_earlier (after slot d (take (t + 1) deeds)).unsynced (after slot d (take (t + 1) deeds)).bytes (last_synced slot d.bytes d (take t deeds)) ≡ last_synced slot d.bytes d (take (t + 1) deeds)
  within lt =
      subst (λ (l : List Deed). or_earlier (after slot d l).unsynced (after slot d l).bytes (last_synced slot d.bytes d (take t deeds)) ≡ last_synced slot d.bytes d l) (sym (take_more deeds t Idle lt))
      (subst (λ (x : Disk). or_earlier x.unsynced x.bytes (last_synced slot d.bytes d (take t deeds)) ≡ last_synced slot d.bytes d (take t deeds ++ get_or deeds t Idle ∷ [])) (sym (after_push slot d (take t deeds) (get_or deeds t Idle)))
      (one_more slot (last_synced slot d.bytes d (take t deeds)) (after slot d (take t deeds)) (get_or deeds t Idle) clean_then ∙ sym (synced_push slot d.bytes d (take t deeds) (get_or deeds t Idle))))

  past : length deeds ≤ t → or_earlier (after slot d (take (t + 1) deeds)).unsynced (after slot d (take (t + 1) deeds)).bytes (last_synced slot d.bytes d (take t deeds)) ≡ last_synced slot d.bytes d (take (t + 1) deeds)
  past le =
      let same : take (t + 1) deeds ≡ take t deeds = take_all (t + 1) deeds (omega arith) ∙ sym (take_all t deeds le) in
      subst (λ (l : List Deed). or_earlier (after slot d l).unsynced (after slot d l).bytes (last_synced slot d.bytes d (take t deeds)) ≡ last_synced slot d.bytes d l) (sym same)
      (nothing_more (last_synced slot d.bytes d (take t deeds)) (after slot d (take t deeds)) clean_then)

  pub next_moment : or_earlier (after slot d (take (suc t) deeds)).unsynced (after slot d (take (suc t) deeds)).bytes (last_synced slot d.bytes d (take t deeds)) ≡ last_synced slot d.bytes d (take (suc t) deeds)
  next_moment =
      subst (λ (n : ℕ). or_earlier (after slot d (take n deeds)).unsynced (after slot d (take n deeds)).bytes (last_synced slot d.bytes d (take t deeds)) ≡ last_synced slot d.bytes d (take n deeds)) (let e : t + 1 ≡ suc t = omega arith in e)
      (⊎_elim past within (split (length deeds) t))

pub earlier : (s : State) (dev : Dev) (t : ℕ) → before_writes (view_of s) dev t ≡ last_synced (slot_of dev) (fresh s.base (slot_of dev)).bytes (fresh s.base (slot_of dev)) (take t s.deeds)
earlier s dev zero = refl
earlier s dev (suc t) =
    let slot = slot_of dev in
    let d = after slot (fresh s.base slot) (take (suc t) s.deeds) in
    ap (or_earlier d.unsynced d.bytes) (earlier s dev t) ∙ next_moment slot (fresh s.base slot) s.deeds t refl

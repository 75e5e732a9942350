-- The present bytes stay those of the record.
use Rattle.std.proofs.Common.{◌≡◌, ℕ, ◌<◌, ◌==◌, Bool, true, false, if◌then◌else◌, List, [], ◌∷◌, ◌++◌, length, replicate, Option, Vec, refl, sym, ◌∙◌, ap}
use Rattle.std.specs.declared.alloc.Global.{Global}
use Rattle.spool_disk.specs.declared.base.Base.{Base}
use Rattle.spool_plant.specs.View.{Disk}
use Rattle.spool_disk.specs.Standing.{bytes_at}
use Rattle.spool_disk.specs.Kept.{AreCurrent, fresh, size_at}
use Rattle.spool_disk.specs.Deeds.{Deed, Idle, Wrote, Synced, Said, Passed, Fetched, Renewed, overwrite, effect, after}
use Rattle.spool_disk.specs.DeedLaws.{after_push, length-after}

-- an act that changes no byte
abbrev pub IsSilent : Deed → Type 0
IsSilent e = (slot : ℕ) (d : Disk) → (effect slot d e).bytes ≡ d.bytes

pub silent_idle : IsSilent Idle
silent_idle slot d = refl

pub silent_said : (place : ℕ) (text : List ℕ) (whole : Bool) → IsSilent (Said place text whole)
silent_said place text whole slot d = refl

pub silent_passed : (given : Bool) (wire member : ℕ) (bytes : List ℕ) → IsSilent (Passed given wire member bytes)
silent_passed given wire member bytes slot d = refl

pub silent_read : (s : ℕ) → IsSilent (Fetched s)
silent_read s slot d = refl

pub silent_sync : (s : ℕ) → IsSilent (Synced s)
silent_sync s slot d = by_test (s == slot) where
  by_test : (b : Bool) → (if b then record { bytes = d.bytes; unsynced = []; lost = d.lost } else d).bytes ≡ d.bytes
  by_test true = refl
  by_test false = refl

pub current_push : (base : Base) (disks : List (Vec ℕ Global)) (deeds new : List Deed) (e : Deed) → AreCurrent base disks deeds → IsSilent e → new ≡ deeds ++ e ∷ [] → AreCurrent base disks new
current_push base disks deeds new e now silent added slot lt =
    now slot lt
    ∙ sym (silent slot (after slot (fresh base slot) deeds))
    ∙ sym (ap (λ (d : Disk). d.bytes) (ap (after slot (fresh base slot)) added ∙ after_push slot (fresh base slot) deeds e))

written_bytes : (b : Bool) (at len : ℕ) (bytes : List ℕ) (d : Disk)
    → (if b then record { bytes = overwrite at bytes d.bytes; unsynced = record { from = at; len = len } ∷ d.unsynced; lost = d.lost } else d).bytes ≡ (if b then overwrite at bytes d.bytes else d.bytes)
written_bytes true at len bytes d = refl
written_bytes false at len bytes d = refl

pub current_write : (base : Base) (disks later : List (Vec ℕ Global)) (deeds new : List Deed) (s at len : ℕ) (bytes : List ℕ) → AreCurrent base disks deeds
    → ((slot : ℕ) → bytes_at later slot ≡ (if s == slot then overwrite at bytes (bytes_at disks slot) else bytes_at disks slot))
    → new ≡ deeds ++ Wrote s at len bytes ∷ [] → AreCurrent base later new
current_write base disks later deeds new s at len bytes now put added slot lt =
    let d = after slot (fresh base slot) deeds in
    put slot
    ∙ ap (λ (l : List ℕ). if s == slot then overwrite at bytes l else l) (now slot lt)
    ∙ sym (written_bytes (s == slot) at len bytes d)
    ∙ sym (ap (λ (x : Disk). x.bytes) (ap (after slot (fresh base slot)) added ∙ after_push slot (fresh base slot) deeds (Wrote s at len bytes)))

cleared_bytes : (b : Bool) (d : Disk) → (if b then record { bytes = replicate (length d.bytes) 0; unsynced = []; lost = d.lost } else d).bytes ≡ (if b then replicate (length d.bytes) 0 else d.bytes)
cleared_bytes true d = refl
cleared_bytes false d = refl

pub current_renewal : (base : Base) (disks later : List (Vec ℕ Global)) (deeds new : List Deed) (s : ℕ) (since : Option ℕ) → AreCurrent base disks deeds
    → ((slot : ℕ) → bytes_at later slot ≡ (if s == slot then replicate (length (bytes_at disks slot)) 0 else bytes_at disks slot))
    → new ≡ deeds ++ Renewed s since ∷ [] → AreCurrent base later new
current_renewal base disks later deeds new s since now put added slot lt =
    let d = after slot (fresh base slot) deeds in
    put slot
    ∙ ap (λ (l : List ℕ). if s == slot then replicate (length l) 0 else l) (now slot lt)
    ∙ sym (cleared_bytes (s == slot) d)
    ∙ sym (ap (λ (x : Disk). x.bytes) (ap (after slot (fresh base slot)) added ∙ after_push slot (fresh base slot) deeds (Renewed s since)))

-- the present bytes of a device are as many as its size
pub current_size : (base : Base) (disks : List (Vec ℕ Global)) (deeds : List Deed) (slot : ℕ) → AreCurrent base disks deeds → slot < 258 → length (bytes_at disks slot) ≡ size_at base slot
current_size base disks deeds slot now lt = ap (λ (l : List ℕ). length l) (now slot lt) ∙ length-after slot (fresh base slot) deeds ∙ base.whole slot

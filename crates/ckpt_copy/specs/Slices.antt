-- Stretches of bytes before and after an act.
use Rattle.std.proofs.Common.{◌≡◌, inl, inr, ℕ, ◌+◌, ◌-◌, ◌≤◌, ◌<◌, List, length, get_or, take, drop, sym, ◌∙◌, ap, subst, arith}
use Rattle.std.proofs.lemmas.List.{drop-drop, drop-take, take-take, get_or-take, get_or-drop}
use Rattle.spool_plant.specs.View.{Disk, Stretch, Apart, Avoids, IsImage, slice}
use Rattle.spool_plant.specs.Acts.{DiffersIn}
use Rattle.ckpt_copy.specs.Has.{Has}
use Rattle.ckpt_copy.specs.Changes.{Spreads, IsPut}

abbrev pub stretch : ℕ → ℕ → Stretch
stretch at len = record { from = at; len = len }

-- a stretch before the change
slice_before : (at len w : ℕ) (old new : List ℕ) → at + len ≤ w → take w new ≡ take w old
    → slice at len new ≡ slice at len old
slice_before at len w old new le same =
    sym (drop-take at len new)
    ∙ ap (drop at) (sym (take-take (at + len) w new le) ∙ ap (take (at + len)) same ∙ take-take (at + len) w old le)
    ∙ drop-take at len old

-- what stands behind a place, counted from a place before it
pub drop_behind : (at w : ℕ) (l : List ℕ) → w ≤ at → drop at l ≡ drop (at - w) (drop w l)
drop_behind at w l le = let e : at ≡ w + (at - w) = omega arith in ap (λ n. drop n l) e ∙ sym (drop-drop (at - w) w l)

slice_behind : (at len w : ℕ) (old new : List ℕ) → w ≤ at → drop w new ≡ drop w old
    → slice at len new ≡ slice at len old
slice_behind at len w old new le same =
    ap (take len) (drop_behind at w new le ∙ ap (drop (at - w)) same ∙ sym (drop_behind at w old le))

pub slice_apart : (at len w k : ℕ) (old new : List ℕ) → DiffersIn w k old new → Apart (stretch w k) (stretch at len)
    → slice at len new ≡ slice at len old
slice_apart at len w k old new differs (inl behind) = slice_behind at len (w + k) old new behind differs.after
slice_apart at len w k old new differs (inr before) = slice_before at len w old new before differs.before

-- a stretch of a stretch
pub slice_in : (a n i k : ℕ) (l : List ℕ) → i + k ≤ n → slice (a + i) k l ≡ slice i k (slice a n l)
slice_in a n i k l le =
    let e : n ≡ i + (n - i) = omega arith in
    sym (ap (λ (m : ℕ). take k (drop i (take m (drop a l)))) e
    ∙ ap (take k) (drop-take i (n - i) (drop a l))
    ∙ take-take k (n - i) (drop i (drop a l)) (omega arith)
    ∙ ap (take k) (drop-drop i a l))

-- what is there and synced stays where it isn't written
pub has_spreads : (at len w k : ℕ) (bytes : List ℕ) (old new : Disk) → Has at len bytes old → Spreads w k old new
    → Apart (stretch w k) (stretch at len) → Has at len bytes new
has_spreads at len w k bytes old new has spreads apart = record {
  there = slice_apart at len w k old.bytes new.bytes spreads.differs apart ∙ has.there;
  sure = spreads.unsynced (stretch at len) apart has.sure;
}

-- what was put is there and synced
pub has_put : (at len : ℕ) (bytes : List ℕ) (new : Disk) → IsPut at len bytes new → Has at len bytes new
has_put at len bytes new put = record
    { there = put.there; sure = subst (λ u. Avoids u (stretch at len)) (sym put.synced) tt }

-- a byte of a stretch
pub byte_in : (at len i : ℕ) (bytes l : List ℕ) → slice at len l ≡ bytes → i < len
    → get_or l (at + i) 0 ≡ get_or bytes i 0
byte_in at len i bytes l is lt =
    sym (get_or-drop at l i 0) ∙ sym (get_or-take len (drop at l) i 0 lt) ∙ ap (λ (m : List ℕ). get_or m i 0) is

-- The bytes of this image are those of the device wherever these are synced.
pub record Fits (disk : Disk) (image : List ℕ) : Type 0 where
  pub size : length image ≡ length disk.bytes
  pub synced : (s : Stretch) → Avoids disk.unsynced s → slice s.from s.len image ≡ slice s.from s.len disk.bytes

pub fits_image : (disk : Disk) (image : List ℕ) → IsImage disk image → Fits disk image
fits_image disk image is = record { size = is.size; synced = is.synced }

pub has_image : (at len : ℕ) (bytes : List ℕ) (disk : Disk) (image : List ℕ) → Has at len bytes disk → Fits disk image
    → slice at len image ≡ bytes
has_image at len bytes disk image has is = is.synced (stretch at len) has.sure ∙ has.there

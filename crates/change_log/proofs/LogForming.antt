-- What the images read as while a copy in the log form is made.
use Rattle.std.proofs.Common.{◌≡◌, ◌⊎◌, inl, inr, ⊎_elim, ℕ, zero, suc, ◌+◌, ◌*◌, ◌/◌, ◌%◌, ◌≤◌, ◌<◌, ◌&&◌, ◌==◌, Bool, true, false, if◌then◌else◌, List, [], ◌∷◌, ◌++◌, length, slice_index, Some, None, take, refl, sym, ◌∙◌, ap, subst, arith}
use Rattle.std.proofs.Math.Seq.{take-add}
use Rattle.mas_types.specs.declared.ids.Dev.{Dev}
use Rattle.spool_plant.specs.View.{View, Disk, Stretch, Apart, Avoids, IsImage, disk_now, slice}
use Rattle.mas_types.specs.Limits.{page_bytes}
use Rattle.ckpt_copy.specs.declared.layout.TheConstants.{GATE_OPEN}
use Rattle.ckpt_copy.specs.Has.{Has}
use Rattle.ckpt_copy.specs.Changes.{Spreads, IsPut}
use Rattle.ckpt_copy.specs.Reading.{EachForms}
use Rattle.ckpt_copy.specs.Meanwhile.{Meanwhile}
use Rattle.ckpt_copy.specs.Heads.{is_open, pages_in, IsClosed}
use Rattle.ckpt_copy.specs.Slices.{Fits, stretch, fits_image, slice_apart, slice_in, has_spreads, has_put, has_image, byte_in}
use Rattle.ckpt_copy.specs.Images.{open_at}
use Rattle.ckpt_copy.specs.Moments.{meanwhile_then, meanwhile_weaker, meanwhile_end}
use Rattle.ckpt_copy.specs.Pages.{page_in}
use Rattle.ckpt_copy.proofs.Forming.{image_of_old}
use Rattle.change_log.specs.declared.layout.TheConstants.{FORM_LOG}
use Rattle.change_log.specs.Logs.{reads, is_valid, are_listed, gathered, page_read, slots, block_head}
use Rattle.change_log.specs.LogStates.{IsReady, Stands}
use Rattle.change_log.specs.LogRests.{Formed}
use Rattle.change_log.specs.LogImages.{as_disk, stands_now}

avoids_inside : (unsynced : List Stretch) (a n w k : ℕ) → a ≤ w → w + k ≤ a + n → Avoids unsynced (stretch a n) → Avoids unsynced (stretch w k)
avoids_inside [] a n w k from to avoids = tt
avoids_inside (r ∷ rs) a n w k from to avoids = (part avoids.0, avoids_inside rs a n w k from to avoids.1) where
  part : Apart r (stretch a n) → Apart r (stretch w k)
  part (inl behind) = inl (omega arith)
  part (inr before) = inr (omega arith)

-- a stretch that begins with the first byte
slice_first : (k : ℕ) (l : List ℕ) → slice 0 (1 + k) l ≡ take 1 l ++ slice 1 k l
slice_first k l = take-add 1 k l

-- nothing is read behind a closed VALID
none_behind : (image : List ℕ) → is_open 0 image ≡ false → reads image ≡ None
none_behind image gate =
    let invalid : is_valid image (length image) ≡ false = rw gate in
    ap (λ (b : Bool). if b && are_listed (pages_in image) image slots then Some (gathered (pages_in image) (page_read (pages_in image) image)) else None) invalid

closed_none : (disk : Disk) (image : List ℕ) → IsClosed 0 disk → IsImage disk image → reads image ≡ None
closed_none disk image closed is =
    let shown : slice_index image 0 ≡ closed.byte = byte_in 0 1 0 (closed.byte ∷ []) image (has_image 0 1 (closed.byte ∷ []) disk image closed.has (fits_image disk image is)) (omega arith) in
    none_behind image (ap (λ (b : ℕ). b == GATE_OPEN) shown ∙ closed.closed)

closed_spreads : (w k : ℕ) (old new : Disk) → IsClosed 0 old → Spreads w k old new → 1 ≤ w → IsClosed 0 new
closed_spreads w k old new closed spreads le = record { byte = closed.byte; closed = closed.closed; has = has_spreads 0 1 w k (closed.byte ∷ []) old new closed.has spreads (inr le) }

-- the first four bytes
abbrev block_start : ℕ → List ℕ
block_start n = GATE_OPEN ∷ FORM_LOG ∷ n / 256 ∷ n % 256 ∷ []

-- the first four bytes of a block, from its gate and the rest
head_from : (n : ℕ) (image : List ℕ) → slice_index image 0 ≡ GATE_OPEN → slice 1 11 image ≡ block_head n → 4 ≤ length image → slice 0 4 image ≡ block_start n
head_from n [] gate block le = absurd (omega (arith, le))
head_from n (x ∷ l) gate block le = slice_first 3 (x ∷ l) ∙ ap (λ (b : ℕ). b ∷ slice 1 3 (x ∷ l)) gate ∙ ap (λ (b : List ℕ). GATE_OPEN ∷ b) (slice_in 1 11 0 3 (x ∷ l) (omega arith) ∙ ap (slice 0 3) block)

-- once VALID is open, the home pages stand, and all slots are closed
formed_open : (n : ℕ) (pages : List ℕ) (disk : Disk) → Formed n pages disk → Has 0 4 (block_start n) disk → Stands n (λ s. []) pages disk
formed_open n pages disk formed valid = record {
  logged = record {
    ready = formed.ready;
    head = record { high = n / 256; low = n % 256; count = omega arith; has = valid };
    slot = shut;
  };
  size = formed.size;
  here = λ p lt.
      let e : page_bytes * (1 + p) ≡ page_bytes + page_bytes * p = omega arith in
      let has : Has (page_bytes + page_bytes * p) page_bytes (page_in p pages) disk = record {
        there = slice_in page_bytes (page_bytes * n) (page_bytes * p) page_bytes disk.bytes (omega (arith, lt)) ∙ ap (slice (page_bytes * p) page_bytes) formed.here.there;
        sure = avoids_inside disk.unsynced page_bytes (page_bytes * n) (page_bytes + page_bytes * p) page_bytes (omega arith) (omega (arith, lt)) formed.here.sure;
      } in
      subst (λ (at : ℕ). Has at page_bytes (page_in p pages) disk) (sym e) has;
} where
  part : (i : ℕ) → i + 1 ≤ 11 → slice i 1 (block_head n) ≡ 0 ∷ [] → IsClosed (1 + i) disk
  part i le is = record {
    byte = 0;
    closed = refl;
    has = record {
      there = slice_in 1 11 i 1 disk.bytes le ∙ ap (slice i 1) formed.head.there ∙ is;
      sure = avoids_inside disk.unsynced 1 11 (1 + i) 1 (omega arith) (omega (arith, le)) formed.head.sure;
    };
  }

  shut : (s : ℕ) → s < slots → IsClosed (8 + s) disk
  shut zero lt = part 7 (omega arith) refl
  shut (suc zero) lt = part 8 (omega arith) refl
  shut (suc (suc zero)) lt = part 9 (omega arith) refl
  shut (suc (suc (suc zero))) lt = part 10 (omega arith) refl
  shut (suc (suc (suc (suc s)))) lt = absurd (omega (arith, lt))

has_as_disk : (at len : ℕ) (bytes : List ℕ) (disk : Disk) (image : List ℕ) → Has at len bytes disk → Fits disk image → Has at len bytes (as_disk image)
has_as_disk at len bytes disk image has fits = record { there = has_image at len bytes disk image has fits; sure = tt }

formed_as_disk : (n : ℕ) (pages : List ℕ) (disk : Disk) (image : List ℕ) → Formed n pages disk → Fits disk image → Formed n pages (as_disk image)
formed_as_disk n pages disk image formed fits = record {
  size = formed.size;
  ready = subst (λ (m : ℕ). IsReady n m) (sym fits.size) formed.ready;
  head = has_as_disk 1 11 (block_head n) disk image formed.head fits;
  here = has_as_disk page_bytes (page_bytes * n) pages disk image formed.here fits;
}

-- what a formed device reads as while VALID is opened
formed_reads : (n : ℕ) (pages : List ℕ) (disk : Disk) (image : List ℕ) → Formed n pages disk → Fits disk image → (reads image ≡ None) ⊎ (reads image ≡ Some pages)
formed_reads n pages disk image formed fits = by_gate (is_open 0 image) refl where
  shown : Formed n pages (as_disk image)
  shown = formed_as_disk n pages disk image formed fits

  by_gate : (b : Bool) → is_open 0 image ≡ b → (reads image ≡ None) ⊎ (reads image ≡ Some pages)
  by_gate false gate = inl (none_behind image gate)
  by_gate true gate =
      let large = shown.ready.large in
      let block = head_from n image (open_at _ gate) shown.head.there (omega (arith, large)) in
      inr (stands_now n (λ s. []) pages (as_disk image) (formed_open n pages (as_disk image) shown (record { there = block; sure = tt })))

formed_spreads : (n : ℕ) (pages : List ℕ) (old new : Disk) → Formed n pages old → Spreads 0 1 old new → Formed n pages new
formed_spreads n pages old new formed spreads = record {
  size = formed.size;
  ready = subst (λ (m : ℕ). IsReady n m) (sym spreads.differs.size) formed.ready;
  head = has_spreads 1 11 0 1 (block_head n) old new formed.head spreads (inl (omega arith));
  here = has_spreads page_bytes (page_bytes * n) 0 1 pages old new formed.here spreads (inl (omega arith));
}

-- block 0 except VALID was written, and then the pages, with a sync
pub formed_now : (n : ℕ) (pages : List ℕ) (mid new : Disk) → IsReady n (length new.bytes) → slice 1 11 mid.bytes ≡ block_head n → Spreads page_bytes (page_bytes * n) mid new → IsPut page_bytes (page_bytes * n) pages new → length pages ≡ page_bytes * n → Formed n pages new
formed_now n pages mid new ready block spreads put size = record {
  size = size;
  ready = ready;
  head = record {
    there = slice_apart 1 11 page_bytes (page_bytes * n) mid.bytes new.bytes spreads.differs (inr (omega arith)) ∙ block;
    sure = subst (λ u. Avoids u (stretch 1 11)) (sym put.synced) tt;
  };
  here = has_put page_bytes (page_bytes * n) pages new put;
}

-- the write of block 0 except VALID, by the bytes that the call made
pub head_spreads : (dev : Dev) (n : ℕ) (bytes : List ℕ) (old new : View) → bytes ≡ block_head n → Meanwhile dev (Spreads 1 (length bytes) (disk_now old dev)) old new → Meanwhile dev (Spreads 1 11 (disk_now old dev)) old new
head_spreads dev n bytes old new is so = subst (λ (b : List ℕ). Meanwhile dev (Spreads 1 (length b) (disk_now old dev)) old new) is so

pub head_put : (n : ℕ) (bytes : List ℕ) (disk : Disk) → bytes ≡ block_head n → slice 1 (length bytes) disk.bytes ≡ bytes → slice 1 11 disk.bytes ≡ block_head n
head_put n bytes disk is put = subst (λ (b : List ℕ). slice 1 (length b) disk.bytes ≡ b) is put

-- the three parts of forming: VALID is closed, block 0 and the pages are written, VALID is opened
module _ (dev : Dev) (pages : List ℕ) (k : ℕ) (old shut full new : View) (closes : Meanwhile dev (Spreads 0 1 (disk_now old dev)) old shut) where
  P : Disk → Type 0
  P = EachForms reads (disk_now old dev) pages

  pub forming_one : Meanwhile dev (EachForms reads (disk_now old dev) pages) old shut
  forming_one =
      meanwhile_weaker dev (Spreads 0 1 (disk_now old dev)) (EachForms reads (disk_now old dev) pages) old shut closes
      (λ d s image is. inr (inr (image_of_old (disk_now old dev) d image s is)))

  pub forming_two : IsPut 0 1 (0 ∷ []) (disk_now shut dev) → Meanwhile dev (Spreads 1 k (disk_now shut dev)) shut full → Meanwhile dev (EachForms reads (disk_now old dev) pages) old full
  forming_two put writes =
      let closed : IsClosed 0 (disk_now shut dev) = record { byte = 0; closed = refl; has = has_put 0 1 (0 ∷ []) (disk_now shut dev) put } in
      meanwhile_then dev (EachForms reads (disk_now old dev) pages) old shut full forming_one
      (meanwhile_weaker dev (Spreads 1 k (disk_now shut dev)) (EachForms reads (disk_now old dev) pages) shut full writes
      (λ d s image is. inl (closed_none d image (closed_spreads 1 k (disk_now shut dev) d closed s (omega arith)) is)))

  pub forming_three : (n : ℕ) → IsPut 0 1 (0 ∷ []) (disk_now shut dev) → Meanwhile dev (Spreads 1 k (disk_now shut dev)) shut full
      → Formed n pages (disk_now full dev) → Meanwhile dev (Spreads 0 1 (disk_now full dev)) full new → Meanwhile dev (EachForms reads (disk_now old dev) pages) old new
  forming_three n put writes formed opens =
      meanwhile_then dev (EachForms reads (disk_now old dev) pages) old full new (forming_two put writes)
      (meanwhile_weaker dev (Spreads 0 1 (disk_now full dev)) (EachForms reads (disk_now old dev) pages) full new opens
      (λ d s image is. ⊎_elim inl (λ e. inr (inl e)) (formed_reads n pages d image (formed_spreads n pages (disk_now full dev) d formed s) (fits_image d image is))))

-- once VALID of a formed device was opened, each page stands at home, and all slots are closed
pub formed_rests : (dev : Dev) (n : ℕ) (pages : List ℕ) (full new : View) → Formed n pages (disk_now full dev) → Meanwhile dev (Spreads 0 1 (disk_now full dev)) full new
    → IsPut 0 1 (GATE_OPEN ∷ []) (disk_now new dev) → Stands n (λ s. []) pages (disk_now new dev)
formed_rests dev n pages full new before opens put =
    let disk = disk_now new dev in
    let formed = formed_spreads n pages (disk_now full dev) disk before (meanwhile_end dev (Spreads 0 1 (disk_now full dev)) full new opens) in
    let large = formed.ready.large in
    let gate : slice_index disk.bytes 0 ≡ GATE_OPEN = byte_in 0 1 0 (GATE_OPEN ∷ []) disk.bytes put.there (omega arith) in
    formed_open n pages disk formed (record { there = head_from n disk.bytes gate formed.head.there (omega (arith, large)); sure = subst (λ u. Avoids u (stretch 0 4)) (sym put.synced) tt })

-- What the images of a device read as, in the log form.
use Rattle.std.proofs.Common.{◌≡◌, ◌⊎◌, inl, inr, ⊎_elim, ℕ, zero, suc, ◌+◌, ◌*◌, ◌≤◌, ◌<◌, ◌==◌, ◌&&◌, Bool, true, false, if◌then◌else◌, List, [], ◌∷◌, ◌++◌, length, slice_index, take, Some, None, drop-cons, refl, sym, ◌∙◌, ap, subst, arith}
use Rattle.std.proofs.lemmas.Bool.Decides.{nat_tests}
use Rattle.std.proofs.lemmas.Bool.{and_from}
use Rattle.std.proofs.lemmas.List.{take_all}
use Rattle.std.proofs.Math.Seq.{take-add}
use Rattle.spool_plant.specs.View.{Disk, slice}
use Rattle.mas_types.specs.Limits.{page_bytes}
use Rattle.ckpt_copy.specs.declared.layout.TheConstants.{GATE_OPEN}
use Rattle.ckpt_copy.specs.Has.{Has}
use Rattle.ckpt_copy.specs.Pages.{page_in}
use Rattle.ckpt_copy.specs.Reading.{AllRead, EachReads}
use Rattle.ckpt_copy.specs.Heads.{is_open, pages_in}
use Rattle.ckpt_copy.specs.Slices.{Fits, fits_image, has_image, byte_in}
use Rattle.change_log.specs.declared.layout.TheConstants.{FORM_LOG}
use Rattle.change_log.specs.Directories.{numbers_in, is_directory}
use Rattle.change_log.specs.Logs.{reads, is_valid, are_listed, slot_lists, gathered, page_read, block, place, laid, slots, gate_of, directory_block, image_block}
use Rattle.change_log.specs.LogStates.{IsReady, IsHeaded, Lists, SlotStands, Logged, Stands, AreHome, Turning, lists_any, with_list}
use Rattle.change_log.specs.Placing.{place_same, place_opened, place_without, with_other, with_same}

-- what stands on one device stands on another, wherever each stretch with K stays
module _ (old new : Disk) (size : length new.bytes ≡ length old.bytes) (K : ℕ → ℕ → Type 0)
    (keeps : (at len : ℕ) (bytes : List ℕ) → K at len → Has at len bytes old → Has at len bytes new) where
  pub ready_kept : (n : ℕ) → IsReady n (length old.bytes) → IsReady n (length new.bytes)
  ready_kept n ready = subst (λ (m : ℕ). IsReady n m) (sym size) ready

  pub head_kept : (n : ℕ) → K 0 4 → IsHeaded n old → IsHeaded n new
  head_kept n at head = record {
    high = head.high;
    low = head.low;
    count = head.count;
    has = keeps 0 4 (GATE_OPEN ∷ FORM_LOG ∷ head.high ∷ head.low ∷ []) at head.has;
  }

  pub slot_kept : (n s : ℕ) (numbers : List ℕ) → K (gate_of s) 1
      → (lists_any numbers ≡ true → K (page_bytes * directory_block n s) page_bytes)
      → SlotStands n s numbers old → SlotStands n s numbers new
  slot_kept n s [] gate directory shut = record
      { byte = shut.byte; closed = shut.closed; has = keeps (gate_of s) 1 (shut.byte ∷ []) gate shut.has }
  slot_kept n s (x ∷ numbers) gate directory lists = record {
    gate = keeps (gate_of s) 1 (GATE_OPEN ∷ []) gate lists.gate;
    bytes = lists.bytes;
    has = keeps (page_bytes * directory_block n s) page_bytes lists.bytes (directory refl) lists.has;
    spelled = lists.spelled;
    listed = lists.listed;
  }

  pub logged_kept : (n : ℕ) (lists : ℕ → List ℕ) → K 0 4 → ((s : ℕ) → s < slots → K (gate_of s) 1)
      → ((s : ℕ) → s < slots → lists_any (lists s) ≡ true → K (page_bytes * directory_block n s) page_bytes)
      → Logged n lists old → Logged n lists new
  logged_kept n lists head gates directories logged = record {
    ready = ready_kept n logged.ready;
    head = head_kept n head logged.head;
    slot = λ s lt. slot_kept n s (lists s) (gates s lt) (directories s lt) (logged.slot s lt);
  }

  pub turning_kept : (n s : ℕ) (numbers : List ℕ) (lists : ℕ → List ℕ) → K 0 4
      → ((j : ℕ) → j < slots → (j == s) ≡ false → K (gate_of j) 1)
      → ((j : ℕ) → K (page_bytes * directory_block n j) page_bytes) → Turning n s numbers lists old
      → Turning n s numbers lists new
  turning_kept n s numbers lists head gates directories turning = record {
    ready = ready_kept n turning.ready;
    head = head_kept n head turning.head;
    others = λ j lt ne. slot_kept n j (lists j) (gates j lt ne) (λ any. directories j) (turning.others j lt ne);
    bytes = turning.bytes;
    has = keeps (page_bytes * directory_block n s) page_bytes turning.bytes (directories s) turning.has;
    spelled = turning.spelled;
    listed = turning.listed;
  }

-- an image as a device, with nothing unsynced
abbrev pub as_disk : List ℕ → Disk
as_disk image = record { bytes = image; unsynced = []; lost = false }

pub has_as_disk : (disk : Disk) (image : List ℕ) → Fits disk image → (at len : ℕ) (bytes : List ℕ)
    → Has at len bytes disk → Has at len bytes (as_disk image)
has_as_disk disk image fits at len bytes has = record { there = has_image at len bytes disk image has fits; sure = tt }

-- one byte of a list
pub byte_at : (at v : ℕ) (l : List ℕ) → slice at 1 l ≡ v ∷ [] → slice_index l at ≡ v
byte_at at v l is = let e : at
    ≡ at + 0 = omega arith in ap (λ (m : ℕ). slice_index l m) e ∙ byte_in at 1 0 (v ∷ []) l is (omega arith)

pub one_byte : (at : ℕ) (l : List ℕ) → at < length l → slice at 1 l ≡ slice_index l at ∷ []
one_byte at l lt = ap (take 1) (drop-cons l at 0 lt)

-- what a slot lists, by the bytes
abbrev slot_is_listed : ℕ → List ℕ → ℕ → Bool
slot_is_listed n bytes s = if is_open (gate_of s) bytes then is_directory n (block (directory_block n s) bytes) else
    true

slot_read : (n s : ℕ) (numbers : List ℕ) (disk : Disk) → SlotStands n s numbers disk
    → (slot_lists n disk.bytes s ≡ numbers) × (slot_is_listed n disk.bytes s ≡ true)
slot_read n s [] disk shut =
    let here = byte_at (gate_of s) shut.byte disk.bytes shut.has.there in
    let gate : is_open (gate_of s) disk.bytes ≡ false = ap (λ (b : ℕ). b == GATE_OPEN) here ∙ shut.closed in (
      ap (λ (b : Bool). if b then numbers_in (block (directory_block n s) disk.bytes) else []) gate,
      ap (λ (b : Bool). if b then is_directory n (block (directory_block n s) disk.bytes) else true) gate,
    )
slot_read n s (x ∷ numbers) disk lists =
    let here = byte_at (gate_of s) GATE_OPEN disk.bytes lists.gate.there in
    let gate : is_open (gate_of s) disk.bytes ≡ true = ap (λ (b : ℕ). b == GATE_OPEN) here in (
      ap (λ (b : Bool). if b then numbers_in (block (directory_block n s) disk.bytes) else []) gate ∙ ap numbers_in
          lists.has.there ∙ lists.listed,
      ap (λ (b : Bool). if b then is_directory n (block (directory_block n s) disk.bytes) else true) gate ∙ ap
          (is_directory n) lists.has.there ∙ lists.spelled,
    )

all_listed : (n : ℕ) (bytes : List ℕ) (k : ℕ) → ((s : ℕ) → s < k → slot_is_listed n bytes s ≡ true)
    → are_listed n bytes k ≡ true
all_listed n bytes zero each = refl
all_listed n bytes (suc s) each = and_from _ _ (all_listed n bytes s (λ j lt. each j (omega (arith, lt))))
    (each s (omega arith))

pub gathered_same : (f g : ℕ → List ℕ) (k : ℕ) → ((p : ℕ) → p < k → f p ≡ g p) → gathered k f ≡ gathered k g
gathered_same f g zero same = refl
gathered_same f g (suc p) same =
    ap (λ (l : List ℕ). l ++ f p) (gathered_same f g p (λ j lt. same j (omega (arith, lt)))) ∙ ap
    (λ (l : List ℕ). gathered p g ++ l) (same p (omega arith))

pub gathered_pages : (pages : List ℕ) (k : ℕ) → gathered k (λ p. page_in p pages) ≡ take (page_bytes * k) pages
gathered_pages pages zero = refl
gathered_pages pages (suc p) =
    let e : page_bytes * suc p ≡ page_bytes * p + page_bytes = omega arith in
    ap (λ (l : List ℕ). l ++ page_in p pages) (gathered_pages pages p) ∙ sym
    (take-add (page_bytes * p) page_bytes pages) ∙ sym (ap (λ (m : ℕ). take m pages) e)

count_of : (n high low x y : ℕ) → x ≡ high → y ≡ low → 256 * high + low ≡ n → 256 * x + y ≡ n
count_of n high low x y p q is = omega (arith, p, q, is)

valid_from : (image : List ℕ) (n : ℕ) → slice_index image 0 ≡ GATE_OPEN → slice_index image 1 ≡ FORM_LOG
    → pages_in image ≡ n → IsReady n (length image) → is_valid image (length image) ≡ true
valid_from image n gate form count ready =
    let enough = ready.enough in let few = ready.few in let large = ready.large in
    rw (gate, form, count) (grind (arith, nat_tests))

-- what valid bytes read as
pub reads_listed : (bytes : List ℕ) (n : ℕ) → is_valid bytes (length bytes) ≡ true → pages_in bytes ≡ n
    → are_listed n bytes slots ≡ true → reads bytes ≡ Some (gathered n (page_read n bytes))
reads_listed bytes n valid count listed =
    ap (λ (b : Bool). if b && are_listed (pages_in bytes) bytes slots then Some
    (gathered (pages_in bytes) (page_read (pages_in bytes) bytes)) else None) valid
    ∙ ap (λ (m : ℕ). if are_listed m bytes slots then Some (gathered m (page_read m bytes)) else None) count
    ∙ ap (λ (b : Bool). if b then Some (gathered n (page_read n bytes)) else None) listed

-- the bytes of a device on which this stands read as the pages
pub stands_now : (n : ℕ) (lists : ℕ → List ℕ) (pages : List ℕ) (disk : Disk) → Stands n lists pages disk
    → reads disk.bytes ≡ Some pages
stands_now n lists pages disk stands =
    let logged = stands.logged in
    let start = GATE_OPEN ∷ FORM_LOG ∷ logged.head.high ∷ logged.head.low ∷ [] in
    let first = logged.head.has.there in
    let count = count_of n logged.head.high logged.head.low (slice_index disk.bytes 2) (slice_index disk.bytes 3)
    (byte_in 0 4 2 start disk.bytes first (omega arith)) (byte_in 0 4 3 start disk.bytes first (omega arith))
    logged.head.count in
    let valid = valid_from disk.bytes n (byte_in 0 4 0 start disk.bytes first (omega arith))
    (byte_in 0 4 1 start disk.bytes first (omega arith)) count logged.ready in
    let listed = all_listed n disk.bytes slots (λ s lt. (slot_read n s (lists s) disk (logged.slot s lt)).1) in
    let each = gathered_same (page_read n disk.bytes) (λ p. page_in p pages) n page in
    let size = stands.size in
    reads_listed disk.bytes n valid count listed ∙ ap (λ (l : List ℕ). Some l)
    (each ∙ gathered_pages pages n ∙ take_all (page_bytes * n) pages (omega (arith, size)))
  where
    page : (p : ℕ) → p < n → page_read n disk.bytes p ≡ page_in p pages
    page p lt =
        ap (λ (b : ℕ). block b disk.bytes)
        (place_same n p (slot_lists n disk.bytes) lists slots
        (λ s inside. (slot_read n s (lists s) disk (stands.logged.slot s inside)).0))
        ∙ (stands.here p lt).there

-- each page stands where the slots put it
abbrev pub ArePlaced : ℕ → (ℕ → List ℕ) → List ℕ → Disk → Type 0
ArePlaced n lists pages disk = (p : ℕ) → p < n
    → Has (page_bytes * place n p lists slots) page_bytes (page_in p pages) disk

module _ (disk : Disk) (image : List ℕ) (fits : Fits disk image) where
  logged_image : (n : ℕ) (lists : ℕ → List ℕ) → Logged n lists disk → Logged n lists (as_disk image)
  logged_image n lists logged =
      logged_kept disk (as_disk image) fits.size (λ at len. Unit {0})
      (λ at len bytes any has. has_as_disk disk image fits at len bytes has) n lists tt (λ s lt. tt)
      (λ s lt any. tt) logged

  turning_image : (n s : ℕ) (numbers : List ℕ) (lists : ℕ → List ℕ) → Turning n s numbers lists disk
      → Turning n s numbers lists (as_disk image)
  turning_image n s numbers lists turning =
      turning_kept disk (as_disk image) fits.size (λ at len. Unit {0})
      (λ at len bytes any has. has_as_disk disk image fits at len bytes has) n s numbers lists tt (λ j lt ne. tt)
      (λ j. tt) turning

  pub stands_image : (n : ℕ) (lists : ℕ → List ℕ) (pages : List ℕ) → Stands n lists pages disk
      → Stands n lists pages (as_disk image)
  stands_image n lists pages stands = record {
    logged = logged_image n lists stands.logged;
    size = stands.size;
    here = λ p lt. has_as_disk disk image fits (page_bytes * place n p lists slots) page_bytes (page_in p pages)
        (stands.here p lt);
  }

pub stands_reads : (n : ℕ) (lists : ℕ → List ℕ) (pages : List ℕ) (disk : Disk) → Stands n lists pages disk
    → AllRead reads pages disk
stands_reads n lists pages disk stands image is = stands_now n lists pages (as_disk image)
    (stands_image disk image (fits_image disk image is) n lists pages stands)

-- the gate of a slot, open or closed
module _ (n s : ℕ) (numbers : List ℕ) (lists : ℕ → List ℕ) (disk : Disk) (inside : s < slots)
    (turning : Turning n s numbers lists disk) where
  gate_inside : gate_of s < length disk.bytes
  gate_inside = let large = turning.ready.large in omega (arith, large, inside)

  shown : (v : ℕ) → slice_index disk.bytes (gate_of s) ≡ v → slice (gate_of s) 1 disk.bytes ≡ v ∷ []
  shown v is = one_byte (gate_of s) disk.bytes gate_inside ∙ ap (λ (b : ℕ). b ∷ []) is

  slot_of : (some : List ℕ) → SlotStands n s some disk → (j : ℕ) → j < slots → (b : Bool) → (j == s) ≡ b
      → SlotStands n j (with_list s some lists j) disk
  slot_of some here j lt true is =
      let e : s ≡ j = grind (arith, nat_tests, is) in
      subst (λ (l : List ℕ). SlotStands n j l disk) (sym (ap (λ (b : Bool). if b then some else lists j) is))
      (subst (λ (m : ℕ). SlotStands n m some disk) e here)
  slot_of some here j lt false is = subst (λ (l : List ℕ). SlotStands n j l disk) (sym (with_other s some lists j is))
      (turning.others j lt is)

  opened_slot : (some : List ℕ) → lists_any some ≡ true → Lists n s some disk → SlotStands n s some disk
  opened_slot [] any here = absurd (cc)
  opened_slot (x ∷ some) any here = here

  module _ (clean : (at len : ℕ) (bytes : List ℕ) → slice at len disk.bytes ≡ bytes → Has at len bytes disk) where
    pub turned_open : lists_any numbers ≡ true → is_open (gate_of s) disk.bytes ≡ true
        → Logged n (with_list s numbers lists) disk
    turned_open any gate = record {
      ready = turning.ready;
      head = turning.head;
      slot = λ j lt. slot_of numbers (opened_slot numbers any (record {
        gate = clean (gate_of s) 1 (GATE_OPEN ∷ []) (shown GATE_OPEN (grind (arith, nat_tests, gate)));
        bytes = turning.bytes;
        has = turning.has;
        spelled = turning.spelled;
        listed = turning.listed;
      })) j lt (j == s) refl;
    }

    pub turned_shut : is_open (gate_of s) disk.bytes ≡ false → Logged n (with_list s [] lists) disk
    turned_shut gate = record {
      ready = turning.ready;
      head = turning.head;
      slot = λ j lt. slot_of [] (record {
        byte = slice_index disk.bytes (gate_of s);
        closed = gate;
        has = clean (gate_of s) 1 (slice_index disk.bytes (gate_of s) ∷ [])
            (shown (slice_index disk.bytes (gate_of s)) refl);
      }) j lt (j == s) refl;
    }

clean_image : (image : List ℕ) (at len : ℕ) (bytes : List ℕ) → slice at len image ≡ bytes
    → Has at len bytes (as_disk image)
clean_image image at len bytes is = record { there = is; sure = tt }

-- while the gate of the slot after all open ones is opened
module _ (n s : ℕ) (numbers : List ℕ) (lists : ℕ → List ℕ) (was next : List ℕ) (disk : Disk) (inside : s < slots)
    (any : lists_any numbers ≡ true)
    (turning : Turning n s numbers lists disk) (above : (j : ℕ) → s ≤ j → lists j ≡ [])
    (was_size : length was ≡ page_bytes * n) (next_size : length next ≡ page_bytes * n)
    (here : ArePlaced n lists was disk)
    (there : (p : ℕ) → p < n → Has (page_bytes * laid (image_block n s 0) p numbers (place n p lists slots)) page_bytes
    (page_in p next) disk) where
  pub opening_reads : EachReads reads was next disk
  opening_reads image is = by_gate (is_open (gate_of s) image) refl where
    fits : Fits disk image
    fits = fits_image disk image is

    turned : Turning n s numbers lists (as_disk image)
    turned = turning_image disk image fits n s numbers lists turning

    old_place : (p : ℕ) → place n p (with_list s [] lists) slots ≡ place n p lists slots
    old_place p = place_same n p (with_list s [] lists) lists slots
        (λ j lt. with_same s [] lists (above s (omega arith)) j)

    by_gate : (b : Bool) → is_open (gate_of s) image ≡ b → (reads image ≡ Some was) ⊎ (reads image ≡ Some next)
    by_gate false gate = inl (stands_now n (with_list s [] lists) was (as_disk image) (record {
      logged = turned_shut n s numbers lists (as_disk image) inside turned (clean_image image) gate;
      size = was_size;
      here = λ p lt. subst (λ (b : ℕ). Has (page_bytes * b) page_bytes (page_in p was) (as_disk image))
          (sym (old_place p))
          (has_as_disk disk image fits (page_bytes * place n p lists slots) page_bytes (page_in p was) (here p lt));
    }))
    by_gate true gate = inr (stands_now n (with_list s numbers lists) next (as_disk image) (record {
      logged = turned_open n s numbers lists (as_disk image) inside turned (clean_image image) any gate;
      size = next_size;
      here = λ p lt. subst (λ (b : ℕ). Has (page_bytes * b) page_bytes (page_in p next) (as_disk image))
          (sym (place_opened n p s numbers lists slots inside above))
          (has_as_disk disk image fits (page_bytes * laid (image_block n s 0) p numbers (place n p lists slots))
          page_bytes (page_in p next) (there p lt));
    }))

-- while the gate of the lowest open slot is closed, the home pages being those that are read
module _ (n s : ℕ) (numbers : List ℕ) (lists : ℕ → List ℕ) (pages : List ℕ) (disk : Disk) (inside : s < slots)
    (any : lists_any numbers ≡ true)
    (turning : Turning n s numbers lists disk) (lists_them : lists s ≡ numbers) (below : (j : ℕ) → j < s → lists j ≡ [])
    (size : length pages ≡ page_bytes * n) (here : ArePlaced n lists pages disk) (home : AreHome n pages disk) where
  pub placed_without : ArePlaced n (with_list s [] lists) pages disk
  placed_without p lt = ⊎_elim
      (λ e. subst (λ (b : ℕ). Has (page_bytes * b) page_bytes (page_in p pages) disk) (sym e) (here p lt))
      (λ e. subst (λ (b : ℕ). Has (page_bytes * b) page_bytes (page_in p pages) disk) (sym e) (home p lt))
      (place_without n p s lists below slots)

  pub closing_reads : AllRead reads pages disk
  closing_reads image is = by_gate (is_open (gate_of s) image) refl where
    fits : Fits disk image
    fits = fits_image disk image is

    turned : Turning n s numbers lists (as_disk image)
    turned = turning_image disk image fits n s numbers lists turning

    by_gate : (b : Bool) → is_open (gate_of s) image ≡ b → reads image ≡ Some pages
    by_gate false gate = stands_now n (with_list s [] lists) pages (as_disk image) (record {
      logged = turned_shut n s numbers lists (as_disk image) inside turned (clean_image image) gate;
      size = size;
      here = λ p lt. has_as_disk disk image fits (page_bytes * place n p (with_list s [] lists) slots) page_bytes
          (page_in p pages) (placed_without p lt);
    })
    by_gate true gate = stands_now n (with_list s numbers lists) pages (as_disk image) (record {
      logged = turned_open n s numbers lists (as_disk image) inside turned (clean_image image) any gate;
      size = size;
      here = λ p lt. subst (λ (b : ℕ). Has (page_bytes * b) page_bytes (page_in p pages) (as_disk image))
          (sym (place_same n p (with_list s numbers lists) lists slots
          (λ j inside_too. with_same s numbers lists lists_them j)))
          (has_as_disk disk image fits (page_bytes * place n p lists slots) page_bytes (page_in p pages) (here p lt));
    })

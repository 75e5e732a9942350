-- Reads and syncs leave what stands on the device, and what a copy at rest reads as.
use Rattle.std.proofs.Common.{◌≡◌, ℕ, ◌*◌, ◌≤◌, ◌==◌, ◌&&◌, if◌then◌else◌, Bool, true, false, List, length, replicate, slice_index, Some, None, refl, sym, ◌∙◌, ap, subst, arith}
use Rattle.std.proofs.lemmas.List.{take_all}
use Rattle.mas_types.specs.Limits.{page_bytes, pages_least, pages_most}
use Rattle.spool_plant.specs.View.{Disk, slice}
use Rattle.spool_plant.specs.Acts.{DiffersIn}
use Rattle.ckpt_copy.specs.Has.{Has}
use Rattle.ckpt_copy.specs.Changes.{NoMore}
use Rattle.ckpt_copy.specs.Pages.{page_in}
use Rattle.ckpt_copy.specs.Reading.{AllRead}
use Rattle.ckpt_copy.specs.Slices.{stretch}
use Rattle.ckpt_copy.specs.Heads.{is_open, pages_in}
use Rattle.ckpt_copy.specs.Images.{blank_form}
use Rattle.change_log.specs.declared.layout.TheConstants.{FORM_LOG}
use Rattle.change_log.specs.Logs.{reads, is_valid, are_listed, slots, place, block, gathered, page_read, directory_block}
use Rattle.change_log.specs.LogStates.{Stands}
use Rattle.change_log.specs.LogRests.{IsKept, Rests, Holds, next_slot, behind}
use Rattle.change_log.specs.LogImages.{logged_kept, stands_now, stands_reads, gathered_same, gathered_pages}

pub kept_stays : (n old new : ℕ) (gates : List Bool) (places next_places : List ℕ) → new ≡ old
    → IsKept n old gates places next_places → IsKept n new gates places next_places
kept_stays n old new gates places next_places same kept = subst (λ (size : ℕ). IsKept n size gates places next_places)
    (sym same) kept

pub kept_count : (n size : ℕ) (gates : List Bool) (places next_places : List ℕ) → IsKept n size gates places next_places
    → (pages_least ≤ n) × (n ≤ pages_most)
kept_count n size gates places next_places kept = (kept.ready.enough, kept.ready.few)

pub rests_all : (n : ℕ) (gates : List Bool) (places pages : List ℕ) (disk : Disk) → Rests n gates places pages disk
    → AllRead reads pages disk
rests_all n gates places pages disk rests = stands_reads n rests.lists pages disk rests.stands

pub rests_bytes : (n : ℕ) (gates : List Bool) (places pages : List ℕ) (disk : Disk) → Rests n gates places pages disk
    → reads disk.bytes ≡ Some pages
rests_bytes n gates places pages disk rests = stands_now n rests.lists pages disk rests.stands

module _ (old new : Disk) (stays : NoMore old new) where
  has_stays : (at len : ℕ) (bytes : List ℕ) → Has at len bytes old → Has at len bytes new
  has_stays at len bytes has = record
      { there = ap (slice at len) stays.bytes ∙ has.there; sure = stays.unsynced (stretch at len) has.sure }

  pub log_stays : (n : ℕ) (lists : ℕ → List ℕ) (pages : List ℕ) → Stands n lists pages old → Stands n lists pages new
  log_stays n lists pages stands = record {
    logged = logged_kept old new (ap length stays.bytes) (λ at len. Unit {0})
        (λ at len bytes any has. has_stays at len bytes has) n lists tt (λ s lt. tt) (λ s lt any. tt) stands.logged;
    size = stands.size;
    here = λ p lt. has_stays (page_bytes * place n p lists slots) page_bytes (page_in p pages) (stands.here p lt);
  }

  pub log_rests_stays : (n : ℕ) (gates : List Bool) (places pages : List ℕ) → Rests n gates places pages old
      → Rests n gates places pages new
  log_rests_stays n gates places pages rests = record {
    lists = rests.lists;
    open_as = rests.open_as;
    stand_as = rests.stand_as;
    stands = log_stays n rests.lists pages rests.stands;
  }

  pub log_holds_stays : (n : ℕ) (gates : List Bool) (places next_places pages next : List ℕ)
      → Holds n gates places next_places pages next old → Holds n gates places next_places pages next new
  log_holds_stays n gates places next_places pages next holds = record {
    rests = log_rests_stays n gates places pages holds.rests;
    size = holds.size;
    numbers = holds.numbers;
    some = holds.some;
    bytes = holds.bytes;
    has = has_stays (page_bytes * directory_block n (next_slot gates)) page_bytes holds.bytes holds.has;
    spelled = holds.spelled;
    listed = holds.listed;
    moved = holds.moved;
    there = λ p lt. has_stays (page_bytes * slice_index next_places p) page_bytes (page_in p next) (holds.there p lt);
  }

pub log_holds_behind : (n : ℕ) (gates : List Bool) (places next_places pages next : List ℕ) (disk : Disk)
    → Holds n gates places next_places pages next disk → behind n next_places disk.bytes ≡ next
log_holds_behind n gates places next_places pages next disk holds =
    let size = holds.size in
    gathered_same (λ p. block (slice_index next_places p) disk.bytes) (λ p. page_in p next) n
    (λ p lt. (holds.there p lt).there)
    ∙ gathered_pages next n ∙ take_all (page_bytes * n) next (omega (arith, size))

-- a device of another form isn't valid
form_other : (image : List ℕ) (size : ℕ) → (slice_index image 1 == FORM_LOG) ≡ false → is_valid image size ≡ false
form_other image size other = by_gate (is_open 0 image) refl where
  by_gate : (b : Bool) → is_open 0 image ≡ b → is_valid image size ≡ false
  by_gate true gate = rw (gate, other)
  by_gate false gate = rw gate

-- a device of zeros reads as none, whatever VALID is
pub log_blank : (size : ℕ) (image : List ℕ) → DiffersIn 0 1 (replicate size 0) image → reads image ≡ None
log_blank size image differs =
    let other : (slice_index image 1 == FORM_LOG)
    ≡ false = ap (λ (b : ℕ). b == FORM_LOG) (blank_form size image differs) in
    ap (λ (b : Bool). if b && are_listed (pages_in image) image slots then Some
    (gathered (pages_in image) (page_read (pages_in image) image)) else None)
    (form_other image (length image) other)

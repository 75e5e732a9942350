-- The next pages are put, and the gate before them is opened.
use Rattle.std.proofs.Common.{◌≡◌, ◌⊎◌, inl, inr, ℕ, ◌+◌, ◌*◌, ◌≤◌, ◌<◌, Bool, true, Some, List, [], ◌∷◌, length, set, slice_index, slice_get, refl, sym, ◌∙◌, ap, subst, arith, Contains}
use Rattle.mas_types.specs.Limits.{page_bytes, pages_least, pages_most}
use Rattle.mas_types.specs.declared.ids.Dev.{Dev}
use Rattle.spool_plant.specs.View.{View, Disk, Avoids, disk_now, slice}
use Rattle.ckpt_copy.specs.declared.layout.TheConstants.{GATE_OPEN}
use Rattle.ckpt_copy.specs.Has.{Has}
use Rattle.ckpt_copy.specs.Changes.{Spreads, IsPut}
use Rattle.ckpt_copy.specs.Meanwhile.{Meanwhile}
use Rattle.ckpt_copy.specs.Moments.{meanwhile_weaker, meanwhile_end}
use Rattle.ckpt_copy.specs.Pages.{page_in, ArePages, Covers}
use Rattle.ckpt_copy.specs.Reading.{AllRead, EachReads}
use Rattle.ckpt_copy.specs.Slices.{stretch, slice_apart}
use Rattle.change_log.specs.Directories.{directory}
use Rattle.change_log.specs.Logs.{reads, slots, gate_of, directory_block, image_block, place, laid, block, AreLaid}
use Rattle.change_log.specs.LogStates.{Turning, lists_any, with_list}
use Rattle.change_log.specs.LogRests.{Rests, Holds, SlotWritten, AreImages, next_slot}
use Rattle.change_log.specs.LogStaying.{rests_all}
use Rattle.change_log.specs.Placing.{place_opened}
use Rattle.change_log.proofs.Directing.{spelled_back, numbers_back, directory_length}
use Rattle.change_log.proofs.Filling.{slot_spreads, laid_found}
use Rattle.change_log.proofs.Paging.{slice_length}
use Rattle.change_log.proofs.Gates.{none_above, opened_as}
use Rattle.change_log.proofs.Gating.{opening, opened_stands}

-- a directory was written, then the images, and all of it synced
pub slot_written : (n s first k : ℕ) (numbers pages level bytes : List ℕ) (one two new : Disk) → first ≡ directory_block n s → level ≡ slice 8 8 pages → bytes ≡ directory level numbers
    → length bytes ≡ page_bytes → slice (page_bytes * first) (length bytes) one.bytes ≡ bytes → Spreads (page_bytes * (first + 1)) k one two
    → AreImages (first + 1) numbers pages two.bytes → (new.unsynced ≡ []) × (new.bytes ≡ two.bytes) → SlotWritten n s numbers pages new
slot_written n s first k numbers pages level bytes one two new place is_level is size put spreads images synced = record {
  clean = synced.0;
  listed =
      ap (λ (b : ℕ). block b new.bytes) (sym place) ∙ ap (λ (l : List ℕ). block first l) synced.1
      ∙ slice_apart (page_bytes * first) page_bytes (page_bytes * (first + 1)) k one.bytes two.bytes spreads.differs (inr (omega arith))
      ∙ subst (λ (m : ℕ). slice (page_bytes * first) m one.bytes ≡ bytes) size put ∙ is ∙ ap (λ (l : List ℕ). directory l numbers) is_level;
  images = λ i lt.
      let e : image_block n s 0 ≡ first + 1 = omega (arith, place) in
      ap (λ (b : ℕ). block (b + i) new.bytes) e ∙ ap (λ (l : List ℕ). block (first + 1 + i) l) synced.1 ∙ images i lt;
}

-- a directory fills its block
pub slot_size : (n : ℕ) (numbers level page bytes : List ℕ) → n ≤ pages_most → ArePages n numbers → level ≡ slice 8 8 page → length page ≡ page_bytes → bytes ≡ directory level numbers → length bytes ≡ page_bytes
slot_size n numbers level page bytes few are is_level size is =
    let eight = ap (λ (l : List ℕ). length l) is_level ∙ slice_length 8 8 page (omega (arith, size)) in
    ap (λ (l : List ℕ). length l) is ∙ directory_length n level numbers few eight are

-- a slot is written, and what is read stays
module _ (dev : Dev) (n : ℕ) (gates : List Bool) (places pages : List ℕ) (old new : View) (four : length gates ≡ slots) (inside : next_slot gates < slots)
    (rests : Rests n gates places pages (disk_now old dev))
    (so : Meanwhile dev (Spreads (page_bytes * directory_block n (next_slot gates)) (page_bytes * (n + 1)) (disk_now old dev)) old new) where
  filled : Meanwhile dev (Rests n gates places pages) old new
  filled =
      meanwhile_weaker dev (Spreads (page_bytes * directory_block n (next_slot gates)) (page_bytes * (n + 1)) (disk_now old dev)) (Rests n gates places pages) old new so
      (λ d spreads. record {
        lists = rests.lists;
        open_as = rests.open_as;
        stand_as = rests.stand_as;
        stands = slot_spreads n (next_slot gates) rests.lists pages inside (none_above gates rests.lists four rests.open_as) (disk_now old dev) d rests.stands spreads;
      })

  pub filled_reads : Meanwhile dev (AllRead reads pages) old new
  filled_reads = meanwhile_weaker dev (Rests n gates places pages) (AllRead reads pages) old new filled (rests_all n gates places pages)

  pub filled_rests : Rests n gates places pages (disk_now new dev)
  filled_rests = meanwhile_end dev (Rests n gates places pages) old new filled

-- where the pages stand once the slot is open
pub put_moved : (n s first : ℕ) (numbers places next_places : List ℕ) → first ≡ image_block n s 0 → AreLaid first numbers places next_places
    → (p : ℕ) → slice_index next_places p ≡ laid (image_block n s 0) p numbers (slice_index places p)
put_moved n s first numbers places next_places place are p = are p ∙ ap (λ (b : ℕ). laid b p numbers (slice_index places p)) place

some_first : (numbers : List ℕ) → slice_get numbers 0 ≡ Some 0 → lists_any numbers ≡ true
some_first [] first = absurd (cc)
some_first (x ∷ numbers) first = refl

-- the pages that changed wait in the slot
pub put_holds : (n : ℕ) (gates : List Bool) (places next_places was next numbers : List ℕ) (disk : Disk) → pages_least ≤ n → n ≤ pages_most
    → Rests n gates places was disk → SlotWritten n (next_slot gates) numbers next disk → length next ≡ page_bytes * n → ArePages n numbers → Covers n numbers was next
    → ((p : ℕ) → slice_index next_places p ≡ laid (image_block n (next_slot gates) 0) p numbers (slice_index places p)) → Holds n gates places next_places was next disk
put_holds n gates places next_places was next numbers disk enough few rests written size are covers moved = record {
  rests = rests;
  size = size;
  numbers = numbers;
  some = some_first numbers are.first;
  bytes = directory (slice 8 8 next) numbers;
  has = clean (page_bytes * directory_block n (next_slot gates)) page_bytes (directory (slice 8 8 next) numbers) written.listed;
  spelled = spelled_back n (slice 8 8 next) numbers few eight are;
  listed = numbers_back n (slice 8 8 next) numbers few eight are;
  moved = λ p lt. moved p;
  there = λ p lt. subst (λ (b : ℕ). IsHere p b) (sym (moved p))
      (laid_found (IsHere p) (image_block n (next_slot gates) 0) p numbers (slice_index places p) (image p) (found p lt (covers p lt)));
} where
  clean : (at len : ℕ) (bytes : List ℕ) → slice at len disk.bytes ≡ bytes → Has at len bytes disk
  clean at len bytes there = record { there = there; sure = subst (λ u. Avoids u (stretch at len)) (sym written.clean) tt }

  eight : length (slice 8 8 next) ≡ 8
  eight = slice_length 8 8 next (omega (arith, size, enough))

  IsHere : ℕ → ℕ → Type 0
  IsHere p b = Has (page_bytes * b) page_bytes (page_in p next) disk

  image : (p i : ℕ) → i < length numbers → slice_index numbers i ≡ p → Has (page_bytes * (image_block n (next_slot gates) 0 + i)) page_bytes (page_in p next) disk
  image p i lt is = clean (page_bytes * (image_block n (next_slot gates) 0 + i)) page_bytes (page_in p next) (written.images i lt ∙ ap (λ (q : ℕ). page_in q next) is)

  found : (p : ℕ) → p < n → Contains numbers p ⊎ (page_in p next ≡ page_in p was) → Contains numbers p ⊎ Has (page_bytes * slice_index places p) page_bytes (page_in p next) disk
  found p lt (inl listed) = inl listed
  found p lt (inr same) = inr (clean (page_bytes * slice_index places p) page_bytes (page_in p next)
      (ap (λ (b : ℕ). block b disk.bytes) (rests.stand_as p lt) ∙ (rests.stands.here p lt).there ∙ sym same))

-- the gate before the pages that wait is opened
module _ (dev : Dev) (n : ℕ) (gates : List Bool) (places next_places was next : List ℕ) (old new : View) (four : length gates ≡ slots) (inside : next_slot gates < slots)
    (holds : Holds n gates places next_places was next (disk_now old dev)) (so : Meanwhile dev (Spreads (gate_of (next_slot gates)) 1 (disk_now old dev)) old new) where
  lists : ℕ → List ℕ
  lists = holds.rests.lists

  turning : Turning n (next_slot gates) holds.numbers holds.rests.lists (disk_now old dev)
  turning = record {
    ready = holds.rests.stands.logged.ready;
    head = holds.rests.stands.logged.head;
    others = λ j lt ne. holds.rests.stands.logged.slot j lt;
    bytes = holds.bytes;
    has = holds.has;
    spelled = holds.spelled;
    listed = holds.listed;
  }

  there : (p : ℕ) → p < n → Has (page_bytes * laid (image_block n (next_slot gates) 0) p holds.numbers (place n p holds.rests.lists slots)) page_bytes (page_in p next) (disk_now old dev)
  there p lt =
      subst (λ (b : ℕ). Has (page_bytes * b) page_bytes (page_in p next) (disk_now old dev))
      (holds.moved p lt ∙ ap (λ (u : ℕ). laid (image_block n (next_slot gates) 0) p holds.numbers u) (holds.rests.stand_as p lt)) (holds.there p lt)

  pub opens_reads : Meanwhile dev (EachReads reads was next) old new
  opens_reads =
      opening dev n (next_slot gates) holds.numbers holds.rests.lists was next old new inside holds.some (none_above gates holds.rests.lists four holds.rests.open_as) turning
      holds.rests.stands.size holds.size holds.rests.stands.here there so

  pub opens_rests : IsPut (gate_of (next_slot gates)) 1 (GATE_OPEN ∷ []) (disk_now new dev) → Rests n (set gates (next_slot gates) true) next_places next (disk_now new dev)
  opens_rests put = record {
    lists = with_list (next_slot gates) holds.numbers holds.rests.lists;
    open_as = opened_as gates holds.rests.lists (next_slot gates) holds.numbers (omega (arith, four, inside)) holds.some holds.rests.open_as;
    stand_as = λ p lt.
        holds.moved p lt ∙ ap (λ (u : ℕ). laid (image_block n (next_slot gates) 0) p holds.numbers u) (holds.rests.stand_as p lt)
        ∙ sym (place_opened n p (next_slot gates) holds.numbers holds.rests.lists slots inside (none_above gates holds.rests.lists four holds.rests.open_as));
    stands = opened_stands dev n (next_slot gates) holds.numbers holds.rests.lists was next old new inside holds.some (none_above gates holds.rests.lists four holds.rests.open_as) turning
        holds.rests.stands.size holds.size holds.rests.stands.here there so put;
  }

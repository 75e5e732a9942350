-- A slot whose gate is closed is written, and then opened.
use Rattle.std.proofs.Common.{◌≡◌, ◌⊎◌, inl, inr, ⊎_elim, ℕ, zero, suc, ◌+◌, ◌*◌, ◌≤◌, ◌<◌, ◌==◌, Bool, true, false, if◌then◌else◌, List, [], ◌∷◌, length, slice_index, drop, refl, ap, subst, arith, suc-mul, Contains}
use Rattle.std.proofs.lemmas.Bool.Decides.{nat_tests}
use Rattle.std.proofs.lemmas.Bool.{and_parts, leb-true}
use Rattle.mas_types.specs.Limits.{page_bytes}
use Rattle.mas_types.specs.declared.ids.Dev.{Dev}
use Rattle.spool_plant.specs.View.{View, Disk, Apart, disk_now}
use Rattle.ckpt_copy.specs.Changes.{Spreads}
use Rattle.ckpt_copy.specs.Meanwhile.{Meanwhile}
use Rattle.ckpt_copy.specs.Moments.{either_way, meanwhile_weaker}
use Rattle.ckpt_copy.specs.Pages.{page_in}
use Rattle.ckpt_copy.specs.Reading.{AllRead}
use Rattle.ckpt_copy.specs.Slices.{stretch, has_spreads}
use Rattle.change_log.specs.Directories.{words, count_in}
use Rattle.change_log.specs.Logs.{reads, slots, directory_block, image_block, place, laid, AreLaid}
use Rattle.change_log.specs.LogStates.{SlotStands, Stands, lists_any}
use Rattle.change_log.specs.LogRests.{AreInside}
use Rattle.change_log.specs.LogImages.{logged_kept, stands_reads}
use Rattle.change_log.specs.Placing.{laid_within, place_from}

-- each slot begins after the one before it
next_directory : (n s : ℕ) → directory_block n (suc s) ≡ directory_block n s + (n + 1)
next_directory n s = let e = suc-mul s (n + 1) in omega (arith, e)

pub directory_rise : (n s t : ℕ) → s < t → directory_block n s + (n + 1) ≤ directory_block n t
directory_rise n s zero lt = absurd (omega (arith, lt))
directory_rise n s (suc t) lt =
    let e = next_directory n t in
    ⊎_elim (λ h. let same : t ≡ s = omega (arith, lt, h) in subst (λ (m : ℕ). directory_block n m + (n + 1) ≤ directory_block n (suc t)) same (omega (arith, e)))
    (λ h. let rise = directory_rise n s t h in omega (arith, e, rise))
    (either_way t s)

pub words_length : (k : ℕ) (l : List ℕ) → length (words k l) ≤ k
words_length zero l = omega arith
words_length (suc k) [] = omega arith
words_length (suc k) (a ∷ []) = omega arith
words_length (suc k) (a ∷ b ∷ l) = let e = words_length k l in omega (arith, e)

-- a slot lists at most as many pages as there are
pub lists_few : (n s : ℕ) (numbers : List ℕ) (disk : Disk) → SlotStands n s numbers disk → length numbers ≤ n
lists_few n s [] disk here = omega arith
lists_few n s (x ∷ numbers) disk lists =
    let first = (and_parts _ _ (and_parts _ _ (and_parts _ _ lists.spelled).0).0).0 in
    let count = leb-true (count_in lists.bytes) n first in
    let few = words_length (count_in lists.bytes) (drop 16 lists.bytes) in
    subst (λ (l : List ℕ). length l ≤ n) lists.listed (omega (arith, count, few))

-- a page stands in front of the directory of the next slot
pub place_below : (n p : ℕ) (lists : ℕ → List ℕ) (k : ℕ) → p < n → ((s : ℕ) → s < k → length (lists s) ≤ n) → place n p lists k < directory_block n k
place_below n p lists zero lt few = omega (arith, lt)
place_below n p lists (suc s) lt few =
    let e = next_directory n s in
    let before = place_below n p lists s lt (λ j inside. few j (omega (arith, inside))) in
    let most = few s (omega arith) in
    ⊎_elim (λ same. omega (arith, same, before, e)) (λ w. let hi = w.1 in omega (arith, hi, most, e)) (laid_within (image_block n s 0) p (lists s) (place n p lists s))

-- a write after block 0, apart from the directories of open slots and from where the pages stand
pub stands_spreads : (n : ℕ) (lists : ℕ → List ℕ) (pages : List ℕ) (old new : Disk) (w k : ℕ) → Stands n lists pages old → Spreads w k old new → page_bytes ≤ w
    → ((s : ℕ) → s < slots → lists_any (lists s) ≡ true → Apart (stretch w k) (stretch (page_bytes * directory_block n s) page_bytes))
    → ((p : ℕ) → p < n → Apart (stretch w k) (stretch (page_bytes * place n p lists slots) page_bytes)) → Stands n lists pages new
stands_spreads n lists pages old new w k stands spreads behind directories places = record {
  logged = logged_kept old new spreads.differs.size (λ at len. Apart (stretch w k) (stretch at len)) (λ at len bytes apart has. has_spreads at len w k bytes old new has spreads apart) n lists
      (inr (omega (arith, behind))) (λ s lt. inr (omega (arith, behind, lt))) directories stands.logged;
  size = stands.size;
  here = λ p lt. has_spreads (page_bytes * place n p lists slots) page_bytes w k (page_in p pages) old new (stands.here p lt) spreads (places p lt);
}

-- a write into a slot after all open ones
module _ (n t : ℕ) (lists : ℕ → List ℕ) (pages : List ℕ) (inside : t < slots) (above : (j : ℕ) → t ≤ j → lists j ≡ []) where
  no_list : (s : ℕ) → t ≤ s → lists_any (lists s) ≡ true → ⊥
  no_list s le any = let none : lists_any (lists s) ≡ false = ap lists_any (above s le) in cc

  directory_apart : (s : ℕ) → lists_any (lists s) ≡ true → Apart (stretch (page_bytes * directory_block n t) (page_bytes * (n + 1))) (stretch (page_bytes * directory_block n s) page_bytes)
  directory_apart s any = ⊎_elim (λ le. absurd (no_list s le any)) (λ lt. let rise = directory_rise n s t lt in inr (omega (arith, rise))) (either_way t s)

  place_apart : (disk : Disk) → Stands n lists pages disk → (p : ℕ) → p < n → Apart (stretch (page_bytes * directory_block n t) (page_bytes * (n + 1))) (stretch (page_bytes * place n p lists slots) page_bytes)
  place_apart disk stands p lt =
      let same = place_from n p lists t slots (omega (arith, inside)) above in
      let low = place_below n p lists t lt (λ s below. lists_few n s (lists s) disk (stands.logged.slot s (omega (arith, below, inside)))) in
      inr (omega (arith, same, low))

  pub slot_spreads : (old new : Disk) → Stands n lists pages old → Spreads (page_bytes * directory_block n t) (page_bytes * (n + 1)) old new → Stands n lists pages new
  slot_spreads old new stands spreads =
      stands_spreads n lists pages old new (page_bytes * directory_block n t) (page_bytes * (n + 1)) stands spreads (omega arith) (λ s lt any. directory_apart s any) (place_apart old stands)

  pub filling : (dev : Dev) (old new : View) → Stands n lists pages (disk_now old dev) → Meanwhile dev (Spreads (page_bytes * directory_block n t) (page_bytes * (n + 1)) (disk_now old dev)) old new
      → Meanwhile dev (Stands n lists pages) old new
  filling dev old new stands so =
      meanwhile_weaker dev (Spreads (page_bytes * directory_block n t) (page_bytes * (n + 1)) (disk_now old dev)) (Stands n lists pages) old new so (λ d s. slot_spreads (disk_now old dev) d stands s)

  pub filling_reads : (dev : Dev) (old new : View) → Stands n lists pages (disk_now old dev) → Meanwhile dev (Spreads (page_bytes * directory_block n t) (page_bytes * (n + 1)) (disk_now old dev)) old new
      → Meanwhile dev (AllRead reads pages) old new
  filling_reads dev old new stands so = meanwhile_weaker dev (Stands n lists pages) (AllRead reads pages) old new (filling dev old new stands so) (stands_reads n lists pages)

-- Where a page is listed it stands in an image of it, and else where it stood.
pub laid_found : (Q : ℕ → Type 0) (b p : ℕ) (numbers : List ℕ) (under : ℕ) → ((i : ℕ) → i < length numbers → slice_index numbers i ≡ p → Q (b + i))
    → Contains numbers p ⊎ Q under → Q (laid b p numbers under)
laid_found Q b p [] under images (inl found) = absurd (let lt = found.1 in omega (arith, lt))
laid_found Q b p [] under images (inr here) = here
laid_found Q b p (x ∷ numbers) under images found = by_hit (x == p) refl (laid_found Q (b + 1) p numbers b later) (laid_found Q (b + 1) p numbers under later) found where
  later : (i : ℕ) → i < length numbers → slice_index numbers i ≡ p → Q (b + 1 + i)
  later i lt is = let e : b + suc i ≡ b + 1 + i = omega arith in subst Q e (images (suc i) (omega (arith, lt)) is)

  tail : (x == p) ≡ false → Contains (x ∷ numbers) p → Contains numbers p
  tail miss (zero, lt, is) = absurd (let hit : (x == p) ≡ true = grind (arith, nat_tests, is) in cc)
  tail miss (suc k, lt, is) = (k, omega (arith, lt), is)

  by_hit : (hit : Bool) → (x == p) ≡ hit → (Contains numbers p ⊎ Q b → Q (laid (b + 1) p numbers b)) → (Contains numbers p ⊎ Q under → Q (laid (b + 1) p numbers under))
      → Contains (x ∷ numbers) p ⊎ Q under → Q (laid (b + 1) p numbers (if hit then b else under))
  by_hit true is hit miss found = let same : x ≡ p = grind (arith, nat_tests, is) in let e : b + 0 ≡ b = omega arith in hit (inr (subst Q e (images 0 (omega arith) same)))
  by_hit false is hit miss (inl in_list) = miss (inl (tail is in_list))
  by_hit false is hit miss (inr here) = miss (inr here)

-- the places stay on the device
pub laid_inside : (n s first : ℕ) (numbers places new : List ℕ) → s < slots → first ≡ image_block n s 0 → length numbers ≤ n → AreLaid first numbers places new → AreInside n places → AreInside n new
laid_inside n s first numbers places new inside place few are within p lt =
    let rise = directory_rise n s slots inside in
    let here = within p lt in
    let at = are p in
    ⊎_elim (λ same. omega (arith, at, same, here)) (λ w. let hi = w.1 in omega (arith, at, hi, rise, few, place)) (laid_within first p numbers (slice_index places p))

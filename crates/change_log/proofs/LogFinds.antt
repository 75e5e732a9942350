-- What is read of a device with nothing unsynced stands on it.
use Rattle.std.proofs.Common.{◌≡◌, ⊎_elim, ℕ, zero, suc, ◌+◌, ◌*◌, ◌≤◌, ◌<◌, ◌==◌, ◌&&◌, nat_le, nat_lt, Bool, true, false, if◌then◌else◌, Some, None, List, [], ◌∷◌, ◌++◌, length, slice_index, slice_index_or, get_or, take, drop, All, Option, IfSome, length-append, length-drop, refl, sym, ◌∙◌, ap, subst, arith}
use Rattle.std.proofs.lemmas.Bool.Decides.{nat_tests}
use Rattle.std.proofs.lemmas.Bool.{and_from, and_parts, cases_lt, eqb-true as eq_from, leb-true, ltb-true as lt_from}
use Rattle.std.proofs.lemmas.List.{take_all, drop_at, drop-append-le, take-append-le, length-take-le}
use Rattle.mas_types.specs.Limits.{page_bytes, pages_least, pages_most}
use Rattle.spool_plant.specs.View.{Disk, IsImage, Avoids, slice}
use Rattle.ckpt_copy.specs.declared.layout.TheConstants.{GATE_OPEN}
use Rattle.ckpt_copy.specs.Has.{Has}
use Rattle.mas_types.specs.declared.ids.Page.{Page}
use Rattle.ckpt_copy.specs.Pages.{bytes_of, page_in}
use Rattle.ckpt_copy.specs.Reading.{IsNone}
use Rattle.ckpt_copy.specs.Slices.{stretch, byte_in}
use Rattle.ckpt_copy.specs.Heads.{is_open, pages_in}
use Rattle.ckpt_copy.specs.Images.{open_at}
use Rattle.ckpt_copy.proofs.Spreading.{bytes_of-push}
use Rattle.change_log.specs.declared.layout.TheConstants.{FORM_LOG}
use Rattle.change_log.specs.declared.finding.Head.{Head}
use Rattle.change_log.specs.Directories.{numbers_in, count_in, is_directory, are_pages, ascend}
use Rattle.lay_bytes.specs.Bytes.{are_zeros}
use Rattle.change_log.specs.Logs.{reads, is_valid, log_size, slots, gate_of, gates_in, directory_block, image_block, place, laid, block, slot_lists, are_listed, gathered, page_read, room_in, free_after, AreLaid}
use Rattle.change_log.specs.LogStates.{IsReady, IsHeaded, SlotStands, Stands, lists_any}
use Rattle.change_log.specs.LogRests.{Rests}
use Rattle.change_log.specs.LogFound.{IsHeadOf, IsHeadIn, ArePlacesOf, ArePlacesIn, ArePlacedUp}
use Rattle.change_log.specs.LogImages.{one_byte, gathered_same}
use Rattle.change_log.specs.Placing.{place_same}
use Rattle.change_log.proofs.Filling.{place_below, lists_few, words_length}
use Rattle.change_log.proofs.Gating.{stands_same}

-- gathered pages have so many bytes, and each is where it was put
gathered_length : (page : ℕ → List ℕ) (k : ℕ) → ((p : ℕ) → p < k → length (page p) ≡ page_bytes) → length (gathered k page) ≡ page_bytes * k
gathered_length page zero each = refl
gathered_length page (suc k) each =
    let before = gathered_length page k (λ p lt. each p (omega (arith, lt))) in
    let last = each k (omega arith) in
    let sum = length-append (gathered k page) (page k) in
    omega (arith, sum, before, last)

pub gathered_at : (page : ℕ → List ℕ) (k p : ℕ) → ((q : ℕ) → q < k → length (page q) ≡ page_bytes) → p < k → page_in p (gathered k page) ≡ page p
gathered_at page zero p each lt = absurd (omega (arith, lt))
gathered_at page (suc k) p each lt = by_place (gathered_length page k earlier) (gathered_at page k p earlier) where
  earlier : (q : ℕ) → q < k → length (page q) ≡ page_bytes
  earlier q less = each q (omega (arith, less))

  by_place : length (gathered k page) ≡ page_bytes * k → (p < k → page_in p (gathered k page) ≡ page p) → page_in p (gathered (suc k) page) ≡ page p
  by_place size before = ⊎_elim
      (λ less.
      let inside : page_bytes * p + page_bytes ≤ length (gathered k page) = omega (arith, size, less) in
      let long = length-drop (page_bytes * p) (gathered k page) in
      ap (take page_bytes) (drop-append-le (page_bytes * p) (gathered k page) (page k) (omega (arith, inside)))
      ∙ take-append-le page_bytes (drop (page_bytes * p) (gathered k page)) (page k) (omega (arith, long, inside))
      ∙ before less)
      (λ le.
      let e : p ≡ k = omega (arith, le, lt) in
      let at : length (gathered k page) ≡ page_bytes * p = omega (arith, size, e) in
      let long : length (page k) ≤ page_bytes = omega (arith, each k (omega arith)) in
      ap (take page_bytes) (drop_at (gathered k page) (page k) (page_bytes * p) at) ∙ take_all page_bytes (page k) long ∙ ap page (sym e))
      (cases_lt p k)

-- the device, as it was read
module _ (n : ℕ) (disk : Disk) (clean : disk.unsynced ≡ []) (ready : IsReady n (length disk.bytes)) (listed : are_listed n disk.bytes slots ≡ true) where
  has_now : (at len : ℕ) (l : List ℕ) → slice at len disk.bytes ≡ l → Has at len l disk
  has_now at len l there = record { there = there; sure = subst (λ u. Avoids u (stretch at len)) (sym clean) tt }

  gate_inside : (s : ℕ) → s < slots → gate_of s < length disk.bytes
  gate_inside s lt = let large = ready.large in omega (arith, large, lt)

  each_listed : (k : ℕ) → are_listed n disk.bytes k ≡ true → (s : ℕ) → s < k
      → (if is_open (gate_of s) disk.bytes then is_directory n (block (directory_block n s) disk.bytes) else true) ≡ true
  each_listed zero all s lt = absurd (omega (arith, lt))
  each_listed (suc k) all s lt =
      let parts = and_parts (are_listed n disk.bytes k) (if is_open (gate_of k) disk.bytes then is_directory n (block (directory_block n k) disk.bytes) else true) all in
      ⊎_elim (λ less. each_listed k parts.0 s less)
      (λ le. let e : k ≡ s = omega (arith, le, lt) in
      subst (λ (m : ℕ). (if is_open (gate_of m) disk.bytes then is_directory n (block (directory_block n m) disk.bytes) else true) ≡ true) e parts.1)
      (cases_lt s k)

  slot_found : (s : ℕ) → s < slots → SlotStands n s (slot_lists n disk.bytes s) disk
  slot_found s lt = by_gate (is_open (gate_of s) disk.bytes) refl where
    shut : is_open (gate_of s) disk.bytes ≡ false → SlotStands n s [] disk
    shut gate = record {
      byte = slice_index disk.bytes (gate_of s);
      closed = gate;
      has = has_now (gate_of s) 1 (slice_index disk.bytes (gate_of s) ∷ []) (one_byte (gate_of s) disk.bytes (gate_inside s lt));
    }

    some : (numbers : List ℕ) → numbers_in (block (directory_block n s) disk.bytes) ≡ numbers → is_open (gate_of s) disk.bytes ≡ true
        → is_directory n (block (directory_block n s) disk.bytes) ≡ true → SlotStands n s numbers disk
    some [] is gate spelled =
        let pages = (and_parts _ _ (and_parts _ _ (and_parts _ _ spelled).0).0).1 in
        absurd (let none : are_pages n [] ≡ true = sym (ap (are_pages n) is) ∙ pages in cc)
    some (x ∷ numbers) is gate spelled = record {
      gate = has_now (gate_of s) 1 (GATE_OPEN ∷ []) (one_byte (gate_of s) disk.bytes (gate_inside s lt) ∙ ap (λ (b : ℕ). b ∷ []) (open_at _ gate));
      bytes = block (directory_block n s) disk.bytes;
      has = has_now (page_bytes * directory_block n s) page_bytes (block (directory_block n s) disk.bytes) refl;
      spelled = spelled;
      listed = is;
    }

    by_gate : (b : Bool) → is_open (gate_of s) disk.bytes ≡ b → SlotStands n s (slot_lists n disk.bytes s) disk
    by_gate false gate = subst (λ (l : List ℕ). SlotStands n s l disk) (sym (ap (λ (b : Bool). if b then numbers_in (block (directory_block n s) disk.bytes) else []) gate)) (shut gate)
    by_gate true gate =
        let spelled : is_directory n (block (directory_block n s) disk.bytes) ≡ true =
        sym (ap (λ (b : Bool). if b then is_directory n (block (directory_block n s) disk.bytes) else true) gate) ∙ each_listed slots listed s lt in
        subst (λ (l : List ℕ). SlotStands n s l disk) (sym (ap (λ (b : Bool). if b then numbers_in (block (directory_block n s) disk.bytes) else []) gate)) (some _ refl gate spelled)

  place_inside : (p : ℕ) → p < n → place n p (slot_lists n disk.bytes) slots < 5 + 5 * n
  place_inside p lt =
      let low = place_below n p (slot_lists n disk.bytes) slots lt (λ s below. lists_few n s (slot_lists n disk.bytes s) disk (slot_found s below)) in
      omega (arith, low)

  page_long : (p : ℕ) → p < n → length (page_read n disk.bytes p) ≡ page_bytes
  page_long p lt =
      let at = place n p (slot_lists n disk.bytes) slots in
      let low = place_inside p lt in
      let large = ready.large in
      let rest = length-drop (page_bytes * at) disk.bytes in
      length-take-le page_bytes (drop (page_bytes * at) disk.bytes) (omega (arith, low, large, rest))

  -- the copy at rest, by its bytes
  pub found_stands : IsHeaded n disk → Stands n (slot_lists n disk.bytes) (gathered n (page_read n disk.bytes)) disk
  found_stands head = record {
    logged = record { ready = ready; head = head; slot = slot_found };
    size = gathered_length (page_read n disk.bytes) n page_long;
    here = λ p lt. has_now (page_bytes * place n p (slot_lists n disk.bytes) slots) page_bytes (page_in p (gathered n (page_read n disk.bytes)))
        (sym (gathered_at (page_read n disk.bytes) n p page_long lt));
  }

  any_open : (s : ℕ) → s < slots → is_open (gate_of s) disk.bytes ≡ lists_any (slot_lists n disk.bytes s)
  any_open s lt = by_gate (is_open (gate_of s) disk.bytes) refl where
    some : (numbers : List ℕ) → numbers_in (block (directory_block n s) disk.bytes) ≡ numbers → is_directory n (block (directory_block n s) disk.bytes) ≡ true → true ≡ lists_any numbers
    some [] is spelled =
        let pages = (and_parts _ _ (and_parts _ _ (and_parts _ _ spelled).0).0).1 in
        absurd (let none : are_pages n [] ≡ true = sym (ap (are_pages n) is) ∙ pages in cc)
    some (x ∷ numbers) is spelled = refl

    by_gate : (b : Bool) → is_open (gate_of s) disk.bytes ≡ b → is_open (gate_of s) disk.bytes ≡ lists_any (slot_lists n disk.bytes s)
    by_gate false gate = gate ∙ sym (ap (λ (b : Bool). lists_any (if b then numbers_in (block (directory_block n s) disk.bytes) else [])) gate)
    by_gate true gate =
        let spelled : is_directory n (block (directory_block n s) disk.bytes) ≡ true =
        sym (ap (λ (b : Bool). if b then is_directory n (block (directory_block n s) disk.bytes) else true) gate) ∙ each_listed slots listed s lt in
        gate ∙ some (numbers_in (block (directory_block n s) disk.bytes)) refl spelled
        ∙ sym (ap (λ (b : Bool). lists_any (if b then numbers_in (block (directory_block n s) disk.bytes) else [])) gate)

-- the slots of a log alone
abbrev pub of_slots : (ℕ → List ℕ) → ℕ → List ℕ
of_slots f zero = f zero
of_slots f (suc zero) = f (suc zero)
of_slots f (suc (suc zero)) = f (suc (suc zero))
of_slots f (suc (suc (suc zero))) = f (suc (suc (suc zero)))
of_slots f (suc (suc (suc (suc s)))) = []

of_slots_same : (f : ℕ → List ℕ) (s : ℕ) → s < slots → f s ≡ of_slots f s
of_slots_same f zero lt = refl
of_slots_same f (suc zero) lt = refl
of_slots_same f (suc (suc zero)) lt = refl
of_slots_same f (suc (suc (suc zero))) lt = refl
of_slots_same f (suc (suc (suc (suc s)))) lt = absurd (omega (arith, lt))

-- block 0 is valid
valid_gate : (bytes : List ℕ) (size : ℕ) → is_valid bytes size ≡ true → is_open 0 bytes ≡ true
valid_gate bytes size valid = by_test (is_open 0 bytes) refl where
  by_test : (b : Bool) → is_open 0 bytes ≡ b → is_open 0 bytes ≡ true
  by_test true is = is
  by_test false is = absurd (let no_way : is_valid bytes size ≡ false = rw is in cc)

valid_form : (bytes : List ℕ) (size : ℕ) → is_valid bytes size ≡ true → slice_index bytes 1 ≡ FORM_LOG
valid_form bytes size valid = by_test (slice_index bytes 1 == FORM_LOG) refl where
  by_test : (b : Bool) → (slice_index bytes 1 == FORM_LOG) ≡ b → slice_index bytes 1 ≡ FORM_LOG
  by_test true is = grind (arith, nat_tests)
  by_test false is = absurd (let no_way : is_valid bytes size ≡ false = rw (valid_gate bytes size valid, is) in cc)

first_four : (l : List ℕ) → 4 ≤ length l → slice 0 4 l ≡ slice_index l 0 ∷ slice_index l 1 ∷ slice_index l 2 ∷ slice_index l 3 ∷ []
first_four [] le = absurd (omega (arith, le))
first_four (a ∷ []) le = absurd (omega (arith, le))
first_four (a ∷ b ∷ []) le = absurd (omega (arith, le))
first_four (a ∷ b ∷ c ∷ []) le = absurd (omega (arith, le))
first_four (a ∷ b ∷ c ∷ d ∷ l) le = refl

-- with nothing unsynced the only image is what the device has
image_same : (disk : Disk) (image : List ℕ) → disk.unsynced ≡ [] → IsImage disk image → image ≡ disk.bytes
image_same disk image clean is =
    let all : slice 0 (length disk.bytes) image ≡ slice 0 (length disk.bytes) disk.bytes = is.synced (stretch 0 (length disk.bytes)) (subst (λ u. Avoids u (stretch 0 (length disk.bytes))) (sym clean) tt) in
    let size = is.size in
    sym (take_all (length disk.bytes) image (omega (arith, size))) ∙ all ∙ take_all (length disk.bytes) disk.bytes (omega arith)

none_from : (disk : Disk) → disk.unsynced ≡ [] → reads disk.bytes ≡ None → IsNone reads disk
none_from disk clean none = record { now = none; images = λ image is. ap reads (image_same disk image clean is) ∙ none }

-- block 0 isn't that of a log
pub head_none : (disk : Disk) (size : ℕ) → disk.unsynced ≡ [] → length disk.bytes ≡ size → is_valid disk.bytes size ≡ false → IsNone reads disk
head_none disk size clean large invalid =
    let here : is_valid disk.bytes (length disk.bytes) ≡ false = ap (is_valid disk.bytes) large ∙ invalid in
    none_from disk clean (ap (λ (b : Bool). if b && are_listed (pages_in disk.bytes) disk.bytes slots then Some (gathered (pages_in disk.bytes) (page_read (pages_in disk.bytes) disk.bytes)) else None) here)

-- an open slot has no directory
pub slots_none : (head : Head) (disk : Disk) (size : ℕ) → disk.unsynced ≡ [] → length disk.bytes ≡ size → IsHeadOf head disk.bytes size → are_listed head.pages disk.bytes slots ≡ false → IsNone reads disk
slots_none head disk size clean large is none =
    let valid : is_valid disk.bytes (length disk.bytes) ≡ true = ap (is_valid disk.bytes) large ∙ is.valid in
    let here : are_listed (pages_in disk.bytes) disk.bytes slots ≡ false = ap (λ (n : ℕ). are_listed n disk.bytes slots) (sym is.pages) ∙ none in
    none_from disk clean
    (ap (λ (b : Bool). if b && are_listed (pages_in disk.bytes) disk.bytes slots then Some (gathered (pages_in disk.bytes) (page_read (pages_in disk.bytes) disk.bytes)) else None) valid
    ∙ ap (λ (b : Bool). if b then Some (gathered (pages_in disk.bytes) (page_read (pages_in disk.bytes) disk.bytes)) else None) here)

-- what was read is what the copy reads as
module _ (head : Head) (places pages : List ℕ) (disk : Disk) (size : ℕ) (clean : disk.unsynced ≡ []) (large : length disk.bytes ≡ size) (ready : IsReady head.pages size)
    (is : IsHeadOf head disk.bytes size) (placed : ArePlacesOf head.pages places disk.bytes) where
  ready_here : IsReady head.pages (length disk.bytes)
  ready_here = subst (λ (k : ℕ). IsReady head.pages k) (sym large) ready

  headed : IsHeaded head.pages disk
  headed =
      let room = ready_here.large in
      let four = first_four disk.bytes (omega (arith, room)) in
      record {
        high = slice_index disk.bytes 2;
        low = slice_index disk.bytes 3;
        count = sym is.pages;
        has = record {
          there = four ∙ ap (λ (b : ℕ). b ∷ slice_index disk.bytes 1 ∷ slice_index disk.bytes 2 ∷ slice_index disk.bytes 3 ∷ []) (open_at _ (valid_gate disk.bytes size is.valid))
              ∙ ap (λ (b : ℕ). GATE_OPEN ∷ b ∷ slice_index disk.bytes 2 ∷ slice_index disk.bytes 3 ∷ []) (valid_form disk.bytes size is.valid);
          sure = subst (λ u. Avoids u (stretch 0 4)) (sym clean) tt;
        };
      }

  open_found : (s : ℕ) → slice_index_or (gates_in disk.bytes) s false ≡ lists_any (of_slots (slot_lists head.pages disk.bytes) s)
  open_found zero = any_open head.pages disk clean ready_here placed.listed 0 (omega arith)
  open_found (suc zero) = any_open head.pages disk clean ready_here placed.listed 1 (omega arith)
  open_found (suc (suc zero)) = any_open head.pages disk clean ready_here placed.listed 2 (omega arith)
  open_found (suc (suc (suc zero))) = any_open head.pages disk clean ready_here placed.listed 3 (omega arith)
  open_found (suc (suc (suc (suc s)))) = refl

  pages_found : gathered head.pages (λ p. block (slice_index places p) disk.bytes) ≡ gathered head.pages (page_read head.pages disk.bytes)
  pages_found = gathered_same (λ p. block (slice_index places p) disk.bytes) (page_read head.pages disk.bytes) head.pages (λ p lt. ap (λ (b : ℕ). block b disk.bytes) (placed.placed p lt))

  pub found_rests : pages ≡ gathered head.pages (λ p. block (slice_index places p) disk.bytes) → Rests head.pages head.gates places pages disk
  found_rests are = record {
    lists = of_slots (slot_lists head.pages disk.bytes);
    open_as = λ s. ap (λ (g : List Bool). slice_index_or g s false) is.gates ∙ open_found s;
    stand_as = λ p lt. placed.placed p lt ∙ place_same head.pages p (slot_lists head.pages disk.bytes) (of_slots (slot_lists head.pages disk.bytes)) slots (λ s below. of_slots_same (slot_lists head.pages disk.bytes) s below);
    stands = subst (λ (l : List ℕ). Stands head.pages (of_slots (slot_lists head.pages disk.bytes)) l disk) (sym (are ∙ pages_found))
        (stands_same head.pages (slot_lists head.pages disk.bytes) (of_slots (slot_lists head.pages disk.bytes)) (gathered head.pages (page_read head.pages disk.bytes)) disk
        (λ s below. of_slots_same (slot_lists head.pages disk.bytes) s below) (found_stands head.pages disk clean ready_here placed.listed headed));
  }

-- a slot whose gate is closed lists nothing
up_next : (n s : ℕ) (places bytes : List ℕ) → ArePlacedUp n (suc s) places bytes → ArePlacedUp n (s + 1) places bytes
up_next n s places bytes up = let e : suc s ≡ s + 1 = omega arith in subst (λ (m : ℕ). ArePlacedUp n m places bytes) e up

pub slot_closed : (n s : ℕ) (places bytes : List ℕ) → is_open (gate_of s) bytes ≡ false → ArePlacedUp n s places bytes → ArePlacedUp n (s + 1) places bytes
slot_closed n s places bytes gate now = up_next n s places bytes (record {
  listed = and_from _ _ now.listed (ap (λ (b : Bool). if b then is_directory n (block (directory_block n s) bytes) else true) gate);
  placed = λ p lt. now.placed p lt ∙ sym (ap (λ (b : Bool). laid (image_block n s 0) p (if b then numbers_in (block (directory_block n s) bytes) else []) (place n p (slot_lists n bytes) s)) gate);
})

-- a slot whose gate is open was read
pub slot_open : (n s first images : ℕ) (places new read numbers bytes : List ℕ) → is_open (gate_of s) bytes ≡ true → first ≡ directory_block n s → images ≡ image_block n s 0 → read ≡ block first bytes
    → is_directory n read ≡ true → numbers ≡ numbers_in read → AreLaid images numbers places new → ArePlacedUp n s places bytes → ArePlacedUp n (s + 1) new bytes
slot_open n s first images places new read numbers bytes gate at_block next is spelled are laid_so now = up_next n s new bytes (record {
  listed = and_from _ _ now.listed (ap (λ (b : Bool). if b then is_directory n (block (directory_block n s) bytes) else true) gate ∙ ap (is_directory n) (sym here) ∙ spelled);
  placed = λ p lt.
      laid_so p ∙ ap (λ (b : ℕ). laid b p numbers (slice_index places p)) next ∙ ap (λ (l : List ℕ). laid (image_block n s 0) p l (slice_index places p)) (are ∙ ap numbers_in here)
      ∙ ap (λ (u : ℕ). laid (image_block n s 0) p (numbers_in (block (directory_block n s) bytes)) u) (now.placed p lt)
      ∙ sym (ap (λ (b : Bool). laid (image_block n s 0) p (if b then numbers_in (block (directory_block n s) bytes) else []) (place n p (slot_lists n bytes) s)) gate);
}) where
  here : read ≡ block (directory_block n s) bytes
  here = is ∙ ap (λ (b : ℕ). block b bytes) at_block

-- a slot whose gate is open has no directory: so not each is listed
up_to : (n : ℕ) (bytes : List ℕ) (s k : ℕ) → s < k → are_listed n bytes (suc s) ≡ false → are_listed n bytes k ≡ false
up_to n bytes s zero lt none = absurd (omega (arith, lt))
up_to n bytes s (suc k) lt none = ⊎_elim
    (λ less. ap (λ (b : Bool). b && (if is_open (gate_of k) bytes then is_directory n (block (directory_block n k) bytes) else true)) (up_to n bytes s k less none))
    (λ le. let e : s ≡ k = omega (arith, lt, le) in subst (λ (m : ℕ). are_listed n bytes (suc m) ≡ false) e none)
    (cases_lt s k)

pub slot_unread : (n s first : ℕ) (read bytes : List ℕ) → s < slots → is_open (gate_of s) bytes ≡ true → first ≡ directory_block n s → read ≡ block first bytes → is_directory n read ≡ false → are_listed n bytes slots ≡ false
slot_unread n s first read bytes lt gate at_block is none = up_to n bytes s slots lt here where
  missing : (if is_open (gate_of s) bytes then is_directory n (block (directory_block n s) bytes) else true) ≡ false
  missing = ap (λ (b : Bool). if b then is_directory n (block (directory_block n s) bytes) else true) gate ∙ ap (is_directory n) (sym (is ∙ ap (λ (b : ℕ). block b bytes) at_block)) ∙ none

  here : are_listed n bytes (suc s) ≡ false
  here = by_test (are_listed n bytes s) refl where
    by_test : (b : Bool) → are_listed n bytes s ≡ b → are_listed n bytes (suc s) ≡ false
    by_test true before = ap (λ (b : Bool). b && (if is_open (gate_of s) bytes then is_directory n (block (directory_block n s) bytes) else true)) before ∙ missing
    by_test false before = ap (λ (b : Bool). b && (if is_open (gate_of s) bytes then is_directory n (block (directory_block n s) bytes) else true)) before

ascend_below : (n last : ℕ) (numbers : List ℕ) → ascend n last numbers ≡ true → (k : ℕ) (d : ℕ) → k < length numbers → slice_index_or numbers k d < n
ascend_below n last [] all k d lt = absurd (omega (arith, lt))
ascend_below n last (x ∷ numbers) all zero d lt =
    let outer = and_parts (nat_lt last x && nat_lt x n) (ascend n x numbers) all in
    lt_from x n (and_parts (nat_lt last x) (nat_lt x n) outer.0).1
ascend_below n last (x ∷ numbers) all (suc k) d lt =
    let outer = and_parts (nat_lt last x && nat_lt x n) (ascend n x numbers) all in
    ascend_below n x numbers outer.1 k d (omega (arith, lt))

pages_below : (n : ℕ) (numbers : List ℕ) → are_pages n numbers ≡ true → All (λ p. p < n) numbers
pages_below n [] all k d lt = absurd (omega (arith, lt))
pages_below n (x ∷ numbers) all zero d lt =
    let outer = and_parts ((x == 0) && nat_lt 0 n) (ascend n 0 numbers) all in
    let inner = and_parts (x == 0) (nat_lt 0 n) outer.0 in
    subst (λ (y : ℕ). y < n) (sym (eq_from x 0 inner.0)) (lt_from 0 n inner.1)
pages_below n (x ∷ numbers) all (suc k) d lt =
    let outer = and_parts ((x == 0) && nat_lt 0 n) (ascend n 0 numbers) all in
    ascend_below n 0 numbers outer.1 k d (omega (arith, lt))

pub listing_few : (n : ℕ) (read : List ℕ) → is_directory n read ≡ true → (count_in read ≤ n) × All (λ p. p < n) (numbers_in read)
listing_few n read spelled =
    let three = and_parts (nat_le (count_in read) n && are_pages n (numbers_in read) && are_zeros (slice 2 6 read)) (are_zeros (drop (16 + 2 * count_in read) read)) spelled in
    let two = and_parts (nat_le (count_in read) n && are_pages n (numbers_in read)) (are_zeros (slice 2 6 read)) three.0 in
    let one = and_parts (nat_le (count_in read) n) (are_pages n (numbers_in read)) two.0 in
    (leb-true (count_in read) n one.0, pages_below n (numbers_in read) one.1)

pub listing_length : (n : ℕ) (read : List ℕ) → is_directory n read ≡ true → length (numbers_in read) ≤ n
listing_length n read spelled =
    let few = (listing_few n read spelled).0 in
    let most = words_length (count_in read) (drop 16 read) in
    omega (arith, few, most)

-- the gate of a slot, as block 0 was read
pub gate_read : (gates : List Bool) (bytes : List ℕ) (s : ℕ) (d : Bool) → s < slots → gates ≡ gates_in bytes → get_or gates s d ≡ is_open (gate_of s) bytes
gate_read gates bytes zero d lt is = ap (λ (g : List Bool). get_or g 0 d) is
gate_read gates bytes (suc zero) d lt is = ap (λ (g : List Bool). get_or g 1 d) is
gate_read gates bytes (suc (suc zero)) d lt is = ap (λ (g : List Bool). get_or g 2 d) is
gate_read gates bytes (suc (suc (suc zero))) d lt is = ap (λ (g : List Bool). get_or g 3 d) is
gate_read gates bytes (suc (suc (suc (suc s)))) d lt is = absurd (omega (arith, lt))

-- a page more was read
pub page_gathered : (F : ℕ → List ℕ) (i : ℕ) (pages : List Page) (page : Page) → bytes_of pages ≡ gathered i F → page.0 ≡ F i → bytes_of (pages ++ page ∷ []) ≡ gathered (i + 1) F
page_gathered F i pages page before read =
    let e : suc i ≡ i + 1 = omega arith in
    bytes_of-push pages page ∙ ap (λ (l : List ℕ). l ++ page.0) before ∙ ap (λ (l : List ℕ). gathered i F ++ l) read ∙ ap (λ (m : ℕ). gathered m F) e

-- block 0 was read, after a sync
module _ (found : Option Head) (synced headed : Disk) (size : ℕ) (clean : synced.unsynced ≡ []) (large : length synced.bytes ≡ size) (same : headed ≡ synced)
    (is : IsHeadIn found synced.bytes size) where
  pub find_no_head : found ≡ None → IsNone reads headed
  find_no_head none =
      subst (λ (d : Disk). IsNone reads d) (sym same) (head_none synced size clean large (subst (λ (o : Option Head). IsHeadIn o synced.bytes size) none is))

  module _ (head : Head) (some : found ≡ Some head) (places_found : Option (List ℕ)) (slotted : Disk) (same_too : slotted ≡ headed)
      (slots_are : head.gates ≡ gates_in headed.bytes → ArePlacesIn head.pages places_found headed.bytes) where
    head_here : IsHeadOf head synced.bytes size
    head_here = subst (λ (o : Option Head). IsHeadIn o synced.bytes size) some is

    slots_here : ArePlacesIn head.pages places_found synced.bytes
    slots_here =
        let gates : head.gates ≡ gates_in headed.bytes = head_here.gates ∙ ap (λ (d : Disk). gates_in d.bytes) (sym same) in
        subst (λ (d : Disk). ArePlacesIn head.pages places_found d.bytes) same (slots_are gates)

    pub find_no_slots : places_found ≡ None → IsNone reads slotted
    find_no_slots none =
        subst (λ (d : Disk). IsNone reads d) (sym (same_too ∙ same))
        (slots_none head synced size clean large head_here (subst (λ (o : Option (List ℕ)). ArePlacesIn head.pages o synced.bytes) none slots_here))

    pub find_rests : (places pages : List ℕ) (last : Disk) → places_found ≡ Some places → IfSome found (λ h. IsReady h.pages size) → last ≡ slotted
        → pages ≡ gathered head.pages (λ p. block (slice_index places p) slotted.bytes) → Rests head.pages head.gates places pages last
    find_rests places pages last placed ready last_same are =
        let same_all = same_too ∙ same in
        subst (λ (d : Disk). Rests head.pages head.gates places pages d) (sym (last_same ∙ same_all))
        (found_rests head places pages synced size clean large (subst (λ (o : Option Head). IfSome o (λ h. IsReady h.pages size)) some ready) head_here
        (subst (λ (o : Option (List ℕ)). ArePlacesIn head.pages o synced.bytes) placed slots_here)
        (subst (λ (d : Disk). pages ≡ gathered head.pages (λ p. block (slice_index places p) d.bytes)) same_all are))

    pub find_room : (last : Disk) → last ≡ slotted → free_after 0 head.gates ≡ room_in last.bytes
    find_room last last_same = ap (λ (g : List Bool). free_after 0 g) head_here.gates ∙ ap (λ (d : Disk). room_in d.bytes) (sym (last_same ∙ same_too ∙ same))

-- block 0 by its first twelve bytes
abbrev valid_of : ℕ → ℕ → ℕ → ℕ → ℕ → Bool
valid_of a b c d size =
    (a == GATE_OPEN) && (b == FORM_LOG) && nat_le pages_least (256 * c + d) && nat_le (256 * c + d) pages_most && nat_le (log_size (256 * c + d)) size

module _ (bytes block : List ℕ) (is : block ≡ slice 0 12 bytes) where
  byte_same : (i : ℕ) → i < 12 → slice_index block i ≡ slice_index bytes i
  byte_same i lt = let e : 0 + i ≡ i = omega arith in sym (byte_in 0 12 i block bytes (sym is) lt) ∙ ap (λ (m : ℕ). slice_index bytes m) e

  valid_same : (size : ℕ) → is_valid block size ≡ is_valid bytes size
  valid_same size =
      ap (λ (a : ℕ). valid_of a (slice_index block 1) (slice_index block 2) (slice_index block 3) size) (byte_same 0 (omega arith))
      ∙ ap (λ (b : ℕ). valid_of (slice_index bytes 0) b (slice_index block 2) (slice_index block 3) size) (byte_same 1 (omega arith))
      ∙ ap (λ (c : ℕ). valid_of (slice_index bytes 0) (slice_index bytes 1) c (slice_index block 3) size) (byte_same 2 (omega arith))
      ∙ ap (λ (d : ℕ). valid_of (slice_index bytes 0) (slice_index bytes 1) (slice_index bytes 2) d size) (byte_same 3 (omega arith))

  pages_same : pages_in block ≡ pages_in bytes
  pages_same = ap (λ (c : ℕ). 256 * c + slice_index block 3) (byte_same 2 (omega arith)) ∙ ap (λ (d : ℕ). 256 * slice_index bytes 2 + d) (byte_same 3 (omega arith))

  gates_same : gates_in block ≡ gates_in bytes
  gates_same =
      ap (λ (a : ℕ). (a == GATE_OPEN) ∷ is_open 9 block ∷ is_open 10 block ∷ is_open 11 block ∷ []) (byte_same 8 (omega arith))
      ∙ ap (λ (a : ℕ). is_open 8 bytes ∷ (a == GATE_OPEN) ∷ is_open 10 block ∷ is_open 11 block ∷ []) (byte_same 9 (omega arith))
      ∙ ap (λ (a : ℕ). is_open 8 bytes ∷ is_open 9 bytes ∷ (a == GATE_OPEN) ∷ is_open 11 block ∷ []) (byte_same 10 (omega arith))
      ∙ ap (λ (a : ℕ). is_open 8 bytes ∷ is_open 9 bytes ∷ is_open 10 bytes ∷ (a == GATE_OPEN) ∷ []) (byte_same 11 (omega arith))

  pub head_read : (found : Option Head) (size : ℕ) → IsHeadIn found block size → IsHeadIn found bytes size
  head_read None size none = sym (valid_same size) ∙ none
  head_read (Some head) size here = record { valid = sym (valid_same size) ∙ here.valid; pages = here.pages ∙ pages_same; gates = here.gates ∙ gates_same }

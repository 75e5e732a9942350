-- The log form of a copy: what its bytes read as.
use Rattle.std.specs.Prelude.{◌≡◌, ℕ, ◌+◌, ◌*◌, ◌/◌, ◌%◌, ◌&&◌, ◌==◌, nat_le, if◌then◌else◌, zero, suc, Bool, true, false, Option, Some, None, List, [], ◌∷◌, ◌++◌, length, slice_index}
use Rattle.spool_plant.specs.View.{slice}
use Rattle.mas_types.specs.Limits.{page_bytes, pages_least, pages_most}
use Rattle.ckpt_copy.specs.Heads.{is_open, pages_in}
use Rattle.change_log.specs.declared.layout.TheConstants.{FORM_LOG}
use Rattle.change_log.specs.Directories.{numbers_in, is_directory}

-- the log slots of a copy
abbrev pub slots : ℕ
slots = 4

-- where the gate of a slot stands
abbrev pub gate_of : ℕ → ℕ
gate_of s = 8 + s

-- Block 0 is followed by the home pages, and these by the slots, each a directory and a block for each page. Blocks are
-- counted from 0.
abbrev pub home_block : ℕ → ℕ
home_block p = 1 + p

abbrev pub directory_block : ℕ → ℕ → ℕ
directory_block n s = 1 + n + s * (n + 1)

abbrev pub image_block : ℕ → ℕ → ℕ → ℕ
image_block n s i = directory_block n s + 1 + i

-- the bytes of device that a copy of n pages needs
abbrev pub log_size : ℕ → ℕ
log_size n = page_bytes * (5 + 5 * n)

abbrev pub block : ℕ → List ℕ → List ℕ
block b bytes = slice (page_bytes * b) page_bytes bytes

-- Where page p stands once images, which stand from block b on and belong to these numbers, lie over what stands in the
-- block `under`.
abbrev pub laid : ℕ → ℕ → List ℕ → ℕ → ℕ
laid b p [] under = under
laid b p (x ∷ numbers) under = laid (b + 1) p numbers (if x == p then b else under)

-- each page of a new table stands where the images lay it over the old one
abbrev pub AreLaid : ℕ → List ℕ → List ℕ → List ℕ → Type 0
AreLaid b numbers old new = (p : ℕ) → slice_index new p ≡ laid b p numbers (slice_index old p)

-- Where page p stands once the images of the first slots lie over its home page, slot after slot. A slot has images of
-- the pages that it lists.
abbrev pub place : ℕ → ℕ → (ℕ → List ℕ) → ℕ → ℕ
place n p lists zero = home_block p
place n p lists (suc s) = laid (image_block n s 0) p (lists s) (place n p lists s)

-- the pages that a slot lists: none where its gate is closed
abbrev pub slot_lists : ℕ → List ℕ → ℕ → List ℕ
slot_lists n bytes s = if is_open (gate_of s) bytes then numbers_in (block (directory_block n s) bytes) else []

-- each of the first slots whose gate is open begins with a directory
abbrev pub are_listed : ℕ → List ℕ → ℕ → Bool
are_listed n bytes zero = true
are_listed n bytes (suc s) = are_listed n bytes s &&
    (if is_open (gate_of s) bytes then is_directory n (block (directory_block n s) bytes) else true)

-- page p of a copy of n pages
abbrev pub page_read : ℕ → List ℕ → ℕ → List ℕ
page_read n bytes p = block (place n p (slot_lists n bytes) slots) bytes

-- the first k pages, one after another
abbrev pub gathered : ℕ → (ℕ → List ℕ) → List ℕ
gathered zero page = []
gathered (suc k) page = gathered k page ++ page k

-- VALID is open, the form is the log, the number of pages is in range, and the device is large enough for it
abbrev pub is_valid : List ℕ → ℕ → Bool
is_valid head size =
    is_open 0 head && (slice_index head 1 == FORM_LOG) && nat_le pages_least (pages_in head) && nat_le (pages_in head)
    pages_most
    && nat_le (log_size (pages_in head)) size

-- the bytes of the pages that a copy's bytes read as
abbrev pub reads : List ℕ → Option (List ℕ)
reads bytes =
    if is_valid bytes (length bytes) && are_listed (pages_in bytes) bytes slots
    then Some (gathered (pages_in bytes) (page_read (pages_in bytes) bytes))
    else None

-- the slots after the last whose gate is open, after so many that are closed
abbrev pub free_after : ℕ → List Bool → ℕ
free_after free [] = free
free_after free (true ∷ gates) = free_after 0 gates
free_after free (false ∷ gates) = free_after (free + 1) gates

abbrev pub gates_in : List ℕ → List Bool
gates_in bytes = is_open 8 bytes ∷ is_open 9 bytes ∷ is_open 10 bytes ∷ is_open 11 bytes ∷ []

-- the puts possible before a settle: the slots after the last one that is open
abbrev pub room_in : List ℕ → ℕ
room_in bytes = free_after 0 (gates_in bytes)

-- block 0 from the form to the gates, each of them closed
abbrev pub block_head : ℕ → List ℕ
block_head n = FORM_LOG ∷ n / 256 ∷ n % 256 ∷ 0 ∷ 0 ∷ 0 ∷ 0 ∷ 0 ∷ 0 ∷ 0 ∷ 0 ∷ []

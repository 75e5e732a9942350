-- What holds of a log whatever a crash leaves of its device.
use Rattle.std.specs.Prelude.{◌≡◌, ℕ, ◌*◌, ◌≤◌, ◌<◌, true, Some, List, [], length, All}
use Rattle.mas_types.specs.Limits.{page_bytes, pages_most}
use Rattle.spool_plant.specs.View.{Disk, slice}
use Rattle.ckpt_copy.specs.Has.{Has}
use Rattle.ckpt_copy.specs.Pages.{page_in, ArePages}
use Rattle.ckpt_copy.specs.Reading.{AllRead, EachReads}
use Rattle.change_log.specs.Directories.{numbers_in, is_directory, directory}
use Rattle.change_log.specs.Logs.{reads, slots, laid, place, image_block}
use Rattle.change_log.specs.LogStates.{Stands, AreHome, Turning, lists_any}
use Rattle.change_log.specs.LogImages.{ArePlaced}

-- a directory that is written is read: it is valid, and lists the pages
abbrev pub ReadsDirectories : Type 0
ReadsDirectories = (n : ℕ) (level numbers : List ℕ) → n ≤ pages_most → length level ≡ 8 → ArePages n numbers
    → (is_directory n (directory level numbers) ≡ true) × (numbers_in (directory level numbers) ≡ numbers)

-- a valid directory is that of the pages that it lists, at its level: no other block of bytes is read
abbrev pub SpellsDirectories : Type 0
SpellsDirectories = (n : ℕ) (block : List ℕ) → n ≤ pages_most → length block ≡ page_bytes → All (λ b. b < 256) block
    → is_directory n block ≡ true → block ≡ directory (slice 8 8 block) (numbers_in block)

-- with a page wherever the slots put it, the device and each image of it read as the pages
abbrev pub ReadsAtRest : Type 0
ReadsAtRest = (n : ℕ) (lists : ℕ → List ℕ) (pages : List ℕ) (disk : Disk) → Stands n lists pages disk
    → (reads disk.bytes ≡ Some pages) × AllRead reads pages disk

-- While the gate of a slot after all open ones is opened, each image reads as the old or as the new pages: those that
-- the slot lists stand in its images, synced, and each other one where it stood.
abbrev pub ReadsWhileOpened : Type 0
ReadsWhileOpened = (n s : ℕ) (numbers : List ℕ) (lists : ℕ → List ℕ) (was next : List ℕ) (disk : Disk)
    → s < slots → lists_any numbers ≡ true → Turning n s numbers lists disk → ((j : ℕ) → s ≤ j → lists j ≡ [])
    → length was ≡ page_bytes * n → length next ≡ page_bytes * n → ArePlaced n lists was disk
    → ((p : ℕ) → p < n → Has (page_bytes * laid (image_block n s 0) p numbers (place n p lists slots)) page_bytes
    (page_in p next) disk)
    → EachReads reads was next disk

-- While the gate of the lowest open slot is closed, each image reads as before, if each home page is the page that is
-- read. Afterwards each page still stands where the slots put it.
abbrev pub ReadsWhileClosed : Type 0
ReadsWhileClosed = (n s : ℕ) (numbers : List ℕ) (lists : ℕ → List ℕ) (pages : List ℕ) (disk : Disk)
    → s < slots → lists_any numbers ≡ true → Turning n s numbers lists disk → lists s ≡ numbers
    → ((j : ℕ) → j < s → lists j ≡ [])
    → length pages ≡ page_bytes * n → ArePlaced n lists pages disk → AreHome n pages disk → AllRead reads pages disk

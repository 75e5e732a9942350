-- What stands on the device of a copy in the log form, synced, between its calls and inside them.
use Rattle.std.specs.Prelude.{◌≡◌, ℕ, ◌+◌, ◌*◌, ◌≤◌, ◌<◌, ◌==◌, if◌then◌else◌, Bool, true, false, List, [], ◌∷◌, length}
use Rattle.spool_plant.specs.View.{Disk}
use Rattle.mas_types.specs.Limits.{page_bytes, pages_least, pages_most}
use Rattle.ckpt_copy.specs.declared.layout.TheConstants.{GATE_OPEN}
use Rattle.ckpt_copy.specs.Has.{Has}
use Rattle.ckpt_copy.specs.Pages.{page_in}
use Rattle.ckpt_copy.specs.Heads.{IsClosed}
use Rattle.change_log.specs.declared.layout.TheConstants.{FORM_LOG}
use Rattle.change_log.specs.Directories.{numbers_in, is_directory}
use Rattle.change_log.specs.Logs.{slots, gate_of, home_block, directory_block, log_size, place}

-- n pages, and a device of this size that has room for a log of them
pub record IsReady (n size : ℕ) : Type 0 where
  pub enough : pages_least ≤ n
  pub few : n ≤ pages_most
  pub large : log_size n ≤ size

-- VALID is open, the form is the log, and n is the number of pages
pub record IsHeaded (n : ℕ) (disk : Disk) : Type 0 where
  pub high : ℕ
  pub low : ℕ
  pub count : 256 * high + low ≡ n
  pub has : Has 0 4 (GATE_OPEN ∷ FORM_LOG ∷ high ∷ low ∷ []) disk

-- a slot whose gate is open lists these pages
pub record Lists (n s : ℕ) (numbers : List ℕ) (disk : Disk) : Type 0 where
  pub gate : Has (gate_of s) 1 (GATE_OPEN ∷ []) disk
  pub bytes : List ℕ
  pub has : Has (page_bytes * directory_block n s) page_bytes bytes disk
  pub spelled : is_directory n bytes ≡ true
  pub listed : numbers_in bytes ≡ numbers

-- the slot lists these pages; where they are none, its gate is closed
abbrev pub SlotStands : ℕ → ℕ → List ℕ → Disk → Type 0
SlotStands n s [] disk = IsClosed (gate_of s) disk
SlotStands n s (x ∷ numbers) disk = Lists n s (x ∷ numbers) disk

-- block 0, and the slots with the pages that they list
pub record Logged (n : ℕ) (lists : ℕ → List ℕ) (disk : Disk) : Type 0 where
  pub ready : IsReady n (length disk.bytes)
  pub head : IsHeaded n disk
  pub slot : (s : ℕ) → s < slots → SlotStands n s (lists s) disk

-- block 0 and the slots stand, and each page where it is read
pub record Stands (n : ℕ) (lists : ℕ → List ℕ) (pages : List ℕ) (disk : Disk) : Type 0 where
  pub logged : Logged n lists disk
  pub size : length pages ≡ page_bytes * n
  pub here : (p : ℕ) → p < n → Has (page_bytes * place n p lists slots) page_bytes (page_in p pages) disk

-- each home page is the page that is read
abbrev pub AreHome : ℕ → List ℕ → Disk → Type 0
AreHome n pages disk = (p : ℕ) → p < n → Has (page_bytes * home_block p) page_bytes (page_in p pages) disk

-- the slot lists a page, and so its gate is open
abbrev pub lists_any : List ℕ → Bool
lists_any [] = false
lists_any (x ∷ numbers) = true

-- the lists of the slots, with this list in slot s
abbrev pub with_list : ℕ → List ℕ → (ℕ → List ℕ) → ℕ → List ℕ
with_list s numbers lists j = if j == s then numbers else lists j

-- while the gate of slot s is opened or closed: a directory that lists these pages stands behind it
pub record Turning (n s : ℕ) (numbers : List ℕ) (lists : ℕ → List ℕ) (disk : Disk) : Type 0 where
  pub ready : IsReady n (length disk.bytes)
  pub head : IsHeaded n disk
  pub others : (j : ℕ) → j < slots → (j == s) ≡ false → SlotStands n j (lists j) disk
  pub bytes : List ℕ
  pub has : Has (page_bytes * directory_block n s) page_bytes bytes disk
  pub spelled : is_directory n bytes ≡ true
  pub listed : numbers_in bytes ≡ numbers

-- What bytes and pages are where they are entries of one width.
use Rattle.std.specs.Prelude.{◌≡◌, ℕ, ◌+◌, ◌-◌, ◌*◌, ◌≤◌, ◌<◌, min, List, ◌++◌, length, map, All}
use Rattle.mas_types.specs.declared.ids.Page.{Page}
use Rattle.ckpt_pages.specs.declared.entries.EntryError.{EntryError}
use Rattle.ckpt_pages.specs.declared.entries.EntryError.TheVariants as notread
use Rattle.ckpt_pages.specs.declared.entries.PageNo.{PageNo}
use Rattle.ckpt_pages.specs.declared.entries.PageNo.TheVariants.{BadPage, NoMemory}
use Rattle.ckpt_tables.specs.Pages.{filled, filled_to, part, page_in}

-- the bytes are the entries of so many items, and zeros
pub record AreEntries {X : Type 0} (spelling : X → List ℕ) (Fits : X → Type 0) (count : ℕ) (bytes : List ℕ)
    (items : List X) : Type 0 where
  pub len : length items ≡ count
  pub fit : All Fits items
  pub is : bytes ≡ filled_to (length bytes) (map spelling items)

-- the items of the bytes are added
pub record ReadsEntries {X : Type 0} (spelling : X → List ℕ) (Fits : X → Type 0) (count : ℕ) (bytes : List ℕ)
    (old new : List X) : Type 0 where
  pub more : List X
  pub is : new ≡ old ++ more
  pub reads : AreEntries spelling Fits count bytes more

-- the bytes are the entries of no items
abbrev pub AreNoEntries : {X : Type 0} → (X → List ℕ) → (X → Type 0) → ℕ → List ℕ → Type 0
AreNoEntries {X} spelling Fits count bytes = (items : List X) → AreEntries spelling Fits count bytes items → ⊥

-- the pages from the first on spell so many items, so many to a page
pub record ArePages {X : Type 0} (spelling : X → List ℕ) (Fits : X → Type 0) (a_page first total : ℕ)
    (pages : List Page) (items : List X) : Type 0 where
  pub len : length items ≡ total
  pub fit : All Fits items
  pub each : (q : ℕ) → a_page * q < total → page_in pages (first + q) ≡ filled (map spelling (part a_page q items))

-- page p is the first of them that spells none
pub record IsFirstBad {X : Type 0} (spelling : X → List ℕ) (Fits : X → Type 0) (a_page first total : ℕ)
    (pages : List Page) (p : ℕ) : Type 0 where
  pub from : first ≤ p
  pub within : a_page * (p - first) < total
  pub before : List X
  pub good : ArePages spelling Fits a_page first (a_page * (p - first)) pages before
  pub bad : AreNoEntries spelling Fits (min (total - a_page * (p - first)) a_page) (page_in pages p)

-- what is answered where page p was not read
abbrev pub page_no : EntryError → ℕ → PageNo
page_no notread.Bad p = BadPage p
page_no notread.NoMemory p = NoMemory

-- what was answered for a page that is no spelling
abbrev pub IfBadPage : PageNo → (ℕ → Type 0) → Type 0
IfBadPage (BadPage p) P = P p
IfBadPage NoMemory P = Unit {0}

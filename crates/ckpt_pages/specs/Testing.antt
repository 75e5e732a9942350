-- Bytes and pages that spell something, whatever it is.
use Rattle.std.specs.Prelude.{◌≡◌, ℕ, ◌<◌, ◌^◌, true, List}
use Rattle.std.specs.Int.{w64, to_be_bytes}
use Rattle.mas_types.specs.declared.ids.Page.{Page}
use Rattle.ckpt_pages.specs.declared.header.Header.{Header}
use Rattle.ckpt_pages.specs.declared.nodes.Nodes.{Nodes}
use Rattle.ckpt_pages.specs.declared.slots.Slots.{Slots}
use Rattle.ckpt_pages.specs.Headers.{are_ages}
use Rattle.ckpt_pages.specs.Nodes.{AreNodes}
use Rattle.ckpt_pages.specs.Reading.{AreEntries, ArePages}
use Rattle.ckpt_pages.specs.Slots.{AreSlots}

-- the bytes are the spelling of an item
abbrev pub SpellsOne : {X : Type 0} → (X → Type 0) → (X → List ℕ) → List ℕ → Type 0
SpellsOne {X} Fits spelling bytes = (x : X) × Fits x × (bytes ≡ spelling x)

-- the bytes are the spellings of so many items, and zeros
abbrev pub SomeEntries : {X : Type 0} → (X → List ℕ) → (X → Type 0) → ℕ → List ℕ → Type 0
SomeEntries {X} spelling Fits count bytes = (items : List X) × AreEntries spelling Fits count bytes items

-- the pages from the first on spell so many items, so many to a page
abbrev pub SomePages : {X : Type 0} → (X → List ℕ) → (X → Type 0) → ℕ → ℕ → ℕ → List Page → Type 0
SomePages {X} spelling Fits a_page first total pages = (items : List X)
    × ArePages spelling Fits a_page first total pages items

-- the bytes are so many levels, of which the first is this one and the greatest, and none is 0
abbrev pub AreLevelsOf : ℕ → ℕ → List ℕ → List ℕ → Type 0
AreLevelsOf level count bytes levels = AreEntries (to_be_bytes w64) (λ l. l < 2 ^ 64) count bytes levels
    × (are_ages level levels ≡ true)

abbrev pub SomeLevels : ℕ → ℕ → List ℕ → Type 0
SomeLevels level count bytes = (levels : List ℕ) × AreLevelsOf level count bytes levels

abbrev pub NoLevels : ℕ → ℕ → List ℕ → Type 0
NoLevels level count bytes = (levels : List ℕ) → AreLevelsOf level count bytes levels → ⊥

abbrev pub SomeNodes : List ℕ → Type 0
SomeNodes page = (nodes : Nodes) × AreNodes page nodes

abbrev pub SomeSlots : Header → List Page → Type 0
SomeSlots header pages = (slots : Slots) × AreSlots header pages slots

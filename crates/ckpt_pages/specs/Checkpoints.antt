-- Which pages are a checkpoint, and which page is the least that is no spelling.
use Rattle.std.specs.Prelude.{◌≡◌, ℕ, ◌≤◌, ◌<◌, List, length}
use Rattle.mas_types.specs.declared.ids.Page.{Page}
use Rattle.ckpt_tables.specs.declared.tables.Tables.{Tables}
use Rattle.ckpt_tables.specs.Shape.{HasSpelling, AreLevels, page_count}
use Rattle.ckpt_tables.specs.Pages.{Spell, page_in, page_of}

-- the pages spell these tables, with levels of their own
pub record IsCheckpoint (pages : List Page) (t : Tables) : Type 0 where
  pub level : ℕ
  pub levels : List ℕ
  pub fit : HasSpelling t
  pub ages : AreLevels t level levels
  pub spell : Spell t levels pages

-- the pages spell tables
abbrev pub SpellSome : List Page → Type 0
SpellSome pages = (t : Tables) × IsCheckpoint pages t

-- pages spell one value of tables at most
abbrev pub SpellsOneAtMost : Type 0
SpellsOneAtMost = (pages : List Page) (t u : Tables) → IsCheckpoint pages t → IsCheckpoint pages u → t ≡ u

-- pages that spell tables are a checkpoint of these
abbrev pub SpelledIsCheckpoint : Type 0
SpelledIsCheckpoint = (t : Tables) (level : ℕ) (levels : List ℕ) (pages : List Page) → HasSpelling t
    → AreLevels t level levels → Spell t levels pages → IsCheckpoint pages t

-- page q is a spelling: that of some tables with as many pages, whose page 0 is this page 0
pub record IsSpelling (pages : List Page) (q : ℕ) : Type 0 where
  pub tables : Tables
  pub level : ℕ
  pub levels : List ℕ
  pub fit : HasSpelling tables
  pub ages : AreLevels tables level levels
  pub count : length pages ≡ page_count tables.config
  pub header : page_in pages 0 ≡ page_of tables levels 0
  pub is : page_in pages q ≡ page_of tables levels q

-- page p is no spelling, and each page before it is one; where there is no page, it is page 0
pub record IsLeastBad (pages : List Page) (p : ℕ) : Type 0 where
  pub within : 1 ≤ p → p < length pages
  pub before : (q : ℕ) → q < p → IsSpelling pages q
  pub bad : IsSpelling pages p → ⊥

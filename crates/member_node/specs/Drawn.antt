-- Pages that are drawn from tables.
use Rattle.std.specs.Prelude.{◌≡◌, ℕ, ◌<◌, Bool, false, List, [], ◌∷◌, length, All, slice_set}
use Rattle.mas_types.specs.declared.ids.Page.{Page}
use Rattle.mas_types.specs.Limits.{page_bytes}
use Rattle.ckpt_tables.specs.declared.tables.Tables.{Tables}
use Rattle.ckpt_tables.specs.Shape.{HasSpelling, AreLevels}
use Rattle.ckpt_tables.specs.Pages.{page_in, page_of, Spell}
use Rattle.page_marks.specs.Marks.{is_marked}

-- each page is the one that the tables are drawn as
abbrev pub AreAsDrawn : Tables → List ℕ → List Page → Type 0
AreAsDrawn t levels pages = (p : ℕ) → p < length pages → page_in pages p ≡ page_of t levels p

-- so is each that has no mark
abbrev pub AreUnmarkedDrawn : List Bool → Tables → List ℕ → List Page → Type 0
AreUnmarkedDrawn marks t levels pages = (p : ℕ) → p < length pages → is_marked marks p ≡ false
    → page_in pages p ≡ page_of t levels p

-- the pages spell the tables, and were drawn at this level
pub record AreDrawn (t : Tables) (level : ℕ) (levels : List ℕ) (pages : List Page) : Type 0 where
  pub spelling : HasSpelling t
  pub leveled : AreLevels t level levels
  pub spelled : Spell t levels pages
  pub sized : All (λ page. length page.0 ≡ page_bytes) pages

-- the levels, where each of these pages has the new one
abbrev pub raised : List ℕ → ℕ → List ℕ → List ℕ
raised [] level levels = levels
raised (page ∷ pages) level levels = raised pages level (slice_set levels page level)

-- the pages, where each of these is drawn with the levels
abbrev pub drawn_again : Tables → List ℕ → List ℕ → List Page → List Page
drawn_again t levels [] pages = pages
drawn_again t levels (page ∷ numbers) pages = drawn_again t levels numbers
    (slice_set pages page (record { 0 = page_of t levels page }))
